-- Document 02, "No. 14": what a salvage copies, drops and says. Assumes nothing.
use Prim.Native.Nat.{ℕ, zero, suc, ◌+◌, ◌≤◌, ◌<◌}
use native.Mathlib.Omega.{arith}
use native.Mathlib.Nat.{add-zero, zero-add, add_assoc}
use mathlib.Core.Path.{ap₂, subst, ◌≡◌, refl, sym, ap, ◌∙◌}
use mathlib.Core.Bool.{Bool, false, ◌&&◌}
use mathlib.Core.List.{List, [], ◌∷◌, ◌++◌, append_assoc, append-nil}
use lib.Dec.{leb}
use lib.ListN.{length, take, drop, length-append, length-drop}
use lib.Seq.{drop-append_seam}
use borrow.Author.Tests.{le-leb, lt-leb}
use Rattle.spec.specs.Lists.{if}
use Rattle.spec.specs.Entries.{Map, joined}
use Rattle.spec.specs.Forms.{wide_in, Entry, entry, Sort, HEAD, sort}
use Rattle.spec.specs.Reader.{Reading, holds, bad, pieces, first_bad, reading, read}
use Rattle.spec.specs.BadEntries.{Refused}
use Rattle.spec.specs.Eights.{over}
use Rattle.spec.specs.Salvage.{map_end, first_map, Salvaged, judged, salvage_in, salvage, copied, printed, has_room, salvages_as, out_after, printed_after}
use Rattle.laws.proofs.Branch.{if-true, if-false, and-false}
use Rattle.laws.proofs.Members.{In, here, there, and-true}
use Rattle.theorems.proofs.ReaderPlaces.{never}
use Rattle.theorems.proofs.ReaderSplit.{split}
use Rattle.theorems.proofs.ReaderBad.{headed, refused-exactly}
use Rattle.theorems.proofs.ReaderBack.{none-bad}
use Rattle.theorems.proofs.ReaderItems.{by_kind}
use Rattle.theorems.proofs.SalvageEnds.{whole-first, entry-same, NoSeven, first_map-is}

-- bytes that read whole
abbrev pub ReadsWhole : List ℕ → Type 0
ReadsWhole b = (m : Map) × (read b ≡ holds m)

-- ---- one map after the other

-- The bytes b, standing at `at`: each map is the first of what is left and reads whole, up to the end or to the first that does not.
pub data Salvages : ℕ → List ℕ → Salvaged → Type 0 where
  all_copied : {at : ℕ} → Salvages at [] (record { maps = []; rest = []; offset = at })
  stops_here : {at o : ℕ} {b : List ℕ} → 0 < length b → Refused (wide_in (first_map b)) (first_map b) o → Salvages at b (record { maps = []; rest = b; offset = at + o })
  one_copied : {at : ℕ} {b : List ℕ} {s : Salvaged} → ReadsWhole (first_map b) → Salvages (at + length (first_map b)) (drop (length (first_map b)) b) s
      → Salvages at b (record { maps = first_map b ∷ s.maps; rest = s.rest; offset = s.offset })

none_read : (m : Map) → read [] ≡ holds m → ⊥
unfolding read reading pieces first_bad
none_read m e = never (cc)

-- what reads whole has a byte
pub has-byte : (b : List ℕ) → ReadsWhole b → 0 < length b
has-byte [] w = absurd (none_read w.0 w.1)
has-byte (x ∷ xs) w = omega arith

pub salvages-in : (n at : ℕ) (b : List ℕ) → length b ≤ n → Salvages at b (salvage_in n at b)
unfolding salvage_in
salvages-in zero at [] h = all_copied
salvages-in zero at (x ∷ xs) h = absurd (omega arith)
salvages-in (suc n) at [] h = all_copied
salvages-in (suc n) at (x ∷ xs) h = by-reading (read one) refl (λ k. salvages-in n (at + length one) (drop (length one) b) k)
  where
    b : List ℕ
    b = x ∷ xs

    one : List ℕ
    one = first_map b

    on : ℕ → List ℕ → Salvaged
    on to left = salvage_in n to left

    by-reading : (r : Reading) → read one ≡ r → (length (drop (length one) b) ≤ n → Salvages (at + length one) (drop (length one) b) (on (at + length one) (drop (length one) b)))
        → Salvages at b (judged at b one on r)
    by-reading (bad o) e ih = stops_here {b = b} (omega arith) ((refused-exactly one o).0 e)
    by-reading (holds m) e ih = one_copied (m, e) (ih (rw length-drop (omega (arith, has-byte one (m, e)))))

pub salvages : (b : List ℕ) → Salvages 0 b (salvage b)
salvages b = salvages-in (length b) 0 b (omega arith)

-- ---- "Copied and dropped bytes together are the input's length"

first_part : (k : ℕ) (b : List ℕ) → take k b ++ drop (length (take k b)) b ≡ b
first_part zero b = refl
first_part (suc k) [] = refl
first_part (suc k) (x ∷ xs) = ap {B = List ℕ} (λ (l : List ℕ). x ∷ l) (first_part k xs)

-- the first map, and what is left
pub first-and-left : (b : List ℕ) → first_map b ++ drop (length (first_map b)) b ≡ b
unfolding first_map
first-and-left b = first_part (map_end (wide_in b) (length b) (pieces b 0 0)) b

parts : {at : ℕ} {b : List ℕ} {s : Salvaged} → Salvages at b s → copied s ++ s.rest ≡ b
parts all_copied = refl
parts (stops_here h r) = refl
parts (one_copied {b} {s} w k) =
    append_assoc (first_map b) (copied s) s.rest ∙ ap (λ (l : List ℕ). first_map b ++ l) (parts k) ∙ first-and-left b

-- the archive is what is copied, and then what is dropped
pub salvage-parts : (b : List ℕ) → copied (salvage b) ++ (salvage b).rest ≡ b
salvage-parts b = parts (salvages b)

pub salvage-lengths : (b : List ℕ) → length (copied (salvage b)) + length (salvage b).rest ≡ length b
salvage-lengths b = sym (length-append (copied (salvage b)) (salvage b).rest) ∙ ap length (salvage-parts b)

-- ---- "copies each that reads whole"

copies_whole : {at : ℕ} {b : List ℕ} {s : Salvaged} → Salvages at b s → (c : List ℕ) → In c s.maps → ReadsWhole c
copies_whole all_copied c i = elim i [ ]
copies_whole (stops_here h r) c i = elim i [ ]
copies_whole (one_copied w k) c here = w
copies_whole (one_copied w k) c (there i) = copies_whole k c i

pub copied-whole : (b c : List ℕ) → In c (salvage b).maps → ReadsWhole c
copied-whole b c i = copies_whole (salvages b) c i

-- ---- "drops everything from the start of the first that does not", "the offset of the first bad entry, or the input's length"

-- Bytes with a salvage that stands at `at`: nothing is dropped, or what is dropped begins with a map that the reader refuses, at its first bad entry.
pub data Stops (at : ℕ) (b : List ℕ) (s : Salvaged) : Type 0 where
  at_the_end : s.rest ≡ [] → s.offset ≡ at + length b → Stops at b s
  at_a_bad_one : {o : ℕ} → 0 < length s.rest → Refused (wide_in (first_map s.rest)) (first_map s.rest) o → s.offset ≡ at + length (copied s) + o → Stops at b s

stops : {at : ℕ} {b : List ℕ} {s : Salvaged} → Salvages at b s → Stops at b s
stops all_copied = at_the_end refl (omega arith)
stops (stops_here h r) = at_a_bad_one h r (omega arith)
stops {at} {b} (one_copied {s} w k) = further (stops k)
  where
    one : List ℕ
    one = first_map b

    further : Stops (at + length one) (drop (length one) b) s → Stops at b (record { maps = one ∷ s.maps; rest = s.rest; offset = s.offset })
    further (at_the_end r o) = at_the_end r (omega (arith, length-append one (drop (length one) b), ap length (first-and-left b)))
    further (at_a_bad_one h r o) = at_a_bad_one h r (omega (arith, length-append one (copied s)))

pub salvage-stops : (b : List ℕ) → Stops 0 b (salvage b)
salvage-stops b = stops (salvages b)

-- ---- maps that read whole are copied, whatever stands behind them but a 7 or a 10

-- a head is one in either family
head-either : (wide other : Bool) (k : ℕ) → sort wide k ≡ HEAD → sort other k ≡ HEAD
unfolding sort if
head-either wide other =
    by_kind wide (λ (k : ℕ) (s : Sort). s ≡ HEAD → sort other k ≡ HEAD) (λ _. refl) (λ e. never (cc)) (λ e. never (cc)) (λ e. never (cc)) (λ e. never (cc)) (λ e. never (cc))
    (λ e. never (cc)) (λ e. never (cc)) (λ e. never (cc)) (λ k e. never (cc))

-- neither begins a map
pub heads-first : (b : List ℕ) → ReadsWhole b → (tail : List ℕ) → NoSeven (b ++ tail)
heads-first b k tail w wide missing q =
    let g = headed (wide_in b) (split b) (none-bad b k.0 k.1) in
    let same = ap (λ (e : Entry). sort wide e.kind) (entry-same b tail (whole-first (split b) g.is)) in
    let first = head-either (wide_in b) wide (entry b).kind g.head in
    never (cc)

abbrev pub AllWhole : List (List ℕ) → Type 0
AllWhole bs = (b : List ℕ) → In b bs → ReadsWhole b

no_seven : (bs : List (List ℕ)) → AllWhole bs → (tail : List ℕ) → NoSeven tail → NoSeven (joined bs ++ tail)
no_seven [] h tail n = n
no_seven (b ∷ bs) h tail n = subst NoSeven (sym (append_assoc b (joined bs) tail)) (heads-first b (h b here) (joined bs ++ tail))

pub salvages-all : (bs : List (List ℕ)) → AllWhole bs → (tail : List ℕ) → NoSeven tail → (at : ℕ) {s : Salvaged} → Salvages (at + length (joined bs)) tail s
    → Salvages at (joined bs ++ tail) (record { maps = bs ++ s.maps; rest = s.rest; offset = s.offset })
salvages-all [] h tail n at {s} k = subst (λ (i : ℕ). Salvages i tail s) (add-zero at) k
salvages-all (b ∷ bs) h tail n at {s} k =
    let later = joined bs ++ tail in
    let w = h b here in
    let first = first_map-is b w.0 w.1 later (no_seven bs (λ c i. h c (there i)) tail n) in
    let t : Salvaged = record { maps = bs ++ s.maps; rest = s.rest; offset = s.offset } in
    let sum : at + length (b ++ joined bs) ≡ at + length b + length (joined bs) = omega (arith, length-append b (joined bs)) in
    let on : Salvages (at + length b) later t = salvages-all bs (λ c i. h c (there i)) tail n (at + length b) (subst (λ (i : ℕ). Salvages i tail s) sum k) in
    let here-too : Salvages (at + length b) (drop (length b) (b ++ later)) t = subst (λ (l : List ℕ). Salvages (at + length b) l t) (sym (drop-append_seam b later)) on in
    let all : Salvages at (b ++ later) (record { maps = b ∷ t.maps; rest = t.rest; offset = t.offset }) =
    subst (λ (c : List ℕ). ReadsWhole c → Salvages (at + length c) (drop (length c) (b ++ later)) t → Salvages at (b ++ later) (record { maps = c ∷ t.maps; rest = t.rest; offset = t.offset }))
    first one_copied w here-too in
    subst (λ (l : List ℕ). Salvages at l (record { maps = b ∷ bs ++ s.maps; rest = s.rest; offset = s.offset })) (sym (append_assoc b (joined bs) tail)) all

-- there is one way only

no-first : ReadsWhole (first_map []) → ⊥
unfolding first_map pieces
no-first w = none_read w.0 w.1

not-both : {A : Type 0} {b : List ℕ} {o : ℕ} → Refused (wide_in b) b o → ReadsWhole b → A
not-both {b} {o} r w = never (let e = (refused-exactly b o).1 r in let f = w.1 in cc)

refused-once : {b : List ℕ} {o q : ℕ} → Refused (wide_in b) b o → Refused (wide_in b) b q → o ≡ q
refused-once {b} {o} {q} r t = let e = (refused-exactly b o).1 r in let f = (refused-exactly b q).1 t in cc

pub salvages-once : {at : ℕ} {b : List ℕ} {s t : Salvaged} → Salvages at b s → Salvages at b t → s ≡ t
salvages-once all_copied all_copied = refl
salvages-once all_copied (stops_here h r) = absurd (omega arith)
salvages-once all_copied (one_copied w k) = absurd (no-first w)
salvages-once (stops_here h r) all_copied = absurd (omega arith)
salvages-once (stops_here {at} {b} h r) (stops_here g q) = ap (λ (o : ℕ). record { maps = []; rest = b; offset = at + o }) (refused-once r q)
salvages-once (stops_here h r) (one_copied w k) = not-both r w
salvages-once (one_copied w k) all_copied = absurd (no-first w)
salvages-once (one_copied w k) (stops_here h r) = not-both r w
salvages-once (one_copied {b} w k) (one_copied v l) =
    ap (λ (s : Salvaged). record { maps = first_map b ∷ s.maps; rest = s.rest; offset = s.offset }) (salvages-once k l)

-- ---- an archive in windows: what was copied of one stays copied, whatever follows but a 7 or a 10, and what it left is salvaged with what follows

-- the same bytes, standing further on
shift : (k : ℕ) {at : ℕ} {b : List ℕ} {s : Salvaged} → Salvages at b s → Salvages (k + at) b (record { maps = s.maps; rest = s.rest; offset = k + s.offset })
shift k all_copied = all_copied
shift k (stops_here {at} {o} {b} h r) =
    subst (λ (i : ℕ). Salvages (k + at) b (record { maps = []; rest = b; offset = i })) (add_assoc k at o) (stops_here h r)
shift k (one_copied {at} {b} {s} w z) =
    let t : Salvaged = record { maps = s.maps; rest = s.rest; offset = k + s.offset } in
    one_copied w (subst (λ (i : ℕ). Salvages i (drop (length (first_map b)) b) t) (sym (add_assoc k at (length (first_map b)))) (shift k z))

pub windows : (w more : List ℕ) → NoSeven ((salvage w).rest ++ more) → let later = salvage ((salvage w).rest ++ more) in
    salvage (w ++ more) ≡ record { maps = (salvage w).maps ++ later.maps; rest = later.rest; offset = length (copied (salvage w)) + later.offset }
windows w more n =
    let maps = (salvage w).maps in
    let left = (salvage w).rest ++ more in
    let k = length (joined maps) in
    let t : Salvaged = record { maps = (salvage left).maps; rest = (salvage left).rest; offset = k + (salvage left).offset } in
    let here : Salvages (0 + k) left t = subst (λ (i : ℕ). Salvages i left t) (omega arith) (shift k (salvages left)) in
    let same : joined maps ++ left ≡ w ++ more = sym (append_assoc (joined maps) (salvage w).rest more) ∙ ap (λ (l : List ℕ). l ++ more) (salvage-parts w) in
    ap salvage (sym same) ∙ salvages-once (salvages (joined maps ++ left)) (salvages-all maps (copied-whole w) left n 0 here)

-- ---- "An undamaged archive comes out equal"

pub undamaged : (bs : List (List ℕ)) → AllWhole bs → salvage (joined bs) ≡ record { maps = bs; rest = []; offset = length (joined bs) }
undamaged bs h =
    let s : Salvaged = record { maps = bs ++ []; rest = []; offset = 0 + length (joined bs) } in
    let all : Salvages 0 (joined bs ++ []) s = salvages-all bs h [] (λ w wide missing q. omega arith) 0 all_copied in
    let same : salvage (joined bs) ≡ s = salvages-once (salvages (joined bs)) (subst (λ (l : List ℕ). Salvages 0 l s) (append-nil (joined bs)) all) in
    same ∙ ap₂ (λ (l : List (List ℕ)) (o : ℕ). record { maps = l; rest = []; offset = o }) (append-nil bs) (zero-add (length (joined bs)))

-- its bytes are what was put in
pub undamaged-bytes : (bs : List (List ℕ)) → AllWhole bs → copied (salvage (joined bs)) ≡ joined bs
undamaged-bytes bs h = ap copied (undamaged bs h)

-- ---- "Refusals: 18, output room short, nothing written"

pub record Written (archive out report : List ℕ) : Type 0 where
  pub number_is : salvages_as archive out report ≡ 0
  pub out_is : out_after archive out report ≡ over (copied (salvage archive)) out
  pub report_is : printed_after archive out report ≡ over (printed (salvage archive)) report

pub record NotWritten (archive out report : List ℕ) : Type 0 where
  pub number_is : salvages_as archive out report ≡ 18
  pub out_is : out_after archive out report ≡ out
  pub report_is : printed_after archive out report ≡ report

pub written-if : (archive out report : List ℕ) → length (copied (salvage archive)) ≤ length out → 32 ≤ length report → Written archive out report
written-if archive out report h k =
    let on = and-true _ _ (le-leb (length (copied (salvage archive))) (length out) h) (le-leb 32 (length report) k) in
    record { number_is = if-true _ _ _ on; out_is = if-true _ _ _ on; report_is = if-true _ _ _ on }

module _ (archive out report : List ℕ) where
  none-if : has_room (salvage archive) out report ≡ false → NotWritten archive out report
  none-if off = record { number_is = if-false _ _ _ off; out_is = if-false _ _ _ off; report_is = if-false _ _ _ off }

  pub not-if-out : length out < length (copied (salvage archive)) → NotWritten archive out report
  not-if-out h = none-if (ap (λ (x : Bool). x && leb 32 (length report)) (lt-leb _ _ h))

  pub not-if-report : length report < 32 → NotWritten archive out report
  not-if-report h = none-if (and-false (leb (length (copied (salvage archive))) (length out)) (lt-leb 32 (length report) h))

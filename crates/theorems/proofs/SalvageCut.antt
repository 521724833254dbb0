-- Document 02, "No. 14": no accepted map is the beginning of another; so an archive with a missing end gives back each map that is whole in it, and no other.
-- Assumes nothing.
use Prim.Native.Nat.{ℕ, ◌+◌, ◌<◌}
use native.Mathlib.Omega.{arith}
use mathlib.Core.Path.{◌≡◌, refl, sym, ap, ap₂, subst, ◌∙◌}
use mathlib.Core.Bool.{Bool}
use mathlib.Core.List.{List, [], ◌∷◌, ◌++◌, map, append_assoc, append-nil}
use lib.ListN.{length, take, drop, length-append, length-drop, take-append-drop}
use Rattle.spec.specs.Lists.{gather}
use Rattle.spec.specs.Opcodes.{Rules}
use Rattle.spec.specs.Search.{Rec}
use Rattle.spec.specs.Ending.{Final}
use Rattle.spec.specs.Rooms.{Lent}
use Rattle.spec.specs.Answer.{answered, answer}
use Rattle.spec.specs.Entries.{bytes, Map, joined}
use Rattle.spec.specs.Forms.{wide_in, Entry, sort}
use Rattle.spec.specs.Reader.{Reading, holds, bad, Piece, whole, cut, pieces, first, Item, a_record, item_for, items, read, plain}
use Rattle.spec.specs.Salvage.{first_map, Salvaged, salvage}
use Rattle.theorems.proofs.Counts.{Lawful}
use Rattle.theorems.proofs.ReaderPlaces.{never}
use Rattle.theorems.proofs.ReaderSplit.{Split, done, cut_off, more, moved, split, split-once}
use Rattle.theorems.proofs.ReaderItems.{way_for, block-items, items_of}
use Rattle.theorems.proofs.ReaderBack.{none-bad, read-items}
use Rattle.theorems.proofs.ReaderBad.{refused-exactly}
use Rattle.theorems.proofs.ReaderAnswered.{read-answered}
use Rattle.theorems.proofs.SalvageEnds.{family-same, headed-long, entry-same, whole-still, shifted, NoCut, split-append, no-cuts, NoSeven}
use Rattle.theorems.proofs.SalvageLaws.{ReadsWhole, Salvages, all_copied, stops_here, salvages, first-and-left, AllWhole, heads-first, salvages-all, salvages-once}

-- ---- a map's items are not the beginning of another's

module _ (wide : Bool) where
  items-append : (ps qs : List Piece) → items wide (ps ++ qs) ≡ items wide ps ++ items wide qs
  unfolding items
  items-append [] qs = refl
  items-append (cut at ∷ ps) qs = items-append ps qs
  items-append (whole at e ∷ ps) qs = ap {B = List Item} (λ (l : List Item). item_for (sort wide e.kind) e.body ∷ l) (items-append ps qs)

module _ (ts : List Item) where
  records-end : (c d : Bool) (rs ss : List Rec) → length rs ≡ length ss → map (a_record c) rs ≡ map (a_record d) ss ++ ts → ts ≡ []
  records-end c d [] [] l e = sym e
  records-end c d [] (s ∷ ss) l e = absurd (omega arith)
  records-end c d (r ∷ rs) [] l e = absurd (omega arith)
  records-end c d (r ∷ rs) (s ∷ ss) l e = records-end c d rs ss (omega arith) (cc)

  ways-end : (es gs : List Rec) (is js : List Item) → length es ≡ length gs → map way_for es ++ is ≡ (map way_for gs ++ js) ++ ts → is ≡ js ++ ts
  ways-end [] [] is js l e = e
  ways-end [] (g ∷ gs) is js l e = absurd (omega arith)
  ways-end (x ∷ es) [] is js l e = absurd (omega arith)
  ways-end (x ∷ es) (g ∷ gs) is js l e = ways-end es gs is js (omega arith) (cc)

  blocks_end : (c d : Bool) (fs gs : List Final) (rs ss : List Rec) → length fs ≡ length gs → length rs ≡ length ss
      → gather block-items fs ++ map (a_record c) rs ≡ (gather block-items gs ++ map (a_record d) ss) ++ ts → ts ≡ []
  blocks_end c d [] [] rs ss k l e = records-end c d rs ss l e
  blocks_end c d [] (g ∷ gs) rs ss k l e = absurd (omega arith)
  blocks_end c d (f ∷ fs) [] rs ss k l e = absurd (omega arith)
  blocks_end c d (f ∷ fs) (g ∷ gs) rs ss k l e =
      let es = f.entries in
      let hs = g.entries in
      let left = (map way_for es ++ gather block-items fs) ++ map (a_record c) rs in
      let right = ((map way_for hs ++ gather block-items gs) ++ map (a_record d) ss) ++ ts in
      let tails : left ≡ right = cc in
      let same : length es ≡ length hs = cc in
      let p = append_assoc (map way_for es) (gather block-items fs) (map (a_record c) rs) in
      let q = append_assoc (map way_for hs) (gather block-items gs) (map (a_record d) ss) in
      blocks_end c d fs gs rs ss (omega arith) l
      (ways-end es hs (gather block-items fs ++ map (a_record c) rs) (gather block-items gs ++ map (a_record d) ss) same (sym p ∙ tails ∙ ap (λ (l : List Item). l ++ ts) q))

no-cut-right : (ps qs : List Piece) → NoCut (ps ++ qs) → NoCut qs
no-cut-right [] qs n = n
no-cut-right (cut at ∷ ps) qs n = absurd n
no-cut-right (whole at e ∷ ps) qs n = no-cut-right ps qs n

none-there : (wide : Bool) {at : ℕ} {b : List ℕ} {qs : List Piece} → Split at b qs → NoCut qs → items wide qs ≡ [] → b ≡ []
unfolding items
none-there wide done n e = refl
none-there wide (cut_off h c) n e = absurd n
none-there wide (more w s) n e = never (cc)

-- No accepted map is a proper beginning of another.
pub no_longer : (b tail : List ℕ) → ReadsWhole b → ReadsWhole (b ++ tail) → tail ≡ []
no_longer b tail v w =
    let k = shifted (split tail) (length b) in
    let placed : Split (0 + length b) tail k.0 = moved (omega arith) refl k.1 in
    let whole-b = no-cuts (wide_in b) (pieces b 0 0) first (none-bad b v.0 v.1) in
    let whole-all = no-cuts (wide_in (b ++ tail)) (pieces (b ++ tail) 0 0) first (none-bad (b ++ tail) w.0 w.1) in
    let all : pieces (b ++ tail) 0 0 ≡ pieces b 0 0 ++ k.0 = split-once (split-append (split b) whole-b tail placed) (split (b ++ tail)) in
    let wide = wide_in b in
    let family : wide_in (b ++ tail) ≡ wide = family-same b tail (omega (arith, headed-long b v.0 v.1)) in
    let same : items_of w.0 ≡ items_of v.0 ++ items wide k.0 =
    sym (read-items (b ++ tail) w.0 w.1).same ∙ ap₂ items family all ∙ items-append wide (pieces b 0 0) k.0
    ∙ ap (λ (l : List Item). l ++ items wide k.0) (read-items b v.0 v.1).same in
    none-there wide k.1 (no-cut-right (pieces b 0 0) k.0 (subst NoCut all whole-all)) (ends_there w.0 v.0 (items wide k.0) same)
  where
    ends_there : (n m : Map) (ts : List Item) → items_of n ≡ items_of m ++ ts → ts ≡ []
    ends_there n m ts e =
        let blocks-same : length n.blocks ≡ length m.blocks = cc in
        let recs-same : length n.recs ≡ length m.recs = cc in
        blocks_end ts n.numbered m.numbered n.blocks m.blocks n.recs m.recs blocks-same recs-same (cc)

-- ---- "archives with missing ends"

-- what is left of a cut map is not copied
cut-refused : (b : List ℕ) → ReadsWhole b → (k : ℕ) → k < length b → ReadsWhole (first_map (take k b)) → ⊥
cut-refused b w k h v =
    let c = first_map (take k b) in
    let left = drop (length c) (take k b) in
    let same : c ++ (left ++ drop k b) ≡ b = sym (append_assoc c left (drop k b)) ∙ ap (λ (l : List ℕ). l ++ drop k b) (first-and-left (take k b)) ∙ take-append-drop k b in
    let none_left : left ++ drop k b ≡ [] = no_longer c (left ++ drop k b) v (subst ReadsWhole (sym same) w) in
    omega (arith, ap length none_left, length-append left (drop k b), length-drop k b)

cut-no-seven : (b : List ℕ) → ReadsWhole b → (k : ℕ) → NoSeven (take k b)
cut-no-seven b w k v wide missing q =
    let tail = drop k b in
    let at_b : NoSeven b = subst NoSeven (append-nil b) (heads-first b w []) in
    let at_both : NoSeven (take k b ++ tail) = subst NoSeven (sym (take-append-drop k b)) at_b in
    at_both (whole-still (take k b) tail v) wide missing (ap (λ (e : Entry). sort wide e.kind) (entry-same (take k b) tail v) ∙ q)

-- nothing of it is
left_over : (b : List ℕ) → (ReadsWhole (first_map b) → ⊥) → (at : ℕ) → (o : ℕ) × Salvages at b (record { maps = []; rest = b; offset = o })
left_over [] n at = (at, all_copied)
left_over (x ∷ xs) n at = by-reading (read (first_map (x ∷ xs))) refl
  where
    by-reading : (r : Reading) → read (first_map (x ∷ xs)) ≡ r → (o : ℕ) × Salvages at (x ∷ xs) (record { maps = []; rest = x ∷ xs; offset = o })
    by-reading (bad o) e = (at + o, stops_here {b = x ∷ xs} (omega arith) ((refused-exactly (first_map (x ∷ xs)) o).0 e))
    by-reading (holds m) e = absurd (n (m, e))

-- An archive of whole maps, cut anywhere inside one, gives back those before it; what is left of that one is dropped.
pub record CutOff (bs : List (List ℕ)) (rest : List ℕ) (s : Salvaged) : Type 0 where
  pub maps_are : s.maps ≡ bs
  pub rest_is : s.rest ≡ rest

pub cut-archive : (bs : List (List ℕ)) → AllWhole bs → (b : List ℕ) → ReadsWhole b → (k : ℕ) → k < length b → CutOff bs (take k b) (salvage (joined bs ++ take k b))
cut-archive bs h b w k l =
    let left = left_over (take k b) (cut-refused b w k l) (0 + length (joined bs)) in
    let same = salvages-once (salvages (joined bs ++ take k b)) (salvages-all bs h (take k b) (cut-no-seven b w k) 0 left.1) in
    record { maps_are = ap (λ (s : Salvaged). s.maps) same ∙ append-nil bs; rest_is = ap (λ (s : Salvaged). s.rest) same }

-- ---- what was stored reads whole

pub answered-whole : (rules : Rules) → Lawful rules.row → (l : Lent) (limit choice : ℕ) (code : List ℕ) (m : Map) → answer rules l limit choice code ≡ answered m → ReadsWhole (bytes m)
answered-whole rules ok l limit choice code m e = (plain m, read-answered rules ok l limit choice code m e)

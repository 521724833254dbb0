-- Document 02, "No. 14": an accepted map ends where its head's counts say, whatever stands behind it but a 7. Assumes nothing.
use Prim.Native.Nat.{ℕ, suc, ◌+◌, ◌-◌, ◌≤◌, ◌<◌}
use native.Mathlib.Omega.{arith}
use mathlib.Core.Path.{◌≡◌, refl, sym, ap, ap₂, subst, ◌∙◌}
use mathlib.Core.Bool.{Bool, true, false, not, ◌&&◌}
use mathlib.Core.List.{List, [], ◌∷◌, ◌++◌, map, append_assoc}
use mathlib.Core.Option.{Option, none, some}
use lib.Dec.{eqb}
use lib.ListN.{length, take, drop, length-append, length-drop}
use lib.Seq.{take-append-le, drop-append-le, take-append_seam}
use borrow.Author.Tests.{ne_eqb}
use Rattle.spec.specs.Lists.{if, gather}
use Rattle.spec.specs.Search.{Rec}
use Rattle.spec.specs.Ending.{Final}
use Rattle.spec.specs.Entries.{wide_code, Map}
use Rattle.spec.specs.Forms.{wide_in, field, announced, Entry, entry, behind, TERMINATE, JUMP, JUMPI, DYNAMIC-JUMP, DYNAMIC-JUMPI, Sort, HEAD, WAY, RECORD, UNKNOWN, BLOCK, sort, owes, start_in}
use Rattle.spec.specs.Reader.{holds, Piece, whole, cut, pieces, formed, Place, first, met, next, taken, first_bad, Item, a_head, a_block, a_way, a_record, no_item, item_for, items, read}
use Rattle.spec.specs.BadEntries.{Whole, block_in, record_in}
use Rattle.spec.specs.Salvage.{of_run, runs, ends, map_end, first_map}
use Rattle.laws.proofs.Branch.{both, if-true, if-false, and-false}
use Rattle.theorems.proofs.ReaderSplit.{body-long, Split, done, cut_off, more, moved, split, split-once}
use Rattle.theorems.proofs.ReaderPlaces.{never}
use Rattle.theorems.proofs.ReaderBad.{headed}
use Rattle.theorems.proofs.ReaderItems.{way_for, block-items, items_of}
use Rattle.theorems.proofs.ReaderBack.{none-bad, read-items}

-- ---- bytes with more bytes behind them

pub field-append : (at k : ℕ) (b tail : List ℕ) → at + k ≤ length b → field at k (b ++ tail) ≡ field at k b
field-append at k b tail h =
    let long : k ≤ length (drop at b) = rw length-drop (omega arith) in
    rw (drop-append-le at b tail (omega arith), take-append-le k (drop at b) tail long)

pub family-same : (b tail : List ℕ) → 8 ≤ length b → wide_in (b ++ tail) ≡ wide_in b
family-same b tail h = ap wide_code (field-append 6 2 b tail h)

module _ (b tail : List ℕ) (w : Whole b) where
  pub announced-same : announced (b ++ tail) ≡ announced b
  announced-same = field-append 0 4 b tail (omega arith)

  body_same : take (announced (b ++ tail)) (drop 6 (b ++ tail)) ≡ take (announced b) (drop 6 b)
  body_same =
      let long : announced b ≤ length (drop 6 b) = rw length-drop (omega arith) in
      ap (λ (n : ℕ). take n (drop 6 (b ++ tail))) announced-same
      ∙ ap (take (announced b)) (drop-append-le 6 b tail (omega arith)) ∙ take-append-le (announced b) (drop 6 b) tail long

  pub entry-same : entry (b ++ tail) ≡ entry b
  entry-same i = record { kind = field-append 4 2 b tail (omega arith) i; body = body_same i }

  pub behind-same : behind (b ++ tail) ≡ behind b ++ tail
  behind-same = ap (λ (n : ℕ). drop (6 + n) (b ++ tail)) announced-same ∙ drop-append-le (6 + announced b) b tail w

  pub whole-still : Whole (b ++ tail)
  whole-still = omega (arith, announced-same, length-append b tail)

-- what the first entry tells of the bytes
pub whole-first : {at to : ℕ} {b : List ℕ} {ps qs : List Piece} {e : Entry} → Split at b ps → ps ≡ whole to e ∷ qs → Whole b
whole-first done q = never (cc)
whole-first (cut_off h c) q = never (cc)
whole-first (more w s) q = w

pub cut-first : {at to : ℕ} {b : List ℕ} {ps qs : List Piece} → Split at b ps → ps ≡ cut to ∷ qs → (0 < length b) × (Whole b → ⊥)
cut-first done q = never (cc)
cut-first (cut_off h c) q = (h, c)
cut-first (more w s) q = never (cc)

pub none_first : {at : ℕ} {b : List ℕ} {ps : List Piece} → Split at b ps → ps ≡ [] → length b ≡ 0
none_first done q = refl
none_first (cut_off h c) q = never (cc)
none_first (more w s) q = never (cc)

-- the same bytes, standing elsewhere
pub shifted : {at : ℕ} {b : List ℕ} {ps : List Piece} → Split at b ps → (to : ℕ) → (qs : List Piece) × Split to b qs
shifted done to = ([], done)
shifted (cut_off h c) to = (cut to ∷ [], cut_off h c)
shifted (more {rest} w s) to = let k = shifted s (to + (6 + announced rest)) in (whole to (entry rest) ∷ k.0, more w k.1)

-- every entry is whole
abbrev pub NoCut : List Piece → Type 0
NoCut [] = Unit {0}
NoCut (cut at ∷ ps) = ⊥
NoCut (whole at e ∷ ps) = NoCut ps

pub split-append : {at : ℕ} {b : List ℕ} {ps : List Piece} → Split at b ps → NoCut ps → (rest : List ℕ) {qs : List Piece} → Split (at + length b) rest qs → Split at (b ++ rest) (ps ++ qs)
split-append done n rest t = moved (omega arith) refl t
split-append (cut_off h c) n rest t = absurd n
split-append {at} (more {rest = b} {ps} w s) n rest {qs} t =
    let a = announced-same b rest w in
    let long : at + length b ≡ at + (6 + announced b) + length (behind b) = rw length-drop (omega arith) in
    let later = split-append s n rest (moved long refl t) in
    subst (λ (e : Entry). Split at (b ++ rest) (whole at e ∷ ps ++ qs)) (entry-same b rest w)
    (more (whole-still b rest w) (moved (ap (λ (k : ℕ). at + (6 + k)) (sym a)) (sym (behind-same b rest w)) later))

module _ (wide : Bool) where
  pub no-cuts : (ps : List Piece) (p : Place) → first_bad wide ps p ≡ none → NoCut ps
  unfolding first_bad
  no-cuts [] p e = tt
  no-cuts (cut at ∷ ps) p e = never (cc)
  no-cuts (whole at x ∷ ps) p e = by_next (formed s x.body && met wide (owes s x.body) ps) (next s (start_in x.body) p) e (λ q f. no-cuts ps q f)
    where
      s : Sort
      s = sort wide x.kind

      by_next : (ok : Bool) (o : Option Place) → taken at ok (λ q. first_bad wide ps q) o ≡ none → ((q : Place) → first_bad wide ps q ≡ none → NoCut ps) → NoCut ps
      by_next ok none f ih = never (cc)
      by_next ok (some q) f ih =
          both (λ (r : Option ℕ). r ≡ none → NoCut ps) ok (λ _ g. ih q g) (λ _ (g : some at ≡ none). never (cc)) f

-- ---- what an entry is to the counting, by its item

abbrev its-blocks : Item → ℕ
its-blocks (a_head z n m y) = 0
its-blocks (a_block b c) = 1
its-blocks (a_way t p) = 0
its-blocks (a_record c r) = 0
its-blocks no_item = 0

abbrev its-records : Item → ℕ
its-records (a_head z n m y) = 0
its-records (a_block b c) = 0
its-records (a_way t p) = 0
its-records (a_record c r) = 1
its-records no_item = 0

abbrev its-run : Item → Bool → Bool
its-run (a_head z n m y) run = false
its-run (a_block b c) run = false
its-run (a_way t p) run = run
its-run (a_record c r) run = false
its-run no_item run = false

abbrev its-runs : Item → Bool → Bool
its-runs (a_head z n m y) run = false
its-runs (a_block b c) run = true
its-runs (a_way t p) run = run
its-runs (a_record c r) run = false
its-runs no_item run = false

module _ (wide : Bool) where
  -- the next step, by the counts that an entry takes away and the runs that it is of and begins
  abbrev goes : ℕ → ℕ → ℕ → ℕ → List Piece → ℕ → ℕ → Bool → Bool → ℕ
  goes n m end at ps k l mine run = if (eqb (n + m) 0 && not mine) at (ends wide (n - k) (m - l) run end ps)

  module _ (n m end at : ℕ) (run : Bool) (ps : List Piece) (body : List ℕ) where
    by-item : (s : Sort) → goes n m end at ps (block_in s) (record_in s) (of_run s run) (runs s run)
        ≡ goes n m end at ps (its-blocks (item_for s body)) (its-records (item_for s body)) (its-run (item_for s body) run) (its-runs (item_for s body) run)
    by-item HEAD = refl
    by-item (BLOCK TERMINATE) = refl
    by-item (BLOCK JUMP) = refl
    by-item (BLOCK JUMPI) = refl
    by-item (BLOCK DYNAMIC-JUMP) = refl
    by-item (BLOCK DYNAMIC-JUMPI) = refl
    by-item (WAY missing) = refl
    by-item (RECORD to missing) = refl
    by-item UNKNOWN = refl

  -- an entry that is the map's
  ends-step : (n m k l : ℕ) (run : Bool) (end at : ℕ) (e : Entry) (ps : List Piece) (it : Item) → item_for (sort wide e.kind) e.body ≡ it
      → eqb (n + m) 0 && not (its-run it run) ≡ false → n - its-blocks it ≡ k → m - its-records it ≡ l → ends wide n m run end (whole at e ∷ ps) ≡ ends wide k l (its-runs it run) end ps
  unfolding ends
  ends-step n m k l run end at e ps it q f x y =
      by-item n m end at run ps e.body (sort wide e.kind)
      ∙ ap (λ (i : Item). goes n m end at ps (its-blocks i) (its-records i) (its-run i run) (its-runs i run)) q
      ∙ if-false _ _ _ f ∙ ap₂ (λ (i j : ℕ). ends wide i j (its-runs it run) end ps) x y

  -- one is still to come
  to-come : (n m : ℕ) (b : Bool) → 0 < n + m → eqb (n + m) 0 && b ≡ false
  to-come n m b h = ap (λ (a : Bool). a && b) (ne_eqb (n + m) 0 (λ e. omega arith))

  -- ---- where a map's entries end, if it ends there

  module _ (end to : ℕ) (qs : List Piece) (over : (run : Bool) → ends wide 0 0 run end qs ≡ to) where
    ends-records : (c : Bool) (rs : List Rec) (ps : List Piece) → NoCut ps → items wide ps ≡ map (a_record c) rs → (run : Bool) → ends wide 0 (length rs) run end (ps ++ qs) ≡ to
    unfolding items
    ends-records c [] [] n e run = over run
    ends-records c [] (cut at ∷ ps) n e run = absurd n
    ends-records c [] (whole at x ∷ ps) n e run = never (cc)
    ends-records c (r ∷ rs) [] n e run = never (cc)
    ends-records c (r ∷ rs) (cut at ∷ ps) n e run = absurd n
    ends-records c (r ∷ rs) (whole at x ∷ ps) n e run =
        ends-step 0 (suc (length rs)) 0 (length rs) run end at x (ps ++ qs) (a_record c r) (cc) (to-come 0 (suc (length rs)) true (omega arith)) refl (omega arith)
        ∙ ends-records c rs ps n (cc) false

    -- past the 7s of a block
    record Past (n m : ℕ) (ps : List Piece) (is : List Item) : Type 0 where
      left : List Piece
      still : NoCut left
      same : items wide left ≡ is
      on : ends wide n m true end (ps ++ qs) ≡ ends wide n m true end (left ++ qs)

    ends-ways : (n m : ℕ) (is : List Item) (es : List Rec) (ps : List Piece) → NoCut ps → items wide ps ≡ map way_for es ++ is → Past n m ps is
    unfolding items
    ends-ways n m is [] ps c e = record { left = ps; still = c; same = e; on = refl }
    ends-ways n m is (r ∷ es) [] c e = never (cc)
    ends-ways n m is (r ∷ es) (cut at ∷ ps) c e = absurd c
    ends-ways n m is (r ∷ es) (whole at x ∷ ps) c e =
        let k = ends-ways n m is es ps c (cc) in
        record {
          left = k.left;
          still = k.still;
          same = k.same;
          on = ends-step n m n m true end at x (ps ++ qs) (way_for r) (cc) (and-false (eqb (n + m) 0) refl) (omega arith) (omega arith) ∙ k.on;
        }

    ends-blocks : (kind : Bool) (rs : List Rec) (fs : List Final) (ps : List Piece) → NoCut ps → items wide ps ≡ gather block-items fs ++ map (a_record kind) rs → (run : Bool)
        → ends wide (length fs) (length rs) run end (ps ++ qs) ≡ to
    unfolding items
    ends-blocks kind rs [] ps c e run = ends-records kind rs ps c e run
    ends-blocks kind rs (f ∷ fs) [] c e run = never (cc)
    ends-blocks kind rs (f ∷ fs) (cut at ∷ ps) c e run = absurd c
    ends-blocks kind rs (f ∷ fs) (whole at x ∷ ps) c e run = past (λ left d q. ends-blocks kind rs fs left d q true)
      where
        es : List Rec
        es = f.entries

        is : List Item
        is = gather block-items fs ++ map (a_record kind) rs

        sevens-then : items wide ps ≡ map way_for es ++ is
        sevens-then =
            let h : items wide ps ≡ (map way_for es ++ gather block-items fs) ++ map (a_record kind) rs = cc in
            h ∙ append_assoc (map way_for es) (gather block-items fs) (map (a_record kind) rs)

        past : ((left : List Piece) → NoCut left → items wide left ≡ is → ends wide (length fs) (length rs) true end (left ++ qs) ≡ to)
            → ends wide (suc (length fs)) (length rs) run end (whole at x ∷ ps ++ qs) ≡ to
        past ih =
            let n = length fs in
            let m = length rs in
            let k = ends-ways n m is es ps c sevens-then in
            ends-step (suc n) m n m run end at x (ps ++ qs) (a_block f.block (length es)) (cc) (to-come (suc n) m true (omega arith)) (omega arith) (omega arith)
            ∙ k.on ∙ ih k.left k.still k.same

-- ---- what stands behind a map

-- no 7 and no 10: nothing, or an entry that is cut or of another kind
abbrev pub NoSeven : List ℕ → Type 0
NoSeven b = Whole b → (wide : Bool) (missing : ℕ) → sort wide (entry b).kind ≡ WAY missing → ⊥

not-mine : (s : Sort) (run : Bool) → ((missing : ℕ) → s ≡ WAY missing → ⊥) → of_run s run ≡ false
not-mine HEAD run n = refl
not-mine (BLOCK x) run n = refl
not-mine (WAY missing) run n = absurd (n missing refl)
not-mine (RECORD at missing) run n = refl
not-mine UNKNOWN run n = refl

ended : (wide : Bool) {to : ℕ} {rest : List ℕ} {qs : List Piece} → Split to rest qs → NoSeven rest → (end : ℕ) → to + length rest ≡ end → (run : Bool) → ends wide 0 0 run end qs ≡ to
unfolding ends
ended wide done n end e run = omega arith
ended wide (cut_off h c) n end e run = if-true _ _ _ refl
ended wide (more {rest} w s) n end e run = if-true _ _ _ (ap not (not-mine (sort wide (entry rest).kind) run (n w wide)))

-- ---- the map that accepted bytes begin with

module _ (b : List ℕ) (m : Map) (e : read b ≡ holds m) where
  all_whole : NoCut (pieces b 0 0)
  all_whole = no-cuts (wide_in b) (pieces b 0 0) first (none-bad b m e)

  -- its head has 18 bytes
  pub headed-long : 18 ≤ length b
  headed-long =
      let h = headed (wide_in b) (split b) (none-bad b m e) in
      omega (arith, h.long, body-long b (whole-first (split b) h.is), whole-first (split b) h.is)

  -- its head says where it ends
  end_is : (qs : List Piece) (end to : ℕ) → ((run : Bool) → ends (wide_in b) 0 0 run end qs ≡ to) → map_end (wide_in b) end (pieces b 0 0 ++ qs) ≡ to
  unfolding items
  end_is qs end to over =
      let h = headed (wide_in b) (split b) (none-bad b m e) in
      let same : items (wide_in b) (whole 0 (entry b) ∷ h.more) ≡ items_of m = sym (ap (items (wide_in b)) h.is) ∙ (read-items b m e).same in
      let body = (entry b).body in
      let started : item_for HEAD body ∷ items (wide_in b) h.more ≡ items_of m = rw h.head at same in
      let ns : field 2 2 body ≡ length m.blocks = cc in
      let ms : field 4 4 body ≡ length m.recs = cc in
      let left : items (wide_in b) h.more ≡ gather block-items m.blocks ++ map (a_record m.numbered) m.recs = cc in
      ap (λ (ps : List Piece). map_end (wide_in b) end (ps ++ qs)) h.is
      ∙ ap₂ (λ (i j : ℕ). ends (wide_in b) i j false end (h.more ++ qs)) ns ms
      ∙ ends-blocks (wide_in b) end to qs over m.numbered m.recs m.blocks h.more (subst NoCut h.is all_whole) left false

  -- An accepted map is the first of what it begins, if no 7 stands behind it.
  pub first_map-is : (rest : List ℕ) → NoSeven rest → first_map (b ++ rest) ≡ b
  unfolding first_map
  first_map-is rest n =
      let k = shifted (split rest) (length b) in
      let here : Split (0 + length b) rest k.0 = moved (omega arith) refl k.1 in
      let all : pieces (b ++ rest) 0 0 ≡ pieces b 0 0 ++ k.0 = split-once (split-append (split b) all_whole rest here) (split (b ++ rest)) in
      let end = length (b ++ rest) in
      ap₂ (λ (wide : Bool) (ps : List Piece). take (map_end wide end ps) (b ++ rest)) (family-same b rest (omega (arith, headed-long))) all
      ∙ ap (λ (i : ℕ). take i (b ++ rest)) (end_is k.0 end (length b) (ended (wide_in b) k.1 n end (sym (length-append b rest))))
      ∙ take-append_seam b rest

-- Document 02, "No. 2": of accepted bytes, the starts of the blocks of the map that they hold rise. Assumes nothing.
use Prim.Native.Nat.{ℕ, suc}
use mathlib.Core.Path.{◌≡◌, refl, sym, ap, subst, ◌∙◌}
use mathlib.Core.Bool.{Bool, true, false, ◌&&◌}
use mathlib.Core.List.{List, [], ◌∷◌}
use mathlib.Core.Option.{Option, none, some}
use lib.Dec.{eqb, leb}
use borrow.Author.Tests.{leb-true}
use Rattle.spec.specs.Ending.{Final}
use Rattle.spec.specs.Entries.{Map}
use Rattle.spec.specs.Forms.{wide_in, TERMINATE, JUMP, JUMPI, DYNAMIC-JUMP, DYNAMIC-JUMPI, Ends, Sort, HEAD, WAY, RECORD, UNKNOWN, BLOCK, sort, dynamic, owes, start_in}
use Rattle.spec.specs.Reader.{Reading, holds, bad, Piece, whole, cut, pieces, formed, Place, first, blocks, records, next, met, taken, first_bad, Item, a_head, a_block, a_way, a_record, no_item, item_for, items, finals_in, recs_in, numbered_in, held, verdict, reading, read}
use Rattle.laws.proofs.Branch.{both}
use Rattle.laws.proofs.Lists.{Rising, none_left, one_more}
use Rattle.theorems.proofs.Answered.{finals-at}
use Rattle.theorems.proofs.ReaderPlaces.{never}
use Rattle.theorems.proofs.ReaderBack.{none-bad}

-- ---- an entry behind which nothing is bad may come, and nothing is bad from the place behind it

module _ (wide : Bool) where
  pub record Goes (ps : List Piece) (o : Option Place) : Type 0 where
    pub place : Place
    pub is : o ≡ some place
    pub good : first_bad wide ps place ≡ none

  pub goes : (at : ℕ) (ok : Bool) (ps : List Piece) (o : Option Place) → taken at ok (λ q. first_bad wide ps q) o ≡ none → Goes ps o
  goes at ok ps none e = never (cc)
  goes at ok ps (some q) e =
      both (λ (r : Option ℕ). r ≡ none → Goes ps (some q)) ok (λ _ g. record { place = q; is = refl; good = g }) (λ _ (g : some at ≡ none). never (cc)) e

-- ---- the starts rise

-- what a place says of the blocks that may still come
abbrev Later : Place → List Final → Type 0
Later first fs = Rising 0 (finals-at fs)
Later (blocks low sevens) fs = Rising low (finals-at fs)
Later (records by) fs = fs ≡ []

module _ (body : List ℕ) (is : List Item) where
  later-block : (x : Ends) (low : ℕ) → leb low (start_in body) ≡ true → Rising (suc (start_in body)) (finals-at (finals_in is)) → Rising low (finals-at (finals_in (item_for (BLOCK x) body ∷ is)))
  unfolding finals_in
  later-block TERMINATE low on r = one_more (leb-true _ _ on) r
  later-block JUMP low on r = one_more (leb-true _ _ on) r
  later-block JUMPI low on r = one_more (leb-true _ _ on) r
  later-block DYNAMIC-JUMP low on r = one_more (leb-true _ _ on) r
  later-block DYNAMIC-JUMPI low on r = one_more (leb-true _ _ on) r

  later-next : (s : Sort) (p q : Place) → next s (start_in body) p ≡ some q → Later q (finals_in is) → Later p (finals_in (item_for s body ∷ is))
  unfolding finals_in
  later-next HEAD first q e h = let same : q ≡ blocks 0 false = cc in subst (λ (r : Place). Later r (finals_in is)) same h
  later-next HEAD (blocks low d) q e h = never (cc)
  later-next HEAD (records by) q e h = never (cc)
  later-next (BLOCK x) first q e h = never (cc)
  later-next (BLOCK x) (blocks low d) q e h =
      both (λ (o : Option Place). o ≡ some q → Later (blocks low d) (finals_in (item_for (BLOCK x) body ∷ is))) (leb low (start_in body))
      (λ on g. let same : q ≡ blocks (suc (start_in body)) (dynamic x) = cc in later-block x low on (subst (λ (r : Place). Later r (finals_in is)) same h))
      (λ _ (g : none ≡ some q). never (cc)) e
  later-next (BLOCK x) (records by) q e h = never (cc)
  later-next (WAY missing) first q e h = never (cc)
  later-next (WAY missing) (blocks low true) q e h = let same : q ≡ blocks low true = cc in subst (λ (r : Place). Later r (finals_in is)) same h
  later-next (WAY missing) (blocks low false) q e h = never (cc)
  later-next (WAY missing) (records by) q e h = never (cc)
  later-next (RECORD at missing) first q e h = never (cc)
  later-next (RECORD at missing) (blocks low d) q e h =
      let same : q ≡ records at = cc in
      let no_more : finals_in is ≡ [] = subst (λ (r : Place). Later r (finals_in is)) same h in
      subst (λ (fs : List Final). Rising low (finals-at fs)) (sym no_more) none_left
  later-next (RECORD at missing) (records by) q e h =
      both (λ (o : Option Place). o ≡ some q → finals_in is ≡ []) (eqb at by)
      (λ _ g. let same : q ≡ records by = cc in subst (λ (r : Place). Later r (finals_in is)) same h) (λ _ (g : none ≡ some q). never (cc)) e
  later-next UNKNOWN p q e h = never (cc)

module _ (wide : Bool) where
  later : (ps : List Piece) (p : Place) → first_bad wide ps p ≡ none → Later p (finals_in (items wide ps))
  unfolding first_bad items finals_in
  later [] first e = never (cc)
  later [] (blocks low d) e = none_left
  later [] (records by) e = refl
  later (cut at ∷ ps) p e = never (cc)
  later (whole at x ∷ ps) p e =
      let s = sort wide x.kind in
      let g = goes wide at (formed s x.body && met wide (owes s x.body) ps) ps (next s (start_in x.body) p) e in
      later-next x.body (items wide ps) s p g.place g.is (later ps g.place g.good)

abbrev blocks-in : Reading → List Final
blocks-in (holds m) = m.blocks
blocks-in (bad at) = []

held-blocks : (is : List Item) (m : Map) → held is ≡ holds m → finals_in is ≡ m.blocks
unfolding finals_in
held-blocks [] m e = never (cc)
held-blocks (a_head z n k y ∷ is) m e =
    both (λ (r : Reading). r ≡ holds m → finals_in is ≡ m.blocks) _
    (λ _ (g : holds (record { size = z; energy = y; blocks = finals_in is; recs = recs_in is; numbered = numbered_in is }) ≡ holds m). ap (λ (r : Reading). blocks-in r) g)
    (λ _ (g : bad 0 ≡ holds m). never (cc)) e
held-blocks (a_block b n ∷ is) m e = never (cc)
held-blocks (a_way t p ∷ is) m e = never (cc)
held-blocks (a_record c r ∷ is) m e = never (cc)
held-blocks (no_item ∷ is) m e = never (cc)

module _ (b : List ℕ) (m : Map) (e : read b ≡ holds m) where
  -- the blocks are those of the items
  pub read-blocks : finals_in (items (wide_in b) (pieces b 0 0)) ≡ m.blocks
  unfolding read reading
  read-blocks = held-blocks (items (wide_in b) (pieces b 0 0)) m (sym (ap (verdict (wide_in b) (pieces b 0 0)) (none-bad b m e)) ∙ e)

  -- the starts of the blocks rise
  pub read-rises : Rising 0 (finals-at m.blocks)
  read-rises = subst (λ (fs : List Final). Rising 0 (finals-at fs)) read-blocks (later (wide_in b) (pieces b 0 0) first (none-bad b m e))

-- Document 02, "No. 2": "whatever is accepted is written again to the same bytes". Assumes nothing.
use Prim.Native.Nat.{ℕ, suc, ◌+◌, ◌≤◌}
use native.Mathlib.Omega.{arith}
use mathlib.Core.Path.{◌≡◌, refl, sym, ap, ap₂, subst, ◌∙◌}
use mathlib.Core.Bool.{Bool, true, false, ◌&&◌}
use mathlib.Core.List.{List, [], ◌∷◌, ◌++◌, map}
use mathlib.Core.Option.{Option, none, some}
use lib.Dec.{eqb, leb}
use lib.ListN.{length, drop, length-take}
use lib.Seq.{take-take}
use borrow.Author.Tests.{eqb-true}
use Rattle.spec.specs.Lists.{gather, number}
use Rattle.spec.specs.Blocks.{Block}
use Rattle.spec.specs.Ending.{Final}
use Rattle.spec.specs.Entries.{wide_code, Map, bytes}
use Rattle.spec.specs.Forms.{wide_in, field, announced, Entry, entry, behind, Ends, TERMINATE, JUMP, JUMPI, DYNAMIC-JUMP, DYNAMIC-JUMPI, Sort, HEAD, WAY, RECORD, UNKNOWN, BLOCK, sort, long, dynamic, owes, start_in}
use Rattle.spec.specs.Reader.{Reading, holds, bad, Piece, whole, pieces, fair, formed, Place, first, blocks, records, next, goes_on, sevens, met, first_bad, Item, a_block, a_record, item_for, items, ways, finals_in, recs_in, numbered_in, held, verdict, reading, read}
use Rattle.laws.proofs.Branch.{both}
use Rattle.laws.proofs.Members.{In, here, there, and_both}
use Rattle.theorems.proofs.Bounds.{Bare}
use Rattle.theorems.proofs.ReaderSplit.{Split, done, cut_off, more, split}
use Rattle.theorems.proofs.ReaderPlaces.{never, Passed, begun, past_first, Step, passes, refuses, step}
use Rattle.theorems.proofs.ReaderBad.{headed}
use Rattle.theorems.proofs.Bytes.{Bytes, bytes_drop, bytes_take}
use Rattle.theorems.proofs.ReaderItems.{written, body_back, entry-back, way_for, block-items, items_of, map-bytes}

-- 7s may come
abbrev due : Place → Bool
due first = false
due (blocks low d) = d
due (records by) = false

-- the items are those of the map
pub record Holds (is : List Item) (m : Map) : Type 0 where
  pub same : is ≡ items_of m
  pub bare : (f : Final) → In f m.blocks → Bare f.entries f.block.kind

module _ (wide : Bool) where
  -- ---- an entry that passes

  record Passes (e : Entry) (es : List Entry) (ps : List Piece) (p : Place) : Type 0 where
    place : Place
    came : next (sort wide e.kind) (start_in e.body) p ≡ some place
    long-enough : length e.body ≡ long (sort wide e.kind) e.body
    fair-one : fair (sort wide e.kind) e.body ≡ true
    meets : met wide (owes (sort wide e.kind) e.body) ps ≡ true
    passed : Passed wide (e ∷ es) place
    on : first_bad wide ps place ≡ none

  passing : (at : ℕ) (e : Entry) (es : List Entry) {rest : List ℕ} {ps : List Piece} {to : ℕ} (p : Place) → Split to rest ps → Passed wide es p
      → first_bad wide (whole at e ∷ ps) p ≡ none → Passes e es ps p
  unfolding first_bad
  passing at e es {rest} {ps} p s h f = by-step (step wide e es rest at (λ q. first_bad wide ps q) s h) f
    where
      by-step : {r : Option ℕ} → Step wide e es rest at (λ q. first_bad wide ps q) s h r → r ≡ none → Passes e es ps p
      by-step (passes {q} ok n k) g =
          let a = and_both (formed (sort wide e.kind) e.body) _ ok in
          let b = and_both (eqb (length e.body) (long (sort wide e.kind) e.body)) _ a.0 in
          record { place = q; came = n; long-enough = eqb-true _ _ b.0; fair-one = b.1; meets = a.1; passed = k; on = g }
      by-step (refuses k) g = never (cc)

  -- ---- its bytes

  items_back : {at : ℕ} {rest : List ℕ} {ps : List Piece} → Split at rest ps → Bytes rest → (es : List Entry) (p : Place) → Passed wide es p → first_bad wide ps p ≡ none
      → gather (written wide) (items wide ps) ≡ rest
  unfolding items first_bad
  items_back done h es p d e = refl
  items_back (cut_off n c) h es p d e = never (cc)
  items_back (more {at} {rest} {ps} w s) h es p d e =
      let k = passing at (entry rest) es p s d e in
      let body = (entry rest).body in
      let one = body_back wide body (bytes_take (announced rest) (drop 6 rest) (bytes_drop 6 rest h)) (entry rest).kind (known k.place k.came) k.long-enough k.fair-one in
      ap₂ (λ (x y : List ℕ). x ++ y) one (items_back s (bytes_drop (6 + announced rest) rest h) (entry rest ∷ es) k.place k.passed k.on) ∙ entry-back rest h w
    where
      known : (q : Place) → next (sort wide (entry rest).kind) (start_in (entry rest).body) p ≡ some q → sort wide (entry rest).kind ≡ UNKNOWN → ⊥
      known q n u = let z : next UNKNOWN (start_in (entry rest).body) p ≡ some q = rw u at n in never (cc)

  -- ---- their order

  -- items behind a place, of which so many 7s come first: the 7s of the block before, the blocks with theirs, the records
  record Shape (p : Place) (n : ℕ) (is : List Item) : Type 0 where
    parts : (a : ℕ) → map way_for (ways a is) ++ gather block-items (finals_in is) ++ map (a_record (numbered_in is)) (recs_in is) ≡ is
    run : (a : ℕ) → n ≡ length (ways a is)
    none-due : due p ≡ false → (a : ℕ) → ways a is ≡ []
    no_blocks : (by : ℕ) → p ≡ records by → finals_in is ≡ []
    one-kind : (by : ℕ) → p ≡ records by → map (a_record (numbered_in is)) (recs_in is) ≡ map (a_record (eqb by 8)) (recs_in is)
    bare : (f : Final) → In f (finals_in is) → Bare f.entries f.block.kind

  module _ (body : List ℕ) (n : ℕ) (is : List Item) where
    shape-block : {p q : Place} → ((by : ℕ) → p ≡ records by → ⊥) → Shape q n is → (b : Block) (c : ℕ) → c ≡ length (ways b.start is) → Bare (ways b.start is) b.kind
        → Shape p 0 (a_block b c ∷ is)
    unfolding ways finals_in recs_in numbered_in
    shape-block r h b c e k = record {
      parts = λ a. ap₂ {C = List Item} (λ (m : ℕ) (l : List Item). a_block b m ∷ l) (sym e) (h.parts b.start);
      run = λ a. refl;
      none-due = λ _ a. refl;
      no_blocks = λ by q. absurd (r by q);
      one-kind = λ by q. absurd (r by q);
      bare = λ f i. first_one f i;
    }
      where
        first_one : (f : Final) → In f (record { block = b; entries = ways b.start is } ∷ finals_in is) → Bare f.entries f.block.kind
        first_one f here = k
        first_one f (there i) = h.bare f i

    shape-blocks : {p : Place} {low : ℕ} → ((by : ℕ) → p ≡ records by → ⊥) → (x : Ends) → Shape (blocks low (dynamic x)) n is → (ps : List Piece) → n ≡ sevens wide ps
        → met wide (owes (BLOCK x) body) ps ≡ true → Shape p 0 (item_for (BLOCK x) body ∷ is)
    shape-blocks r TERMINATE h ps e m = let w = h.none-due refl _ in shape-block r h _ 0 (sym (ap length w)) w
    shape-blocks r JUMP h ps e m = let w = h.none-due refl _ in shape-block r h _ 0 (sym (ap length w)) w
    shape-blocks r JUMPI h ps e m = let w = h.none-due refl _ in shape-block r h _ 0 (sym (ap length w)) w
    shape-blocks r DYNAMIC-JUMP h ps e m = shape-block r h _ _ (eqb-true _ _ m ∙ sym e ∙ h.run _) tt
    shape-blocks r DYNAMIC-JUMPI h ps e m = shape-block r h _ _ (eqb-true _ _ m ∙ sym e ∙ h.run _) tt

    shape-way : {low : ℕ} (missing : ℕ) → Shape (blocks low true) n is → Shape (blocks low true) (suc n) (item_for (WAY missing) body ∷ is)
    unfolding ways finals_in recs_in numbered_in
    shape-way missing h = record {
      parts = λ a. ap {B = List Item} (λ (l : List Item). item_for (WAY missing) body ∷ l) (h.parts a);
      run = λ a. ap suc (h.run a);
      none-due = λ e a. never (cc);
      no_blocks = λ by e. never (cc);
      one-kind = λ by e. never (cc);
      bare = h.bare;
    }

    shape-record : {p : Place} (at missing : ℕ) → ((by : ℕ) → p ≡ records by → at ≡ by) → Shape (records at) n is → Shape p 0 (item_for (RECORD at missing) body ∷ is)
    unfolding ways finals_in recs_in numbered_in
    shape-record at missing same h = record {
      parts = λ a. let k = rw (h.none-due refl a, h.no_blocks at refl) at (h.parts a) in
          rw (h.no_blocks at refl) (ap {B = List Item} (λ (l : List Item). item_for (RECORD at missing) body ∷ l) (sym (h.one-kind at refl) ∙ k));
      run = λ a. refl;
      none-due = λ _ a. refl;
      no_blocks = λ _ _. h.no_blocks at refl;
      one-kind = λ by q. ap (λ (n : ℕ). map (a_record (eqb n 8)) (recs_in (item_for (RECORD at missing) body ∷ is))) (same by q);
      bare = h.bare;
    }

    shape-next : (s : Sort) (p q : Place) → (p ≡ first → ⊥) → next s (start_in body) p ≡ some q → Shape q n is → (ps : List Piece) → n ≡ sevens wide ps
        → met wide (owes s body) ps ≡ true → Shape p (goes_on s (suc n)) (item_for s body ∷ is)
    shape-next HEAD first q f e h ps k m = absurd (f refl)
    shape-next HEAD (blocks low d) q f e h ps k m = never (cc)
    shape-next HEAD (records by) q f e h ps k m = never (cc)
    shape-next (BLOCK x) first q f e h ps k m = absurd (f refl)
    shape-next (BLOCK x) (blocks low d) q f e h ps k m =
        both (λ (o : Option Place). o ≡ some q → Shape (blocks low d) 0 (item_for (BLOCK x) body ∷ is)) (leb low (start_in body))
        (λ _ g. let same : q ≡ blocks (suc (start_in body)) (dynamic x) = cc in
        shape-blocks (λ by (r : blocks low d ≡ records by). never (cc)) x (subst (λ (r : Place). Shape r n is) same h) ps k m)
        (λ _ (g : none ≡ some q). never (cc)) e
    shape-next (BLOCK x) (records by) q f e h ps k m = never (cc)
    shape-next (WAY missing) first q f e h ps k m = absurd (f refl)
    shape-next (WAY missing) (blocks low true) q f e h ps k m = shape-way missing (subst (λ (r : Place). Shape r n is) (cc) h)
    shape-next (WAY missing) (blocks low false) q f e h ps k m = never (cc)
    shape-next (WAY missing) (records by) q f e h ps k m = never (cc)
    shape-next (RECORD at missing) first q f e h ps k m = absurd (f refl)
    shape-next (RECORD at missing) (blocks low d) q f e h ps k m = shape-record at missing (λ by (r : blocks low d ≡ records by). never (cc)) (subst (λ (r : Place). Shape r n is) (cc) h)
    shape-next (RECORD at missing) (records to) q f e h ps k m =
        both (λ (o : Option Place). o ≡ some q → Shape (records to) 0 (item_for (RECORD at missing) body ∷ is)) (eqb at to)
        (λ on g. let same : q ≡ records to = cc in let is-to = eqb-true at to on in
        shape-record at missing (λ by (r : records to ≡ records by). let to-by : to ≡ by = cc in is-to ∙ to-by) (subst (λ (r : Place). Shape r n is) (same ∙ ap records (sym is-to)) h))
        (λ _ (g : none ≡ some q). never (cc)) e
    shape-next UNKNOWN p q f e h ps k m = never (cc)

  shape : {at : ℕ} {rest : List ℕ} {ps : List Piece} → Split at rest ps → (e : Entry) (es : List Entry) (p : Place) → Passed wide (e ∷ es) p → first_bad wide ps p ≡ none
      → Shape p (sevens wide ps) (items wide ps)
  unfolding items first_bad sevens ways finals_in recs_in
  shape done e es p h f = record { parts = λ a. refl; run = λ a. refl; none-due = λ _ a. refl; no_blocks = λ _ _. refl; one-kind = λ _ _. refl; bare = λ g i. elim i [ ] }
  shape (cut_off n c) e es p h f = never (cc)
  shape (more {at} {rest} {ps} w s) e es p h f =
      let k = passing at (entry rest) (e ∷ es) p s h f in
      shape-next (entry rest).body (sevens wide ps) (items wide ps) (sort wide (entry rest).kind) p k.place (past_first wide h) k.came
      (shape s (entry rest) (e ∷ es) k.place k.passed k.on) ps refl k.meets

  -- ---- the whole

  module _ (b : List ℕ) (ps : List Piece) where
    abbrev the-head : Item
    the-head = item_for HEAD (entry b).body

    abbrev the-map : Map
    the-map = record { size = field 0 2 (entry b).body; energy = field 8 4 (entry b).body; blocks = finals_in (items wide ps); recs = recs_in (items wide ps); numbered = numbered_in (items wide ps) }

    abbrev counts : Bool
    counts = eqb (field 2 2 (entry b).body) (length the-map.blocks) && eqb (field 4 4 (entry b).body) (length the-map.recs)

    counted-items : Shape (blocks 0 false) (sevens wide ps) (items wide ps) → counts ≡ true → Holds (the-head ∷ items wide ps) the-map
    counted-items h t =
        let k = and_both (eqb (field 2 2 (entry b).body) (length the-map.blocks)) _ t in
        let blocks_are : field 2 2 (entry b).body ≡ length the-map.blocks = eqb-true _ _ k.0 in
        let recs-are : field 4 4 (entry b).body ≡ length the-map.recs = eqb-true _ _ k.1 in
        let parts = rw (h.none-due refl 0) at (h.parts 0) in
        record { same = rw (← blocks_are, ← recs-are) (ap {B = List Item} (λ (l : List Item). the-head ∷ l) (sym parts)); bare = h.bare }

    held-head : {at : ℕ} → Split at (behind b) ps → sort wide (entry b).kind ≡ HEAD → Passes (entry b) [] ps first → (m : Map)
        → held (the-head ∷ items wide ps) ≡ holds m → Holds (the-head ∷ items wide ps) m
    held-head s q k m e =
        let n : next HEAD (start_in (entry b).body) first ≡ some k.place = rw q at k.came in
        let same : k.place ≡ blocks 0 false = cc in
        let h = shape s (entry b) [] (blocks 0 false) (rw same at k.passed) (rw same at k.on) in
        both (λ (r : Reading). r ≡ holds m → Holds (the-head ∷ items wide ps) m) counts
        (λ t (g : holds the-map ≡ holds m). let is : the-map ≡ m = cc in subst (Holds (the-head ∷ items wide ps)) is (counted-items h t))
        (λ _ (g : bad 0 ≡ holds m). never (cc)) e

  held_items : {b : List ℕ} {all : List Piece} → Split 0 b all → first_bad wide all first ≡ none → (m : Map) → held (items wide all) ≡ holds m → Holds (items wide all) m
  unfolding items first_bad
  held_items done e m k = never (cc)
  held_items (cut_off n c) e m k = never (cc)
  held_items (more {rest = b} {ps} w s) e m k =
      let q : sort wide (entry b).kind ≡ HEAD = (headed wide {b = b} (more w s) e).head in
      rw q (held-head b ps s q (passing 0 (entry b) [] first s begun e) m (rw q at k))

module _ (wide : Bool) (b : List ℕ) (m : Map) (e : reading wide b ≡ holds m) where
  pub none-bad-in : first_bad wide (pieces b 0 0) first ≡ none
  unfolding reading
  none-bad-in = by_said (first_bad wide (pieces b 0 0) first) refl e
    where
      by_said : (o : Option ℕ) → first_bad wide (pieces b 0 0) first ≡ o → verdict wide (pieces b 0 0) o ≡ holds m → first_bad wide (pieces b 0 0) first ≡ none
      by_said none q k = q
      by_said (some o) q k = never (cc)

  pub items-in : Holds (items wide (pieces b 0 0)) m
  unfolding reading
  items-in = held_items wide (split b) none-bad-in m (sym (ap (verdict wide (pieces b 0 0)) none-bad-in) ∙ e)

-- ---- by the head's code length

-- it stands behind the 6 leading bytes
pub code-length : (b : List ℕ) → 2 ≤ length (entry b).body → field 0 2 (entry b).body ≡ field 6 2 b
code-length b h = ap number (take-take 2 (announced b) (drop 6 b) (omega (arith, length-take (announced b) (drop 6 b))))

module _ (b : List ℕ) (m : Map) (e : read b ≡ holds m) where
  pub none-bad : first_bad (wide_in b) (pieces b 0 0) first ≡ none
  unfolding read
  none-bad = none-bad-in (wide_in b) b m e

  -- The entries of accepted bytes, one after the other, are those of the map that they hold.
  pub read-items : Holds (items (wide_in b) (pieces b 0 0)) m
  unfolding read
  read-items = items-in (wide_in b) b m e

  -- The map's size is the code length in its head, so it is written in the family in which it was read.
  pub read_wide : wide_code m.size ≡ wide_in b
  unfolding items
  read_wide =
      let h = headed (wide_in b) (split b) none-bad in
      let is = sym read-items.same ∙ ap (items (wide_in b)) h.is ∙ ap (λ (s : Sort). item_for s (entry b).body ∷ items (wide_in b) h.more) h.head in
      let size : m.size ≡ field 0 2 (entry b).body = cc in
      ap wide_code (size ∙ code-length b (omega (arith, h.long)))

  -- Whatever is accepted is written again to the same bytes.
  pub read_back : Bytes b → bytes m ≡ b
  read_back h =
      map-bytes m read-items.bare ∙ ap (λ (wide : Bool). gather (written wide) (items_of m)) read_wide ∙ ap (gather (written (wide_in b))) (sym read-items.same)
      ∙ items_back (wide_in b) (split b) h [] first begun none-bad

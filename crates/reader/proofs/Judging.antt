-- An entry's class judges it as the definitions do, and the entry is the definitions' item. Assumes nothing.
use mathlib.Core.Path.{◌≡◌, refl, sym, ap, ap₂, ◌∙◌}
use mathlib.Core.Bool.{Bool, true, false, ◌&&◌}
use mathlib.Core.List.{List, ◌∷◌}
use mathlib.Core.Option.{Option as Maybe, none, some}
use Prim.Native.Nat.{ℕ, suc, ◌+◌, ◌*◌, ◌<◌}
use native.Mathlib.Omega.{arith}
use native.Mathlib.Decide.{dec_le}
use Rattle.std.specs.Prelude.{Option, Some, None, is_some, unwrap_or, Result, Ok, Err}
use lib.Dec.{eqb, leb}
use lib.ListN.{length, take, drop}
use lib.Seq.{drop-drop}
use borrow.Author.Tests.{le-leb, leb-true, eqb-true}
use Rattle.spec.specs.Lists.{if}
use Rattle.spec.specs.Entries.{way_kind, record_kind, numbered_kind}
use Rattle.spec.specs.Forms.{wide_in, field, announced, entry, Ends, Sort, HEAD, BLOCK, WAY, RECORD, UNKNOWN, TERMINATE, JUMP, JUMPI, DYNAMIC-JUMP, DYNAMIC-JUMPI, sort, long, dynamic, owes, start_in}
use Rattle.spec.specs.Reader.{Piece, fair, formed, Place, first, blocks, records, next, goes_on, sevens, met, taken, first_bad, Item, item_for, items, finals_in, recs_in, numbered_by}
use Rattle.spec.specs.BadEntries.{Whole}
use Rattle.laws.proofs.Branch.{both, if-true, if-false}
use Rattle.theorems.proofs.ReaderSplit.{body-long}
use Rattle.lent.proofs.Parts.{part-of-take}
use Rattle.reader.specs.Shapes.{from, behind_at, number_of, numbers, known, shape, entry_at, item_of}
use Rattle.reader.specs.Classes.{class_of, form_of, block_inside, record_inside, blocks_of, records_of}
use Rattle.reader.specs.declared.entry.Entry.{Entry}
use Rattle.reader.specs.declared.entry.Entry.TheVariants.{Head, Terminate, Jump, Jumpi, DynamicJump, DynamicJumpi, Way, Record}
use Rattle.reader.specs.declared.entry.Fault.{Fault}
use Rattle.reader.specs.declared.entry.Fault.TheVariants.{Wrong, Cut}
use Rattle.reader.specs.declared.class.Class.{Class}
use Rattle.reader.specs.declared.class.Class.TheVariants.{Head as HeadOf, Block, Dynamic, Way as WayOf, Record as RecordOf}
use Rattle.reader.proofs.Destinations.{destined-is}
use Rattle.reader.proofs.Onward.{from-whole, from_cut}

-- ---- the definitions' step, by the class

-- the place behind a static or a dynamic block, and behind a 7
abbrev pub ends_of : Bool → Ends
ends_of true = DYNAMIC-JUMP
ends_of false = JUMP

abbrev pub block_of : ℕ → Bool → Place → Maybe Place
block_of start d p = next (BLOCK (ends_of d)) start p

abbrev pub way_of : Place → Maybe Place
way_of p = next (WAY 0) 0 p

-- the place behind an entry
abbrev pub order_of : Option Class → Place → Maybe Place
order_of None p = none
order_of (Some HeadOf) p = next HEAD 0 p
order_of (Some (Block s)) p = block_of s false p
order_of (Some (Dynamic s n)) p = block_of s true p
order_of (Some WayOf) p = way_of p
order_of (Some (RecordOf numbered)) p = next (RECORD (form_of numbered) 0) 0 p

-- its count is met
abbrev pub met_of : Bool → Option Class → List Piece → Bool
met_of wide None ps = true
met_of wide (Some HeadOf) ps = true
met_of wide (Some (Block s)) ps = true
met_of wide (Some (Dynamic s n)) ps = eqb n (sevens wide ps)
met_of wide (Some WayOf) ps = true
met_of wide (Some (RecordOf numbered)) ps = true

-- the run of 7s that begins with it, if it is one
abbrev pub run_of : Option Class → ℕ → ℕ
run_of None n = 0
run_of (Some HeadOf) n = 0
run_of (Some (Block s)) n = 0
run_of (Some (Dynamic s m)) n = 0
run_of (Some WayOf) n = n
run_of (Some (RecordOf numbered)) n = 0

-- a record's path length stands at 4 or at 8
abbrev pub Told : Sort → Type 0
Told HEAD = Unit
Told (BLOCK x) = Unit
Told (WAY missing) = Unit
Told (RECORD to missing) = form_of (eqb to 8) ≡ to
Told UNKNOWN = Unit

pub told : (wide : Bool) (k : ℕ) → Told (sort wide k)
unfolding sort
told wide k =
    both Told (eqb k 1) (λ _. tt)
    (λ _. both Told (eqb k 2) (λ _. tt)
    (λ _. both Told (eqb k 3) (λ _. tt)
    (λ _. both Told (eqb k 4) (λ _. tt)
    (λ _. both Told (eqb k 5) (λ _. tt)
    (λ _. both Told (eqb k 6) (λ _. tt)
    (λ _. both Told (eqb k (way_kind wide)) (λ _. tt)
    (λ _. both Told (eqb k (record_kind wide)) (λ _. refl)
    (λ _. both Told (eqb k (numbered_kind wide)) (λ _. refl) (λ _. tt)))))))))

-- whether a record has its number
told-by : (to : ℕ) (body : List ℕ) → is_some (number_of to body) ≡ eqb to 8
told-by to body = both (λ (v : Option ℕ). is_some v ≡ eqb to 8) (eqb to 8) (λ y. sym y) (λ z. sym z)

numbered-is : (to : ℕ) (body : List ℕ) → unwrap_or (number_of to body) 0 ≡ numbered_by (eqb to 8) (field 4 4 body)
numbered-is to body =
    both (λ (v : Option ℕ). unwrap_or v 0 ≡ numbered_by (eqb to 8) (field 4 4 body)) (eqb to 8)
    (λ y. ap (λ (c : Bool). numbered_by c (field 4 4 body)) (sym y))
    (λ z. ap (λ (c : Bool). numbered_by c (field 4 4 body)) (sym z))

-- ---- the order, by the class

ends-dynamic : (x : Ends) → dynamic x ≡ dynamic (ends_of (dynamic x))
ends-dynamic TERMINATE = refl
ends-dynamic JUMP = refl
ends-dynamic JUMPI = refl
ends-dynamic DYNAMIC-JUMP = refl
ends-dynamic DYNAMIC-JUMPI = refl

next-block : (x : Ends) (a : ℕ) (p : Place) → next (BLOCK x) a p ≡ block_of a (dynamic x) p
next-block x a first = refl
next-block x a (blocks low d) = ap (λ (c : Bool). if (leb low a) (some (blocks (suc a) c)) none) (ends-dynamic x)
next-block x a (records by) = refl

next-head : (a : ℕ) (p : Place) → next HEAD a p ≡ next HEAD 0 p
next-head a first = refl
next-head a (blocks low d) = refl
next-head a (records by) = refl

next_way : (missing a : ℕ) (p : Place) → next (WAY missing) a p ≡ way_of p
next_way missing a first = refl
next_way missing a (blocks low true) = refl
next_way missing a (blocks low false) = refl
next_way missing a (records by) = refl

next-record : (to missing a : ℕ) (p : Place) → next (RECORD to missing) a p ≡ next (RECORD to 0) 0 p
next-record to missing a first = refl
next-record to missing a (blocks low d) = refl
next-record to missing a (records by) = refl

-- ---- an entry that is not right by itself is refused

module _ (at : ℕ) (on : Place → Maybe ℕ) where
  not-ok : (ok : Bool) (o : Maybe Place) → ok ≡ false → taken at ok on o ≡ some at
  not-ok ok none e = refl
  not-ok ok (some q) e = if-false ok (on q) (some at) e

  module _ (wide : Bool) (there : ℕ) (body : List ℕ) (ps : List Piece) (p : Place) where
    abbrev Judged : Sort → Result Entry Fault → Type 0
    Judged s e = taken at (formed s body && met wide (owes s body) ps) on (next s (start_in body) p) ≡ taken at (met_of wide (class_of e) ps) on (order_of (class_of e) p)

    misfit : (s : Sort) → eqb (length body) (long s body) ≡ false → taken at (formed s body && met wide (owes s body) ps) on (next s (start_in body) p) ≡ some at
    misfit s h = not-ok (formed s body && met wide (owes s body) ps) (next s (start_in body) p) (ap (λ (a : Bool). (a && fair s body) && met wide (owes s body) ps) h)

    off : (s : Sort) → eqb (length body) (long s body) ≡ false → Judged s (known s (Err Wrong))
    off HEAD h = misfit HEAD h
    off (BLOCK x) h = misfit (BLOCK x) h
    off (WAY missing) h = misfit (WAY missing) h
    off (RECORD to missing) h = misfit (RECORD to missing) h
    off UNKNOWN h = refl

    fits : (s : Sort) {o : Maybe Place} {k : Bool} → eqb (length body) (long s body) ≡ true → fair s body ≡ true → met wide (owes s body) ps ≡ k → next s (start_in body) p ≡ o
        → taken at (formed s body && met wide (owes s body) ps) on (next s (start_in body) p) ≡ taken at k on o
    fits s h f m e = ap₂ (λ (c : Bool) (q : Maybe Place). taken at c on q) (ap₂ (λ (a b : Bool). a && b) (ap₂ (λ (a b : Bool). a && b) h f) m) e

    right : (s : Sort) → Told s → eqb (length body) (long s body) ≡ true → Judged s (known s (numbers there s body))
    right HEAD k h = fits HEAD h refl refl (next-head (start_in body) p)
    right (BLOCK TERMINATE) k h =
        both (λ (k : Option Class). taken at (formed (BLOCK TERMINATE) body && met wide (owes (BLOCK TERMINATE) body) ps) on (next (BLOCK TERMINATE) (start_in body) p) ≡ taken at (met_of wide k ps) on (order_of k p))
        (leb (field 4 1 body) 1)
        (λ y. fits (BLOCK TERMINATE) h y refl (next-block TERMINATE (start_in body) p))
        (λ n. not-ok (formed (BLOCK TERMINATE) body && met wide (owes (BLOCK TERMINATE) body) ps) (next (BLOCK TERMINATE) (start_in body) p) (ap₂ (λ (a b : Bool). (a && b) && true) h n))
    right (BLOCK JUMP) k h = fits (BLOCK JUMP) h refl refl (next-block JUMP (start_in body) p)
    right (BLOCK JUMPI) k h = fits (BLOCK JUMPI) h refl refl (next-block JUMPI (start_in body) p)
    right (BLOCK DYNAMIC-JUMP) k h = fits (BLOCK DYNAMIC-JUMP) h refl refl (next-block DYNAMIC-JUMP (start_in body) p)
    right (BLOCK DYNAMIC-JUMPI) k h = fits (BLOCK DYNAMIC-JUMPI) h refl refl (next-block DYNAMIC-JUMPI (start_in body) p)
    right (WAY missing) k h = fits (WAY missing) h refl refl (next_way missing (start_in body) p)
    right (RECORD to missing) k h = fits (RECORD to missing) h refl refl (next-record to missing (start_in body) p ∙ ap (λ (i : ℕ). next (RECORD i 0) 0 p) (sym (ap form_of (told-by to body) ∙ k)))
    right UNKNOWN k h = refl

    by_shape : (s : Sort) → Told s → Judged s (shape there s body)
    unfolding shape
    by_shape s k = both (λ (e : Result Entry Fault). Judged s (known s e)) (eqb (length body) (long s body)) (λ h. right s k h) (λ h. off s h)

-- ---- what stands at an offset

module _ (b : List ℕ) (at : ℕ) where
  abbrev rest : List ℕ
  rest = drop at b

  abbrev to : ℕ
  to = at + (6 + announced rest)

  pub entry_whole : Whole rest → entry_at b at ≡ shape (at + 6) (sort (wide_in b) (entry rest).kind) (entry rest).body
  unfolding entry_at
  entry_whole w = if-true (leb (6 + announced rest) (length rest)) _ _ (le-leb _ _ w)

  pub behind-whole : Whole rest → behind_at b at ≡ to
  unfolding behind_at
  behind-whole w = if-true (leb (6 + announced rest) (length rest)) _ _ (le-leb _ _ w)

  pub entry-cut : (Whole rest → ⊥) → entry_at b at ≡ Err Cut
  unfolding entry_at
  entry-cut n = both (λ (e : Result Entry Fault). e ≡ Err Cut) (leb (6 + announced rest) (length rest)) (λ y. absurd (n (leb-true _ _ y))) (λ _. refl)

  -- the class judges as the definitions do
  pub judge : (p : Place) → at < length b
      → first_bad (wide_in b) (from b at) p ≡ taken at (met_of (wide_in b) (class_of (entry_at b at)) (from b (behind_at b at))) (λ q. first_bad (wide_in b) (from b (behind_at b at)) q) (order_of (class_of (entry_at b at)) p)
  unfolding first_bad
  judge p h = by_whole (dec_le (6 + announced rest) (length rest))
    where
      by_whole : Dec (Whole rest) → first_bad (wide_in b) (from b at) p
          ≡ taken at (met_of (wide_in b) (class_of (entry_at b at)) (from b (behind_at b at))) (λ q. first_bad (wide_in b) (from b (behind_at b at)) q) (order_of (class_of (entry_at b at)) p)
      by_whole (yes w) =
          rw (entry_whole w, behind-whole w)
          (ap (λ (ps : List Piece). first_bad (wide_in b) ps p) (from-whole b at w)
          ∙ by_shape at (λ q. first_bad (wide_in b) (from b to) q) (wide_in b) (at + 6) (entry rest).body (from b to) p (sort (wide_in b) (entry rest).kind) (told (wide_in b) (entry rest).kind))
      by_whole (no n) = rw (entry-cut n) (ap (λ (ps : List Piece). first_bad (wide_in b) ps p) (from_cut b at h n))

-- ---- the run of 7s

module _ (there : ℕ) (body : List ℕ) (n : ℕ) where
  abbrev Runs : Sort → Result Entry Fault → Type 0
  Runs s e = (class_of e ≡ None → ⊥) → goes_on s n ≡ run_of (class_of e) n

  run-right : (s : Sort) → Runs s (known s (numbers there s body))
  run-right HEAD h = refl
  run-right (BLOCK TERMINATE) h = both (λ (k : Option Class). (k ≡ None → ⊥) → 0 ≡ run_of k n) (leb (field 4 1 body) 1) {x = Some (Block (start_in body))} (λ _ _. refl) (λ _ _. refl) h
  run-right (BLOCK JUMP) h = refl
  run-right (BLOCK JUMPI) h = refl
  run-right (BLOCK DYNAMIC-JUMP) h = refl
  run-right (BLOCK DYNAMIC-JUMPI) h = refl
  run-right (WAY missing) h = refl
  run-right (RECORD to missing) h = refl
  run-right UNKNOWN h = refl

  run-wrong : (s : Sort) → Runs s (known s (Err Wrong))
  run-wrong HEAD h = refl
  run-wrong (BLOCK x) h = refl
  run-wrong (WAY missing) h = absurd (h refl)
  run-wrong (RECORD to missing) h = refl
  run-wrong UNKNOWN h = refl

  run-shape : (s : Sort) → Runs s (shape there s body)
  unfolding shape
  run-shape s = both (λ (e : Result Entry Fault). Runs s (known s e)) (eqb (length body) (long s body)) (λ _. run-right s) (λ _. run-wrong s)

pub sevens-on : (b : List ℕ) (at : ℕ) → (class_of (entry_at b at) ≡ None → ⊥) → sevens (wide_in b) (from b at) ≡ run_of (class_of (entry_at b at)) (suc (sevens (wide_in b) (from b (behind_at b at))))
unfolding sevens
sevens-on b at h = by_whole (dec_le (6 + announced (rest b at)) (length (rest b at)))
  where
    by_whole : Dec (Whole (rest b at)) → sevens (wide_in b) (from b at) ≡ run_of (class_of (entry_at b at)) (suc (sevens (wide_in b) (from b (behind_at b at))))
    by_whole (yes w) =
        let e = entry_whole b at w in
        rw (e, behind-whole b at w)
        (ap (sevens (wide_in b)) (from-whole b at w) ∙ run-shape (at + 6) (entry (rest b at)).body (suc (sevens (wide_in b) (from b (to b at)))) (sort (wide_in b) (entry (rest b at)).kind) (rw e at h))
    by_whole (no n) = absurd (h (rw (entry-cut b at n)))

-- ---- the item

module _ (b : List ℕ) (there : ℕ) (body : List ℕ) (tail : (i n : ℕ) → length body ≡ i + n → drop i body ≡ take n (drop (there + i) b)) where
  -- the entry of a right form is the item
  abbrev Is : Sort → Result Entry Fault → Type 0
  Is s e = (class_of e ≡ None → ⊥) → item_for s body ≡ item_of b e

  is_right : (s : Sort) → length body ≡ long s body → Is s (known s (numbers there s body))
  is_right HEAD h n = refl
  is_right (BLOCK TERMINATE) h n = refl
  is_right (BLOCK JUMP) h n = refl
  is_right (BLOCK JUMPI) h n = refl
  is_right (BLOCK DYNAMIC-JUMP) h n = refl
  is_right (BLOCK DYNAMIC-JUMPI) h n = refl
  is_right (WAY missing) h n = rw (destined-is missing (field 0 2 body), tail 6 (2 * field 2 4 body) h)
  is_right (RECORD to missing) h n = rw (destined-is missing (field 2 2 body), tail (to + 4) (2 * field to 4 body) h, told-by to body, numbered-is to body)
  is_right UNKNOWN h n = absurd (n refl)

  is-wrong : (s : Sort) → Is s (known s (Err Wrong))
  is-wrong HEAD n = absurd (n refl)
  is-wrong (BLOCK x) n = absurd (n refl)
  is-wrong (WAY missing) n = absurd (n refl)
  is-wrong (RECORD to missing) n = absurd (n refl)
  is-wrong UNKNOWN n = absurd (n refl)

  is-item : (s : Sort) → Is s (shape there s body)
  unfolding shape
  is-item s = both (λ (e : Result Entry Fault). Is s (known s e)) (eqb (length body) (long s body)) (λ y. is_right s (eqb-true _ _ y)) (λ _. is-wrong s)

module _ (b : List ℕ) (at : ℕ) where
  tail_of : (w : Whole (rest b at)) (i n : ℕ) → length (entry (rest b at)).body ≡ i + n → drop i (entry (rest b at)).body ≡ take n (drop (at + 6 + i) b)
  tail_of w i n h =
      let e : announced (rest b at) ≡ i + n = sym (body-long (rest b at) w) ∙ h in
      ap (λ (k : ℕ). drop i (take k (drop 6 (rest b at)))) e ∙ sym (part-of-take n i (drop 6 (rest b at)))
      ∙ ap (λ (l : List ℕ). take n l) (ap (λ (l : List ℕ). drop i l) (drop-drop 6 at b) ∙ drop-drop i (at + 6) b)

  pub items-on : (class_of (entry_at b at) ≡ None → ⊥) → items (wide_in b) (from b at) ≡ item_of b (entry_at b at) ∷ items (wide_in b) (from b (behind_at b at))
  unfolding items
  items-on n = by_whole (dec_le (6 + announced (rest b at)) (length (rest b at)))
    where
      by_whole : Dec (Whole (rest b at)) → items (wide_in b) (from b at) ≡ item_of b (entry_at b at) ∷ items (wide_in b) (from b (behind_at b at))
      by_whole (yes w) =
          let e = entry_whole b at w in
          let same = is-item b (at + 6) (entry (rest b at)).body (tail_of w) (sort (wide_in b) (entry (rest b at)).kind) (rw e at n) in
          rw (e, behind-whole b at w) (ap (items (wide_in b)) (from-whole b at w) ∙ ap {B = List Item} (λ (i : Item). i ∷ items (wide_in b) (from b (to b at))) same)
      by_whole (no m) = absurd (n (rw (entry-cut b at m)))

-- ---- the blocks and records among them

record Tallied (k : Option Class) (i : Item) (is : List Item) : Type 0 where
  blocks_are : length (finals_in (i ∷ is)) ≡ block_inside k + length (finals_in is)
  records_are : length (recs_in (i ∷ is)) ≡ record_inside k + length (recs_in is)

tallied : (b : List ℕ) (e : Result Entry Fault) (is : List Item) → (class_of e ≡ None → ⊥) → Tallied (class_of e) (item_of b e) is
unfolding finals_in recs_in
tallied b (Ok (Head size n m energy)) is h = omega arith
tallied b (Ok (Terminate s d ok)) is h = both (λ (k : Option Class). (k ≡ None → ⊥) → Tallied k (item_of b (Ok (Terminate s d ok))) is) (leb ok 1) (λ _ _. omega arith) (λ _ n. absurd (n refl)) h
tallied b (Ok (Jump s d t)) is h = omega arith
tallied b (Ok (Jumpi s d t f)) is h = omega arith
tallied b (Ok (DynamicJump s d n)) is h = omega arith
tallied b (Ok (DynamicJumpi s d f n)) is h = omega arith
tallied b (Ok (Way t p n)) is h = omega arith
tallied b (Ok (Record s t v p n)) is h = omega arith
tallied b (Err fault) is h = absurd (h refl)

module _ (b : List ℕ) (at : ℕ) (n : class_of (entry_at b at) ≡ None → ⊥) where
  pub blocks-on : blocks_of (wide_in b) (from b at) ≡ block_inside (class_of (entry_at b at)) + blocks_of (wide_in b) (from b (behind_at b at))
  blocks-on = ap (λ (is : List Item). length (finals_in is)) (items-on b at n) ∙ (tallied b (entry_at b at) (items (wide_in b) (from b (behind_at b at))) n).blocks_are

  pub records-on : records_of (wide_in b) (from b at) ≡ record_inside (class_of (entry_at b at)) + records_of (wide_in b) (from b (behind_at b at))
  records-on = ap (λ (is : List Item). length (recs_in is)) (items-on b at n) ∙ (tallied b (entry_at b at) (items (wide_in b) (from b (behind_at b at))) n).records_are

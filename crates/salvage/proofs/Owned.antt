-- The scan of an archive's first map, over the whole archive: it meets the entries of the map's own bytes, turns as over these, and is over where they end.
-- Assumes nothing.
use mathlib.Core.Path.{◌≡◌, refl, sym, ap, ap₂, subst, ◌∙◌}
use mathlib.Core.Bool.{Bool, true, false, not, ◌&&◌, ◌||◌}
use mathlib.Core.List.{List, [], ◌∷◌}
use Prim.Native.Nat.{ℕ, ◌+◌, ◌-◌, ◌≤◌, ◌<◌}
use native.Mathlib.Omega.{arith}
use native.Mathlib.Decide.{dec_lt, dec_le}
use Rattle.std.specs.Prelude.{Option, Some, None, Ok, Err}
use lib.Dec.{eqb, leb}
use lib.ListN.{length, drop, length-drop}
use borrow.Author.Tests.{leb-true, leb-false, le-leb, lt-leb, eq-eqb, ne_eqb}
use Rattle.spec.specs.Lists.{if}
use Rattle.spec.specs.Forms.{wide_in, announced, Entry, entry, Sort, HEAD, BLOCK, WAY, RECORD, UNKNOWN, sort}
use Rattle.spec.specs.Reader.{Piece, whole, cut, sevens}
use Rattle.spec.specs.BadEntries.{Whole, block_in, record_in}
use Rattle.spec.specs.Salvage.{of_run, runs as runs_on, first_map}
use Rattle.laws.proofs.Branch.{both, if-true, if-false, and-false}
use Rattle.theorems.proofs.ReaderPlaces.{never}
use Rattle.theorems.proofs.ReaderSplit.{body-long}
use Rattle.theorems.proofs.SalvageEnds.{whole-first, cut-first, none_first}
use Rattle.theorems.proofs.SalvageOnePass.{own, own-sevens}
use Rattle.reader.specs.Shapes.{from, way?, leads_way, lead_at, seven_at, behind_at, shape, entry_at}
use Rattle.reader.specs.Classes.{class_of, step_of, stopped_of, block_inside, record_inside}
use Rattle.reader.specs.Scanning.{turn_to, turn_of}
use Rattle.reader.specs.declared.lead.Lead.{Lead}
use Rattle.reader.specs.declared.class.Class.{Class}
use Rattle.reader.specs.declared.class.Order.{Order}
use Rattle.reader.specs.declared.class.Order.TheVariants.{Blocks, Sevens, Records}
use Rattle.reader.specs.declared.scan.Scan.{Scan}
use Rattle.reader.proofs.Onward.{split_from, from-whole, from_cut, from_end}
use Rattle.reader.proofs.Judging.{entry_whole, behind-whole, entry-cut}
use Rattle.salvage.specs.Promises.{running, runs, over_of}
use Rattle.salvage.proofs.Sorted.{Told, told}

-- ---- two byte strings with the same entry at an offset

module _ (b c : List ℕ) (at : ℕ) where
  pub record SameAt (qs : List Piece) : Type 0 where
    pub there : at < length c
    pub whole-there : Whole (drop at c)
    pub entry-is : entry (drop at c) ≡ entry (drop at b)
    pub behind-is : behind_at c at ≡ behind_at b at
    pub rest_is : from c (behind_at b at) ≡ qs

  pub whole_same : Whole (drop at b) → {qs : List Piece} → from c at ≡ whole at (entry (drop at b)) ∷ qs → SameAt qs
  whole_same w {qs} q =
      let v : Whole (drop at c) = whole-first (split_from c at) q in
      let same = sym (from-whole c at v) ∙ q in
      let e : entry (drop at c) ≡ entry (drop at b) = cc in
      let left : from c (at + (6 + announced (drop at c))) ≡ qs = cc in
      let a : announced (drop at c) ≡ announced (drop at b) = sym (body-long (drop at c) v) ∙ ap (λ (x : Entry). length x.body) e ∙ body-long (drop at b) w in
      let to : behind_at b at ≡ at + (6 + announced (drop at c)) = behind-whole b at w ∙ ap (λ (k : ℕ). at + (6 + k)) (sym a) in
      record {
        there = omega (arith, length-drop at c);
        whole-there = v;
        entry-is = e;
        behind-is = behind-whole c at v ∙ sym to;
        rest_is = ap (from c) to ∙ left;
      }

  -- in one family it is the code's same entry
  pub same-entry : wide_in c ≡ wide_in b → Whole (drop at b) → {qs : List Piece} → SameAt qs → entry_at c at ≡ entry_at b at
  same-entry f w z =
      entry_whole c at z.whole-there ∙ ap₂ (λ (wide : Bool) (x : Entry). shape (at + 6) (sort wide x.kind) x.body) f z.entry-is ∙ sym (entry_whole b at w)

-- ---- when a map is over

counts-met : (n m x y : ℕ) → eqb (n - x + (m - y)) 0 ≡ leb n x && leb m y
counts-met n m x y = by_tests (leb n x) refl (leb m y) refl
  where
    by_tests : (c : Bool) → leb n x ≡ c → (d : Bool) → leb m y ≡ d → eqb (n - x + (m - y)) 0 ≡ c && d
    by_tests true p true q = eq-eqb (n - x + (m - y)) 0 (omega (arith, leb-true n x p, leb-true m y q))
    by_tests true p false q = ne_eqb (n - x + (m - y)) 0 (λ (e : n - x + (m - y) ≡ 0). omega (arith, leb-false m y q))
    by_tests false p d q = ne_eqb (n - x + (m - y)) 0 (λ (e : n - x + (m - y) ≡ 0). omega (arith, leb-false n x p))

of_run-is : (s : Sort) (r : Bool) → of_run s r ≡ r && way? s
of_run-is HEAD r = sym (and-false r refl)
of_run-is (BLOCK x) r = sym (and-false r refl)
of_run-is (WAY missing) true = refl
of_run-is (WAY missing) false = refl
of_run-is (RECORD to missing) r = sym (and-false r refl)
of_run-is UNKNOWN r = sym (and-false r refl)

and_assoc : (x y z : Bool) → x && (y && z) ≡ (x && y) && z
and_assoc true y z = refl
and_assoc false y z = refl

module _ (b : List ℕ) (at : ℕ) where
  seven-whole : Whole (drop at b) → seven_at b at ≡ way? (sort (wide_in b) (entry (drop at b)).kind)
  unfolding seven_at lead_at
  seven-whole w = ap (leads_way (wide_in b)) (if-true (leb (6 + announced (drop at b)) (length (drop at b))) _ _ (le-leb _ _ w))

  seven-cut : (Whole (drop at b) → ⊥) → seven_at b at ≡ false
  unfolding seven_at lead_at
  seven-cut n = both (λ (l : Option Lead). leads_way (wide_in b) l ≡ false) (leb (6 + announced (drop at b)) (length (drop at b))) (λ y. absurd (n (leb-true _ _ y))) (λ _. refl)

-- ---- the scan of the first map

module _ (b : List ℕ) where
  abbrev mine : List ℕ
  mine = first_map b

  -- the entries that are left are the map's own
  abbrev pub Owns : ℕ → ℕ → Scan → Type 0
  Owns n m s = from mine s.at ≡ own (wide_in b) (n - s.blocks) (m - s.records) (running s.place) (from b s.at)

  module _ (family : wide_in mine ≡ wide_in b) (n m : ℕ) (s : Scan) (o : Owns n m s) where
    abbrev at : ℕ
    at = s.at

    abbrev here : Entry
    here = entry (drop at b)

    -- what the counts and the next entry say
    abbrev met : Bool
    met = leb n s.blocks && leb m s.records

    left_over : at < length b → over_of b s n m ≡ met && not (runs s.place b at)
    left_over h = ap (λ (x : Bool). x || (leb n s.blocks && (leb m s.records && not (runs s.place b at)))) (lt-leb _ _ h) ∙ and_assoc (leb n s.blocks) (leb m s.records) _

    whole-test : Whole (drop at b) → at < length b
        → eqb (n - s.blocks + (m - s.records)) 0 && not (of_run (sort (wide_in b) here.kind) (running s.place)) ≡ over_of b s n m
    whole-test w h =
        ap₂ (λ (x y : Bool). x && not y) (counts-met n m s.blocks s.records)
        (of_run-is (sort (wide_in b) here.kind) (running s.place) ∙ ap (λ (x : Bool). running s.place && x) (sym (seven-whole b at w)))
        ∙ sym (left_over h)

    cut-test : (Whole (drop at b) → ⊥) → at < length b → eqb (n - s.blocks + (m - s.records)) 0 ≡ over_of b s n m
    cut-test v h =
        counts-met n m s.blocks s.records ∙ and-true met
        ∙ ap (λ (x : Bool). met && not x) (sym (ap (λ (x : Bool). running s.place && x) (seven-cut b at v) ∙ and-false (running s.place) refl))
        ∙ sym (left_over h)
      where
        and-true : (x : Bool) → x ≡ x && true
        and-true true = refl
        and-true false = refl

    abbrev later : List Piece
    later = own (wide_in b) (n - s.blocks - block_in (sort (wide_in b) here.kind)) (m - s.records - record_in (sort (wide_in b) here.kind)) (runs_on (sort (wide_in b) here.kind) (running s.place)) (from b (behind_at b at))

    own-whole : Whole (drop at b) → from mine at
        ≡ if (eqb (n - s.blocks + (m - s.records)) 0 && not (of_run (sort (wide_in b) here.kind) (running s.place))) [] (whole at here ∷ later)
    unfolding own
    own-whole w =
        o ∙ ap (own (wide_in b) (n - s.blocks) (m - s.records) (running s.place)) (from-whole b at w ∙ ap {B = List Piece} (λ (k : ℕ). whole at here ∷ from b k) (sym (behind-whole b at w)))

    own-cut : at < length b → (Whole (drop at b) → ⊥) → from mine at ≡ if (eqb (n - s.blocks + (m - s.records)) 0) [] (cut at ∷ [])
    unfolding own
    own-cut h v = o ∙ ap (own (wide_in b) (n - s.blocks) (m - s.records) (running s.place)) (from_cut b at h v)

    -- ---- where the map is over its bytes end

    none-own : over_of b s n m ≡ true → from mine at ≡ []
    unfolding own
    none-own t = by_left (dec_lt at (length b)) (dec_le (6 + announced (drop at b)) (length (drop at b)))
      where
        by_left : Dec (at < length b) → Dec (Whole (drop at b)) → from mine at ≡ []
        by_left (no l) d = o ∙ ap (own (wide_in b) (n - s.blocks) (m - s.records) (running s.place)) (from_end b at (omega arith))
        by_left (yes l) (yes w) = own-whole w ∙ if-true _ _ _ (whole-test w l ∙ t)
        by_left (yes l) (no v) = own-cut l v ∙ if-true _ _ _ (cut-test v l ∙ t)

    pub over-ends : over_of b s n m ≡ true → length mine ≤ s.at
    over-ends t = omega (arith, none_first (split_from mine at) (none-own t), length-drop at mine)

    -- ---- where it is not, the next entry is the map's own

    module _ (f : over_of b s n m ≡ false) where
      pub over-left : s.at < length b
      over-left = leb-false (length b) at (or_left (leb (length b) at) _ f)
        where
          or_left : (x y : Bool) → x || y ≡ false → x ≡ false
          or_left true y e = never (cc)
          or_left false y e = refl

      data Meets : Type 0 where
        entry-there : Whole (drop at b) → SameAt b mine at later → Meets
        cut-there : (Whole (drop at b) → ⊥) → at < length mine → (Whole (drop at mine) → ⊥) → Meets

      meets : Meets
      meets = by_whole (dec_le (6 + announced (drop at b)) (length (drop at b)))
        where
          by_whole : Dec (Whole (drop at b)) → Meets
          by_whole (yes w) = entry-there w (whole_same b mine at w (own-whole w ∙ if-false _ _ _ (whole-test w over-left ∙ f)))
          by_whole (no v) =
              let k = cut-first (split_from mine at) (own-cut over-left v ∙ if-false _ _ _ (cut-test v over-left ∙ f)) in
              cut-there v (omega (arith, length-drop at mine)) k.1

      pub own-there : s.at < length mine
      own-there = by-meets meets
        where
          by-meets : Meets → at < length mine
          by-meets (entry-there w z) = z.there
          by-meets (cut-there v l u) = l

      -- the scan turns as over the map alone
      stopped-same : (p : Order) → from mine at ≡ own (wide_in b) (n - s.blocks) (m - s.records) (running p) (from b at)
          → stopped_of p at (sevens (wide_in mine) (from mine at)) ≡ stopped_of p at (sevens (wide_in b) (from b at))
      stopped-same (Blocks low) e = refl
      stopped-same (Sevens low block left) e = ap (stopped_of (Sevens low block left) at) (ap₂ sevens family e ∙ own-sevens (wide_in b) (n - s.blocks) (m - s.records) (from b at))
      stopped-same (Records form) e = refl

      abbrev class-there : Option Class
      class-there = class_of (entry_at b at)

      pub same_turn : turn_of mine s ≡ turn_of b s
      unfolding turn_of
      same_turn = by-meets meets
        where
          to_same : behind_at mine at ≡ behind_at b at → (k : Option Class) (st : Option Order) → turn_to mine s k st ≡ turn_to b s k st
          to_same e k (Some p) = ap (λ (i : ℕ). Ok (record { at = i; place = p; blocks = s.blocks + block_inside k; records = s.records + record_inside k })) e
          to_same e k None = ap (λ (i : ℕ). Err (record { offset = i })) (stopped-same s.place o)

          by-class : entry_at mine at ≡ entry_at b at → turn_of mine s ≡ turn_to mine s class-there (step_of class-there s.place at)
          by-class e = ap (λ x. turn_to mine s (class_of x) (step_of (class_of x) s.place at)) e

          by-meets : Meets → turn_of mine s ≡ turn_of b s
          by-meets (entry-there w z) = by-class (same-entry b mine at family w z) ∙ to_same z.behind-is class-there (step_of class-there s.place at)
          by-meets (cut-there v l u) =
              by-class (entry-cut mine at u ∙ sym (entry-cut b at v))
              ∙ ap (λ x. turn_to mine s (class_of x) (step_of (class_of x) s.place at)) (entry-cut b at v)
              ∙ ap (λ (i : ℕ). Err (record { offset = i })) (stopped-same s.place o)
              ∙ sym (ap (λ x. turn_to b s (class_of x) (step_of (class_of x) s.place at)) (entry-cut b at v))

      -- and goes on among the map's entries
      pub owns-on : {t : Scan} → turn_of b s ≡ Ok t → Owns n m t
      unfolding turn_of
      owns-on {t} e = by-meets meets
        where
          fewer : (k : Option Class) → Told (sort (wide_in b) here.kind) k → (q : Order) → step_of k s.place at ≡ Some q
              → later ≡ own (wide_in b) (n - (s.blocks + block_inside k)) (m - (s.records + record_inside k)) (running q) (from b (behind_at b at))
          fewer k h q g =
              let x : n - s.blocks - block_in (sort (wide_in b) here.kind) ≡ n - (s.blocks + block_inside k) = omega (arith, h.blocks_are) in
              let y : m - s.records - record_in (sort (wide_in b) here.kind) ≡ m - (s.records + record_inside k) = omega (arith, h.records_are) in
              rw (x, y, h.run_is s.place q at g)

          by-step : SameAt b mine at later → Told (sort (wide_in b) here.kind) class-there → (st : Option Order) → step_of class-there s.place at ≡ st → turn_to b s class-there st ≡ Ok t → Owns n m t
          by-step z h (Some q) g r =
              let same : record { at = behind_at b at; place = q; blocks = s.blocks + block_inside class-there; records = s.records + record_inside class-there } ≡ t = cc in
              subst (Owns n m) same (z.rest_is ∙ fewer class-there h q g)
          by-step z h None g r = never (cc)

          not-bad : class-there ≡ None → ⊥
          not-bad z = let y : turn_to b s None None ≡ Ok t = sym (ap (λ (k : Option Class). turn_to b s k (step_of k s.place at)) z) ∙ e in never (cc)

          by-meets : Meets → Owns n m t
          by-meets (entry-there w z) =
              let h = entry_whole b at w in
              by-step z (subst (λ x. Told (sort (wide_in b) here.kind) (class_of x)) (sym h) (told (at + 6) here.body (sort (wide_in b) here.kind) (λ y. not-bad (ap class_of h ∙ y)))) (step_of class-there s.place at) refl e
          by-meets (cut-there v l u) = absurd (not-bad (ap class_of (entry-cut b at v)))

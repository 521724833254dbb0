-- What holds after `hand_all`: all that is reached by the records so far is flagged, and marked, as a new round has it. Assumes nothing.
use mathlib.Core.Path.{◌≡◌, refl, sym, ◌∙◌}
use mathlib.Core.Logic.{◌⊎◌, inl, inr}
use mathlib.Core.Bool.{Bool, true, false, not, ◌&&◌, ◌||◌}
use mathlib.Core.List.{List, [], ◌∷◌, ◌++◌, append-nil}
use Prim.Native.Nat.{ℕ, zero, suc, ◌+◌, ◌-◌, ◌≤◌, ◌<◌}
use native.Mathlib.Decide.{ℕ_discrete}
use native.Mathlib.Omega.{arith}
use lib.Dec.{eqb, ltb, leb}
use lib.ListN.{length, take}
use lib.Seq.{take_all, take-append-le}
use borrow.Author.Tests.{eq-eqb, ne_eqb, ltb-true, lt-ltb, le-leb}
use Rattle.spec.specs.Lists.{mem}
use Rattle.spec.specs.Search.{Rec, dest, dests, edges, reached_by}
use Rattle.laws.proofs.Branch.{both, if-true, if-false, and-false}
use Rattle.laws.proofs.Members.{in_mem, mem-in, in_right, and_both, and-true, or_right, or_cases, gather_append}
use Rattle.theorems.proofs.Reached.{seed, closure-complete}
use Rattle.lent.specs.Bytes.{num_at}
use Rattle.lent.proofs.Numbers.{num-suffix}
use Rattle.layout.specs.Fields.{FIRST-FOUND, LAST-FOUND, HIGHEST, mark_at}
use Rattle.layout.specs.Marks.{NOWHERE}
use Rattle.layout.specs.Parts.{fields_place, buckets_place, bucket_place}
use Rattle.layout.specs.Records.{to_at}
use Rattle.layout.specs.Buffers.{buffers}
use Rattle.tables.specs.Records.{found_at, rec_at, recs_of}
use Rattle.tables.specs.Tables.{SameLinks}
use Rattle.tables.proofs.Counted.{dest-if, recs-length}
use Rattle.tables.proofs.Uses.{tables-kept}
use Rattle.parents.proofs.Knows.{known-prefix}
use Rattle.reachable.specs.Marks.{flagged, marked_by}
use Rattle.reachable.specs.Edges.{row_edges}
use Rattle.reachable.proofs.Tests.{same_test, decided, mem-append}
use Rattle.reachable.proofs.Seeds.{closure-round, closure-members}
use Rattle.reachable.proofs.Frames.{num-in}
use Rattle.reachable.proofs.Rows.{node-edges}
use Rattle.reachable.proofs.Spreading.{room-but, within-but}
use Rattle.steps.specs.Runs.{recs_in}
use Rattle.enter.specs.Fits.{prepared_in}
use Rattle.resolver.specs.Turns.{Idle, dests_from, HandedAll}
use Rattle.steps.specs.declared.plan.Plan.{Plan}
use Rattle.steps.proofs.Helds.{helds-past}
use Rattle.steps.specs.Goings.{Gone}
use Rattle.resolver.proofs.Destinations.{dest_at, dests-more, dests-split}

-- ---- the destinations of the records, by their rows

module _ (r q s : List ℕ) (room : ℕ) where
  dest_of : (i : ℕ) → dest (rec_at r q s room i).to ≡ dest_at r i
  unfolding rec_at found_at
  dest_of i = dest-if (eqb (to_at r i) NOWHERE) (to_at r i) _

  dests-of : (m : ℕ) → dests (recs_of r q s room m) ≡ dests_from r 0 m
  unfolding recs_of dests_from
  dests-of zero = refl
  dests-of (suc m) =
      let e : 0 + m ≡ m = omega arith in
      gather_append (λ (x : Rec). dest x.to) (recs_of r q s room m) (rec_at r q s room m ∷ [])
      ∙ rw (dests-of m, append-nil (dest (rec_at r q s room m).to), dest_of m) (sym (rw e at (dests-more r 0 m)))

  recs-first : (j m : ℕ) → j ≤ m → take j (recs_of r q s room m) ≡ recs_of r q s room j
  unfolding recs_of
  recs-first j zero h = let e : j ≡ 0 = omega arith in rw e
  recs-first j (suc m) h = split (ℕ_discrete j (suc m)) (recs-first j m)
    where
      split : Dec (j ≡ suc m) → (j ≤ m → take j (recs_of r q s room m) ≡ recs_of r q s room j) → take j (recs_of r q s room (suc m)) ≡ recs_of r q s room j
      split (yes e) ih = rw e (take_all (suc m) (recs_of r q s room (suc m)) (omega (arith, recs-length r q s room (suc m))))
      split (no ne) ih = take-append-le j (recs_of r q s room m) (rec_at r q s room m ∷ []) (omega (arith, recs-length r q s room m)) ∙ ih (omega arith)

-- ---- marks: a test in numbers

marked : (m by : ℕ) → 0 < m → m ≤ by → ltb 0 m && leb m by ≡ true
marked m by l h = and-true (ltb 0 m) (leb m by) (lt-ltb 0 m l) (le-leb m by h)

-- ---- after `hand_all`

module _ {code : List ℕ} {k : Plan} {since : ℕ} {w p s t r q : List ℕ} {cur : Gone}
    (i : Idle code k (reached_by (prepared_in k code) (take since (recs_in k (buffers w p s t r q) cur.counts))) since (buffers w p s t r q) cur)
    (f : (x : ℕ) → mem x (flagged w k.size) ≡ mem x (reached_by (prepared_in k code) (take since (recs_in k (buffers w p s t r q) cur.counts)))) where
  abbrev recs : List Rec
  recs = recs_in k (buffers w p s t r q) cur.counts

  abbrev records : ℕ
  records = cur.counts.records

  same_edges : row_edges w k.size ≡ edges (prepared_in k code)
  same_edges = node-edges w k.size (prepared_in k code) (rw i.planned.is i.known.blocks)

  -- the older records' destinations, and the others'
  dests-parts : dests recs ≡ dests (take since recs) ++ dests_from r since (records - since)
  dests-parts =
      let e : since + (records - since) ≡ records = omega (arith, i.began) in
      let z : 0 + since ≡ since = omega arith in
      dests-of r q s k.rooms.s records
      ∙ rw (recs-first r q s k.rooms.s since records i.began, dests-of r q s k.rooms.s since) (rw (e, z) at (dests-split r 0 since (records - since)))

  module _ {w' : List ℕ} (e : HandedAll k.size w r since cur.counts.records w') where
    pub renew-flags : (x : ℕ) → mem x (flagged w' k.size) ≡ mem x (reached_by (prepared_in k code) recs)
    renew-flags x =
        e.reached x
        ∙ rw same_edges
        (closure-round (edges (prepared_in k code)) (dests_from r since (records - since)) (0 ∷ dests (take since recs)) (flagged w k.size) f x
        ∙ closure-members (edges (prepared_in k code)) (dests_from r since (records - since) ++ 0 ∷ dests (take since recs)) (0 ∷ dests recs) members x)
      where
        swap : (a b c : Bool) → b || (a || c) ≡ a || (c || b)
        swap true true c = refl
        swap true false c = refl
        swap false true true = refl
        swap false true false = refl
        swap false false true = refl
        swap false false false = refl

        members : (y : ℕ) → mem y (dests_from r since (records - since) ++ 0 ∷ dests (take since recs)) ≡ mem y (0 ∷ dests recs)
        members y =
            rw (dests-parts, mem-append y (dests_from r since (records - since)) (0 ∷ dests (take since recs)), mem-append y (dests (take since recs)) (dests_from r since (records - since)))
            (swap (eqb y 0) (mem y (dests_from r since (records - since))) (mem y (dests (take since recs))))

    -- a number that is a destination so far is reached, and so is one that was
    dest-reached : (a : ℕ) → mem a (dests recs) ≡ true → mem a (reached_by (prepared_in k code) recs) ≡ true
    dest-reached a h = closure-complete (edges (prepared_in k code)) (0 ∷ dests recs) a (seed (or_right (eqb a 0) (mem a (dests recs)) h))

    was-reached : (a : ℕ) → mem a (flagged w k.size) ≡ true → mem a (flagged w' k.size) ≡ true
    was-reached a h =
        e.reached a
        ∙ closure-complete (row_edges w k.size) (dests_from r since (records - since) ++ flagged w k.size) a
        (seed (in_mem a (in_right (dests_from r since (records - since)) (mem-in a (flagged w k.size) h))))

    all-taken : take records recs ≡ recs
    all-taken = recs-first r q s k.rooms.s records records (omega arith)

    marks-before : (a : ℕ) → a ≤ k.size → marked_by w k.size a (records + 1) ≡ mem a (flagged w k.size) || mem a (dests recs)
    marks-before a h = i.marks.by records i.began (omega (arith, recs-length r q s k.rooms.s records)) a h ∙ rw (f a, all-taken)

    -- an address has a mark if and only if it is flagged
    mark-flag : (a : ℕ) → a ≤ k.size → marked_by w' k.size a (records + 1) ≡ mem a (flagged w' k.size)
    mark-flag a h = same_test (to (decided (mem a (flagged w' k.size)))) (from (ℕ_discrete (mark_at w k.size a) 0))
      where
        to : (mem a (flagged w' k.size) ≡ true) ⊎ (mem a (flagged w' k.size) ≡ false) → marked_by w' k.size a (records + 1) ≡ true → mem a (flagged w' k.size) ≡ true
        to (inl y) m = y
        to (inr off) m =
            let same : mark_at w' k.size a ≡ mark_at w k.size a = e.marks a h ∙ if-false _ _ _ (rw off) in
            let before : marked_by w k.size a (records + 1) ≡ true = rw same at m in
            either (or_cases (mem a (flagged w k.size)) (mem a (dests recs)) (sym (marks-before a h) ∙ before))
          where
            either : (mem a (flagged w k.size) ≡ true) ⊎ (mem a (dests recs) ≡ true) → mem a (flagged w' k.size) ≡ true
            either (inl y) = was-reached a y
            either (inr y) = renew-flags a ∙ dest-reached a y

        from : Dec (mark_at w k.size a ≡ 0) → mem a (flagged w' k.size) ≡ true → marked_by w' k.size a (records + 1) ≡ true
        from (no ne) y =
            let same : mark_at w' k.size a ≡ mark_at w k.size a = e.marks a h ∙ if-false _ _ _ (and-false (mem a (flagged w' k.size) && not (mem a (flagged w k.size))) (ne_eqb _ 0 ne)) in
            rw same (marked (mark_at w k.size a) (records + 1) (omega (arith, ne)) (omega (arith, i.marks.most a h, recs-length r q s k.rooms.s records)))
        from (yes z) y =
            let new : mark_at w' k.size a ≡ records + 1 = e.marks a h ∙ if-true _ _ _ (rw (y, fresh (decided (mem a (flagged w k.size))), eq-eqb _ 0 z)) in
            rw new (marked (records + 1) (records + 1) (omega arith) (omega arith))
          where
            fresh : (mem a (flagged w k.size) ≡ true) ⊎ (mem a (flagged w k.size) ≡ false) → mem a (flagged w k.size) ≡ false
            fresh (inr off) = off
            fresh (inl on) =
                let m : marked_by w k.size a (records + 1) ≡ true = marks-before a h ∙ rw on in
                absurd (omega (arith, z, ltb-true 0 (mark_at w k.size a) (and_both (ltb 0 (mark_at w k.size a)) _ m).0))

    -- the fields of others stay
    num-fields : (n a o : ℕ) → a ≤ k.size → FIRST-FOUND ≤ o → o + n ≤ HIGHEST → num_at n w' (fields_place k.size a + o) ≡ num_at n w (fields_place k.size a + o)
    num-fields n a o h l m = num-in w' w 12 (fields_place k.size a + FIRST-FOUND) (e.kept.fields a h) n (fields_place k.size a + o) (omega arith) (omega arith)

    links-kept : SameLinks k.size k.buckets w w'
    links-kept = record {
      firsts = λ a h. num-fields 4 a FIRST-FOUND h (omega arith) (omega arith);
      lasts = λ a h. num-fields 4 a LAST-FOUND h (omega arith) (omega arith);
      heads = λ h l. num-suffix w' w (buckets_place k.size) e.kept.beyond 4 (bucket_place k.size h) (omega arith);
      long = e.kept.long;
    }

    pub renewed : Idle code k (reached_by (prepared_in k code) recs) records (buffers w' p s t r q) cur
    renewed = record {
      planned = record {
        is = i.planned.is;
        limit = i.planned.limit;
        moded = i.planned.moded;
        lent_w = room-but e.kept i.planned.lent_w;
        ends = omega (arith, i.planned.ends, e.kept.long);
        scratch = i.planned.scratch;
        helds = helds-past (buckets_place k.size) (omega arith) e.kept.beyond e.kept.long i.planned.helds;
        lent_p = i.planned.lent_p;
        most_p = i.planned.most_p;
        shelves = i.planned.shelves;
      };
      tables = tables-kept i.tables w' s links-kept refl refl cur.counts.used cur.counts.rows i.tables.within.fits_s;
      remembers = i.remembers;
      known = known-prefix w' (rw i.planned.is at (sym e.kept.rows)) i.known;
      began = omega arith;
      marks = record { by = by; most = most; high = e.high };
      sound = i.sound;
      counts = record { counts = λ a h. num-fields 4 a 12 h (omega arith) (omega arith) ∙ i.counts.counts a h };
      unused = i.unused;
      rowless = i.rowless;
      within = within-but e.kept i.within;
      closed = e.closed;
      unrefused = i.unrefused;
      energy = i.energy;
      dests_in = λ a h. dest-reached a (rw all-taken at h);
    }
      where
        by : (j : ℕ) → records ≤ j → j ≤ length recs → (a : ℕ) → a ≤ k.size
            → marked_by w' k.size a (j + 1) ≡ mem a (reached_by (prepared_in k code) recs) || mem a (dests (take j recs))
        by j l m a h =
            let is : j ≡ records = omega (arith, recs-length r q s k.rooms.s records) in
            rw (is, all-taken) (mark-flag a h ∙ renew-flags a ∙ absorb (mem a (reached_by (prepared_in k code) recs)) (mem a (dests recs)) (dest-reached a))
          where
            absorb : (x y : Bool) → (y ≡ true → x ≡ true) → x ≡ x || y
            absorb true y g = refl
            absorb false true g = g refl
            absorb false false g = refl

        most : (a : ℕ) → a ≤ k.size → mark_at w' k.size a ≤ length recs + 1
        most a h =
            rw (e.marks a h)
            (both (λ (m : ℕ). m ≤ length recs + 1) _ (λ _. omega (arith, recs-length r q s k.rooms.s records)) (λ _. i.marks.most a h))

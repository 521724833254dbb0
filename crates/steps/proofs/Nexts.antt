-- The parent at a level's cursor, and what is left after it. Assumes nothing.
use mathlib.Core.Path.{◌≡◌, refl, sym, ap, ◌∙◌, subst}
use mathlib.Core.List.{List, [], ◌∷◌, ◌++◌, map}
use Prim.Native.Nat.{ℕ, zero, suc, ◌+◌, ◌-◌, ◌*◌, ◌≤◌, ◌<◌}
use native.Mathlib.Decide.{dec_lt}
use native.Mathlib.Omega.{arith}
use lib.ListN.{length, take, drop, take-append-drop, drop_of_length-le}
use Rattle.spec.specs.Lists.{last_of}
use Rattle.spec.specs.Search.{Parent, parent, found, Rec}
use Rattle.spec.specs.Rooms.{or_else, longest}
use Rattle.lent.specs.Bytes.{num_at}
use Rattle.state.specs.Cells.{State}
use Rattle.tables.specs.Addrs.{addrs}
use Rattle.tables.specs.Chains.{following}
use Rattle.layout.specs.Records as records
use Rattle.tables.specs.Records.{path_at, rec_at, recs_of, Row}
use Rattle.tables.specs.Tables.{mem, recs, Tables, Goes, leads_nowhere, leads}
use Rattle.tables.specs.declared.Rooms.{Rooms}
use Rattle.tables.specs.declared.Counts.{Counts}
use Rattle.tables.proofs.Addrs.{addrs-length}
use Rattle.tables.proofs.Chains.{following-is}
use Rattle.tables.proofs.Counted.{recs-length}
use Rattle.layout.specs.Rows as rows
use Rattle.parents.specs.Links.{Parents}
use Rattle.parents.proofs.Chains.{walk-parents, small-parents, parents-prefix}
use Rattle.parents.specs.Links.{Comes}
use Rattle.parents.proofs.Knows.{parent_of}
use Rattle.laws.proofs.Members.{In, here, there, in-only, in_right}
use Rattle.laws.proofs.Lists.{Rising, one_more}
use Rattle.steps.specs.Cursors.{clipped, up_to, next_cursor, path_cursor, last_cursor, stack_cursor, Cursor, Asks, found_to, LeadsTo, DirectParent, Left, none_left, direct_left, found_left}
use Rattle.layout.specs.Fields.{first_found_at}
use Rattle.layout.specs.Marks.{NOWHERE}
use Rattle.layout.specs.Parts.{rows_end, SameRows}
use Rattle.layout.specs.Records.{to_at, end_of, kept_of}
use Rattle.layout.specs.Rows.{start_of}
use Rattle.steps.specs.Paths.{Inside}
use Rattle.steps.specs.Sound.{SoundRecs}
use Rattle.steps.proofs.Clips.{clip-some}
use Rattle.steps.proofs.Founds.{state_at, recs-from, recs-take, rec-here, rec-to, leads-here, following-left}
use Rattle.steps.proofs.Cursors.{LeftUpTo, or_left, direct-rows, all_found, direct-path, direct-last, direct-stack, direct-next, found-path, found-last, found-stack, found-next, fuel, fuel-falls, link-rises, up-rises, or-rises}

-- ---- the last of some addresses

pub last-addrs : (q : List ℕ) (a m : ℕ) → last_of (addrs q a (suc m)) ≡ num_at 2 q (2 * (a + m))
unfolding addrs
last-addrs q a zero = let e : a + 0 ≡ a = omega arith in rw e
last-addrs q a (suc m) = let e : a + 1 + m ≡ a + suc m = omega arith in last-addrs q (a + 1) m ∙ ap (λ (x : ℕ). num_at 2 q (2 * x)) e

last-in : (xs : List ℕ) → 1 ≤ length xs → In (last_of xs) xs
last-in [] l = absurd (omega arith)
last-in (x ∷ []) l = here
last-in (x ∷ y ∷ ys) l = there (last-in (y ∷ ys) (omega arith))

module _ (r q : List ℕ) (i : ℕ) where
  path-length : length (path_at r q i) ≡ end_of r (suc i) - end_of r i
  unfolding path_at
  path-length = addrs-length q (end_of r i) (end_of r (suc i) - end_of r i)

  path-last : 1 ≤ length (path_at r q i) → last_of (path_at r q i) ≡ num_at 2 q (2 * (end_of r (suc i) - 1))
  unfolding path_at
  path-last l =
      let m : ℕ = end_of r (suc i) - end_of r i - 1 in
      let e : end_of r (suc i) - end_of r i ≡ suc m = omega (arith, path-length) in
      let f : end_of r i + m ≡ end_of r (suc i) - 1 = omega (arith, path-length) in
      ap (λ (x : ℕ). last_of (addrs q (end_of r i) x)) e ∙ last-addrs q (end_of r i) m ∙ ap (λ (x : ℕ). num_at 2 q (2 * x)) f

-- ---- the parent in hand, and what is left after it

pub record DirectNext (code r q : List ℕ) (n at : ℕ) : Type 0 where
  pub comes : Comes code (start_of at)
  pub start : start_of at ≤ n
  pub path : path_cursor r q at ≡ start_of at ∷ []

-- a found one is a record of those that were there when the level opened, and is one of the m that are there now
pub record FoundNext (mode : ℕ) (code r q s : List ℕ) (n b room m : ℕ) (rs : List Rec) (at : ℕ) : Type 0 where
  pub below : at - 0x10000 < m
  pub to : to_at r (at - 0x10000) ≤ n
  pub row : Row r q (at - 0x10000)
  pub state : State s (9 * (room - kept_of r (suc (at - 0x10000)))) (kept_of r (suc (at - 0x10000)) - kept_of r (at - 0x10000))
  pub long : 2 ≤ length (path_cursor r q at)
  pub rec : Rec
  pub there : In rec rs
  pub path : rec.path ≡ path_cursor r q at
  pub goes : rec.to ≡ found b (stack_cursor mode code r s room at)

pub record NextLeft (mode : ℕ) (code w r q s : List ℕ) (n b opened high room m : ℕ) (rs : List Rec) (at : ℕ) (ps : List Parent) : Type 0 where
  pub rest : List Parent
  pub is : ps ≡ parent b (path_cursor r q at) (stack_cursor mode code r s room at) ∷ rest
  pub next : LeftUpTo mode code w n b rs high (next_cursor w r n b opened high at) rest
  pub falls : fuel (next_cursor w r n b opened high at) < fuel at
  pub cursor : Cursor w r n b at
  pub asks : Asks r q at
  pub last : last_of (path_cursor r q at) ≡ last_cursor r q at
  pub last_inside : last_cursor r q at ≤ n
  pub inside : Inside n (path_cursor r q at)
  pub some : 1 ≤ length (path_cursor r q at)
  pub direct : at < 0x10000 → DirectNext code r q n at
  pub found : 0x10000 ≤ at → FoundNext mode code r q s n b room m rs at

module _ (mode : ℕ) (code : List ℕ) {w r q s : List ℕ} {n buckets : ℕ} {k : Rooms} {c : Counts} (t : Tables n buckets k (mem w r q s) c) (short : n ≤ longest) (lent : rows_end n ≤ length w)
    (b : ℕ) (inside : b ≤ n) (opened high : ℕ) (most : opened ≤ c.records) where
  -- the records that were there
  abbrev rs : List Rec
  rs = recs_of r q s k.s opened

  abbrev Next : ℕ → List Parent → Type 0
  Next at ps = NextLeft mode code w r q s n b opened high k.s c.records rs at ps

  -- a direct one
  from-direct : (at lo : ℕ) {more : List ℕ} → 1 ≤ at → at < 0x10000 → start_of at ≤ n → Parents w n b (rows.next_at w b at) more → Rising lo (start_of at ∷ more)
      → ((a : ℕ) → In a (start_of at ∷ more) → DirectParent code w n b a)
      → Next at (map (parent_of mode code b) (start_of at ∷ more) ++ found_to b rs)
  from-direct at lo {more} some l start p (one_more _ h) comes =
      record {
        rest = map (parent_of mode code b) more ++ found_to b rs;
        is = rw (path, direct-stack at l mode code r s k.s);
        next = rw next (or_left high (rows.next_at w b at) p h (λ a i. comes a (there i)) (all_found mode code t b inside opened most));
        falls =
            rw next
            (fuel-falls at (or_else (up_to high (rows.next_at w b at)) (clipped opened (first_found_at w n b))) (λ e. omega arith) (omega arith)
            (or-rises at (up_to high (rows.next_at w b at)) (clipped opened (first_found_at w n b)) (λ d. omega (arith, up-rises high p h d)) (λ d. omega (arith, clip-some opened (first_found_at w n b) d))));
        cursor = record { some = some; direct = λ _. omega arith; rises = λ _ d. omega (arith, link-rises p h d); found = λ z. absurd (omega arith) };
        asks = record { some = some; row = λ z. absurd (omega arith); path = λ z. absurd (omega arith) };
        last = ap last_of path ∙ sym last;
        last_inside = rw last start;
        inside = rw path (record { each = λ a i. omega (arith, in-only i) });
        some = rw path (omega arith);
        direct = λ _. record { comes = (comes (start_of at) here).comes; start = start; path = path };
        found = λ z. absurd (omega arith);
      }
    where
      path : path_cursor r q at ≡ start_of at ∷ []
      path = direct-path at l r q

      last : last_cursor r q at ≡ start_of at
      last = direct-last at l r q

      next : next_cursor w r n b opened high at ≡ or_else (up_to high (rows.next_at w b at)) (clipped opened (first_found_at w n b))
      next = direct-next at l w r n b opened high

  -- a found one: record i leads to b
  module _ (i : ℕ) (l : LeadsTo b rs i) where
    leads-below : i < opened
    leads-below = go (dec_lt i opened)
      where
        go : Dec (i < opened) → i < opened
        go (yes h) = h
        go (no h) =
            let e = drop_of_length-le rs {i = i} (omega (arith, recs-length r q s k.s opened)) in
            let f = l.is in
            let z : ◌≡◌ {A = ℕ} 0 1 = cc in
            absurd (omega arith)

    leads_to : to_at r i ≡ b
    leads_to = rec-to r q s k.s b i (ap (λ (x : Rec). x.to) (same l.is (recs-from r q s k.s opened i leads-below)) ∙ l.to)
      where
        same : {xs : List Rec} {x y : Rec} {ys zs : List Rec} → xs ≡ x ∷ ys → xs ≡ y ∷ zs → y ≡ x
        same e f = cc

    leads-in : In (rec_at r q s k.s i) rs
    leads-in =
        subst (In (rec_at r q s k.s i)) (take-append-drop i rs)
        (in_right (take i rs) (rw (recs-from r q s k.s opened i leads-below) here))

    leads-next : records.next_at r i ≡ following (to_at r) b (suc i) c.records
    leads-next =
        t.parents.nexts i (omega (arith, leads-below)) (omega (arith, leads_to)) ∙ ap (λ (x : ℕ). following (to_at r) x (suc i) c.records) leads_to

    leads-state : State s (9 * (k.s - kept_of r (suc i))) (kept_of r (suc i) - kept_of r i)
    leads-state = go (t.goes i (omega (arith, leads-below)))
      where
        go : Goes n k.s r s i → State s (9 * (k.s - kept_of r (suc i))) (kept_of r (suc i) - kept_of r i)
        go (leads_nowhere e z) = absurd (omega (arith, leads_to, t.few))
        go (leads e x) = x

    leads-rises : (clipped opened (records.next_at r i) ≡ 0 → ⊥) → 0x10000 + i < clipped opened (records.next_at r i)
    leads-rises d =
        let e = clip-some opened (records.next_at r i) d in
        let f : following (to_at r) b (suc i) c.records ≡ suc (records.next_at r i - 1) = omega (arith, leads-next) in
        omega (arith, (following-is (to_at r) b (suc i) c.records (records.next_at r i - 1) f).from)

  from_found : (at : ℕ) → 0x10000 ≤ at → SoundRecs n rs → LeadsTo b rs (at - 0x10000)
      → Next at (found_to b (drop (at - 0x10000) rs))
  unfolding rec_at
  from_found at l sound h =
      record {
        rest = found_to b (drop (suc i) rs);
        is =
            ap (found_to b) (recs-from r q s k.s opened i below) ∙ leads-here r q s k.s b i (drop (suc i) rs) few to
            ∙ rw (path, stack);
        next = record {
          rest = found_to b (drop (suc i) rs);
          left = rw (next, leads-next i h) (following-left r q s k.s b opened mode code w n c.records few most (suc i) (omega (arith, below)));
          passes = λ f e. refl;
        };
        falls = rw next (fuel-falls at (clipped opened (records.next_at r i)) (λ e. omega arith) (omega (arith, below, t.within.fits_r, t.within.most_r)) (λ d. omega (arith, leads-rises i h d)));
        cursor = record { some = omega arith; direct = λ z. absurd (omega arith); rises = λ z. absurd (omega arith); found = λ _. row.in_r };
        asks = record { some = omega arith; row = λ _. row.in_r; path = λ _. (omega (arith, long, path-length r q i), row.in_q) };
        last = ap last_of path ∙ path-last r q i (omega (arith, long)) ∙ sym last;
        last_inside = rw (last, ← path-last r q i (omega (arith, long))) (inside-path.each (last_of (path_at r q i)) (last-in (path_at r q i) (omega (arith, long))));
        inside = rw path inside-path;
        some = rw path (omega (arith, long));
        direct = λ z. absurd (omega arith);
        found = λ _. record {
          below = omega (arith, below);
          to = omega (arith, to);
          row = row;
          state = leads-state i h;
          long = rw path long;
          rec = rec_at r q s k.s i;
          there = leads-in i h;
          path = sym path;
          goes = rw stack (rec-here r q s k.s b i few to);
        };
      }
    where
      i : ℕ
      i = at - 0x10000

      few : b < NOWHERE
      few = omega (arith, t.few)

      below : i < opened
      below = leads-below i h

      to : to_at r i ≡ b
      to = leads_to i h

      row : Row r q i
      row = t.rows i (omega (arith, below))

      long : 2 ≤ length (path_at r q i)
      long = (sound.each (rec_at r q s k.s i) (leads-in i h)).long

      inside-path : Inside n (path_at r q i)
      inside-path = (sound.each (rec_at r q s k.s i) (leads-in i h)).inside

      path : path_cursor r q at ≡ path_at r q i
      path = found-path at l r q

      stack : stack_cursor mode code r s k.s at ≡ state_at r s k.s i
      stack = found-stack at l mode code r s k.s

      last : last_cursor r q at ≡ num_at 2 q (2 * (end_of r (suc i) - 1))
      last = found-last at l r q

      next : next_cursor w r n b opened high at ≡ clipped opened (records.next_at r i)
      next = found-next at l w r n b opened high

  -- either
  from-left : {w₀ : List ℕ} {at : ℕ} {ps : List Parent} → SameRows n w₀ w → SoundRecs n rs
      → Left mode code w₀ n b rs at ps → (at ≡ 0 → ⊥) → Next at ps
  from-left e sound none_left d = absurd (d refl)
  from-left {w₀} e sound (direct_left {link} {lo} some p h comes) d =
      let g = walk-parents (parents-prefix w₀ w n (sym e) p) d in
      subst (λ (xs : List ℕ). Next link (map (parent_of mode code b) xs ++ found_to b rs)) (sym g.is)
      (from-direct link lo some (omega (arith, small-parents p)) g.inside g.later (rw g.is at h) (λ a i. direct-rows e (comes a (rw g.is i))))
  from-left e sound (found_left {i} h) d =
      let z : 0x10000 + i - 0x10000 ≡ i = omega arith in
      subst (λ (j : ℕ). Next (0x10000 + i) (found_to b (drop j rs))) z
      (from_found (0x10000 + i) (omega arith) sound (rw z h))

-- With the records as they were when the level opened, and the buffers as they are now.
pub next-left : {mode : ℕ} {code w₀ w r q s : List ℕ} {n b buckets at : ℕ} {k : Rooms} {c : Counts} {rs : List Rec} {ps : List Parent} (opened high : ℕ)
    → n ≤ longest → b ≤ n → rows_end n ≤ length w → Tables n buckets k (mem w r q s) c → SameRows n w₀ w
    → rs ≡ take opened (recs k (mem w r q s) c) → opened ≤ c.records → SoundRecs n rs → Left mode code w₀ n b rs at ps → (at ≡ 0 → ⊥)
    → NextLeft mode code w r q s n b opened high k.s c.records rs at ps
next-left {mode} {code} {w₀} {w} {r} {q} {s} {n} {b} {at = at} {k} {c} {rs} {ps} opened high short inside lent t e is most sound left d =
    go (is ∙ recs-take r q s k.s c.records opened most) sound left
  where
    go : rs ≡ recs_of r q s k.s opened → SoundRecs n rs → Left mode code w₀ n b rs at ps → NextLeft mode code w r q s n b opened high k.s c.records rs at ps
    go f x y = rw f (from-left mode code t short lent b inside opened high most e (rw f at x) (rw f at y) d)

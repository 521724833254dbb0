-- What the records depend on: the fields of R but for the links, the used addresses of Q, and the kept cells of S. Assumes nothing.
use Rattle.std.proofs.Common.{◌≡◌, ℕ, zero, suc, ◌-◌, ◌*◌, ◌<◌, ◌≤◌, eqb, List, length, take, drop, sym, refl, ap, ◌∙◌, arith, eq-eqb}
use native.Mathlib.Decide.{dec_lt}
use Rattle.spec.specs.Lists.{if}
use Rattle.spec.specs.Search.{nowhere, found}
use Rattle.lent.proofs.Parts.{part-suffix}
use Rattle.layout.specs.Marks.{NOWHERE}
use Rattle.layout.specs.Records.{to_at, end_of, kept_of}
use Rattle.state.specs.Cells.{stack_at, State, Lies}
use Rattle.state.proofs.States.{state-lies, lies_within}
use Rattle.tables.specs.Addrs.{path_sum}
use Rattle.tables.specs.Records.{path_at, found_at, rec_at, recs_of, Row}
use Rattle.tables.specs.Links.{SameRow}
use Rattle.tables.specs.Tables.{Goes, leads_nowhere, leads}
use Rattle.tables.proofs.Addrs.{addrs-prefix}

-- ---- the ends of paths and of kept states only grow

module _ {r q : List ℕ} {m : ℕ} (rows : (i : ℕ) → i < m → Row r q i) where
  pub ends-grow : (j i : ℕ) → i ≤ j → j ≤ m → end_of r i ≤ end_of r j
  ends-grow zero i l h = let e : i ≡ 0 = omega arith in rw e (omega arith)
  ends-grow (suc j) i l h = go (dec_lt i (suc j)) (ends-grow j i)
    where
      go : Dec (i < suc j) → (i ≤ j → j ≤ m → end_of r i ≤ end_of r j) → end_of r i ≤ end_of r (suc j)
      go (yes g) ih = omega (arith, ih (omega arith) (omega arith), (rows j (omega arith)).rises)
      go (no g) ih = let e : i ≡ suc j = omega arith in rw e (omega arith)

module _ {n room : ℕ} {r s : List ℕ} where
  pub kept-rises : (i : ℕ) → Goes n room r s i → kept_of r i ≤ kept_of r (suc i)
  kept-rises i (leads_nowhere e k) = omega arith
  kept-rises i (leads e t) = omega (arith, t.some)

  module _ {m : ℕ} (goes : (i : ℕ) → i < m → Goes n room r s i) where
    pub kept-grow : (j i : ℕ) → i ≤ j → j ≤ m → kept_of r i ≤ kept_of r j
    kept-grow zero i l h = let e : i ≡ 0 = omega arith in rw e (omega arith)
    kept-grow (suc j) i l h = go (dec_lt i (suc j)) (kept-grow j i)
      where
        go : Dec (i < suc j) → (i ≤ j → j ≤ m → kept_of r i ≤ kept_of r j) → kept_of r i ≤ kept_of r (suc j)
        go (yes g) ih = omega (arith, ih (omega arith) (omega arith), kept-rises j (goes j (omega arith)))
        go (no g) ih = let e : i ≡ suc j = omega arith in rw e (omega arith)

-- ---- rows that are the same say the same

module _ {r r' : List ℕ} {m : ℕ} (same : (i : ℕ) → i < m → SameRow r r' i) where
  pub ends_same : (i : ℕ) → i ≤ m → end_of r' i ≡ end_of r i
  unfolding end_of
  ends_same zero l = refl
  ends_same (suc i) l = (same i (omega arith)).ends

  pub kept_same : (i : ℕ) → i ≤ m → kept_of r' i ≡ kept_of r i
  unfolding kept_of
  kept_same zero l = refl
  kept_same (suc i) l = (same i (omega arith)).kept

  -- paths that lie within the first k addresses of Q
  module _ {q : List ℕ} (q' : List ℕ) (rows : (i : ℕ) → i < m → Row r q i) (k : ℕ) (ends : end_of r m ≤ k) (front : take (2 * k) q' ≡ take (2 * k) q) where
    pub path-same : (i : ℕ) → i < m → path_at r' q' i ≡ path_at r q i
    unfolding path_at
    path-same i l =
        rw (ends_same i (omega arith), ends_same (suc i) l)
        (addrs-prefix q' q k (end_of r i) (end_of r (suc i) - end_of r i) front (omega (arith, (rows i l).rises, ends-grow rows m (suc i) l (omega arith))))

    pub row_kept : length r ≤ length r' → length q ≤ length q' → (i : ℕ) → i < m → Row r' q' i
    row_kept lr lq i l =
        let o = rows i l in
        record {
          in_r = omega (arith, o.in_r);
          rises = rw (ends_same i (omega arith), ends_same (suc i) l) o.rises;
          in_q = omega (arith, o.in_q, ends_same (suc i) l);
          sum = (same i l).sum ∙ o.sum ∙ ap path_sum (sym (path-same i l));
        }

  -- states that lie in the last k cells of the room
  module _ {n room : ℕ} {s : List ℕ} (s' : List ℕ) (goes : (i : ℕ) → i < m → Goes n room r s i) (k : ℕ) (top : kept_of r m ≤ k) (fits : 9 * room ≤ length s') (most : k ≤ room)
      (back : drop (9 * (room - k)) s' ≡ drop (9 * (room - k)) s) where
    module _ (i : ℕ) (l : i < m) where
      at-end : kept_of r (suc i) ≤ k
      at-end = omega (arith, kept-grow goes m (suc i) l (omega arith))

      state-same : State s (9 * (room - kept_of r (suc i))) (kept_of r (suc i) - kept_of r i)
          → Lies s' (9 * (room - kept_of r (suc i))) (kept_of r (suc i) - kept_of r i) (stack_at s (9 * (room - kept_of r (suc i))) (kept_of r (suc i) - kept_of r i))
      state-same t =
          lies_within
          (sym (part-suffix s' s (9 * (room - k)) back (9 * (kept_of r (suc i) - kept_of r i)) (9 * (room - kept_of r (suc i))) (omega (arith, at-end))))
          (omega (arith, at-end))
          (state-lies s (9 * (room - kept_of r (suc i))) (kept_of r (suc i) - kept_of r i) t)

      pub goes_kept : Goes n room r' s' i
      goes_kept = go (goes i l)
        where
          go : Goes n room r s i → Goes n room r' s' i
          go (leads_nowhere e z) = leads_nowhere ((same i l).to ∙ e) (kept_same (suc i) l ∙ z ∙ sym (kept_same i (omega arith)))
          go (leads e t) = leads (rw (same i l).to e) (rw (kept_same (suc i) l, kept_same i (omega arith)) (state-same t).state)

      pub found-same : n < NOWHERE → found_at r' s' room i ≡ found_at r s room i
      unfolding found_at if
      found-same few = rw ((same i l).to, kept_same (suc i) l, kept_same i (omega arith)) (go (goes i l))
        where
          go : Goes n room r s i
              → if (eqb (to_at r i) NOWHERE) nowhere (found (to_at r i) (stack_at s' (9 * (room - kept_of r (suc i))) (kept_of r (suc i) - kept_of r i)))
              ≡ if (eqb (to_at r i) NOWHERE) nowhere (found (to_at r i) (stack_at s (9 * (room - kept_of r (suc i))) (kept_of r (suc i) - kept_of r i)))
          go (leads_nowhere e z) = rw (eq-eqb (to_at r i) NOWHERE e)
          go (leads e t) = rw (state-same t).is

-- ---- and so the records are the same

module _ {r r' q s : List ℕ} {n room m : ℕ} (q' s' : List ℕ) (few : n < NOWHERE) (same : (i : ℕ) → i < m → SameRow r r' i)
    (rows : (i : ℕ) → i < m → Row r q i) (goes : (i : ℕ) → i < m → Goes n room r s i)
    (a : ℕ) (ends : end_of r m ≤ a) (front : take (2 * a) q' ≡ take (2 * a) q)
    (k : ℕ) (top : kept_of r m ≤ k) (fits : 9 * room ≤ length s') (most : k ≤ room) (back : drop (9 * (room - k)) s' ≡ drop (9 * (room - k)) s) where
  rec-kept : (i : ℕ) → i < m → rec_at r' q' s' room i ≡ rec_at r q s room i
  unfolding rec_at
  rec-kept i l = rw ((same i l).start, found-same same s' goes k top fits most back i l few, path-same same q' rows a ends front i l, (same i l).energy)

  firsts : (j : ℕ) → j ≤ m → recs_of r' q' s' room j ≡ recs_of r q s room j
  unfolding recs_of
  firsts zero l = refl
  firsts (suc j) l = rw (firsts j (omega arith), rec-kept j l)

  pub recs-kept : recs_of r' q' s' room m ≡ recs_of r q s room m
  recs-kept = firsts m (omega arith)

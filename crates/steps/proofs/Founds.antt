-- The found parents of a block, from a record on: the chain in R passes over the records that lead elsewhere. Assumes nothing.
use mathlib.Core.Path.{◌≡◌, refl, sym, ap, ◌∙◌}
use mathlib.Core.Logic.{◌⊎◌, inl, inr}
use mathlib.Core.List.{List, [], ◌∷◌, ◌++◌}
use Prim.Native.Nat.{ℕ, zero, suc, ◌+◌, ◌-◌, ◌*◌, ◌≤◌, ◌<◌}
use native.Mathlib.Decide.{dec_lt}
use native.Mathlib.Omega.{arith}
use lib.Dec.{eqb}
use lib.ListN.{take, drop, length-append, drop_of_length-le}
use lib.Seq.{take_all, take-append-le, drop-append-le, drop_at}
use borrow.Author.Tests.{eq-eqb, ne_eqb}
use Rattle.spec.specs.Lists.{if, keep}
use Rattle.spec.specs.Stacks.{Stack}
use Rattle.spec.specs.Search.{Parent, parent, Found, found, Rec, leads, found_parents}
use Rattle.state.specs.Cells.{stack_at}
use Rattle.tables.specs.Chains.{following}
use Rattle.tables.specs.Records.{path_at, found_at, rec_at, recs_of}
use Rattle.tables.proofs.Chains.{Follower, ends, goes, follower}
use Rattle.tables.proofs.Orders.{below}
use Rattle.tables.proofs.Counted.{recs-length}
use Rattle.laws.proofs.Branch.{both}
use Rattle.layout.specs.Marks.{NOWHERE}
use Rattle.layout.specs.Records.{to_at, kept_of}
use Rattle.steps.specs.Cursors.{clipped, found_to, Left, none_left, found_left}
use Rattle.steps.proofs.Clips.{clip-none, clip-late, clip-there}

-- ---- the records one by one

-- the state that record i keeps
abbrev pub state_at : List ℕ → List ℕ → ℕ → ℕ → Stack
state_at r s room i = stack_at s (9 * (room - kept_of r (suc i))) (kept_of r (suc i) - kept_of r i)

module _ (r q s : List ℕ) (room : ℕ) where
  pub recs-from : (m i : ℕ) → i < m → drop i (recs_of r q s room m) ≡ rec_at r q s room i ∷ drop (suc i) (recs_of r q s room m)
  unfolding recs_of
  recs-from zero i l = absurd (omega arith)
  recs-from (suc m) i l = go (below m i l) (recs-from m i)
    where
      xs : List Rec
      xs = recs_of r q s room m

      go : (i < m) ⊎ (i ≡ m) → (i < m → drop i xs ≡ rec_at r q s room i ∷ drop (suc i) xs)
          → drop i (xs ++ rec_at r q s room m ∷ []) ≡ rec_at r q s room i ∷ drop (suc i) (xs ++ rec_at r q s room m ∷ [])
      go (inl h) ih =
          let e = recs-length r q s room m in
          rw (drop-append-le i xs (rec_at r q s room m ∷ []) (omega arith), ih h, drop-append-le (suc i) xs (rec_at r q s room m ∷ []) (omega arith))
      go (inr h) ih =
          let e = recs-length r q s room m in
          rw (h, drop_at xs (rec_at r q s room m ∷ []) m e)
          (ap {B = List Rec} (λ (l : List Rec). rec_at r q s room m ∷ l)
          (sym (drop_of_length-le (xs ++ rec_at r q s room m ∷ []) {i = suc m} (omega (arith, length-append xs (rec_at r q s room m ∷ []))))))

  pub recs-take : (m i : ℕ) → i ≤ m → take i (recs_of r q s room m) ≡ recs_of r q s room i
  unfolding recs_of
  recs-take zero i l = let e : i ≡ 0 = omega arith in rw e
  recs-take (suc m) i l = go (dec_lt i (suc m)) (recs-take m i)
    where
      go : Dec (i < suc m) → (i ≤ m → take i (recs_of r q s room m) ≡ recs_of r q s room i) → take i (recs_of r q s room m ++ rec_at r q s room m ∷ []) ≡ recs_of r q s room i
      go (yes h) ih =
          let e = recs-length r q s room m in
          take-append-le i (recs_of r q s room m) (rec_at r q s room m ∷ []) (omega arith) ∙ ih (omega arith)
      go (no h) ih = let e : i ≡ suc m = omega arith in rw e (take_all (suc m) _ (omega (arith, recs-length r q s room (suc m))))

  -- ---- where a record leads

  module _ (b i : ℕ) where
    found_here : b < NOWHERE → to_at r i ≡ b → found_at r s room i ≡ found b (state_at r s room i)
    unfolding found_at if
    found_here l e = rw (ne_eqb (to_at r i) NOWHERE (λ z. omega arith), e)

    pub rec-here : b < NOWHERE → to_at r i ≡ b → (rec_at r q s room i).to ≡ found b (state_at r s room i)
    unfolding rec_at
    rec-here l e = found_here l e

    pub rec-to : {x : Stack} → (rec_at r q s room i).to ≡ found b x → to_at r i ≡ b
    unfolding rec_at found_at
    rec-to {x} = both (λ (f : Found). f ≡ found b x → to_at r i ≡ b) (eqb (to_at r i) NOWHERE) (λ _ e. cc) (λ _ e. cc)

    skips : (p : List ℕ) (rest : List Rec) → (to_at r i ≡ b → ⊥) → keep (λ (x : Parent). eqb b x.to) (leads p (found_at r s room i) ++ found_parents rest) ≡ found_to b rest
    unfolding found_at if
    skips p rest d =
        both (λ (f : Found). keep (λ (x : Parent). eqb b x.to) (leads p f ++ found_parents rest) ≡ found_to b rest) (eqb (to_at r i) NOWHERE)
        (λ _. refl) (λ _. rw (ne_eqb b (to_at r i) (λ e. d (sym e))))

    leads-other : (rest : List Rec) → (to_at r i ≡ b → ⊥) → found_to b (rec_at r q s room i ∷ rest) ≡ found_to b rest
    unfolding rec_at
    leads-other rest d = skips (path_at r q i) rest d

    pub leads-here : (rest : List Rec) → b < NOWHERE → to_at r i ≡ b → found_to b (rec_at r q s room i ∷ rest) ≡ parent b (path_at r q i) (state_at r s room i) ∷ found_to b rest
    unfolding rec_at if
    leads-here rest l e = rw (found_here l e, eq-eqb b b refl)

  -- ---- from record i on, with the records that were there when the level opened

  module _ (b opened : ℕ) where
    abbrev rs : List Rec
    rs = recs_of r q s room opened

    passed : (d i j : ℕ) → j ≡ d + i → j ≤ opened → ((k : ℕ) → i ≤ k → k < j → to_at r k ≡ b → ⊥) → found_to b (drop i rs) ≡ found_to b (drop j rs)
    passed zero i j e l h = let z : i ≡ j = omega arith in rw z
    passed (suc d) i j e l h =
        ap (found_to b) (recs-from opened i (omega arith)) ∙ leads-other b i (drop (suc i) rs) (h i (omega arith) (omega arith))
        ∙ passed d (suc i) j (omega arith) l (λ k f. h k (omega arith))

    none_more : (i : ℕ) → i ≤ opened → ((k : ℕ) → i ≤ k → k < opened → to_at r k ≡ b → ⊥) → found_to b (drop i rs) ≡ []
    none_more i l h =
        passed (opened - i) i opened (omega arith) (omega arith) h
        ∙ ap (found_to b) (drop_of_length-le rs {i = opened} (omega (arith, recs-length r q s room opened)))

    module _ (mode : ℕ) (code w : List ℕ) (n m : ℕ) (few : b < NOWHERE) (most : opened ≤ m) where
      -- the first of them by the link to it, if it was there
      follows-left : (i x : ℕ) → i ≤ opened → Follower (to_at r) b i m x → Left mode code w n b rs (clipped opened x) (found_to b (drop i rs))
      follows-left i x l (ends e) =
          rw (sym (clip-none opened 0 refl), none_more i l (λ k f g. e.none k f (omega arith))) none_left
      follows-left i x l (goes {j} f) = go (dec_lt j opened)
        where
          go : Dec (j < opened) → Left mode code w n b rs (clipped opened (suc j)) (found_to b (drop i rs))
          go (yes h) =
              let e : suc j - 1 ≡ j = omega arith in
              rw (sym (clip-there opened (suc j) (λ z. omega arith) h), e, passed (j - i) i j (omega (arith, f.from)) (omega arith) f.first)
              (found_left (record { rec = rec_at r q s room j; rest = drop (suc j) rs; is = recs-from opened j h; state = state_at r s room j; to = rec-here b j few f.has }))
          go (no h) =
              rw (sym (clip-late opened (suc j) (omega arith)), none_more i l (λ k g a. f.first k g (omega arith))) none_left

      pub following-left : (i : ℕ) → i ≤ opened → Left mode code w n b rs (clipped opened (following (to_at r) b i m)) (found_to b (drop i rs))
      following-left i l = follows-left i _ l (follower (to_at r) b i m)

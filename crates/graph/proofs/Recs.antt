-- The records one by one: the i-th is among them, each of them is one, and what its row says is what it is. Assumes nothing.
use mathlib.Core.Path.{◌≡◌, refl, sym, ap, ◌∙◌}
use mathlib.Core.Bool.{Bool, true, false}
use mathlib.Core.Logic.{◌⊎◌, inl, inr}
use mathlib.Core.List.{List, [], ◌∷◌, ◌++◌, append_assoc}
use Prim.Native.Nat.{ℕ, zero, suc, ◌+◌, ◌-◌, ◌*◌, ◌≤◌, ◌<◌}
use native.Mathlib.Decide.{ℕ_discrete}
use native.Mathlib.Nat.{add-zero}
use native.Mathlib.Omega.{arith}
use lib.Dec.{eqb}
use lib.ListN.{length, drop}
use lib.Seq.{drop_at}
use borrow.Author.Tests.{eqb-true}
use Rattle.spec.specs.Lists.{if, last_of}
use Rattle.spec.specs.Stacks.{Stack}
use Rattle.spec.specs.Search.{nowhere, found, Rec}
use Rattle.laws.proofs.Members.{In, here, there, in_right, in-cases, in-only}
use Rattle.lent.specs.Bytes.{num_at}
use Rattle.layout.specs.Marks.{NOWHERE, to_number}
use Rattle.layout.specs.Records.{to_at, end_of}
use Rattle.tables.specs.Addrs.{addrs}
use Rattle.tables.specs.Records.{path_at, found_at, rec_at, recs_of}
use Rattle.tables.proofs.Addrs.{addrs-length}
use Rattle.tables.proofs.Counted.{recs-length}

-- ---- by their number

module _ (r q s : List ℕ) (room : ℕ) where
  rec-split : (m i : ℕ) → i < m → (rest : List Rec) × (recs_of r q s room m ≡ recs_of r q s room i ++ rec_at r q s room i ∷ rest)
  unfolding recs_of
  rec-split zero i h = absurd (omega arith)
  rec-split (suc m) i h = split (ℕ_discrete i m) (rec-split m i)
    where
      split : Dec (i ≡ m) → (i < m → (rest : List Rec) × (recs_of r q s room m ≡ recs_of r q s room i ++ rec_at r q s room i ∷ rest))
          → (rest : List Rec) × (recs_of r q s room m ++ rec_at r q s room m ∷ [] ≡ recs_of r q s room i ++ rec_at r q s room i ∷ rest)
      split (yes e) ih = ([], rw e)
      split (no e) ih =
          let g = ih (omega arith) in
          (g.0 ++ rec_at r q s room m ∷ [], rw g.1 (append_assoc (recs_of r q s room i) (rec_at r q s room i ∷ g.0) (rec_at r q s room m ∷ [])))

  pub rec-in : (m i : ℕ) → i < m → In (rec_at r q s room i) (recs_of r q s room m)
  rec-in m i h = rw (rec-split m i h).1 (in_right (recs_of r q s room i) here)

  pub in-rec : {x : Rec} (m : ℕ) → In x (recs_of r q s room m) → (i : ℕ) × (i < m) × (x ≡ rec_at r q s room i)
  unfolding recs_of
  in-rec zero j = elim j [ ]
  in-rec {x} (suc m) j = split (in-cases (recs_of r q s room m) j) (in-rec m)
    where
      split : In x (recs_of r q s room m) ⊎ In x (rec_at r q s room m ∷ []) → (In x (recs_of r q s room m) → (i : ℕ) × (i < m) × (x ≡ rec_at r q s room i))
          → (i : ℕ) × (i < suc m) × (x ≡ rec_at r q s room i)
      split (inl k) ih = let g = ih k in (g.0, omega (arith, g.1), g.2)
      split (inr k) ih = (m, omega arith, in-only k)

  pub rec-at : (m i : ℕ) → i < m → {x : Rec} {rest : List Rec} → drop i (recs_of r q s room m) ≡ x ∷ rest → x ≡ rec_at r q s room i
  rec-at m i h {x} {rest} e =
      let g = rec-split m i h in
      let f : x ∷ rest ≡ rec_at r q s room i ∷ g.0 =
      sym e ∙ ap (λ (l : List Rec). drop i l) g.1 ∙ drop_at (recs_of r q s room i) (rec_at r q s room i ∷ g.0) i (recs-length r q s room i) in
      cc

  -- ---- what the row says

  destination-if : (b : Bool) (t : ℕ) (k : Stack) → (b ≡ true → t ≡ NOWHERE) → to_number (if b nowhere (found t k)) ≡ t
  unfolding if
  destination-if true t k h = sym (h refl)
  destination-if false t k h = refl

  pub rec-destination : (i : ℕ) → to_number (rec_at r q s room i).to ≡ to_at r i
  unfolding rec_at found_at
  rec-destination i = destination-if (eqb (to_at r i) NOWHERE) (to_at r i) _ (eqb-true _ _)

-- ---- the last address of a path

last-of : (b : List ℕ) (k at : ℕ) → last_of (addrs b at (suc k)) ≡ num_at 2 b (2 * (at + k))
unfolding addrs
last-of b zero at = rw add-zero
last-of b (suc k) at = let e : at + 1 + k ≡ at + suc k = omega arith in last-of b k (at + 1) ∙ rw e

pub path-last : (r q : List ℕ) (i : ℕ) → end_of r i ≤ end_of r (suc i) → 0 < length (path_at r q i) → last_of (path_at r q i) ≡ num_at 2 q (2 * (end_of r (suc i) - 1))
unfolding path_at
path-last r q i h g =
    let long : length (addrs q (end_of r i) (end_of r (suc i) - end_of r i)) ≡ end_of r (suc i) - end_of r i = addrs-length q (end_of r i) (end_of r (suc i) - end_of r i) in
    let k : ℕ = end_of r (suc i) - end_of r i - 1 in
    let e : end_of r (suc i) - end_of r i ≡ suc k = omega (arith, long) in
    let f : end_of r i + k ≡ end_of r (suc i) - 1 = omega (arith, long) in
    ap (λ (c : ℕ). last_of (addrs q (end_of r i) c)) e ∙ last-of q k (end_of r i) ∙ ap (λ (c : ℕ). num_at 2 q (2 * c)) f

pub last-in : (xs : List ℕ) → 0 < length xs → In (last_of xs) xs
last-in [] h = absurd (omega arith)
last-in (x ∷ []) h = here
last-in (x ∷ y ∷ ys) h = there (last-in (y ∷ ys) (omega arith))

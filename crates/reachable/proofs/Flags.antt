-- The flagged addresses as a list: who is in it, how many there are, and one more. Assumes nothing.
use mathlib.Core.Path.{◌≡◌, refl, sym, ap, ◌∙◌}
use mathlib.Core.Bool.{Bool, true, false, not}
use mathlib.Core.List.{List, [], ◌∷◌}
use Prim.Native.Nat.{ℕ, zero, suc, ◌+◌, ◌≤◌, ◌<◌}
use native.Mathlib.Decide.{ℕ_discrete, dec_le}
use native.Mathlib.Omega.{arith}
use lib.Dec.{eqb}
use lib.ListN.{length}
use borrow.Author.Tests.{eqb-false, eq-eqb, ne_eqb}
use Rattle.spec.specs.Lists.{if, mem}
use Rattle.laws.proofs.Branch.{both, if-true, if-false}
use Rattle.layout.specs.Fields.{flag_at}
use Rattle.reachable.specs.Marks.{set_below, flagged}
use Rattle.reachable.proofs.Tests.{not-both, same_test}

-- ---- below m, of any numbers

longer : (b : Bool) (m : ℕ) (k l : List ℕ) → length k ≡ suc (length l) → length (if b k (m ∷ k)) ≡ suc (length (if b l (m ∷ l)))
unfolding if
longer true m k l e = e
longer false m k l e = ap suc e

module _ (f : ℕ → ℕ) where
  high : (m a : ℕ) → m ≤ a → mem a (set_below f m) ≡ false
  unfolding set_below
  high zero a h = refl
  high (suc m) a h =
      let later : mem a (set_below f m) ≡ false = high m a (omega arith) in
      both (λ (l : List ℕ). mem a l ≡ false) (eqb (f m) 0) (λ _. later) (λ _. rw (ne_eqb a m (λ e. omega arith), later))

  low : (m a : ℕ) → a < m → mem a (set_below f m) ≡ not (eqb (f a) 0)
  unfolding set_below
  low zero a h = absurd (omega arith)
  low (suc m) a h = split (ℕ_discrete a m) (low m a)
    where
      split : Dec (a ≡ m) → (a < m → mem a (set_below f m) ≡ not (eqb (f a) 0)) → mem a (set_below f (suc m)) ≡ not (eqb (f a) 0)
      split (yes e) ih =
          both (λ (l : List ℕ). mem a l ≡ not (eqb (f a) 0)) (eqb (f m) 0)
          (λ on. rw (high m a (omega arith), e, on)) (λ off. rw (e, eq-eqb m m refl, off))
      split (no ne) ih =
          let later : mem a (set_below f m) ≡ not (eqb (f a) 0) = ih (omega arith) in
          both (λ (l : List ℕ). mem a l ≡ not (eqb (f a) 0)) (eqb (f m) 0) (λ _. later) (λ _. rw (ne_eqb a m ne, later))

  few : (m : ℕ) → length (set_below f m) ≤ m
  unfolding set_below
  few zero = omega arith
  few (suc m) = both (λ (l : List ℕ). length l ≤ suc m) (eqb (f m) 0) (λ _. omega (arith, few m)) (λ _. omega (arith, few m))

  fewer : (m a : ℕ) → a < m → f a ≡ 0 → length (set_below f m) < m
  unfolding set_below
  fewer zero a h e = absurd (omega arith)
  fewer (suc m) a h e =
      both (λ (l : List ℕ). length l < suc m) (eqb (f m) 0) (λ _. omega (arith, few m))
      (λ off. let ne : f m ≡ 0 → ⊥ = eqb-false (f m) 0 off in omega (arith, fewer m a (below ne) e))
    where
      below : (f m ≡ 0 → ⊥) → a < m
      below ne = split (ℕ_discrete a m)
        where
          split : Dec (a ≡ m) → a < m
          split (yes q) = absurd (ne (rw q at e))
          split (no q) = omega arith

  nowhere : (m : ℕ) → ((a : ℕ) → a < m → f a ≡ 0) → set_below f m ≡ []
  unfolding set_below
  nowhere zero h = refl
  nowhere (suc m) h = if-true (eqb (f m) 0) _ _ (eq-eqb (f m) 0 (h m (omega arith))) ∙ nowhere m (λ a l. h a (omega arith))

module _ (f g : ℕ → ℕ) where
  agree : (m : ℕ) → ((a : ℕ) → a < m → g a ≡ f a) → set_below g m ≡ set_below f m
  unfolding set_below
  agree zero h = refl
  agree (suc m) h = rw (agree m (λ a l. h a (omega arith)), h m (omega arith))

  one_more : (m x : ℕ) → x < m → f x ≡ 0 → (g x ≡ 0 → ⊥) → ((a : ℕ) → a < m → (a ≡ x → ⊥) → g a ≡ f a) → length (set_below g m) ≡ suc (length (set_below f m))
  unfolding set_below
  one_more zero x l p q h = absurd (omega arith)
  one_more (suc m) x l p q h = split (ℕ_discrete x m) (λ k. one_more m x k p q (λ a j. h a (omega arith)))
    where
      split : Dec (x ≡ m) → (x < m → length (set_below g m) ≡ suc (length (set_below f m))) → length (set_below g (suc m)) ≡ suc (length (set_below f (suc m)))
      split (yes e) ih =
          let was : eqb (f m) 0 ≡ true = eq-eqb (f m) 0 (rw e at p) in
          let is : eqb (g m) 0 ≡ false = ne_eqb (g m) 0 (rw e at q) in
          rw (if-true (eqb (f m) 0) (set_below f m) (m ∷ set_below f m) was, if-false (eqb (g m) 0) (set_below g m) (m ∷ set_below g m) is, agree m (λ a j. h a (omega arith) (λ r. omega arith)))
      split (no ne) ih =
          let same : g m ≡ f m = h m (omega arith) (λ r. ne (sym r)) in
          let more : length (set_below g m) ≡ suc (length (set_below f m)) = ih (omega arith) in
          rw same (longer (eqb (f m) 0) m (set_below g m) (set_below f m) more)

-- ---- of the flags

module _ (w : List ℕ) (n : ℕ) where
  pub flagged-test : (a : ℕ) → a ≤ n → mem a (flagged w n) ≡ not (eqb (flag_at w n a) 0)
  unfolding flagged
  flagged-test a h = low (flag_at w n) (suc n) a (omega arith)

  pub flagged-within : (a : ℕ) → mem a (flagged w n) ≡ true → a ≤ n
  unfolding flagged
  flagged-within a p = split (dec_le a n)
    where
      split : Dec (a ≤ n) → a ≤ n
      split (yes h) = h
      split (no h) = not-both p (high (flag_at w n) (suc n) a (omega arith))

  pub flagged-few : length (flagged w n) ≤ n + 1
  unfolding flagged
  flagged-few = omega (arith, few (flag_at w n) (suc n))

  pub flagged-fewer : (a : ℕ) → a ≤ n → flag_at w n a ≡ 0 → length (flagged w n) ≤ n
  unfolding flagged
  flagged-fewer a h e = omega (arith, fewer (flag_at w n) (suc n) a (omega arith) e)

  pub flagged-none : ((a : ℕ) → a ≤ n → flag_at w n a ≡ 0) → flagged w n ≡ []
  unfolding flagged
  flagged-none h = nowhere (flag_at w n) (suc n) (λ a l. h a (omega arith))

module _ (w w' : List ℕ) (n : ℕ) where
  pub flagged-same : ((a : ℕ) → a ≤ n → flag_at w' n a ≡ flag_at w n a) → flagged w' n ≡ flagged w n
  unfolding flagged
  flagged-same h = agree (flag_at w n) (flag_at w' n) (suc n) (λ a l. h a (omega arith))

  pub flagged-agree : (a : ℕ) → (a ≤ n → flag_at w' n a ≡ flag_at w n a) → mem a (flagged w' n) ≡ mem a (flagged w n)
  flagged-agree a h = split (dec_le a n)
    where
      split : Dec (a ≤ n) → mem a (flagged w' n) ≡ mem a (flagged w n)
      split (yes l) = rw (flagged-test w' n a l, flagged-test w n a l, h l)
      split (no l) = same_test (λ p. absurd (l (flagged-within w' n a p))) (λ p. absurd (l (flagged-within w n a p)))

  pub flagged-more : (x : ℕ) → x ≤ n → flag_at w n x ≡ 0 → (flag_at w' n x ≡ 0 → ⊥) → ((a : ℕ) → a ≤ n → (a ≡ x → ⊥) → flag_at w' n a ≡ flag_at w n a)
      → length (flagged w' n) ≡ suc (length (flagged w n))
  unfolding flagged
  flagged-more x h p q s = one_more (flag_at w n) (flag_at w' n) (suc n) x (omega arith) p q (λ a l. s a (omega arith))

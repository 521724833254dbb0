-- A rule of bytes, proved at each of them by one test that antt computes, one byte after the other. Assumes nothing.
use mathlib.Core.Path.{◌≡◌, sym, subst}
use mathlib.Core.Logic.{inl, inr}
use mathlib.Core.Bool.{Bool, true, false}
use mathlib.Core.List.{List, [], ◌∷◌}
use Prim.Native.Nat.{ℕ, zero, suc, ◌+◌, ◌≤◌, ◌<◌}
use native.Mathlib.Decide.{dec_lt}
use native.Mathlib.Omega.{arith}
use lib.Dec.{T}
use types.Run.{OneOf}

-- Both tests pass. It does not unfold by itself, so that a proof can name the two.
infixl 35 ◌both◌
unfoldable pub ◌both◌ : Bool → Bool → Bool
true both b = b
false both b = false

pub left : (a b : Bool) → T (a both b) → T a
unfolding ◌both◌
left true b t = tt
left false b t = t

pub right : (a b : Bool) → T (a both b) → T b
unfolding ◌both◌
right true b t = t
right false b t = absurd t

module _ (f : ℕ → Bool) where
  -- the test passes at each of these
  unfoldable pub each_of : List ℕ → Bool
  each_of [] = true
  each_of (k ∷ ks) = let later = each_of ks in f k both later

  pub each_at : (ks : List ℕ) (x : ℕ) → T (each_of ks) → OneOf ks x → T (f x)
  unfolding each_of
  each_at [] x t o = absurd o
  each_at (k ∷ []) x t e = subst (λ (y : ℕ). T (f y)) (sym e) (left (f k) true t)
  each_at (k ∷ k' ∷ ks) x t (inl e) = subst (λ (y : ℕ). T (f y)) (sym e) (left (f k) (each_of (k' ∷ ks)) t)
  each_at (k ∷ k' ∷ ks) x t (inr o) = each_at (k' ∷ ks) x (right (f k) (each_of (k' ∷ ks)) t) o

  -- the test passes at the n numbers from a on
  unfoldable pub every : ℕ → ℕ → Bool
  every a zero = true
  every a (suc n) = let later = every (suc a) n in f a both later

  pub every-at : (n a x : ℕ) → T (every a n) → a ≤ x → x < a + n → T (f x)
  unfolding every
  every-at zero a x t h g = absurd (omega arith)
  every-at (suc n) a x t h g = go (dec_lt a x) (λ l m. every-at n (suc a) x (right (f a) (every (suc a) n) t) l m)
    where
      go : Dec (a < x) → (suc a ≤ x → x < suc a + n → T (f x)) → T (f x)
      go (yes l) later = later l (omega arith)
      go (no l) later = subst (λ (k : ℕ). T (f k)) (let e : a ≡ x = omega arith in e) (left (f a) (every (suc a) n) t)

-- no number is below none
pub zero-below : {n : ℕ} → 0 ≤ n
zero-below = omega arith

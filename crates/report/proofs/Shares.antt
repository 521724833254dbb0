-- The loop of the greatest common divisor, and the share. Assumes nothing.
use mathlib.Core.Path.{◌≡◌, refl, sym, ap, ◌∙◌}
use Prim.Native.Nat.{ℕ, zero, suc, ◌/◌, ◌%◌, ◌≤◌, ◌<◌}
use native.Mathlib.Omega.{arith}
use native.Mathlib.Nat.{mod-lt, pos_of_dvd_of_pos}
use Rattle.spec.specs.Report.{gcd_in, gcd, lowest}
use Rattle.theorems.proofs.Lowest.{gcd-greatest}
use Rattle.report.specs.Numbers.{share_of}

-- more steps than are enough change nothing
enough : (n m a b : ℕ) → b ≤ n → b ≤ m → gcd_in n a b ≡ gcd_in m a b
unfolding gcd_in
enough zero zero a b h k = refl
enough zero (suc m) a zero h k = refl
enough zero (suc m) a (suc b) h k = absurd (omega arith)
enough (suc n) zero a zero h k = refl
enough (suc n) zero a (suc b) h k = absurd (omega arith)
enough (suc n) (suc m) a zero h k = refl
enough (suc n) (suc m) a (suc b) h k = let low : a % suc b < suc b = mod-lt a (omega arith) in enough n m (suc b) (a % suc b) (omega arith) (omega arith)

-- ---- the loop

step : (u v : ℕ) → (v ≡ 0 → ⊥) → gcd v (u % v) ≡ gcd u v
unfolding gcd_in
step u zero n = absurd (n refl)
step u (suc v) n = let low : u % suc v < suc v = mod-lt u (omega arith) in enough (u % suc v) v (suc v) (u % suc v) (omega arith) (omega arith)

module _ (a b x y : ℕ) where
  pub gcd-on : gcd x y ≡ gcd a b → (y ≡ 0 → ⊥) → gcd y (x % y) ≡ gcd a b
  gcd-on e n = step x y n ∙ e

  pub gcd-end : gcd x y ≡ gcd a b → y ≡ 0 → x ≡ gcd a b
  unfolding gcd_in
  gcd-end e z = sym (ap (gcd x) z) ∙ e

pub gcd-less : (x y : ℕ) → (y ≡ 0 → ⊥) → x % y < y
gcd-less x y n = mod-lt x (omega arith)

-- ---- the share

pub share-none : (n d : ℕ) → d ≡ 0 → share_of (record { part = 0; whole = 1 }) ≡ lowest n d
share-none n d e = rw e

module _ (n d g : ℕ) (z : d ≡ 0 → ⊥) (e : g ≡ gcd n d) where
  pub gcd-over-0 : 0 < g
  gcd-over-0 = rw e (pos_of_dvd_of_pos (gcd-greatest d n d (omega arith)).right (omega arith))

  pub share-some : share_of (record { part = n / g; whole = d / g }) ≡ lowest n d
  share-some = rw e (by d z)
    where
      by : (k : ℕ) → (k ≡ 0 → ⊥) → share_of (record { part = n / gcd n k; whole = k / gcd n k }) ≡ lowest n k
      by zero z = absurd (z refl)
      by (suc k) z = refl

-- The laws of `Holds`. Assumes nothing.
use mathlib.Core.Path.{◌≡◌, sym}
use mathlib.Core.List.{List}
use Prim.Native.Nat.{ℕ, suc, ◌+◌, ◌-◌, ◌*◌, ◌^◌, ◌≤◌, ◌<◌}
use native.Mathlib.Nat.{mul-le-mul_right, pow-le-pow_right, pow-suc}
use native.Mathlib.Numerals.{add-one}
use native.Mathlib.Omega.{arith}
use lib.ListN.{get_or}
use lib.Pow.{pow-add}
use mir.Syntax.{w8}
use mir.Val.{Fits}
use Rattle.lent.specs.Bytes.{num_at, Holds}
use Rattle.lent.proofs.Numbers.{num-none, num-step, num-add}

-- a number in two halves
pub holds-twice : (k : ℕ) {at x y : ℕ} {b : List ℕ} → Holds k b at x → Holds k b (at + k) y → Holds (k + k) b at (x + y * 256 ^ k)
holds-twice k {at} {x} {y} {b} p q =
    record {
      is = rw (num-add k k b at, ← p.is, ← q.is);
      small = omega (arith, pow-add 256 k k, mul-le-mul_right (256 ^ k) q.small);
    }

-- v is the number in the last i of the n bytes of b from `at` on
pub record Reading (n : ℕ) (b : List ℕ) (at i v : ℕ) : Type 0 where
  pub is : v ≡ num_at i b (at + (n - i))
  pub small : v < 256 ^ i

module _ {n : ℕ} {b : List ℕ} {at : ℕ} where
  pub reading-none : Reading n b at 0 0
  reading-none = record { is = sym (num-none b (at + (n - 0))); small = omega arith }

  module _ {i v : ℕ} (r : Reading n b at i v) where
    -- there is room for a byte more
    pub reading-room : i < n → n ≤ 8 → v < 2 ^ 56
    reading-room h g = let few : i ≤ 7 = omega arith in let m : 256 ^ i ≤ 256 ^ 7 = pow-le-pow_right (omega arith) few in omega arith

    pub reading-more : i < n → ((j : ℕ) → Fits w8 (get_or b j 0)) → Reading n b at (i + 1) (v * 256 + get_or b (at + (n - 1 - i)) 0)
    reading-more h g =
        let p : at + (n - 1 - i) ≡ at + (n - (i + 1)) = omega arith in
        let q : at + (n - (i + 1)) + 1 ≡ at + (n - i) = omega arith in
        let s : num_at (i + 1) b (at + (n - (i + 1))) ≡ get_or b (at + (n - (i + 1))) 0 + num_at i b (at + (n - (i + 1)) + 1) * 256 = rw add-one (num-step i b (at + (n - suc i))) in
        let t : num_at i b (at + (n - (i + 1)) + 1) ≡ v = rw q (sym r.is) in
        record { is = rw p (omega (arith, s, t)); small = rw (add-one, pow-suc) (omega (arith, g (at + (n - 1 - i)))) }

    pub read-whole : i ≤ n → n ≤ i → Holds n b at v
    read-whole h g = let e : i ≡ n = omega arith in let p : at + (n - n) ≡ at = omega arith in record { is = rw (e, p) at r.is; small = rw e at r.small }

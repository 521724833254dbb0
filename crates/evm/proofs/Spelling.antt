-- The bytes after a place, read as one number, one byte more at a time. Assumes nothing.
use mathlib.Core.Path.{◌≡◌, refl}
use mathlib.Core.List.{List, [], ◌∷◌, ◌++◌}
use Prim.Native.Nat.{ℕ, ◌+◌, ◌*◌, ◌^◌, ◌≤◌, ◌<◌}
use native.Mathlib.Nat.{zero-add, add-zero, pow-suc, pow-le-pow_right}
use native.Mathlib.Numerals.{add-one}
use native.Mathlib.Omega.{arith}
use mir.Syntax.{w8}
use mir.Val.{Fits}
use lib.ListN.{length, get_or, take, drop, length-drop}
use lib.Seq.{take-suc, get_or-drop}
use Rattle.spec.specs.Walk.{big}
use Rattle.evm.specs.Argument.{Follow, Spelled}

big-more : (a : ℕ) (xs : List ℕ) (x : ℕ) → big a (xs ++ (x ∷ [])) ≡ big a xs * 256 + x
big-more a [] x = refl
big-more a (y ∷ xs) x = big-more (a * 256 + y) xs x

-- v is what the first i of the n bytes after pc spell
pub record Spells (code : List ℕ) (pc n i v : ℕ) : Type 0 where
  pub within : i ≤ n
  pub spelt : v ≡ big 0 (take i (drop (pc + 1) code))
  pub small : v < 256 ^ i
  pub fits : v < 2 ^ 32

pub spells-none : (code : List ℕ) (pc n : ℕ) → Spells code pc n 0 0
spells-none code pc n = record { within = omega arith; spelt = refl; small = omega arith; fits = omega arith }

pub spelled : {code : List ℕ} {pc n i v : ℕ} → Spells code pc n i v → n ≤ i → Spelled code pc n v
spelled {n = n} {i = i} s h = let e : n ≡ i = omega (arith, s.within) in record { spelt = rw e s.spelt; small = s.fits }

module _ {code : List ℕ} {pc n : ℕ} (f : Follow code pc n) where
  -- a byte more, which is one
  pub spells-more : {i v : ℕ} → Spells code pc n i v → i < n → Fits w8 (get_or code (pc + 1 + i) 0) → Spells code pc n (i + 1) (v * 256 + get_or code (pc + 1 + i) 0)
  spells-more {i} {v} s h byte =
      let l : i < length (drop (pc + 1) code) = simp length-drop (omega arith) in
      let few : i + 1 ≤ 4 = omega arith in
      let most : 256 ^ (i + 1) ≤ 256 ^ 4 = pow-le-pow_right (omega arith) few in
      let less : v * 256 + get_or code (pc + 1 + i) 0 < 256 ^ (i + 1) = rw (add-one i, pow-suc) (omega (arith, byte)) in
      record {
        within = omega arith;
        spelt = rw (add-one i, take-suc (drop (pc + 1) code) i 0 l, big-more, ← s.spelt, get_or-drop);
        small = less;
        fits = omega arith;
      }

  -- ---- the ways out of argument_at

  spells-first : 0 < n → Fits w8 (get_or code (pc + 1) 0) → Spells code pc n 1 (get_or code (pc + 1) 0)
  spells-first h b =
      let k : pc + 1 + 0 ≡ pc + 1 = omega arith in
      simp (zero-add, add-zero) at (spells-more (spells-none code pc n) h (rw k b))

  pub spelled-one : n ≡ 1 → Fits w8 (get_or code (pc + 1) 0) → Spelled code pc n (get_or code (pc + 1) 0)
  spelled-one e b = spelled (spells-first (omega arith) b) (omega arith)

  pub spelled-two : n ≡ 2 → Fits w8 (get_or code (pc + 1) 0) → Fits w8 (get_or code (pc + 2) 0) → Spelled code pc n (get_or code (pc + 1) 0 * 256 + get_or code (pc + 2) 0)
  spelled-two e b d =
      let k : pc + 1 + 1 ≡ pc + 2 = omega arith in
      spelled (rw k at (spells-more (spells-first (omega arith) b) (omega arith) (rw k d))) (omega arith)

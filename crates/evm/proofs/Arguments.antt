-- How many bytes of code after its own belong to an instruction, by the range that its byte lies in. Assumes nothing.
use mathlib.Core.Path.{◌≡◌, sym}
use mathlib.Core.Bool.{true, false}
use Prim.Native.Nat.{ℕ, ◌+◌, ◌-◌, ◌≤◌, ◌<◌}
use native.Mathlib.Decide.{dec_lt}
use native.Mathlib.Omega.{arith}
use borrow.Author.Tests.{le-leb, lt-leb, lt-ltb, le-ltb}
use lib.Dec.{ltb}
use Rattle.spec.specs.Lists.{if}
use Rattle.spec.specs.Opcodes.{argument}
use Rattle.evm.specs.Rows.{ArgumentIs}

module _ (b : ℕ) where
  pub argument-below : b < 0x60 → argument b ≡ 0
  unfolding if
  argument-below h = rw (lt-leb 0x60 b h)

  pub argument-push : 0x60 ≤ b → b < 0x80 → argument b ≡ b - 0x5F
  unfolding if
  argument-push h g =
      let l : b ≤ 0x7F = omega arith in
      rw (le-leb 0x60 b h, le-leb b 0x7F l)

  pub argument-above : 0x80 ≤ b → argument b ≡ 0
  unfolding if
  argument-above h =
      let l : 0x60 ≤ b = omega arith in
      rw (le-leb 0x60 b l, lt-leb b 0x7F h)

  -- ---- the ways out of argument_of

  pub has-none-below : b < 0x60 → ArgumentIs b 0
  has-none-below h = omega (arith, argument-below h)

  pub has_push : 0x60 ≤ b → b < 0x80 → ArgumentIs b (b - 0x60 + 1)
  has_push h g = omega (arith, argument-push h g)

  pub has-none-above : 0x80 ≤ b → ArgumentIs b 0
  has-none-above h = omega (arith, argument-above h)

  pub argument-most : argument b ≤ 32
  argument-most = go (dec_lt b 0x60) (dec_lt b 0x80)
    where
      go : Dec (b < 0x60) → Dec (b < 0x80) → argument b ≤ 32
      go (yes h) d = omega (arith, argument-below h)
      go (no h) (yes g) = omega (arith, argument-push (omega arith) g)
      go (no h) (no g) = omega (arith, argument-above (omega arith))

  -- ---- the ways out of is_push

  pub push-is : 0x60 ≤ b → b < 0x80 → true ≡ ltb 0 (argument b)
  push-is h g = sym (lt-ltb 0 (argument b) (omega (arith, argument-push h g)))

  pub no-push-below : b < 0x60 → false ≡ ltb 0 (argument b)
  no-push-below h = sym (le-ltb 0 (argument b) (omega (arith, argument-below h)))

  pub no-push-above : 0x80 ≤ b → false ≡ ltb 0 (argument b)
  no-push-above h = sym (le-ltb 0 (argument b) (omega (arith, argument-above h)))

-- the ways out of argument_of, and those of is_push
pub ruleset argument_ways = (has-none-below, has_push, has-none-above)

pub ruleset push_ways = (push-is, no-push-below, no-push-above)

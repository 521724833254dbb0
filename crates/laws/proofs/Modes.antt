-- Document 02, No. 6: of the bytes, the mode changes what PUSH0 does and nothing else. Assumes nothing.
use Prim.Native.Nat.{ℕ, zero, suc, ◌<◌}
use native.Mathlib.Omega.{arith}
use native.Mathlib.Decide.{dec_lt}
use mathlib.Core.Path.{◌≡◌, refl, sym, ◌∙◌}
use lib.Dec.{leb}
use borrow.Author.Tests.{le-leb, lt-leb}
use Rattle.spec.specs.Stacks.{does}

-- the first byte of the range does not matter to the others
from-60 : (b : ℕ) → ¬ (b ≡ 0x5F) → leb 0x5F b ≡ leb 0x60 b
from-60 b ne = go (dec_lt b 0x5F)
  where
    go : Dec (b < 0x5F) → leb 0x5F b ≡ leb 0x60 b
    go (yes l) = lt-leb 0x5F b l ∙ sym (lt-leb 0x60 b (omega arith))
    go (no l) = le-leb 0x5F b (omega arith) ∙ sym (le-leb 0x60 b (omega arith))

-- Every other byte does the same in each mode.
pub same-elsewhere : (m b : ℕ) → ¬ (b ≡ 0x5F) → does m b ≡ does 0 b
unfolding does
same-elsewhere zero b ne = refl
same-elsewhere (suc m) b ne = rw (from-60 b ne)

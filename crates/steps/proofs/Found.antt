-- `loops`: only a path of one block can be on the path already. Assumes nothing.
use mathlib.Core.Path.{◌≡◌, refl}
use mathlib.Core.Bool.{false}
use mathlib.Core.List.{List, [], ◌∷◌}
use Prim.Native.Nat.{ℕ, ◌≤◌}
use native.Mathlib.Omega.{arith}
use lib.ListN.{length}
use Rattle.spec.specs.Lists.{mem}
use Rattle.spec.specs.Search.{loops}

pub loops-one : (a : ℕ) (path : List ℕ) → loops (a ∷ []) path ≡ mem a path
loops-one a path = refl

pub loops-found : (xs path : List ℕ) → 2 ≤ length xs → loops xs path ≡ false
loops-found [] path h = refl
loops-found (a ∷ []) path h = absurd (omega arith)
loops-found (a ∷ b ∷ more) path h = refl

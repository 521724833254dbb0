-- The path of one address that was put in P. Assumes nothing.
use mathlib.Core.Path.{◌≡◌, ap}
use mathlib.Core.List.{List, [], ◌∷◌}
use Prim.Native.Nat.{ℕ, ◌^◌, ◌≤◌, ◌<◌}
use native.Mathlib.Omega.{arith}
use Rattle.spec.specs.Lists.{little}
use Rattle.laws.proofs.Members.{in-only}
use Rattle.lent.specs.Bytes.{Stored}
use Rattle.lent.proofs.Stored.{read_back}
use Rattle.tables.specs.Addrs.{addrs}
use Rattle.steps.specs.Paths.{Inside}

module _ {p p₁ : List ℕ} {start : ℕ} (put : Stored 2 p 0 (little 2 start) p₁) (small : start < 2 ^ 16) where
  pub path-one : addrs p₁ 0 1 ≡ start ∷ []
  unfolding addrs
  path-one = ap (λ (a : ℕ). a ∷ []) (read_back put small)

  pub inside_one : {n : ℕ} → start ≤ n → Inside n (addrs p₁ 0 1)
  inside_one {n} h = rw path-one (record { each = λ a i. let e : a ≡ start = in-only i in omega (arith, e, h) })

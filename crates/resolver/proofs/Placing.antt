-- What `first_level` asks on its way. Assumes nothing.
use mathlib.Core.List.{List}
use Prim.Native.Nat.{ℕ, ◌+◌, ◌≤◌}
use native.Mathlib.Omega.{arith}
use lib.ListN.{length}
use Rattle.spec.specs.Lists.{little}
use Rattle.lent.specs.Bytes.{Stored}
use Rattle.steps.specs.declared.own.StateAt.{StateAt}
use Rattle.tables.specs.Addrs.{addrs}
use Rattle.steps.specs.Paths.{Counting}
use Rattle.steps.specs.declared.plan.Plan.{Plan}
use Rattle.resolver.specs.Turns.{Places}
use Rattle.resolver.proofs.PathOfOne.{inside_one}

module _ {w p s : List ℕ} {k : Plan} {start : ℕ} {own : StateAt} (a : Places w p s k start own) where
  pub place-puts : 0 + 2 ≤ length p
  place-puts = omega (arith, a.lent_p)

  pub place-counts : {p₁ : List ℕ} → Stored 2 p 0 (little 2 start) p₁ → Counting k.size w p₁ 0 1
  unfolding addrs
  place-counts put =
      record {
        lent = a.lent;
        in_p = omega (arith, put.fits, put.kept);
        most = omega arith;
        order = omega arith;
        inside = inside_one put (omega (arith, a.inside, a.lent.short)) a.inside;
        counts = a.counts;
      }

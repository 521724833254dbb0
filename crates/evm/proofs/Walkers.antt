-- What a loop over a walker learns of each call of `next`. Assumes nothing.
use mathlib.Core.Path.{◌≡◌, ap, sym, ◌∙◌}
use mathlib.Core.List.{[]}
use lib.ListN.{drop}
use Rattle.std.specs.Prelude.{Option, Some, None}
use Rattle.spec.specs.Walk.{walk}
use Rattle.evm.specs.Walker.{walker_at, Walks}
use Rattle.evm.specs.declared.walk.Instruction.{Instruction}
use Rattle.evm.specs.declared.walker.Walker.{Walker}
use Rattle.evm.proofs.Steps.{Took, took, next-whole, ended}

module _ {w v : Walker} {r : Option Instruction} (s : Walks w r v) where
  -- a whole instruction: the walk's first, and the walk goes on after it
  pub walks-took : {i : Instruction} → r ≡ Some i → Took w.code.now w.at i.pc i.op i.next
  walks-took e = took w.code.now w.at s.gives e

  pub walks-next : {i : Instruction} → r ≡ Some i → v ≡ walker_at w.code i.next
  walks-next e = s.goes ∙ ap (walker_at w.code) (sym (next-whole w.code.now w.at s.gives e))

  pub walks-ended : r ≡ None → walk (drop w.at w.code.now) w.at 0 ≡ []
  walks-ended e = ended w.code.now w.at s.gives e

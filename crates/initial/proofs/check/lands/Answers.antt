-- `lands` meets its contract: past the code, at another byte, and where a block may start. Assumes nothing.
use mathlib.Core.Path.{sym, ◌∙◌}
use native.Mathlib.Omega.{arith}
use borrow.Author.Tests.{eqb-true, eqb-false, ltb-true}
use Rattle.initial.proofs.Checking.{lands-past, lands-other, lands-starts}
use Rattle.initial.proofs.check.lands.Goals as goal
use Rattle.initial.proofs.check.lands.Goals.{then-to-code, else-to-code}

pub returns-then-code-to-eq-JUMPDEST : goal.returns-then-code-to-eq-JUMPDEST
returns-then-code-to-eq-JUMPDEST c =
    elim c.if-to-code.branch [
      | then-to-code w ↦ lands-starts _ _ _ (eqb-true _ _ (sym w.value-is ∙ c.if-code-to-eq-JUMPDEST.true)) c.starts.ensures
      | else-to-code w ↦ absurd (omega (arith, ltb-true _ _ (sym w.value-is ∙ c.if-code-to-eq-JUMPDEST.true), w.if-to-code.false))
    ]

pub returns-else-code-to-eq-JUMPDEST : goal.returns-else-code-to-eq-JUMPDEST
returns-else-code-to-eq-JUMPDEST c =
    elim c.if-to-code.branch [
      | then-to-code w ↦ c.if-code-to-eq-JUMPDEST.false ∙ lands-other _ _ _ (eqb-false _ _ (sym w.value-is ∙ c.if-code-to-eq-JUMPDEST.false))
      | else-to-code w ↦ c.if-code-to-eq-JUMPDEST.false ∙ search lands-past
    ]

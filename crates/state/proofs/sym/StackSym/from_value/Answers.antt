-- `from_value` meets its contract: each way out is a law of from-value. Assumes nothing.
use Rattle.state.proofs.Symbols.{from-lands, from-plain, from_past}
use Rattle.state.proofs.sym.StackSym.from_value.Goals as goal
use Rattle.state.proofs.sym.StackSym.from_value.Goals.{else-value-code-via-then-value-code+else-code-value-eq-JUMPDEST, else-value-code-via-else-value-code}

pub returns-then-code-value-eq-JUMPDEST : goal.returns-then-code-value-eq-JUMPDEST
returns-then-code-value-eq-JUMPDEST c = search from-lands

pub returns : goal.returns
returns c =
    elim c.else-value-code.branch [
      | else-value-code-via-then-value-code+else-code-value-eq-JUMPDEST w ↦ search from-plain
      | else-value-code-via-else-value-code w ↦ search from_past
    ]

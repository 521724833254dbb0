-- `starts` meets its contract: by the type in the row, and past the code. Assumes nothing.
use Rattle.initial.proofs.Checking.{starts-past, starts-type}
use mathlib.Core.Path.{◌∙◌}
use Rattle.initial.proofs.check.starts.Goals as goal

pub returns-then-to-code : goal.returns-then-to-code
returns-then-to-code c = c.is_some.ensures ∙ starts-type _ _ _ c.if-to-code.true c.block_at.ensures

pub returns-else-to-code : goal.returns-else-to-code
returns-else-to-code c = search starts-past

-- `is_listed`: any row, or one with a destination. Assumes nothing.
use Rattle.entries.proofs.Listed.{listed-any, listed-led}
use Rattle.entries.proofs.found.Found.is_listed.Goals as goal

pub returns-then-kind-ne-DYNAMIC_JUMP : goal.returns-then-kind-ne-DYNAMIC_JUMP
returns-then-kind-ne-DYNAMIC_JUMP c = search listed-any

pub returns : goal.returns
returns c = search listed-led

use Rattle.parents.proofs.Leaves.{room-to, room-other, room-once, room-then, room-false, sides-unknown, sides-empty, sides-jump, sides-once, sides-both, sides-false, sides-none}
use Rattle.parents.proofs.link.link_sides.Goals as goal

pub returns-then-not-is_known : goal.returns-then-not-is_known
returns-then-not-is_known c = search sides-unknown

pub returns-in_default : goal.returns-in_default
returns-in_default c = search sides-empty

pub link-requires : goal.link-requires
link-requires c = search room-to

pub link-requires-then-to-other : goal.link-requires-then-to-other
link-requires-then-to-other c = search room-once

pub returns-then-to-other : goal.returns-then-to-other
returns-then-to-other c = search sides-once

pub link-requires-in-Jumpi : goal.link-requires-in-Jumpi
link-requires-in-Jumpi c = search room-other

pub link-requires-in-Jumpi-2 : goal.link-requires-in-Jumpi-2
link-requires-in-Jumpi-2 c = search room-then

pub link-requires-in-DynamicJumpi : goal.link-requires-in-DynamicJumpi
link-requires-in-DynamicJumpi c = search room-false

pub returns-in-Jump : goal.returns-in-Jump
returns-in-Jump c = search sides-jump

pub returns-else-to-other : goal.returns-else-to-other
returns-else-to-other c = search sides-both

pub returns-in-DynamicJumpi : goal.returns-in-DynamicJumpi
returns-in-DynamicJumpi c = search sides-false

pub returns-in_default-block : goal.returns-in_default-block
returns-in_default-block c = search (sides-none, c.in_default-block.not-Jump, c.in_default-block.not-Jumpi, c.in_default-block.not-DynamicJumpi)

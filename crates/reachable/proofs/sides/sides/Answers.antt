-- `sides`: the sides of a row, kind by kind. Assumes nothing.
use Rattle.reachable.proofs.Pairs.{pair-empty, pair-jump, pair-jumpi, pair-false, pair-none}
use Rattle.reachable.proofs.sides.sides.Goals as goal

pub returns-in_default : goal.returns-in_default
returns-in_default c = search pair-empty

pub returns-in-Jump : goal.returns-in-Jump
returns-in-Jump c = search pair-jump

pub returns-in-Jumpi : goal.returns-in-Jumpi
returns-in-Jumpi c = search pair-jumpi

pub returns-in-DynamicJumpi : goal.returns-in-DynamicJumpi
returns-in-DynamicJumpi c = search pair-false

pub returns-in_default-block : goal.returns-in_default-block
returns-in_default-block c = search (pair-none, c.in_default-block.not-Jump, c.in_default-block.not-Jumpi, c.in_default-block.not-DynamicJumpi)

-- `sort_of` meets its contract: each arm is its line of the definitions' table. Assumes nothing.
use Rattle.spec.specs.Lists.{if}
use Rattle.spec.specs.Forms.{sort}
use Rattle.reader.proofs.Sorting.{kind-path}
use Rattle.reader.proofs.kind.sort_of.Goals as goal

pub returns-in-1 : goal.returns-in-1
unfolding sort if
returns-in-1 c = rw c.in-1.is

pub returns-in-2 : goal.returns-in-2
unfolding sort if
returns-in-2 c = rw c.in-2.is

pub returns-in-3 : goal.returns-in-3
unfolding sort if
returns-in-3 c = rw c.in-3.is

pub returns-in-4 : goal.returns-in-4
unfolding sort if
returns-in-4 c = rw c.in-4.is

pub returns-in-5 : goal.returns-in-5
unfolding sort if
returns-in-5 c = rw c.in-5.is

pub returns-in-6 : goal.returns-in-6
unfolding sort if
returns-in-6 c = rw c.in-6.is

pub returns-in_default : goal.returns-in_default
returns-in_default c = search kind-path

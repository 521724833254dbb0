-- `next_parent`: its true side leads to the address, or its false side does. Assumes nothing.
use Rattle.parents.proofs.Leaves.{next-to, next-other}
use Rattle.parents.proofs.link.next_parent.Goals as goal

pub returns-then-get16-to : goal.returns-then-get16-to
returns-then-get16-to c = search next-to

pub returns : goal.returns
returns c = search next-other

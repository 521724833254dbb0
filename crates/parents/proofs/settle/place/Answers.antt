use Rattle.parents.proofs.Leaves.{place-jumpdest, place-before, place-stays}
use Rattle.parents.proofs.settle.place.Goals as goal

pub returns-in-Jumpdest : goal.returns-in-Jumpdest
returns-in-Jumpdest c = search place-jumpdest

pub returns-in-Before : goal.returns-in-Before
returns-in-Before c = search place-before

pub returns-in-Constant : goal.returns-in-Constant
returns-in-Constant c = search place-stays

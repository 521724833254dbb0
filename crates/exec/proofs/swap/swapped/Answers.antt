-- `swapped` meets its contract: a stack that is spelled out is swapped the same. Assumes nothing.
use borrow.Author.Rules.{rules}
use Rattle.exec.proofs.Swaps.{deep-enough, swapped}
use Rattle.exec.proofs.swap.swapped.Goals as goal

pub exchange-requires : goal.exchange-requires
exchange-requires c = (search rules, search deep-enough)

pub returns : goal.returns
returns c = search swapped

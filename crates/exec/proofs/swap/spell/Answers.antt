-- `spell` meets its contract: the cells passed so far are spelled out. Assumes nothing.
use native.Mathlib.Omega.{arith}
use borrow.Author.Rules.{rules}
use Rattle.exec.proofs.Swaps.{spell-none, spell-more, spell-done}
use Rattle.exec.proofs.swap.spell.Goals as goal

pub loop-i-init : goal.loop-i-init
loop-i-init c = (search rules, spell-none _ _ _ (omega arith))

pub loop-i-preserved : goal.loop-i-preserved
loop-i-preserved c = (search rules, search spell-more)

pub returns : goal.returns
returns c = search spell-done

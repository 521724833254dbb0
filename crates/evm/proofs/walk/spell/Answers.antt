-- `evm::walk::spell` meets its contract: the bytes passed so far are spelt. Assumes nothing.
use Rattle.evm.proofs.Spelling.{spells-none, spells-more, spelled}
use Rattle.evm.proofs.walk.spell.Goals as goal

pub loop-i-init : goal.loop-i-init
loop-i-init c = search spells-none

pub loop-i-preserved : goal.loop-i-preserved
loop-i-preserved c = search (spells-more, c.type_inv.code)

pub returns : goal.returns
returns c = search spelled

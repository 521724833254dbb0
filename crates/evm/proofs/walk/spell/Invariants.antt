-- `evm::walk::spell` meets its contract: the bytes passed so far are spelt. Assumes nothing.
use Rattle.evm.proofs.Spelling.{Spells}
use Rattle.evm.proofs.walk.spell.Given as goal

abbrev pub invariant-loop-i : goal.invariant-loop-i
invariant-loop-i l = Spells l.code l.pc l.count l.i l.value

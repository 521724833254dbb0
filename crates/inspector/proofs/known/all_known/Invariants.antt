-- `all_known` meets its contract: each way out is a law of its own. Assumes nothing.
use Rattle.inspector.proofs.Knowing.{Knows}
use Rattle.inspector.proofs.known.all_known.Given as goal

abbrev pub invariant-loop-instruction : goal.invariant-loop-instruction
invariant-loop-instruction l = Knows l.code l.start l.instruction-iterator

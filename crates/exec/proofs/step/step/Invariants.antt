-- The stack that each call speaks of is the one that the cells hold. Assumes nothing.
use Rattle.exec.specs.Working.{stack_of}
use Rattle.exec.proofs.step.step.Given as goal

abbrev pub ghost-jumped : goal.ghost-jumped
ghost-jumped a = stack_of a.w.now a.top

abbrev pub ghost-dup : goal.ghost-dup
ghost-dup a = stack_of a.w.now a.self

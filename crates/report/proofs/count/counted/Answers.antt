-- `counted` meets its contract: one more of the entry's kind, and the block at hand if it is over; a path; a record. Assumes nothing.
use mathlib.Core.Path.{refl}
use native.Mathlib.Omega.{arith}
use Rattle.spec.specs.Report.{join}
use Rattle.reader.specs.declared.entry.Entry.TheVariants.{Head, Terminate, Jump, Jumpi, DynamicJump, DynamicJumpi}
use Rattle.report.proofs.Counted.{with-entry, with-block}
use Rattle.report.proofs.count.counted.Goals as goal

pub returns-in-Terminate : goal.returns-in-Terminate
unfolding join
returns-in-Terminate c = with-block (Terminate _ _ _) 1 c.in-Terminate.is refl (omega arith) c.shut.ensures

pub returns-in-Jump : goal.returns-in-Jump
unfolding join
returns-in-Jump c = with-block (Jump _ _ _) 2 c.in-Jump.is refl (omega arith) c.shut-in-Jump.ensures

pub returns-in-Jumpi : goal.returns-in-Jumpi
unfolding join
returns-in-Jumpi c = with-block (Jumpi _ _ _ _) 3 c.in-Jumpi.is refl (omega arith) c.shut-in-Jumpi.ensures

pub returns-in-DynamicJump : goal.returns-in-DynamicJump
unfolding join
returns-in-DynamicJump c = with-block (DynamicJump _ _ _) 4 c.in-DynamicJump.is refl (omega arith) c.shut-in-DynamicJump.ensures

pub returns-in-DynamicJumpi : goal.returns-in-DynamicJumpi
unfolding join
returns-in-DynamicJumpi c = with-block (DynamicJumpi _ _ _ _) 5 c.in-DynamicJumpi.is refl (omega arith) c.shut-in-DynamicJumpi.ensures

pub returns-in-Head : goal.returns-in-Head
unfolding join
returns-in-Head c = with-entry (Head _ _ _ _) c.in-Head.is (omega arith)

-- `block` meets its contract: each kind's byte, and every other, which is DynamicJumpi. Assumes nothing.
use native.Mathlib.Omega.{arith}
use Rattle.layout.proofs.Types.{read-none, read-some, typed-failure, typed-success, typed-jump, typed-jumpi, typed-dynamic_jump, typed-dynamic_jumpi}
use Rattle.layout.proofs.row.RowType.block.Goals as goal

pub returns-in-0 : goal.returns-in-0
returns-in-0 c = search read-none

pub returns-in-1 : goal.returns-in-1
returns-in-1 c = read-some _ _ (λ e. omega arith) (typed-failure _ _ c.in-1.is)

pub returns-in-2 : goal.returns-in-2
returns-in-2 c = read-some _ _ (λ e. omega arith) (typed-success _ _ c.in-2.is)

pub returns-in-3 : goal.returns-in-3
returns-in-3 c = read-some _ _ (λ e. omega arith) (typed-jump _ _ c.in-3.is)

pub returns-in-4 : goal.returns-in-4
returns-in-4 c = read-some _ _ (λ e. omega arith) (typed-jumpi _ _ c.in-4.is)

pub returns-in-5 : goal.returns-in-5
returns-in-5 c = read-some _ _ (λ e. omega arith) (typed-dynamic_jump _ _ c.in-5.is)

pub returns-in_default : goal.returns-in_default
returns-in_default c = read-some _ _ (λ e. omega arith) (typed-dynamic_jumpi _ _ (omega arith))

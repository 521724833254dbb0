-- `given_both` gives the number, or both counts. Assumes nothing.
use native.Mathlib.Omega.{arith}
use Rattle.aznifrem.proofs.Exports.{gives-counts, gives-refusal, few-entries, few-text}
use Rattle.aznifrem.proofs.given_both.Goals as goal

pub returns-in-Ok : goal.returns-in-Ok
returns-in-Ok c = search gives-counts

pub returns-in-Err : goal.returns-in-Err
returns-in-Err c = search gives-refusal

pub overflow_mul-result : goal.overflow_mul-result
overflow_mul-result c = omega (arith, few-text c.requires c.in-Ok.is)

pub overflow_add-result : goal.overflow_add-result
overflow_add-result c = omega (arith, few-text c.requires c.in-Ok.is, few-entries c.requires c.in-Ok.is)

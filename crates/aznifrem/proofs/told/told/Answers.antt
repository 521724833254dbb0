-- `told` meets its contract: a value that fits, or the most that does. Assumes nothing.
use native.Mathlib.Omega.{arith}
use Rattle.aznifrem.proofs.Telling.{told-given, told-beyond}
use Rattle.aznifrem.proofs.told.told.Goals as goal

pub overflow_mul-result : goal.overflow_mul-result
overflow_mul-result c = omega arith

pub overflow_add-result : goal.overflow_add-result
overflow_add-result c = omega arith

pub returns-then-value-lt72057594037927936 : goal.returns-then-value-lt72057594037927936
returns-then-value-lt72057594037927936 c = told-given _ _ (omega arith)

pub overflow_mul-result-2 : goal.overflow_mul-result-2
overflow_mul-result-2 c = omega arith

pub overflow_add-result-2 : goal.overflow_add-result-2
overflow_add-result-2 c = omega arith

pub returns : goal.returns
returns c = search told-beyond

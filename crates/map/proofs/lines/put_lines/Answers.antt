-- `put_lines`: after some turns the entries passed are printed. Assumes nothing.
use Rattle.map.proofs.Cutting.{walks-none, starts, puts-line, walks_more, walks-done}
use mathlib.Core.Path.{refl}
use borrow.Author.Rules.{rules}
use Rattle.map.proofs.lines.put_lines.Goals as goal

pub loop-at-init : goal.loop-at-init
loop-at-init c = (refl, walks-none _ _ _)

pub get32-size-requires : goal.get32-size-requires
get32-size-requires c = search starts

pub put_line-requires : goal.put_line-requires
put_line-requires c = search puts-line

pub loop-at-preserved : goal.loop-at-preserved
loop-at-preserved c = (search rules, search walks_more)

pub returns : goal.returns
returns c = search walks-done

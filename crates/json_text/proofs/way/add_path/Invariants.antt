-- `add_path`: the first addresses are put. Assumes nothing.
use Rattle.json_text.proofs.Ways.{Pathing}
use Rattle.json_text.proofs.way.add_path.Given as goal

abbrev pub invariant-loop-i : goal.invariant-loop-i
invariant-loop-i l = Pathing l.q l.span.from l.span.steps l.initial.output l.output l.i

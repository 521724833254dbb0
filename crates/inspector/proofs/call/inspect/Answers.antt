-- `inspect` meets its contract: each way out is a law of its own. Assumes nothing.
use mathlib.Core.Path.{refl, ap, ◌∙◌}
use Rattle.std.specs.Prelude.{Err}
use Rattle.inspector.specs.Calling.{number_in}
use Rattle.inspector.proofs.Answering.{inspect-wrong}
use Rattle.inspector.proofs.call.inspect.Goals as goal

pub returns-in-Path : goal.returns-in-Path
returns-in-Path c = let is = c.in-Err.is in rw (← is) (inspect-wrong refl c.inspect_from-inspected.ensures c.args.place.now (ap number_in (is ∙ ap Err c.in-Path.is)) c.tell.ensures)

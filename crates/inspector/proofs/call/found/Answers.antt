-- `found` meets its contract: each way out is a law of its own. Assumes nothing.
use Rattle.inspector.proofs.Answering.{found-tables, found-filled, found-is}
use Rattle.inspector.proofs.call.found.Goals as goal

pub fill-requires : goal.fill-requires
fill-requires c = search found-tables

pub listed-finding-requires : goal.listed-finding-requires
listed-finding-requires c = search found-filled

pub returns : goal.returns
returns c = search found-is

use Rattle.follow.proofs.Moving.{edge-one}
use Rattle.follow.proofs.Edging.{place-seek, place-known}
use Rattle.follow.proofs.edges.place_of.Goals as goal

pub overflow_add-key : goal.overflow_add-key
overflow_add-key c = edge-one c.requires.finds.ready c.requires.stood

pub returns-in-Some : goal.returns-in-Some
returns-in-Some c = place-known c.args.finder.map.now c.args.at c.args.to c.requires.finds.index c.known.ensures c.in-Some.is

pub returns : goal.returns
returns c = search place-seek

use Rattle.follow.proofs.Edging.{shelf-lacking, shelf-at}
use Rattle.follow.proofs.edges.shelf_of.Goals as goal

pub returns-then-entries-lt16 : goal.returns-then-entries-lt16
returns-then-entries-lt16 c = search shelf-lacking

pub returns : goal.returns
returns c = search shelf-at

-- `and` meets its contract: the two words that were read are replaced. Assumes nothing.
use Rattle.exec.proofs.Acts.{becomes-and}
use Rattle.exec.proofs.words.and.Goals as goal

pub returns : goal.returns
returns c = search becomes-and

-- `add` meets its contract: the two words that were read are replaced. Assumes nothing.
use Rattle.exec.proofs.Acts.{becomes-add}
use Rattle.exec.proofs.words.add.Goals as goal

pub returns : goal.returns
returns c = search becomes-add

-- `add`: the first bytes of the word are the number's. Assumes nothing.
use Rattle.output.proofs.Widths.{number-put}
use Rattle.output.proofs.Output.add.Goals as goal

pub returns : goal.returns
returns g c = number-put _ c.args.value c.requires.0 c.to_le_bytes-bytes.ensures c.add_text.ensures

-- `is_mask` meets its contract: by what is known of the symbol. Assumes nothing.
use Rattle.state.proofs.Symbols.{mask_value, mask-unknown}
use Rattle.state.proofs.sym.StackSym.is_mask.Goals as goal

pub returns-in-Some : goal.returns-in-Some
returns-in-Some c = search mask_value

pub returns-in-None : goal.returns-in-None
returns-in-None c = search mask-unknown

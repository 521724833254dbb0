-- `told_of` meets its contract. Assumes nothing.
use Rattle.aznifrem.proofs.Telling.{number-low}
use Rattle.aznifrem.proofs.told.told_of.Goals as goal

pub told-requires : goal.told-requires
told-requires c = search number-low

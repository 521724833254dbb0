-- `family_of`: the code is wide, or not. Assumes nothing.
use Rattle.entries.proofs.Families.{family-wide, family-narrow}
use Rattle.entries.proofs.family.family_of.Goals as goal

pub returns-then-size-gt-NARROW : goal.returns-then-size-gt-NARROW
returns-then-size-gt-NARROW c = search family-wide

pub returns : goal.returns
returns c = search family-narrow

-- `up_to`: the link, or none. Assumes nothing.
use Rattle.steps.proofs.Clips.{up-low, up-high}
use Rattle.steps.proofs.cursor.up_to.Goals as goal

pub returns-then-link-highest : goal.returns-then-link-highest
returns-then-link-highest c = search up-low

pub returns : goal.returns
returns c = search up-high

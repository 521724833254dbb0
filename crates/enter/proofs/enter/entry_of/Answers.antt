-- `entry_of`: where a Jumpdest leads, or nowhere. Assumes nothing.
use Rattle.enter.proofs.EntryBySymbol.{entry-jumpdest, entry-nowhere}
use mathlib.Core.Path.{◌∙◌}
use Rattle.enter.proofs.enter.entry_of.Goals as goal

pub returns-in_default : goal.returns-in_default
returns-in_default c = c.no_entry.ensures ∙ entry-nowhere _ _ _ c.in_default.not-Jumpdest

pub returns : goal.returns
returns c = search entry-jumpdest

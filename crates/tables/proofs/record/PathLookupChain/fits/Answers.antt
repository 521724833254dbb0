-- `fits`: a sum, a destination, a length or an address tells a record from what is looked up. Assumes nothing.
use Rattle.tables.proofs.Lookup.{compare, rec-sum, rec-to, rec-rises, rec-length, rec-beside, rec-same}
use Rattle.tables.proofs.record.PathLookupChain.fits.Goals as goal

pub returns-then-get32-self : goal.returns-then-get32-self
returns-then-get32-self c = search (rec-sum (compare c.requires.held c.requires.below))

pub returns-then-get16-self : goal.returns-then-get16-self
returns-then-get16-self c = search (rec-to (compare c.requires.held c.requires.below))

pub overflow_sub-get32 : goal.overflow_sub-get32
overflow_sub-get32 c = search (rec-rises (compare c.requires.held c.requires.below))

pub returns-then-get32-at : goal.returns-then-get32-at
returns-then-get32-at c = search (rec-length (compare c.requires.held c.requires.below))

pub is_at-requires : goal.is_at-requires
is_at-requires c = search (rec-beside (compare c.requires.held c.requires.below))

pub returns : goal.returns
returns c = search (rec-same (compare c.requires.held c.requires.below))

-- `put_both`: the shortage, 9, 11, or both written. Assumes nothing.
use Rattle.answer.proofs.Told.{both-nine, both-eleven, both-full, both-done}
use Rattle.answer.proofs.both.put_both.Goals as goal

pub returns-then-not-entries_fit : goal.returns-then-not-entries_fit
returns-then-not-entries_fit c = both-nine _ _ _ _ _ _ _ c.in_ok-finding.was c.units-then-not-text_fits.ensures c.entries_fit.ensures c.if-not-entries_fit.true

pub returns-then-not-text_fits : goal.returns-then-not-text_fits
returns-then-not-text_fits c =
    both-eleven _ _ _ _ _ _ _ c.in_ok-finding.was c.units.ensures c.text_fits.ensures c.if-not-text_fits.true c.units-then-not-text_fits.ensures c.entries_fit.ensures
    c.if-not-entries_fit.false

pub returns-in_default : goal.returns-in_default
returns-in_default c = both-full _ _ _ _ _ _ _ c.in_ok-finding.was c.write_entries.ensures c.in_default.is

pub returns : goal.returns
returns c =
    both-done _ _ _ _ _ _ _ c.in_ok-finding.was c.write_entries.ensures c.in-Some.is c.units.ensures c.text_fits.ensures c.if-not-text_fits.false c.write_text-text.ensures

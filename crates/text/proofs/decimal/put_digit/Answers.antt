-- `put_digit`: one store is a run of one byte. Assumes nothing.
use Rattle.lent.proofs.Stored.{stored-byte}
use Rattle.text.proofs.decimal.put_digit.Goals as goal

pub returns : goal.returns
returns c = search stored-byte

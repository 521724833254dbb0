-- `add_record`: the row, the path and the state are the new record's. Assumes nothing.
use Rattle.tables.proofs.Adds.{added}
use Rattle.tables.proofs.add.add_record.Goals as goal

pub returns : goal.returns
returns c = added c.requires c.fields_of-fields.ensures c.link_record.ensures c.keep_path.ensures c.keep_state.ensures c.counted_with.ensures

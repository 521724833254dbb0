-- `aznifrem_json` gives the number, or both counts. Assumes nothing.
use Rattle.aznifrem.proofs.Backs.{six-back}
use Rattle.aznifrem.proofs.Exports.{json-few, json-given}
use Rattle.aznifrem.proofs.aznifrem_json.Goals as goal

pub given_both-requires : goal.given_both-requires
given_both-requires c = json-few c.map_json.ensures.mapped

pub returns : goal.returns
returns c = search (six-back, json-given)

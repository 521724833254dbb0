-- `put_answer`: a refusal's line, or one for each entry. Assumes nothing.
use Rattle.map.proofs.Telling.{map-told, told-map}
use Rattle.map.proofs.lines.put_answer.Goals as goal

pub put_lines-requires : goal.put_lines-requires
put_lines-requires c = map-told c.in-Ok.is c.requires

pub returns-in-Ok : goal.returns-in-Ok
returns-in-Ok c = told-map c.in-Ok.is c.put_lines.ensures

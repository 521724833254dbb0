-- `put_map`: what the call leaves is printed. Assumes nothing.
use Rattle.map.proofs.Answering.{shows, printed}
use Rattle.map.proofs.rooms.put_map.Goals as goal

pub put_answer-requires : goal.put_answer-requires
put_answer-requires c = shows c.requires c.map_code-answer.ensures.mapped

pub returns : goal.returns
returns c = printed c.requires c.map_code-answer.ensures.mapped c.put_answer.ensures

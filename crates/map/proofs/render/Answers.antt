-- `render`: a refusal, or an answer. Assumes nothing.
use Rattle.map.proofs.Rendering.{renders-answer}
use Rattle.map.proofs.render.Goals as goal

pub returns : goal.returns
returns c = renders-answer c.decode.ensures c.in-Some.is c.put_code.ensures

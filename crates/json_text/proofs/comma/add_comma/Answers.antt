-- `add_comma`: nothing stands there yet, or a comma is put. Assumes nothing.
use Rattle.json_text.proofs.Lines.{comma-none, comma-some}
use Rattle.json_text.proofs.comma.add_comma.Goals as goal

pub returns-then-output-begin : goal.returns-then-output-begin
returns-then-output-begin c = search comma-some

pub returns-else-output-begin : goal.returns-else-output-begin
returns-else-output-begin c = search comma-none

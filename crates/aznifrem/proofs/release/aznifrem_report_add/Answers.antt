-- `aznifrem_report_add` meets its contract: the answer as one number. Assumes nothing.
use Rattle.aznifrem.proofs.ReportExports.{added-given}
use Rattle.aznifrem.proofs.release.aznifrem_report_add.Goals as goal

pub returns : goal.returns
returns c = search added-given

-- `aznifrem_report_join` meets its contract: the answer as one number. Assumes nothing.
use Rattle.aznifrem.proofs.ReportExports.{joined-given}
use Rattle.aznifrem.proofs.release.aznifrem_report_join.Goals as goal

pub returns : goal.returns
returns c = search joined-given

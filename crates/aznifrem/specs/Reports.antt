-- What an exported call on a report gives and leaves, by its outcome. Assumes nothing.
use Rattle.std.specs.Prelude.{◌≡◌, ℕ, List}
use Rattle.spec.specs.Report.{ReportOutcome, reports_as, report_after}

pub record ExportedReport (report : List ℕ) (o : ReportOutcome) (report' : List ℕ) (x : ℕ) : Type 0 where
  pub number : x ≡ reports_as o
  pub bytes : report' ≡ report_after report o

-- What a map that is added gives and leaves. Assumes nothing.
use Rattle.std.specs.Prelude.{ℕ, ◌≡◌, List, Result}
use Rattle.spec.specs.Report.{report_add, report_after}
use Rattle.refusal.specs.declared.Refusal.{Refusal}
use Rattle.report.specs.Merging.{said_of}

pub record Added (report map report' : List ℕ) (r : Result Unit Refusal) : Type 0 where
  pub said : r ≡ said_of (report_add report map)
  pub bytes : report' ≡ report_after report (report_add report map)

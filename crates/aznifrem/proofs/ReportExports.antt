-- What the exported calls on reports give. Assumes nothing.
use mathlib.Core.Path.{◌≡◌, refl, ap, ◌∙◌}
use Prim.Native.Nat.{ℕ}
use mathlib.Core.List.{List}
use Rattle.std.specs.Prelude.{Result}
use Rattle.spec.specs.Report.{ReportOutcome, reported, bad_map, no_fit, reports_as, report_add, report_join}
use Rattle.refusal.specs.declared.Refusal.{Refusal}
use Rattle.report.specs.Merging.{said_of, Told}
use Rattle.report.specs.Calls.{Added}
use Rattle.aznifrem.specs.Reports.{ExportedReport}
use Rattle.aznifrem.specs.Told.{told_of}
use Rattle.aznifrem.proofs.Telling.{told_none}

-- an answer as one number
joined : (o : ReportOutcome) → told_of (said_of o) ≡ reports_as o
joined (reported b) = refl
joined (bad_map at) = refl
joined no_fit = told_none 16

module _ (report other : List ℕ) {report' : List ℕ} {r : Result Unit Refusal} {x : ℕ} (k : x ≡ told_of r) where
  pub added-given : Added report other report' r → ExportedReport report (report_add report other) report' x
  added-given a = record { number = k ∙ ap told_of a.said ∙ joined (report_add report other); bytes = a.bytes }

  pub joined-given : Told report (report_join report other) report' r → ExportedReport report (report_join report other) report' x
  joined-given t = record { number = k ∙ ap told_of t.said ∙ joined (report_join report other); bytes = t.bytes }

-- The contracts leave no choice: two results of one call are the same, byte for byte. Assumes nothing.
use mathlib.Core.Path.{◌≡◌, sym, ◌∙◌}
use mathlib.Core.List.{List}
use Prim.Native.Nat.{ℕ}
use Rattle.spec.specs.Report.{ReportOutcome}
use Rattle.std.specs.Prelude.{Result}
use Rattle.refusal.specs.declared.Refusal.{Refusal}
use Rattle.report.specs.Merging.{Told}
use Rattle.report.specs.Calls.{Added}

pub one-added : {report map u v : List ℕ} {r s : Result Unit Refusal} → Added report map u r → Added report map v s → (r ≡ s) × (u ≡ v)
one-added p q = (p.said ∙ sym q.said, p.bytes ∙ sym q.bytes)

pub one_told : {report : List ℕ} {o : ReportOutcome} {u v : List ℕ} {r s : Result Unit Refusal} → Told report o u r → Told report o v s → (r ≡ s) × (u ≡ v)
one_told p q = (p.said ∙ sym q.said, p.bytes ∙ sym q.bytes)

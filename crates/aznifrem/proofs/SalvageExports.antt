-- What aznifrem_salvage gives. Assumes nothing.
use mathlib.Core.Path.{◌≡◌, refl, ap, ◌∙◌}
use mathlib.Core.List.{List}
use Prim.Native.Nat.{ℕ}
use Rattle.std.specs.Prelude.{Result}
use Rattle.spec.specs.Salvage.{salvage, has_room, salvages_as}
use Rattle.laws.proofs.Branch.{both}
use Rattle.refusal.specs.declared.Refusal.{Refusal}
use Rattle.salvage.specs.Promises.{answer_of, Salvaged}
use Rattle.aznifrem.specs.Archives.{ExportedSalvage}
use Rattle.aznifrem.specs.Told.{told_of}
use Rattle.aznifrem.proofs.Telling.{told_none}

-- 0, or 18
number-told : (archive out report : List ℕ) → told_of (answer_of (salvages_as archive out report)) ≡ salvages_as archive out report
number-told archive out report = both (λ (n : ℕ). told_of (answer_of n) ≡ n) (has_room (salvage archive) out report) (λ _. refl) (λ _. told_none 18)

pub salvage-given : {archive out report out' report' : List ℕ} {r : Result Unit Refusal} {x : ℕ} → Salvaged archive out report r out' report' → x ≡ told_of r
    → ExportedSalvage archive out report out' report' x
salvage-given {archive} {out} {report} s k = record { number = k ∙ ap told_of s.said ∙ number-told archive out report; out_is = s.out_is; report_is = s.report_is }

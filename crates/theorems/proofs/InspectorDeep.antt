-- Document 02, No. 12, with less asked of the words: on any deep enough stack an accepted entry's path leads to its destination, and nothing is asked about
-- masks. Assumes nothing.
use Prim.Native.Nat.{ℕ}
use native.Mathlib.Omega.{arith}
use mathlib.Core.Path.{◌≡◌}
use mathlib.Core.List.{List}
use Rattle.spec.specs.Opcodes.{Rules}
use Rattle.spec.specs.Stacks.{Stack}
use Rattle.spec.specs.PathDeep.{LeadsAnyhow}
use Rattle.spec.specs.Search.{found, Rec}
use Rattle.spec.specs.Entries.{Map}
use Rattle.spec.specs.Reader.{holds, read}
use Rattle.spec.specs.Inspector.{accepted, inspect}
use Rattle.laws.proofs.Members.{In}
use Rattle.theorems.proofs.PathDeep.{path-leads-anyhow}
use Rattle.theorems.proofs.InspectorCall.{paths-of, accepted-taken, accepted-right}
use Rattle.theorems.proofs.Counts.{Lawful}

module _ (rules : Rules) (ok : Lawful rules.row) where
  pub inspected-leads-anyhow : (code bs : List ℕ) (work : ℕ) (m : Map) → inspect rules code bs work ≡ accepted → read bs ≡ holds m → {r : Rec} → In r (paths-of m)
      → {t : ℕ} {s : Stack} → r.to ≡ found t s → LeadsAnyhow rules.row code r.path t
  inspected-leads-anyhow code bs work m e q {r} i {t} {s} f =
      path-leads-anyhow rules ok code (omega (arith, (accepted-taken rules ok code bs work e).code_fits)) (accepted-right rules ok code bs work m e q i t s f).sees

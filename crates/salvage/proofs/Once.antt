-- The contract leaves no choice: two results of one call are the same. Assumes nothing.
use mathlib.Core.Path.{◌≡◌, sym, ◌∙◌}
use mathlib.Core.List.{List}
use Prim.Native.Nat.{ℕ}
use Rattle.std.specs.Prelude.{Result}
use Rattle.refusal.specs.declared.Refusal.{Refusal}
use Rattle.salvage.specs.Promises.{Salvaged}

pub one-salvage : {archive out report : List ℕ} {x y : Result Unit Refusal} {o p r q : List ℕ} → Salvaged archive out report x o r → Salvaged archive out report y p q → (x ≡ y) × (o ≡ p) × (r ≡ q)
one-salvage k l = (k.said ∙ sym l.said, k.out_is ∙ sym l.out_is, k.report_is ∙ sym l.report_is)

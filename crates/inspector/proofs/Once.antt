-- The contracts leave no choice: two results of one call are the same, byte for byte. Assumes nothing.
use mathlib.Core.Path.{◌≡◌, sym, ◌∙◌}
use mathlib.Core.List.{List}
use Prim.Native.Nat.{ℕ}
use Rattle.std.specs.Prelude.{Result}
use Rattle.inspector.specs.Calling.{InspectedFrom, InspectedAs}
use Rattle.refusal.specs.declared.Refusal.{Refusal}

pub one-inspect : {mode : ℕ} {code map w place w₁ w₂ place₁ place₂ : List ℕ} {r s : Result Unit Refusal} → InspectedAs mode code map w place w₁ place₁ r → InspectedAs mode code map w place w₂ place₂ s
    → (r ≡ s) × (w₁ ≡ w₂) × (place₁ ≡ place₂)
one-inspect c d = (c.result.is ∙ sym d.result.is, c.w_is ∙ sym d.w_is, c.place_is ∙ sym d.place_is)

pub one-inspect_from : {mode from : ℕ} {code map w rs w₁ w₂ rs₁ rs₂ : List ℕ} {r s : Result Unit Refusal} → InspectedFrom mode code map from w rs w₁ rs₁ r → InspectedFrom mode code map from w rs w₂ rs₂ s
    → (r ≡ s) × (w₁ ≡ w₂) × (rs₁ ≡ rs₂)
one-inspect_from c d = (c.result.is ∙ sym d.result.is, c.w_is ∙ sym d.w_is, c.rows_are ∙ sym d.rows_are)

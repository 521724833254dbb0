-- The contract leaves no choice: two results of one call are the same, byte for byte. Assumes nothing.
use Rattle.std.proofs.Common.{◌≡◌, ℕ, List, sym, ◌∙◌, Result}
use Rattle.follow.specs.Following.{FollowedAs}
use Rattle.refusal.specs.declared.Refusal.{Refusal}

pub one-follow : {b code log work counts work₁ work₂ counts₁ counts₂ : List ℕ} {r s : Result ℕ Refusal} → FollowedAs b code log work counts work₁ counts₁ r → FollowedAs b code log work counts work₂ counts₂ s
    → (r ≡ s) × (work₁ ≡ work₂) × (counts₁ ≡ counts₂)
one-follow c d = (c.result ∙ sym d.result, c.work_is ∙ sym d.work_is, c.counts_are ∙ sym d.counts_are)

-- The ways out of destined, and that a destination is the definitions' one. Assumes nothing.
use mathlib.Core.Path.{◌≡◌, sym, ◌∙◌}
use Prim.Native.Nat.{ℕ}
use lib.Dec.{eqb}
use borrow.Author.Tests.{eq-eqb, ne_eqb}
use Rattle.std.specs.Prelude.{Option, Some, None}
use Rattle.spec.specs.Reader.{destined}
use Rattle.laws.proofs.Branch.{both, if-true, if-false}
use Rattle.reader.specs.Dests.{goes_to, found_of}

module _ {missing t x : ℕ} (h : x ≡ missing) where
  pub goes_nowhere : t ≡ x → None ≡ goes_to missing t
  goes_nowhere e = sym (if-true (eqb t missing) None (Some t) (eq-eqb t missing (e ∙ h)))

  pub goes_there : (t ≡ x → ⊥) → Some t ≡ goes_to missing t
  goes_there n = sym (if-false (eqb t missing) None (Some t) (ne_eqb t missing (λ e. n (e ∙ sym h))))

pub destined-is : (missing n : ℕ) → destined missing n ≡ found_of (goes_to missing n)
destined-is missing n = both (λ (d : Option ℕ). destined missing n ≡ found_of d) (eqb n missing) (λ y. if-true _ _ _ y) (λ f. if-false _ _ _ f)

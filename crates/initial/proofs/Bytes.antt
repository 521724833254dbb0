-- What a byte is to the cutting. Assumes nothing.
use mathlib.Core.Path.{◌≡◌, refl, sym, ap, ◌∙◌}
use mathlib.Core.Bool.{Bool, true, false}
use mathlib.Core.Logic.{◌⊎◌, inl, inr, ⊎_elim}
use Prim.Native.Nat.{ℕ, ◌≤◌, ◌<◌}
use native.Mathlib.Nat.{eq-or-lt_of_le}
use native.Mathlib.Omega.{arith}
use lib.Dec.{T}
use borrow.Author.Tests.{ne_eqb}
use Rattle.spec.specs.Lists.{if}
use Rattle.spec.specs.Opcodes.{row}
use Rattle.spec.specs.Blocks as spec
use Rattle.spec.specs.Blocks.{cut}
use Rattle.laws.proofs.Branch.{if-true, if-false}
use Rattle.evm.proofs.Table.{◌both◌, every, every-at}
use Rattle.initial.specs.Turn.{cut_of}
use Rattle.initial.specs.declared.turn.Cut.TheVariants.{Ends, Unknown, Other}

-- from PUSH0 to SWAP16 each byte is known, by one test that is computed at each of them
common-known : T (every (λ (k : ℕ). (row k).known) 0x5F 0x41)
unfolding every ◌both◌ row if
common-known = tt

pub far-below : {x : ℕ} → x < 0x5F → x < 0xFD
far-below h = omega arith

passes : (b : Bool) → T b → b ≡ true
passes true t = refl
passes false t = absurd t

-- ---- the others, which no key of the decision fits

module _ (x : ℕ) (rest : (((Unit {0} × (x ≡ 0x5B → ⊥)) × (x ≡ 0x57 → ⊥)) × (x ≡ 0x56 → ⊥)) × ((x ≡ 0x00) ⊎ ((x ≡ 0xF3) ⊎ (x ≡ 0xFF)) → ⊥)) where
  pub cut-fails : 0xFD ≤ x → x < 256 → Ends false ≡ cut_of (cut row x)
  unfolding if
  cut-fails h g =
      let n : x ≡ 0xFF → ⊥ = λ e. rest.1 (inr (inr e)) in
      ⊎_elim (λ (e : x ≡ 0xFE). rw e) (λ (k : x < 0xFE). let e : x ≡ 0xFD = omega arith in rw e) (eq-or-lt_of_le (omega arith))

  cut-rest : x < 0xFD → cut row x ≡ if (row x).known spec.OTHER spec.UNKNOWN
  cut-rest h =
      rw (
        ne_eqb x 0x5B rest.0.0.0.1,
        ne_eqb x 0x57 rest.0.0.1,
        ne_eqb x 0x56 rest.0.1,
        ne_eqb x 0x00 (λ e. rest.1 (inl e)),
        ne_eqb x 0xF3 (λ e. rest.1 (inr (inl e))),
        ne_eqb x 0xFF (λ e. rest.1 (inr (inr e))),
        ne_eqb x 0xFD (λ e. omega arith),
        ne_eqb x 0xFE (λ e. omega arith),
      )
      (if-false false _ _ refl ∙ if-false false _ _ refl ∙ if-false false _ _ refl ∙ if-false false _ _ refl ∙ if-false false _ _ refl)

  pub cut-other : {k : Bool} → x < 0xFD → k ≡ (row x).known → k ≡ true → Other ≡ cut_of (cut row x)
  cut-other h e t = sym (ap cut_of (cut-rest h ∙ if-true _ _ _ (sym e ∙ t)))

  pub cut-common : 0x5F ≤ x → x < 0xA0 → Other ≡ cut_of (cut row x)
  cut-common h g = cut-other (omega arith) (sym (passes (row x).known (every-at (λ (k : ℕ). (row k).known) 0x41 0x5F x common-known h (omega arith)))) refl

  pub cut-unknown : {k : Bool} → x < 0xFD → k ≡ (row x).known → k ≡ false → Unknown ≡ cut_of (cut row x)
  cut-unknown h e t = sym (ap cut_of (cut-rest h ∙ if-false _ _ _ (sym e ∙ t)))

pub cut-success : (x : ℕ) → (x ≡ 0x00) ⊎ ((x ≡ 0xF3) ⊎ (x ≡ 0xFF)) → Ends true ≡ cut_of (cut row x)
unfolding if
cut-success x (inl e) = rw e
cut-success x (inr (inl e)) = rw e
cut-success x (inr (inr e)) = rw e

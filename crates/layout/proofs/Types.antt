-- What a row's numbers say of the type of its block, and back: for each kind's byte the type, and from a type the byte. Assumes nothing.
use mathlib.Core.Path.{◌≡◌, refl, sym, ap, ◌∙◌}
use mathlib.Core.Bool.{true, false, not}
use mathlib.Core.List.{List}
use Prim.Native.Nat.{ℕ, ◌≤◌, ◌<◌}
use native.Mathlib.Omega.{arith}
use lib.Dec.{eqb, leb}
use borrow.Author.Tests.{eqb-true, eqb-false, eq-eqb, ne_eqb, le-leb}
use Rattle.std.specs.Option.{is_some}
use Rattle.std.specs.Prelude.{Option, Some, None}
use Rattle.spec.specs.Lists.{if}
use Rattle.laws.proofs.Branch.{both, if-true, if-false}
use Rattle.layout.specs.Rows.{tag_of, to_of, other_of, typed, read_as, tag_at, type_at, TypeIs, BlockIs}
use Rattle.layout.specs.declared.row.RowType.{RowType}
use Rattle.layout.specs.declared.row.BlockType.{BlockType}
use Rattle.layout.specs.declared.row.BlockType.TheVariants.{Terminate, Jump, Jumpi, DynamicJump, DynamicJumpi}

-- ---- from a kind's byte to the type

module _ (to f : ℕ) {k : ℕ} where
  pub typed-failure : k ≡ 1 → typed k to f ≡ Terminate false
  unfolding typed if
  typed-failure e = rw e

  pub typed-success : k ≡ 2 → typed k to f ≡ Terminate true
  unfolding typed if
  typed-success e = rw e

  pub typed-jump : k ≡ 3 → typed k to f ≡ Jump to
  unfolding typed if
  typed-jump e = rw e

  pub typed-jumpi : k ≡ 4 → typed k to f ≡ Jumpi to f
  unfolding typed if
  typed-jumpi e = rw e

  pub typed-dynamic_jump : k ≡ 5 → typed k to f ≡ DynamicJump
  unfolding typed if
  typed-dynamic_jump e = rw e

  pub typed-dynamic_jumpi : 6 ≤ k → typed k to f ≡ DynamicJumpi f
  unfolding typed if
  typed-dynamic_jumpi h =
      rw (ne_eqb k 1 (λ e. omega arith), ne_eqb k 2 (λ e. omega arith), ne_eqb k 3 (λ e. omega arith), ne_eqb k 4 (λ e. omega arith), ne_eqb k 5 (λ e. omega arith))

  pub read-none : k ≡ 0 → None ≡ read_as k to f
  unfolding read_as
  read-none e = sym (if-true _ _ _ (eq-eqb k 0 e))

  pub read-some : {t : BlockType} → (k ≡ 0 → ⊥) → typed k to f ≡ t → Some t ≡ read_as k to f
  unfolding read_as
  read-some h e = sym (if-false _ _ _ (ne_eqb k 0 h) ∙ ap (λ (t : BlockType). Some t) e)

-- ---- from the type to the byte

module _ (k to f : ℕ) where
  pub is-none : read_as k to f ≡ None → k ≡ 0
  unfolding read_as
  is-none = both (λ (o : Option BlockType). o ≡ None → k ≡ 0) (eqb k 0) (λ z _. eqb-true k 0 z) (λ _ e. cc)

  pub is-some : {t : BlockType} → read_as k to f ≡ Some t → (k ≡ 0 → ⊥) × (typed k to f ≡ t)
  unfolding read_as
  is-some {t} = both (λ (o : Option BlockType). o ≡ Some t → (k ≡ 0 → ⊥) × (typed k to f ≡ t)) (eqb k 0) (λ _ e. cc) (λ z e. (eqb-false k 0 z, cc))

  -- what holds of each kind's byte and its type holds of the type that is read
  pub by-byte : (F : BlockType → Type 0) → (k ≡ 1 → F (Terminate false)) → (k ≡ 2 → F (Terminate true)) → (k ≡ 3 → F (Jump to)) → (k ≡ 4 → F (Jumpi to f)) → (k ≡ 5 → F DynamicJump)
      → ((k ≡ 0 → ⊥) → 6 ≤ k → F (DynamicJumpi f)) → (k ≡ 0 → ⊥) → F (typed k to f)
  unfolding typed
  by-byte F a b c d e g z =
      both F (eqb k 1) (λ h. a (eqb-true k 1 h))
      (λ n1. both F (eqb k 2) (λ h. b (eqb-true k 2 h))
      (λ n2. both F (eqb k 3) (λ h. c (eqb-true k 3 h))
      (λ n3. both F (eqb k 4) (λ h. d (eqb-true k 4 h))
      (λ n4. both F (eqb k 5) (λ h. e (eqb-true k 5 h))
      (λ n5. g z (omega (arith, z, eqb-false k 1 n1, eqb-false k 2 n2, eqb-false k 3 n3, eqb-false k 4 n4, eqb-false k 5 n5)))))))

  pub is-jump : {x : ℕ} → (k ≡ 0 → ⊥) → typed k to f ≡ Jump x → (k ≡ 3) × (to ≡ x)
  is-jump {x} = by-byte (λ t. t ≡ Jump x → (k ≡ 3) × (to ≡ x)) (λ _ e. cc) (λ _ e. cc) (λ h e. (h, cc)) (λ _ e. cc) (λ _ e. cc) (λ _ _ e. cc)

  pub is-jumpi : {x y : ℕ} → (k ≡ 0 → ⊥) → typed k to f ≡ Jumpi x y → (k ≡ 4) × (to ≡ x) × (f ≡ y)
  is-jumpi {x} {y} = by-byte (λ t. t ≡ Jumpi x y → (k ≡ 4) × (to ≡ x) × (f ≡ y)) (λ _ e. cc) (λ _ e. cc) (λ _ e. cc) (λ h e. (h, cc, cc)) (λ _ e. cc) (λ _ _ e. cc)

  pub is-dynamic_jumpi : {y : ℕ} → (k ≡ 0 → ⊥) → typed k to f ≡ DynamicJumpi y → (6 ≤ k) × (f ≡ y)
  is-dynamic_jumpi {y} = by-byte (λ t. t ≡ DynamicJumpi y → (6 ≤ k) × (f ≡ y)) (λ _ e. cc) (λ _ e. cc) (λ _ e. cc) (λ _ e. cc) (λ _ e. cc) (λ _ h e. (h, cc))

-- ---- what is written of a type is read back as it, and small

pub typed-back : (t : BlockType) → typed (tag_of t) (to_of t) (other_of t) ≡ t
unfolding typed if
typed-back (Terminate false) = refl
typed-back (Terminate true) = refl
typed-back (Jump to) = refl
typed-back (Jumpi to f) = refl
typed-back DynamicJump = refl
typed-back (DynamicJumpi f) = refl

pub tag-range : (t : BlockType) → (0 < tag_of t) × (tag_of t < 7)
tag-range (Terminate false) = (omega arith, omega arith)
tag-range (Terminate true) = (omega arith, omega arith)
tag-range (Jump to) = (omega arith, omega arith)
tag-range (Jumpi to f) = (omega arith, omega arith)
tag-range DynamicJump = (omega arith, omega arith)
tag-range (DynamicJumpi f) = (omega arith, omega arith)

pub read-back : (t : BlockType) → read_as (tag_of t) (to_of t) (other_of t) ≡ Some t
read-back t = sym (read-some (to_of t) (other_of t) (λ z. omega (arith, (tag-range t).0)) (typed-back t))

-- the dynamic kinds have the bytes from 5 on
pub tag-dynamic : (k to f : ℕ) → (k ≡ 0 → ⊥) → leb 5 (tag_of (typed k to f)) ≡ leb 5 k
tag-dynamic k to f z =
    by-byte k to f (λ t. leb 5 (tag_of t) ≡ leb 5 k) (λ e. rw e) (λ e. rw e) (λ e. rw e) (λ e. rw e) (λ e. rw e) (λ _ h. sym (le-leb 5 k (omega arith))) z

-- ---- the row of an address, by what was read of it

-- by its numbers
pub read-block : {w : List ℕ} {a : ℕ} {n : RowType} {o : Option BlockType} → TypeIs w a n → o ≡ read_as n.kind n.to n.other → BlockIs w a o
read-block h e = record { is = e ∙ ap (λ (m : RowType). read_as m.kind m.to m.other) h.is; to = rw h.is at h.to; other = rw h.is at h.other }

module _ {w : List ℕ} {a : ℕ} {r : Option BlockType} (h : BlockIs w a r) where
  pub row-none : r ≡ None → tag_at w a ≡ 0
  row-none e = is-none _ _ _ (sym h.is ∙ e)

  pub row-some : {t : BlockType} → r ≡ Some t → (tag_at w a ≡ 0 → ⊥) × (type_at w a ≡ t)
  row-some e = is-some _ _ _ (sym h.is ∙ e)

  -- whether a block starts there
  pub row-is_some : is_some r ≡ not (eqb (tag_at w a) 0)
  unfolding read_as
  row-is_some = ap is_some h.is ∙ both (λ (o : Option BlockType). is_some o ≡ not (eqb (tag_at w a) 0)) (eqb (tag_at w a) 0) (λ e. ap not (sym e)) (λ e. ap not (sym e))

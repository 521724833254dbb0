-- A DynamicJump, by the row's first byte. Assumes nothing.
use mathlib.Core.Path.{◌≡◌, refl, sym, ap, ◌∙◌}
use mathlib.Core.Bool.{Bool, false}
use mathlib.Core.List.{List}
use Prim.Native.Nat.{ℕ}
use native.Mathlib.Omega.{arith}
use lib.Dec.{eqb}
use borrow.Author.Tests.{ne_eqb}
use Rattle.std.specs.Prelude.{Option, Some, None}
use Rattle.layout.specs.Rows.{tag_of, typed, tag_at, BlockIs}
use Rattle.layout.specs.declared.row.BlockType.{BlockType}
use Rattle.layout.proofs.Types.{by-byte, row-none, row-some}

pub tag-five : (k to f : ℕ) → (k ≡ 0 → ⊥) → eqb (tag_of (typed k to f)) 5 ≡ eqb k 5
tag-five k to f z =
    by-byte k to f (λ t. eqb (tag_of t) 5 ≡ eqb k 5) (λ e. rw e refl) (λ e. rw e refl) (λ e. rw e refl) (λ e. rw e refl) (λ e. rw e refl)
    (λ _ h. sym (ne_eqb k 5 (λ e. omega arith))) z

module _ {w : List ℕ} {a : ℕ} {r : Option BlockType} (h : BlockIs w a r) where
  pub kind-none : r ≡ None → false ≡ eqb (tag_at w a) 5
  kind-none e = rw (row-none h e) refl

  pub kind-some : {t : BlockType} {b : Bool} → r ≡ Some t → b ≡ eqb (tag_of t) 5 → b ≡ eqb (tag_at w a) 5
  kind-some e b = let x = row-some h e in b ∙ sym (ap (λ (t : BlockType). eqb (tag_of t) 5) x.1) ∙ tag-five _ _ _ x.0

-- The laws of `sides`: the static sides of a row, kind by kind, and that they are addresses. Assumes nothing.
use mathlib.Core.Path.{◌≡◌, refl, sym, ap, ◌∙◌}
use mathlib.Core.Bool.{false, or-true, or_self_left}
use mathlib.Core.List.{List, [], ◌∷◌}
use Prim.Native.Nat.{ℕ, ◌≤◌}
use lib.Dec.{eqb}
use borrow.Author.Tests.{eqb-true, eq-eqb, ne_eqb}
use Rattle.std.specs.Prelude.{Option, Some, None, option_to_list}
use Rattle.spec.specs.Lists.{if, mem}
use Rattle.spec.specs.Search.{sides}
use Rattle.laws.proofs.Branch.{both, if-true, if-false}
use Rattle.laws.proofs.Members.{mem-append}
use Rattle.layout.specs.Rows.{tag_at, BlockIs}
use Rattle.layout.specs.declared.row.BlockType.{BlockType}
use Rattle.layout.specs.declared.row.BlockType.TheVariants.{Terminate, Jump, Jumpi, DynamicJump, DynamicJumpi}
use Rattle.layout.proofs.Types.{row-none, row-some}
use Rattle.initial.specs.Rows.{kind_of}
use Rattle.reachable.specs.Edges.{sides_at, SidesOf}
use Rattle.reachable.specs.Promises.{SidesWithin, SideWithin}
use Rattle.reachable.proofs.Tests.{mem-one}
use Rattle.reachable.proofs.Rows.{sides-of}

-- ---- the sides, kind by kind

module _ {w : List ℕ} {x : ℕ} {o : Option BlockType} (r : BlockIs w x o) where
  pub pair-empty : o ≡ None → SidesOf w x None None
  pair-empty e = record { same = λ y. ap (mem y) (sides-of w x ∙ if-true _ _ _ (eq-eqb (tag_at w x) 0 (row-none r e))) }

  module _ {t : BlockType} (there : o ≡ Some t) where
    sides-there : sides_at w x ≡ sides (kind_of t)
    sides-there =
        let h = row-some r there in
        sides-of w x ∙ if-false _ _ _ (ne_eqb (tag_at w x) 0 h.0) ∙ ap (λ (u : BlockType). sides (kind_of u)) h.1

    pub pair-jump : {to : ℕ} → t ≡ Jump to → SidesOf w x (Some to) None
    pair-jump e = record { same = λ y. ap (mem y) (sides-there ∙ ap (λ (u : BlockType). sides (kind_of u)) e) }

    -- equal sides are one
    pub pair-jumpi : {to f : ℕ} → t ≡ Jumpi to f → SidesOf w x (Some to) (Some f)
    pair-jumpi {to} {f} e = record { same = λ y. ap (mem y) (sides-there ∙ ap (λ (u : BlockType). sides (kind_of u)) e) ∙ once y }
      where
        once : (y : ℕ) → mem y (if (eqb to f) (to ∷ []) (to ∷ f ∷ [])) ≡ mem y (to ∷ f ∷ [])
        once y =
            both (λ (l : List ℕ). mem y l ≡ mem y (to ∷ f ∷ [])) (eqb to f) (λ on. rw (eqb-true to f on) (sym (or_self_left (eqb y f) false))) (λ _. refl)

    pub pair-false : {f : ℕ} → t ≡ DynamicJumpi f → SidesOf w x None (Some f)
    pair-false e = record { same = λ y. ap (mem y) (sides-there ∙ ap (λ (u : BlockType). sides (kind_of u)) e) }

    pub pair-none : ((to : ℕ) → t ≡ Jump to → ⊥) → ((to f : ℕ) → t ≡ Jumpi to f → ⊥) → ((f : ℕ) → t ≡ DynamicJumpi f → ⊥) → SidesOf w x None None
    pair-none h g k = record { same = λ y. ap (mem y) (sides-there ∙ no-sides t h g k) }
      where
        no-sides : (u : BlockType) → ((to : ℕ) → u ≡ Jump to → ⊥) → ((to f : ℕ) → u ≡ Jumpi to f → ⊥) → ((f : ℕ) → u ≡ DynamicJumpi f → ⊥) → sides (kind_of u) ≡ []
        no-sides (Terminate success) a b c = refl
        no-sides (Jump to) a b c = absurd (a to refl)
        no-sides (Jumpi to f) a b c = absurd (b to f refl)
        no-sides DynamicJump a b c = refl
        no-sides (DynamicJumpi f) a b c = absurd (c f refl)

-- ---- they are addresses

module _ {n x : ℕ} {w : List ℕ} {to other : Option ℕ} (s : SidesWithin w n) (h : x ≤ n) (p : SidesOf w x to other) where
  pub to-within : SideWithin n to
  to-within = record { within = λ t i. s.within x t h (p.same t ∙ mem-append t (option_to_list to) (option_to_list other) ∙ rw i) }

  pub other-within : SideWithin n other
  other-within = record { within = λ t i. s.within x t h (p.same t ∙ mem-append t (option_to_list to) (option_to_list other) ∙ rw (i, or-true (mem t (option_to_list to)))) }

-- a side that there is
pub within-some : {n t : ℕ} {side : Option ℕ} → SideWithin n side → side ≡ Some t → t ≤ n
within-some {t = t} s e = s.within t (rw (e, mem-one t t, eq-eqb t t refl))

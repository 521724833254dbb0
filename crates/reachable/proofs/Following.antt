-- The laws of `follow`: what is asked and left where the sides of a row are taken. Assumes nothing.
use mathlib.Core.Path.{◌≡◌}
use mathlib.Core.List.{List}
use Prim.Native.Nat.{ℕ}
use native.Mathlib.Omega.{arith}
use Rattle.std.specs.Prelude.{Option, Some, None, option_to_list}
use Rattle.reachable.specs.Edges.{sides_at, SidesOf}
use Rattle.reachable.specs.Promises.{SidesWithin, Going, GoingSide, Took}
use Rattle.reachable.proofs.Pairs.{to-within, other-within, within-some}
use Rattle.reachable.proofs.Spreading.{room-kept}
use Rattle.reachable.proofs.Entering.{took-none, took-after, took-same}

-- ---- one side is taken

module _ {n when count : ℕ} {w : List ℕ} {side : Option ℕ} (g : GoingSide n w side when count) where
  pub side-going : {t : ℕ} → side ≡ Some t → Going n w t when count
  side-going e = record { at = record { lent = g.lent; inside = within-some g.inside e }; small = g.small; few = g.few }

  pub side-none : side ≡ None → Took n when (option_to_list side) w count w count
  side-none e = rw e (took-none n when count w)

-- ---- both are

module _ {n x when count : ℕ} {w : List ℕ} {to other : Option ℕ} (g : Going n w x when count) (s : SidesWithin w n) (p : SidesOf w x to other) where
  pub going-to : GoingSide n w to when count
  going-to = record { lent = g.at.lent; inside = to-within s g.at.inside p; small = g.small; few = g.few }

  module _ {w₁ : List ℕ} {count₁ : ℕ} (t : Took n when (option_to_list to) w count w₁ count₁) where
    pub going-other : GoingSide n w₁ other when count₁
    going-other = record { lent = room-kept t.kept g.at.lent; inside = other-within s g.at.inside p; small = g.small; few = omega (arith, g.few, t.number) }

    pub followed : {w₂ : List ℕ} {count₂ : ℕ} → Took n when (option_to_list other) w₁ count₁ w₂ count₂ → Took n when (sides_at w x) w count w₂ count₂
    followed o = took-same (sides_at w x) (took-after t o) (λ y. rw (p.same y))

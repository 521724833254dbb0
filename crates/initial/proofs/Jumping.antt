-- Where a jump goes, and what each case of the decision over an instruction gives. Assumes nothing.
use mathlib.Core.Path.{◌≡◌, refl, sym, ap, ◌∙◌}
use mathlib.Core.Bool.{Bool, false}
use mathlib.Core.Logic.{◌⊎◌, inl, inr}
use mathlib.Core.List.{List}
use mathlib.Core.Option.{Option, none, some}
use Prim.Native.Nat.{ℕ, ◌+◌, ◌-◌, ◌≤◌, ◌<◌, min}
use native.Mathlib.Omega.{arith}
use lib.ListN.{get_or, take, drop}
use borrow.Author.Tests.{le-leb, lt-leb, eq-eqb, ne_eqb}
use Rattle.std.specs.Prelude as std
use Rattle.std.specs.Prelude.{Some, None}
use Rattle.spec.specs.Opcodes.{argument}
use Rattle.spec.specs.Walk.{big}
use Rattle.spec.specs.Blocks.{jumping, branching}
use Rattle.evm.specs.Argument.{Follow, Spelled}
use Rattle.evm.proofs.Arguments.{argument-push}
use Rattle.laws.proofs.Branch.{if-true, if-false}
use Rattle.layout.specs.declared.row.BlockType.{BlockType}
use Rattle.layout.specs.declared.row.BlockType.TheVariants as type
use Rattle.initial.specs.Rows.{type_of}
use Rattle.initial.specs.Turn.{clip, pushed_at, target_of, turn_of}
use Rattle.initial.specs.Promises.{Whole}
use Rattle.initial.specs.declared.turn.Cut.{Cut}
use Rattle.initial.specs.declared.turn.Cut.TheVariants.{Jumpdest, Jumpi, Jump, Ends, Unknown, Other}
use Rattle.initial.specs.declared.turn.Walking.TheVariants.{Opened, Waiting, Ended}
use Rattle.initial.specs.declared.turn.Effect.{Effect}
use Rattle.initial.specs.declared.turn.Effect.TheVariants.{Goes, Closes}

-- ---- what the instruction before pushed

module _ (code : List ℕ) (prev : ℕ) where
  pub push-low : get_or code prev 0 < 0x60 → pushed_at code prev ≡ none
  unfolding pushed_at
  push-low h = if-false _ _ _ (rw (lt-leb 0x60 (get_or code prev 0) h))

  push-high : 0x63 < get_or code prev 0 → pushed_at code prev ≡ none
  unfolding pushed_at
  push-high h =
      let l : 0x60 ≤ get_or code prev 0 = omega arith in
      if-false _ _ _ (rw (le-leb 0x60 (get_or code prev 0) l, lt-leb (get_or code prev 0) 0x63 h))

  pub static-none : (get_or code prev 0 < 0x60) ⊎ ((0x60 ≤ get_or code prev 0) × (0x63 < get_or code prev 0)) → None ≡ target_of (pushed_at code prev)
  unfolding target_of
  static-none (inl h) = rw (push-low h)
  static-none (inr h) = rw (push-high h.1)

  module _ (h : 0x60 ≤ get_or code prev 0) (g : get_or code prev 0 ≤ 0x63) where
    size : argument (get_or code prev 0) ≡ get_or code prev 0 - 0x5F
    size = argument-push (get_or code prev 0) h (omega arith)

    pub static-follow : Whole code prev → Follow code prev (get_or code prev 0 - 0x5F)
    static-follow w = record { few = omega arith; inside = omega (arith, w.whole, size) }

    module _ {v : ℕ} (s : Spelled code prev (get_or code prev 0 - 0x5F) v) where
      push-static : pushed_at code prev ≡ some v
      unfolding pushed_at
      push-static =
          if-true _ _ _ (rw (le-leb 0x60 (get_or code prev 0) h, le-leb (get_or code prev 0) 0x63 g))
          ∙ ap (λ (n : ℕ). some n) (ap (λ (k : ℕ). big 0 (take k (drop (prev + 1) code))) size ∙ sym s.spelt)

      pub static-some : {m : ℕ} → m ≡ min v 0xFFFF → Some m ≡ target_of (pushed_at code prev)
      unfolding target_of
      static-some e = rw (push-static, e)

-- ---- the types of jumps

pub jumping-static : (push : Option ℕ) {t : std.Option ℕ} {to : ℕ} → t ≡ target_of push → t ≡ Some to → type.Jump to ≡ type_of (clip (jumping push))
unfolding target_of
jumping-static none e d = cc
jumping-static (some v) e d = ap (λ (n : ℕ). type.Jump n) (cc)

pub jumping-dynamic : (push : Option ℕ) {t : std.Option ℕ} → t ≡ target_of push → t ≡ None → type.DynamicJump ≡ type_of (clip (jumping push))
unfolding target_of
jumping-dynamic none e d = refl
jumping-dynamic (some v) e d = cc

pub branching-static : (push : Option ℕ) (f : ℕ) {t : std.Option ℕ} {to : ℕ} → t ≡ target_of push → t ≡ Some to → type.Jumpi to f ≡ type_of (clip (branching push f))
unfolding target_of
branching-static none f e d = cc
branching-static (some v) f e d = ap (λ (n : ℕ). type.Jumpi n f) (cc)

pub branching-dynamic : (push : Option ℕ) (f : ℕ) {t : std.Option ℕ} → t ≡ target_of push → t ≡ None → type.DynamicJumpi f ≡ type_of (clip (branching push f))
unfolding target_of
branching-dynamic none f e d = refl
branching-dynamic (some v) f e d = cc

-- ---- each case of the decision

module _ (start prev : ℕ) (push : Option ℕ) (pc : ℕ) where
  pub jumpdest-own : start ≡ pc → Goes (Opened start) ≡ turn_of start prev push pc Jumpdest
  unfolding turn_of
  jumpdest-own e = sym (if-true _ _ _ (eq-eqb start pc e))

  pub jumpdest-past : (start ≡ pc → ⊥) → Closes prev (type.Jump pc) (Opened pc) ≡ turn_of start prev push pc Jumpdest
  unfolding turn_of
  jumpdest-past h = sym (if-false _ _ _ (ne_eqb start pc h))

  pub unknown-first : start ≡ 0 → Closes prev (type.Terminate false) Ended ≡ turn_of start prev push pc Unknown
  unfolding turn_of
  unknown-first e = sym (if-true _ _ _ (eq-eqb start 0 e))

  pub unknown-past : (start ≡ 0 → ⊥) → (pc ≡ start → ⊥) → Closes prev (type.Terminate false) Waiting ≡ turn_of start prev push pc Unknown
  unfolding turn_of
  unknown-past h g = sym (if-false _ _ _ (ne_eqb start 0 h) ∙ if-false _ _ _ (ne_eqb start pc (λ e. g (sym e))))

  pub unknown-own : (start ≡ 0 → ⊥) → pc ≡ start → Goes Waiting ≡ turn_of start prev push pc Unknown
  unfolding turn_of
  unknown-own h e = sym (if-false _ _ _ (ne_eqb start 0 h) ∙ if-true _ _ _ (eq-eqb start pc (sym e)))

  module _ {c : Cut} where
    pub at_jumpdest : {r : Effect} → c ≡ Jumpdest → r ≡ turn_of start prev none pc Jumpdest → r ≡ turn_of start prev push pc c
    unfolding turn_of
    at_jumpdest e q = rw e q

    pub at-unknown : {r : Effect} → c ≡ Unknown → r ≡ turn_of start prev none pc Unknown → r ≡ turn_of start prev push pc c
    unfolding turn_of
    at-unknown e q = rw e q

    pub at-jumpi : {t : BlockType} → c ≡ Jumpi → t ≡ type_of (clip (branching push (pc + 1))) → Closes pc t (Opened (pc + 1)) ≡ turn_of start prev push pc c
    unfolding turn_of
    at-jumpi e q = rw (e, q)

    pub at-jump : {t : BlockType} → c ≡ Jump → t ≡ type_of (clip (jumping push)) → Closes pc t Waiting ≡ turn_of start prev push pc c
    unfolding turn_of
    at-jump e q = rw (e, q)

    pub at-ends : {success : Bool} → c ≡ Ends success → Closes pc (type.Terminate success) Waiting ≡ turn_of start prev push pc c
    unfolding turn_of
    at-ends e = rw e

    pub at_other : c ≡ Other → Goes (Opened start) ≡ turn_of start prev push pc c
    unfolding turn_of
    at_other e = rw e

-- One instruction of the cutting: document 01's cases and the code's are the same. Assumes nothing.
use mathlib.Core.Path.{◌≡◌, refl, sym, ap, ◌∙◌}
use mathlib.Core.Bool.{Bool, true, false}
use mathlib.Core.List.{List, [], ◌∷◌, ◌++◌, map}
use mathlib.Core.Option.{Option}
use Prim.Native.Nat.{ℕ, suc, ◌+◌, ◌≤◌}
use native.Mathlib.Nat.{min-eq_left}
use native.Mathlib.Omega.{arith}
use lib.Dec.{eqb}
use lib.ListN.{get_or, drop}
use borrow.Author.Tests.{eq-eqb, ne_eqb}
use Rattle.spec.specs.Lists.{if}
use Rattle.spec.specs.Opcodes.{argument, row}
use Rattle.spec.specs.Walk.{ins, walk}
use Rattle.spec.specs.Blocks as spec
use Rattle.spec.specs.Blocks.{Block, JUMPDEST, JUMPI, JUMP, UNKNOWN, OTHER, ENDS, cut, closes, cuts, pushed}
use Rattle.evm.proofs.Walks.{walk-whole}
use Rattle.laws.proofs.Branch.{if-true, if-false}
use Rattle.initial.specs.Turn.{clipped, pushed_at, cut_of, turn_of, closed, then, resume, ahead}
use Rattle.initial.specs.Promises.{Stands}
use Rattle.initial.specs.declared.turn.Walking.TheVariants.{Opened, Waiting, Ended}
use Rattle.initial.specs.declared.turn.Effect.{Effect}
use Rattle.initial.proofs.Types.{kind-type}

-- ---- what is closed, and what is still to be cut

module _ (start prev : ℕ) (push : Option ℕ) (pc : ℕ) (on : spec.Mode → List Block) where
  -- the turn t does what is done by `closes` where that is bs
  record Agrees (t : Effect) (bs : List Block) : Type 0 where
    same : map clipped bs ≡ closed start t ++ map clipped (resume on (then t))

  agrees_if : (b : Bool) {t u : Effect} {xs ys : List Block} → Agrees t xs → Agrees u ys → Agrees (if b t u) (if b xs ys)
  unfolding if
  agrees_if true p q = p
  agrees_if false p q = q

  closes-turn : (c : spec.Cut) → pc ≤ 0xFFFF → Agrees (turn_of start prev push pc (cut_of c)) (closes start start prev push pc on c)
  unfolding turn_of
  closes-turn JUMPDEST h = agrees_if (eqb start pc) (record { same = refl }) (record { same = rw (kind-type, min-eq_left h) })
  closes-turn JUMPI h = record { same = rw kind-type }
  closes-turn JUMP h = record { same = rw kind-type }
  closes-turn (ENDS success) h = record { same = rw kind-type }
  closes-turn UNKNOWN h = agrees_if (eqb start 0) (record { same = rw kind-type }) (agrees_if (eqb start pc) (record { same = refl }) (record { same = rw kind-type }))
  closes-turn OTHER h = record { same = refl }

module _ (code : List ℕ) (pc op : ℕ) (i : Stands code pc op) (prev : ℕ) where
  -- the walk's first instruction is the one that stands there
  first : walk (drop pc code) pc 0 ≡ ins pc op (drop (pc + 1) code) ∷ walk (drop (pc + suc (argument op)) code) (pc + suc (argument op)) 0
  first = rw i.byte (walk-whole code pc (omega (arith, i.whole, ap argument i.byte)))

  pub ahead-open : (start : ℕ) → pc ≤ 0xFFFF
      → ahead code pc (Opened start) prev
      ≡ closed start (turn_of start prev (pushed_at code prev) pc (cut_of (cut row op))) ++ ahead code (pc + suc (argument op)) (then (turn_of start prev (pushed_at code prev) pc (cut_of (cut row op)))) pc
  unfolding ahead cuts pushed_at
  ahead-open start h =
      let x = get_or code pc 0 in
      let on = λ (m : spec.Mode). cuts row (walk (drop (pc + suc (argument x)) code) (pc + suc (argument x)) 0) m pc (pushed (ins pc x (drop (pc + 1) code))) in
      rw (first, i.byte) (closes-turn start prev (pushed_at code prev) pc on (cut row x) h).same

  pub ahead-found : op ≡ 0x5B → ahead code pc Waiting prev ≡ ahead code (pc + suc (argument op)) (Opened pc) pc
  unfolding ahead cuts pushed_at
  ahead-found e = rw (first, i.byte) (ap (map clipped) (if-true _ _ _ (eq-eqb _ _ (sym i.byte ∙ e))))

  pub ahead-waits : (op ≡ 0x5B → ⊥) → ahead code pc Waiting prev ≡ ahead code (pc + suc (argument op)) Waiting pc
  unfolding ahead cuts pushed_at
  ahead-waits h = rw (first, i.byte) (ap (map clipped) (if-false _ _ _ (ne_eqb _ _ (λ e. h (i.byte ∙ e)))))

pub ahead-ended : (code : List ℕ) (at prev : ℕ) → ahead code at Ended prev ≡ []
unfolding ahead
ahead-ended code at prev = refl

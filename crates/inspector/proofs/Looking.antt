-- A symbol looked up in a block's own run. Assumes nothing.
use Prim.Native.Nat.{ℕ, ◌+◌, ◌*◌, ◌^◌, ◌≤◌, ◌<◌}
use native.Mathlib.Omega.{arith}
use mathlib.Core.Path.{◌≡◌, refl, sym, ◌∙◌}
use mathlib.Core.List.{List}
use lib.ListN.{length}
use Rattle.spec.specs.Opcodes.{in_mode}
use Rattle.spec.specs.Stacks.{read, through, own}
use Rattle.state.specs.Symbols.{sym_of}
use Rattle.state.specs.Cells.{stack_at, depth, reach}
use Rattle.state.specs.Stored.{Readable}
use Rattle.exec.specs.Owns.{Runs, Owned}
use Rattle.state.specs.declared.sym.StackSym.{StackSym}
use Rattle.state.specs.declared.sym.StackSym.TheVariants.{Before, Constant, Jumpdest, Other}
use Rattle.exec.specs.declared.run.Own.{Own}
use Rattle.state.proofs.Reach.{depth-read}
use Rattle.inspector.specs.Symbols.{Lent, step, Looks, Looked}

module _ {code w : List ℕ} (l : Lent code w) where
  pub run-asks : Runs code w (64 * length code + 256)
  run-asks = record { short = l.short; inside = l.room; room = omega arith }

  pub looked-same : {mode start : ℕ} {x r : StackSym} → sym_of r ≡ sym_of x → ((p : _) → through p (sym_of x) ≡ sym_of x) → Looked mode code w start x w r
  looked-same e h = record { is = e ∙ sym (h _); near = rw e (omega arith); inside = record { front = refl; back = refl; kept = refl } }

  module _ {mode start : ℕ} {w₁ : List ℕ} {o : Own} (d : Owned mode code start w (64 * length code + 256) w₁ o) where
    module _ {x : StackSym} {n : ℕ} (q : x ≡ Before n) (k : Looks (sym_of x)) where
      deep : n < 2 ^ 60
      deep = let h : depth (sym_of x) ≤ 2 ^ 60 = k.deep in let e : depth (sym_of x) ≡ n + 1 = rw q (omega arith) in omega arith

      reaches : reach (stack_at w₁ o.at o.n) ≤ step
      reaches = rw d.lies.is (omega (arith, d.reach, l.short))

      pub looked-readable : Readable w₁ o.at o.n n
      looked-readable = record { state = d.lies.state; small = omega (arith, reaches, deep) }

      pub looked-read : {r : StackSym} → sym_of r ≡ read (stack_at w₁ o.at o.n) n → Looked mode code w start x w₁ r
      unfolding through
      looked-read {r} e =
          let f : sym_of r ≡ read (own (in_mode mode) code start).stack n = rw d.lies.is at e in
          let g : through (own (in_mode mode) code start).stack (sym_of x) ≡ read (own (in_mode mode) code start).stack n = rw q in
          let h : depth (sym_of x) ≡ n + 1 = rw q (omega arith) in
          record { is = f ∙ sym g; near = rw e (omega (arith, depth-read (stack_at w₁ o.at o.n) n, reaches)); inside = d.inside }

  -- a symbol that is no Before stays as it is
  pub looked-other : {mode start : ℕ} {x : StackSym} → ((n : ℕ) → x ≡ Before n → ⊥) → Looked mode code w start x w x
  unfolding through
  looked-other {x = Before n} h = absurd (h n refl)
  looked-other {x = Constant v} h = looked-same refl (λ p. refl)
  looked-other {x = Jumpdest v} h = looked-same refl (λ p. refl)
  looked-other {x = Other v} h = looked-same refl (λ p. refl)

-- The laws of AND, of ADD and of a row's trade on the stack in hand. Assumes nothing.
use mathlib.Core.Path.{◌≡◌}
use mathlib.Core.List.{List}
use Prim.Native.Nat.{ℕ, ◌≤◌}
use native.Mathlib.Omega.{arith}
use Rattle.spec.specs.Opcodes.{row}
use Rattle.spec.specs.Stacks.{Sym, other, known_value, Stack, read, pops, push, anded, summed}
use Rattle.evm.specs.Rows.{RowIs}
use Rattle.evm.specs.declared.rows.Row.{Row}
use Rattle.exec.specs.Working.{stack_of, after_and, after_add, after_trade, popped, Held, Becomes}
use Rattle.exec.specs.declared.top.Top.{Top}
use Rattle.exec.proofs.Working.{becomes-pops}

module _ {w w' : List ℕ} {t r : Top} (pc : ℕ) (s : Stack) (a b x : Sym) (ea : a ≡ read s 0) (eb : b ≡ read s 1) where
  pub becomes-and : x ≡ anded pc a b → Becomes w t (push x (pops 2 s)) w' r → Becomes w t (after_and pc s) w' r
  becomes-and e p = rw (← ea, ← eb, ← e) p

  pub becomes-add : (code : List ℕ) → x ≡ summed code pc (known_value a) (known_value b) → Becomes w t (push x (pops 2 s)) w' r → Becomes w t (after_add code pc s) w' r
  becomes-add code e p = rw (← ea, ← eb, ← e) p

module _ {w : List ℕ} {t u : Top} (op pc : ℕ) (r : Row) (is : RowIs op r) where
  pub trade-none : r.given ≡ 0 → u ≡ popped r.taken t → Held w t → Becomes w t (after_trade op pc (stack_of w t)) w u
  trade-none z e h = rw (← is.given, z, ← is.taken, e) (becomes-pops t r.taken h)

  pub trade-one : {w' : List ℕ} → (r.given ≡ 0 → ⊥) → (row op).given ≤ 1 → Becomes w t (push (other pc) (pops r.taken (stack_of w t))) w' u → Becomes w t (after_trade op pc (stack_of w t)) w' u
  trade-one z l b = let o : (row op).given ≡ 1 = omega (arith, z, is.given) in rw (o, ← is.taken) b

-- The contracts leave no choice: two results of one call are the same. Assumes nothing.
use mathlib.Core.Path.{◌≡◌, refl, sym, ap, ◌∙◌}
use mathlib.Core.Option.{Option}
use mathlib.Core.List.{List}
use Prim.Native.Nat.{ℕ, ◌*◌, ◌<◌}
use Rattle.spec.specs.Stacks.{Sym, before, constant, jumpdest, other, Stack}
use Rattle.lent.proofs.Once.{Same, one-stored, same-both}
use Rattle.state.specs.Symbols.{sym_of, known_of}
use Rattle.state.specs.Cells.{tag, value, Put, Lies}
use Rattle.state.specs.Composed.{Composed}
use Rattle.state.specs.declared.sym.StackSym.{StackSym}
use Rattle.state.specs.declared.sym.StackSym.TheVariants.{Before, Constant, Jumpdest, Other}
use Rattle.std.specs.Prelude as std
use Rattle.std.specs.Prelude.{Some, None}

-- ---- the code's symbols and document 01's are one to one

symbol_of : Sym → StackSym
symbol_of (before n) = Before n
symbol_of (constant v) = Constant v
symbol_of (jumpdest v) = Jumpdest v
symbol_of (other pc) = Other pc

symbol-back : (x : StackSym) → symbol_of (sym_of x) ≡ x
unfolding symbol_of
symbol-back (Before n) = refl
symbol-back (Constant v) = refl
symbol-back (Jumpdest v) = refl
symbol-back (Other pc) = refl

pub one_symbol : {x y : StackSym} {s : Sym} → sym_of x ≡ s → sym_of y ≡ s → x ≡ y
one_symbol {x} {y} p q = sym (symbol-back x) ∙ ap symbol_of (p ∙ sym q) ∙ symbol-back y

pub one_known : {x y : std.Option ℕ} {v : Option ℕ} → known_of x ≡ v → known_of y ≡ v → x ≡ y
one_known {x = Some v} {y = Some u} p q = cc
one_known {x = Some v} {y = None} p q = cc
one_known {x = None} {y = Some u} p q = cc
one_known {x = None} {y = None} p q = refl

pub one-parts : (x : Sym) {p q : ℕ × ℕ} → (p.0 ≡ tag x) × (p.1 ≡ value x) × (p.0 < 4) → (q.0 ≡ tag x) × (q.1 ≡ value x) × (q.0 < 4) → p ≡ q
one-parts x (a, b, c) (d, e, f) = λ i. ((a ∙ sym d) i, (b ∙ sym e) i)

-- ---- what stands in the buffers

pub one-put : {b b' b'' : List ℕ} {at : ℕ} {x : Sym} → Put b at x b' → Put b at x b'' → b' ≡ b''
one-put p q = (one-stored p.stored q.stored).1

pub one-composed : {s s' s'' : List ℕ} {to n m : ℕ} {x : Stack} → Composed s to x s' n → Composed s to x s'' m → (n ≡ m) × (s' ≡ s'')
one-composed p q = (p.count ∙ sym q.count, (one-stored p.stored q.stored).1)

-- a stack that lies at a place has the same bytes there
pub one_lies : {b d : List ℕ} {at n : ℕ} {s : Stack} → Lies b at n s → Lies d at n s → Same b d at (9 * n)
one_lies {at} {n} p q = same-both at (9 * n) p.state.cells (rw (q.is ∙ sym p.is) at q.state.cells)

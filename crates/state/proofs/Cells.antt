-- The laws of one cell: a symbol is read from its tag and its number, and what is put is read back. Assumes nothing.
use mathlib.Core.Path.{◌≡◌, refl}
use mathlib.Core.List.{List, ◌++◌}
use Prim.Native.Nat.{ℕ, ◌+◌, ◌^◌, ◌<◌}
use native.Mathlib.Nat.{add-zero}
use native.Mathlib.Omega.{arith}
use borrow.Author.Tests.{ne_eqb}
use Rattle.spec.specs.Lists.{if, little}
use Rattle.spec.specs.Stacks.{Sym, before, constant, jumpdest, other}
use Rattle.lent.specs.Bytes.{number, num_at, Holds, Stored}
use Rattle.lent.proofs.Numbers.{number-little}
use Rattle.lent.proofs.Stored.{stored-join, read-num}
use Rattle.state.specs.Cells.{tag, value, cell, symbol, sym_at, Put}

module _ (t n : ℕ) where
  pub tagged-before : t ≡ 0 → before n ≡ symbol t n
  unfolding symbol if
  tagged-before e = rw e

  pub tagged-constant : t ≡ 1 → constant n ≡ symbol t n
  unfolding symbol if
  tagged-constant e = rw e

  pub tagged-jumpdest : t ≡ 2 → jumpdest n ≡ symbol t n
  unfolding symbol if
  tagged-jumpdest e = rw e

  pub tagged-other : (t ≡ 0 → ⊥) → (t ≡ 1 → ⊥) → (t ≡ 2 → ⊥) → other n ≡ symbol t n
  unfolding symbol if
  tagged-other p q r = rw (ne_eqb t 0 p, ne_eqb t 1 q, ne_eqb t 2 r)

pub got : (x : Sym) (b : List ℕ) (at t n : ℕ) → x ≡ symbol t n → Holds 1 b at t → Holds 8 b (at + 1) n → x ≡ sym_at b at
unfolding sym_at
got x b at t n e p q = rw (e, ← p.is, ← q.is)

-- ---- the parts of a symbol are the symbol

little-parts : (x : Sym) → little 1 (tag x) ++ little 8 (value x) ≡ cell x
unfolding cell
little-parts (before n) = refl
little-parts (constant v) = refl
little-parts (jumpdest v) = refl
little-parts (other pc) = refl

symbol-parts : (x : Sym) → symbol (tag x) (value x) ≡ x
unfolding symbol if
symbol-parts (before n) = refl
symbol-parts (constant v) = refl
symbol-parts (jumpdest v) = refl
symbol-parts (other pc) = refl

pub number-tag : (x : Sym) → num_at 1 (cell x) 0 ≡ tag x
unfolding cell num_at number
number-tag x = omega arith

number-value : (x : Sym) → value x < 2 ^ 64 → num_at 8 (cell x) 1 ≡ value x
unfolding cell num_at
number-value x h = number-little 8 (value x) h

-- what is read of a cell
pub put-read : {b b' : List ℕ} {at : ℕ} (x : Sym) → value x < 2 ^ 64 → Stored 9 b at (cell x) b' → sym_at b' at ≡ x
unfolding sym_at
put-read {b} {b'} {at} x h s =
    let t = rw add-zero at (read-num s 1 0 (omega arith)) in
    let n = read-num s 8 1 (omega arith) in
    rw (t, n, number-tag x, number-value x h) (symbol-parts x)

pub put-parts : {b b₁ b₂ : List ℕ} {at t n : ℕ} {x : Sym} → (t ≡ tag x) × (n ≡ value x) × (t < 4) → n < 2 ^ 64 → Stored 1 b at (little 1 t) b₁ → Stored 8 b₁ (at + 1) (little 8 n) b₂ → Put b at x b₂
put-parts {x = x} (e, f, g) h p q =
    let s = rw little-parts at (stored-join (rw e at p) (rw f at q)) in
    record { stored = s; reads = put-read x (rw f at h) s }

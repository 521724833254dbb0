-- The laws of symbols in cells: their sums, and comparing them. Assumes nothing.
use Rattle.std.proofs.Common.{◌≡◌, ℕ, zero, suc, ◌+◌, ◌-◌, ◌*◌, ◌<◌, ◌≤◌, true, eqb, List, [], ◌∷◌, sym, refl, ap, ◌∙◌, ap₂, add-zero, arith, eqb-true}
use native.Mathlib.Nat.{sub-zero}
use Rattle.spec.specs.Stacks.{Sym, before, constant, jumpdest, other, Stack, eq_sym, eq_syms, eq_stack}
use Rattle.laws.proofs.Members.{and_both}
use Rattle.state.specs.Symbols.{sym_of}
use Rattle.state.specs.Cells.{sym_at, syms_at}
use Rattle.state.specs.declared.sym.StackSym.{StackSym}
use Rattle.state.specs.declared.sym.StackSym.TheVariants.{Before, Constant, Jumpdest, Other}
use Rattle.state.specs.contracts.sym.StackSymPartialEq as symbols
use Rattle.tables.specs.Sums.{mixed, weight, sym_sums, SumsWith}
use Rattle.tables.specs.declared.row.Sums.{Sums}

-- ---- the symbols that are left from the i-th on

syms-step : (s : List ℕ) (at n : ℕ) → 0 < n → syms_at s at n ≡ sym_at s at ∷ syms_at s (at + 9) (n - 1)
unfolding syms_at
syms-step s at zero h = absurd (omega arith)
syms-step s at (suc n) h = let e : suc n - 1 ≡ n = omega arith in rw e

syms-end : (s : List ℕ) (at n : ℕ) → n ≤ 0 → syms_at s at n ≡ []
unfolding syms_at
syms-end s at zero h = refl
syms-end s at (suc n) h = absurd (omega arith)

module _ (s : List ℕ) (from n : ℕ) where
  left-all : syms_at s (9 * (from + 0)) (n - 0) ≡ syms_at s (9 * from) n
  left-all = rw (add-zero, sub-zero)

  left_step : (i : ℕ) → i < n → syms_at s (9 * (from + i)) (n - i) ≡ sym_at s (9 * (from + i)) ∷ syms_at s (9 * (from + (i + 1))) (n - (i + 1))
  left_step i h =
      let e : n - i - 1 ≡ n - (i + 1) = omega arith in
      let a : 9 * (from + i) + 9 ≡ 9 * (from + (i + 1)) = omega arith in
      syms-step s (9 * (from + i)) (n - i) (omega arith) ∙ rw (e, a)

  left-none : (i : ℕ) → n ≤ i → syms_at s (9 * (from + i)) (n - i) ≡ []
  left-none i h = syms-end s (9 * (from + i)) (n - i) (omega arith)

-- ---- sums

module _ (k : ℕ) (s : List ℕ) (from n sum : ℕ) where
  module _ (acc i : ℕ) (e : sym_sums k acc (syms_at s (9 * (from + i)) (n - i)) ≡ sym_sums k sum (syms_at s (9 * from) n)) where
    pub cells-again : (x : StackSym) {v r : ℕ} → i < n → sym_of x ≡ sym_at s (9 * (from + i)) → v ≡ weight (sym_of x) → r ≡ mixed k acc v
        → sym_sums k r (syms_at s (9 * (from + (i + 1))) (n - (i + 1))) ≡ sym_sums k sum (syms_at s (9 * from) n)
    unfolding sym_sums
    cells-again x h g f d =
        ap (λ (y : ℕ). sym_sums k y (syms_at s (9 * (from + (i + 1))) (n - (i + 1)))) (d ∙ ap (mixed k acc) (f ∙ ap weight g))
        ∙ sym (ap (sym_sums k acc) (left_step s from n i h))
        ∙ e

    cells-done : n ≤ i → acc ≡ sym_sums k sum (syms_at s (9 * from) n)
    unfolding sym_sums
    cells-done h = rw (left-none s from n i h) at e

pub both-done : (s : List ℕ) (from n i : ℕ) (a b : Sums) → n ≤ i → sym_sums 37 b.sum (syms_at s (9 * (from + i)) (n - i)) ≡ sym_sums 37 a.sum (syms_at s (9 * from) n)
    → sym_sums 3 b.mark (syms_at s (9 * (from + i)) (n - i)) ≡ sym_sums 3 a.mark (syms_at s (9 * from) n) → SumsWith a (syms_at s (9 * from) n) b
both-done s from n i a b h e f = record { sum = cells-done 37 s from n a.sum b.sum i e h; mark = cells-done 3 s from n a.mark b.mark i f h }

-- ---- comparing two symbols

-- the derived comparison of two symbols
pub eq-symbol : (x y : StackSym) → (symbols.TheImpl.ghosts).eq x y ≡ eq_sym (sym_of x) (sym_of y)
eq-symbol (Before a) (Before b) = refl
eq-symbol (Before a) (Constant b) = refl
eq-symbol (Before a) (Jumpdest b) = refl
eq-symbol (Before a) (Other b) = refl
eq-symbol (Constant a) (Before b) = refl
eq-symbol (Constant a) (Constant b) = refl
eq-symbol (Constant a) (Jumpdest b) = refl
eq-symbol (Constant a) (Other b) = refl
eq-symbol (Jumpdest a) (Before b) = refl
eq-symbol (Jumpdest a) (Constant b) = refl
eq-symbol (Jumpdest a) (Jumpdest b) = refl
eq-symbol (Jumpdest a) (Other b) = refl
eq-symbol (Other a) (Before b) = refl
eq-symbol (Other a) (Constant b) = refl
eq-symbol (Other a) (Jumpdest b) = refl
eq-symbol (Other a) (Other b) = refl

pub eq-sym-true : (x y : Sym) → eq_sym x y ≡ true → x ≡ y
eq-sym-true (before a) (before b) e = ap before (eqb-true a b e)
eq-sym-true (before a) (constant b) e = cc
eq-sym-true (before a) (jumpdest b) e = cc
eq-sym-true (before a) (other b) e = cc
eq-sym-true (constant a) (before b) e = cc
eq-sym-true (constant a) (constant b) e = ap constant (eqb-true a b e)
eq-sym-true (constant a) (jumpdest b) e = cc
eq-sym-true (constant a) (other b) e = cc
eq-sym-true (jumpdest a) (before b) e = cc
eq-sym-true (jumpdest a) (constant b) e = cc
eq-sym-true (jumpdest a) (jumpdest b) e = ap jumpdest (eqb-true a b e)
eq-sym-true (jumpdest a) (other b) e = cc
eq-sym-true (other a) (before b) e = cc
eq-sym-true (other a) (constant b) e = cc
eq-sym-true (other a) (jumpdest b) e = cc
eq-sym-true (other a) (other b) e = ap other (eqb-true a b e)

-- ---- and lists of them

pub eq-syms-true : (xs ys : List Sym) → eq_syms xs ys ≡ true → xs ≡ ys
eq-syms-true [] [] e = refl
eq-syms-true [] (y ∷ ys) e = cc
eq-syms-true (x ∷ xs) [] e = cc
eq-syms-true (x ∷ xs) (y ∷ ys) e =
    let both = and_both (eq_sym x y) (eq_syms xs ys) e in
    ap₂ {C = List Sym} (λ (a : Sym) (l : List Sym). a ∷ l) (eq-sym-true x y both.0) (eq-syms-true xs ys both.1)

pub eq-stack-true : (a b : Stack) → eq_stack a b ≡ true → a ≡ b
eq-stack-true a b e =
    let both = and_both (eqb a.base b.base) (eq_syms a.above b.above) e in
    let base = eqb-true a.base b.base both.0 in
    let above = eq-syms-true a.above b.above both.1 in
    λ i. record { above = above i; base = base i }

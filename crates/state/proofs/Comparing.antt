-- The laws of comparing stored states: a cell at a time, what is left to compare decides. Assumes nothing.
use mathlib.Core.Path.{◌≡◌, refl, sym, ◌∙◌}
use mathlib.Core.Bool.{Bool, true, false, ◌&&◌}
use mathlib.Core.List.{List, [], ◌∷◌, ◌++◌}
use Prim.Native.Nat.{ℕ, ◌+◌, ◌-◌, ◌*◌, ◌≤◌, ◌<◌}
use native.Mathlib.Nat.{add-zero, sub-zero}
use native.Mathlib.Omega.{arith}
use lib.Dec.{eqb}
use lib.ListN.{length, take, drop}
use lib.Seq.{take_all}
use borrow.Author.Tests.{eq-eqb, ne_eqb}
use Rattle.spec.specs.Stacks.{Sym, before, constant, jumpdest, other, Stack, eq_sym, eq_syms, eq_stack}
use Rattle.lent.specs.Bytes.{num_at, Holds}
use Rattle.lent.proofs.Numbers.{num-within}
use Rattle.state.specs.Cells.{tag, value, cell, sym_at, syms_at, Cells, stack_at, State}
use Rattle.state.specs.Compared.{TwoCells, TwoStates}
use Rattle.state.proofs.Cells.{number-tag}
use Rattle.state.proofs.Syms.{length-cell, cells-one, syms-one, syms-none, syms-add, cells-front, cells_rest}
use Rattle.state.proofs.States.{value-at, state-lies, lies-syms, lies-cells, lies-count}

-- ---- two cells

pub eq-parts : (x y : Sym) → eq_sym x y ≡ (eqb (tag x) (tag y) && eqb (value x) (value y))
eq-parts (before a) (before b) = refl
eq-parts (before a) (constant b) = refl
eq-parts (before a) (jumpdest b) = refl
eq-parts (before a) (other b) = refl
eq-parts (constant a) (before b) = refl
eq-parts (constant a) (constant b) = refl
eq-parts (constant a) (jumpdest b) = refl
eq-parts (constant a) (other b) = refl
eq-parts (jumpdest a) (before b) = refl
eq-parts (jumpdest a) (constant b) = refl
eq-parts (jumpdest a) (jumpdest b) = refl
eq-parts (jumpdest a) (other b) = refl
eq-parts (other a) (before b) = refl
eq-parts (other a) (constant b) = refl
eq-parts (other a) (jumpdest b) = refl
eq-parts (other a) (other b) = refl

and-false : (c : Bool) → c && false ≡ false
and-false true = refl
and-false false = refl

and-true : (c : Bool) → c && true ≡ c
and-true true = refl
and-true false = refl

cell-tag : (b : List ℕ) (i : ℕ) → Cells b i 1 → num_at 1 b i ≡ tag (sym_at b i)
cell-tag b i c =
    let x : Sym = sym_at b i in
    let e : take 9 (drop i b) ≡ take 9 (drop 0 (cell x)) = c.are ∙ rw (syms-one b i, cells-one x) (sym (take_all 9 (cell x) (omega (arith, length-cell x)))) in
    simp add-zero at (num-within b (cell x) 9 i 0 e 1 0 (omega arith)) ∙ number-tag x

module _ (b : List ℕ) (i j v u : ℕ) (p : Holds 8 b (i + 1) v) (q : Holds 8 b (j + 1) u) where
  pub cells-differ : (v ≡ u → ⊥) → false ≡ eq_sym (sym_at b i) (sym_at b j)
  cells-differ h =
      let d : eqb v u ≡ false = ne_eqb v u h in
      sym (eq-parts (sym_at b i) (sym_at b j) ∙ rw (value-at b i, value-at b j, ← p.is, ← q.is, d) (and-false (eqb (tag (sym_at b i)) (tag (sym_at b j)))))

  pub cells-decide : {t r : ℕ} → TwoCells b i j → v ≡ u → Holds 1 b i t → Holds 1 b j r → eqb t r ≡ eq_sym (sym_at b i) (sym_at b j)
  cells-decide {t} {r} c h k l =
      let d : eqb v u ≡ true = eq-eqb v u h in
      let e : tag (sym_at b i) ≡ t = sym (cell-tag b i c.first) ∙ sym k.is in
      let f : tag (sym_at b j) ≡ r = sym (cell-tag b j c.second) ∙ sym l.is in
      sym (eq-parts (sym_at b i) (sym_at b j) ∙ rw (value-at b i, value-at b j, ← p.is, ← q.is, d, e, f) (and-true (eqb t r)))

-- ---- two stored forms of one length

swap_and : (a b c : Bool) → a && (b && c) ≡ b && (a && c)
swap_and true true c = refl
swap_and true false c = refl
swap_and false true c = refl
swap_and false false c = refl

eq-stored : (xs ys : List Sym) (a b : ℕ) → length xs ≡ length ys → eq_syms (xs ++ before a ∷ []) (ys ++ before b ∷ []) ≡ (eqb a b && eq_syms xs ys)
eq-stored [] [] a b e = refl
eq-stored [] (y ∷ ys) a b e = absurd (omega arith)
eq-stored (x ∷ xs) [] a b e = absurd (omega arith)
eq-stored (x ∷ xs) (y ∷ ys) a b e = rw (eq-stored xs ys a b (omega arith)) (swap_and (eq_sym x y) (eqb a b) (eq_syms xs ys))

-- ---- the loop

-- k cells are the same
pub record Comparing (b : List ℕ) (i j n k : ℕ) : Type 0 where
  pub most : k ≤ n
  pub same : eq_syms (syms_at b (i + 9 * k) (n - k)) (syms_at b (j + 9 * k) (n - k)) ≡ eq_syms (syms_at b i n) (syms_at b j n)

module _ {b : List ℕ} {i j n : ℕ} (q : TwoStates b i j n) where
  whole : eq_syms (syms_at b i n) (syms_at b j n) ≡ eq_stack (stack_at b i n) (stack_at b j n)
  whole =
      let l = state-lies b i n q.first in
      let m = state-lies b j n q.second in
      let s : Stack = stack_at b i n in
      let t : Stack = stack_at b j n in
      rw (lies-syms l, lies-syms m) (eq-stored s.above t.above s.base t.base (omega (arith, lies-count l, lies-count m)))

  pub compare-none : Comparing b i j n 0
  compare-none = record { most = omega arith; same = rw (add-zero i, add-zero j, sub-zero n) }

  module _ {k : ℕ} (m : Comparing b i j n k) where
    pub compare-done : n ≤ k → true ≡ eq_stack (stack_at b i n) (stack_at b j n)
    compare-done h =
        let z : n - k ≡ 0 = omega arith in
        rw (z, syms-none b (i + 9 * k), syms-none b (j + 9 * k)) at m.same ∙ whole

    module _ (h : k < n) where
      one_cell : (a : ℕ) → State b a n → Cells b (a + 9 * k) 1
      one_cell a s =
          let e : k + (1 + (n - k - 1)) ≡ n = omega arith in
          cells-front b (a + 9 * k) 1 (n - k - 1) (cells_rest b a k (1 + (n - k - 1)) (rw e (lies-cells (state-lies b a n s))))

      pub compare-asks : TwoCells b (i + 9 * k) (j + 9 * k)
      compare-asks = record { first = one_cell i q.first; second = one_cell j q.second }

      next_one : (a : ℕ) → syms_at b (a + 9 * k) (n - k) ≡ sym_at b (a + 9 * k) ∷ syms_at b (a + 9 * (k + 1)) (n - (k + 1))
      next_one a =
          let e : n - k ≡ 1 + (n - (k + 1)) = omega arith in
          let f : a + 9 * k + 9 * 1 ≡ a + 9 * (k + 1) = omega arith in
          rw (e, syms-add b (a + 9 * k) 1 (n - (k + 1)), syms-one, f)

      module _ {r : Bool} (e : r ≡ eq_sym (sym_at b (i + 9 * k)) (sym_at b (j + 9 * k))) where
        rest : (r && eq_syms (syms_at b (i + 9 * (k + 1)) (n - (k + 1))) (syms_at b (j + 9 * (k + 1)) (n - (k + 1)))) ≡ eq_syms (syms_at b i n) (syms_at b j n)
        rest = rw e (rw (next_one i, next_one j) at m.same)

        pub compare-more : r ≡ true → Comparing b i j n (k + 1)
        compare-more t = record { most = omega arith; same = rw t at rest }

        pub compare-stop : r ≡ false → false ≡ eq_stack (stack_at b i n) (stack_at b j n)
        compare-stop f = rw f at rest ∙ whole

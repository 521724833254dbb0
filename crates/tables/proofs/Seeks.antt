-- The laws of looking a remembered row up. Assumes nothing.
use Rattle.std.proofs.Common.{◌≡◌, ℕ, ◌+◌, ◌*◌, ◌%◌, ◌^◌, ◌<◌, Bool, true, false, not, ◌&&◌, eqb, List, get_or, sym, refl, ap, ◌∙◌, ap₂, arith, eq-eqb, eqb-true}
use borrow.Author.Tests.{not-true, not-false}
use Rattle.spec.specs.Stacks.{cells, eq_sym, eq_stack}
use Rattle.spec.specs.Search.{Met}
use Rattle.laws.proofs.Branch.{and-false}
use Rattle.laws.proofs.Members.{and_both}
use Rattle.lent.specs.Bytes.{Holds}
use Rattle.lent.proofs.Numbers.{num-small}
use Rattle.layout.specs.Seens.{seen_place, T-SYMBOL, T-MARK, T-FROM, T-CELLS, T-SUM, block_at, place_at, cells_at, row_sum_at, mark_at, stamp_at}
use Rattle.state.specs.Symbols.{sym_of}
use Rattle.state.specs.Cells.{sym_at, syms_at, stack_at, stored}
use Rattle.state.specs.declared.sym.StackSym.{StackSym}
use Rattle.state.proofs.States.{state-lies, state-syms, lies-count}
use Rattle.tables.specs.Rows.{shelf_at, met_at, seen_met, equal_met, is_met, MetRow, Stamped, Compares, Finds}
use Rattle.tables.specs.Sums.{mixed, weight, sym_sums, summed, stamp, bucket_of, SumsWith}
use Rattle.tables.specs.declared.row.Sums.{Sums}
use Rattle.tables.specs.declared.row.Seen.{Seen}
use Rattle.tables.proofs.Stamps.{eq-sym-true, eq-stack-true}
use Rattle.tables.proofs.Sums.{mix-low, bucket-few}

-- what both sums begin with
module _ (k : ℕ) (x : Seen) {l a v b : ℕ} (d : l ≡ x.last % 2 ^ 32) (e : a ≡ mixed k 0 l) (f : v ≡ weight (sym_of x.symbol)) (g : b ≡ mixed k a v) where
  begun : b ≡ mixed k (mixed k 0 x.last) (weight (sym_of x.symbol))
  begun = let h : a ≡ mixed k 0 x.last = e ∙ ap (mixed k 0) d ∙ mix-low k 0 x.last in g ∙ rw (h, f)

pub stamped : (s : List ℕ) (x : Seen) {l v a b : ℕ} {z y : Sums} {p q o r : ℕ} → l ≡ x.last % 2 ^ 32 → v ≡ weight (sym_of x.symbol) → a ≡ mixed 37 0 l → z.sum ≡ mixed 37 a v
    → b ≡ mixed 3 0 l → z.mark ≡ mixed 3 b v → SumsWith z (syms_at s (9 * x.from) x.cells) y → p ≡ y.sum → p < 2 ^ 32 → q ≡ y.mark → o ≡ bucket_of 256 q → o < 256 → r ≡ p * 256 + o → Stamped s x r
unfolding stamp summed
stamped s x {z = z} {y} {p} {q} {o} {r} d f e g e' g' h i small j falls below is =
    let xs = syms_at s (9 * x.from) x.cells in
    let sum : p ≡ sym_sums 37 (mixed 37 (mixed 37 0 x.last) (weight (sym_of x.symbol))) xs = i ∙ h.sum ∙ ap (λ (n : ℕ). sym_sums 37 n xs) (begun 37 x d e f g) in
    let mark : q ≡ sym_sums 3 (mixed 3 (mixed 3 0 x.last) (weight (sym_of x.symbol))) xs = j ∙ h.mark ∙ ap (λ (n : ℕ). sym_sums 3 n xs) (begun 3 x d e' f g') in
    record { is = is ∙ ap₂ (λ (m n : ℕ). m * 256 + n) sum (falls ∙ ap (bucket_of 256) mark); small = omega arith }

pub stamp-read : (t : List ℕ) (i : ℕ) {a b r : ℕ} → Holds 4 t (seen_place i + T-SUM) a → Holds 1 t (seen_place i + T-MARK) b → r ≡ a * 256 + b → r ≡ stamp_at t i
unfolding stamp_at
stamp-read t i h g e = e ∙ ap₂ (λ (m n : ℕ). m * 256 + n) h.is g.is

-- the sum and the mark that stand in a row are those of its cells
pub record OwnSums (t s : List ℕ) (i : ℕ) : Type 0 where
  pub sum : row_sum_at t i ≡ summed 37 (block_at t i) (sym_at t (seen_place i + T-SYMBOL)) (syms_at s (9 * place_at t i) (cells_at t i))
  pub mark : mark_at t i ≡ bucket_of 256 (summed 3 (block_at t i) (sym_at t (seen_place i + T-SYMBOL)) (syms_at s (9 * place_at t i) (cells_at t i)))

pub own-sums : {t s : List ℕ} {i : ℕ} → ((k : ℕ) → get_or t k 0 < 256) → MetRow t s i → OwnSums t s i
unfolding stamp_at stamp
own-sums {t} {s} {i} b r =
    let e = r.stamped in
    let m : mark_at t i < 256 = num-small 1 t (seen_place i + T-MARK) b in
    let few = bucket-few 256 (summed 3 (block_at t i) (sym_at t (seen_place i + T-SYMBOL)) (syms_at s (9 * place_at t i) (cells_at t i))) (omega arith) in
    record { sum = omega (arith, e, m, few); mark = omega (arith, e, m, few) }

-- ---- comparing with a row

-- rows that are the same
pub record SameMet (m n : Met) : Type 0 where
  pub last : m.last ≡ n.last
  pub symbol : m.symbol ≡ n.symbol
  pub stack : m.stack ≡ n.stack

pub same_met : (m n : Met) → equal_met m n ≡ true → SameMet m n
same_met m n e =
    let one = and_both (eqb m.last n.last && eq_sym m.symbol n.symbol) (eq_stack m.stack n.stack) e in
    let two = and_both (eqb m.last n.last) (eq_sym m.symbol n.symbol) one.0 in
    record { last = eqb-true m.last n.last two.0; symbol = eq-sym-true m.symbol n.symbol two.1; stack = eq-stack-true m.stack n.stack one.1 }

false_of : (b : Bool) → (b ≡ true → ⊥) → false ≡ b
false_of true d = absurd (d refl)
false_of false d = refl

module _ {t s : List ℕ} {i : ℕ} {x : Seen} {sum : ℕ} (c : Compares t s i x sum) where
  same_row : is_met t s (seen_met s x) i ≡ true → SameMet (seen_met s x) (met_at t s i)
  same_row = same_met (seen_met s x) (met_at t s i)

  -- the same row has the same sum
  same-stamp : is_met t s (seen_met s x) i ≡ true → stamp_at t i ≡ sum
  unfolding met_at
  same-stamp e =
      let o = same_row e in
      let mine : syms_at s (9 * x.from) x.cells ≡ syms_at s (9 * place_at t i) (cells_at t i) =
      state-syms s (9 * x.from) x.cells c.state ∙ ap stored o.stack ∙ sym (state-syms s (9 * place_at t i) (cells_at t i) c.row.state) in
      c.row.stamped ∙ sym (c.stamped.is ∙ rw (o.last, o.symbol, mine))

  pub row-sum : {y : ℕ} → y ≡ stamp_at t i → (y ≡ sum → ⊥) → false ≡ is_met t s (seen_met s x) i
  row-sum h d = false_of (is_met t s (seen_met s x) i) (λ e. d (h ∙ same-stamp e))

  pub row_last : {y : ℕ} → Holds 2 t (seen_place i) y → (y ≡ x.last → ⊥) → false ≡ is_met t s (seen_met s x) i
  unfolding met_at
  row_last h d = false_of (is_met t s (seen_met s x) i) (λ e. d (h.is ∙ sym (same_row e).last))

  pub row-symbol : (y : StackSym) {b : Bool} → sym_of y ≡ sym_at t (seen_place i + T-SYMBOL) → b ≡ not (eq_sym (sym_of x.symbol) (sym_of y)) → b ≡ true → false ≡ is_met t s (seen_met s x) i
  unfolding met_at
  row-symbol y e f z = rw (← e, not-true (eq_sym (sym_of x.symbol) (sym_of y)) (sym f ∙ z), and-false (eqb x.last (block_at t i)) refl)

  pub row-cells : {y : ℕ} → Holds 4 t (seen_place i + T-CELLS) y → (y ≡ x.cells → ⊥) → false ≡ is_met t s (seen_met s x) i
  unfolding met_at
  row-cells h d =
      false_of (is_met t s (seen_met s x) i)
      (λ e. d (h.is ∙ lies-count (state-lies s (9 * place_at t i) (cells_at t i) c.row.state) ∙ ap cells (sym (same_row e).stack) ∙ sym (lies-count (state-lies s (9 * x.from) x.cells c.state))))

  module _ {y z : ℕ} (h : Holds 4 t (seen_place i + T-CELLS) y) (same : y ≡ x.cells) (g : Holds 4 t (seen_place i + T-FROM) z) where
    pub row_same : (v : StackSym) {k : ℕ} {b d : Bool} → Holds 2 t (seen_place i) k → k ≡ x.last → sym_of v ≡ sym_at t (seen_place i + T-SYMBOL) → b ≡ not (eq_sym (sym_of x.symbol) (sym_of v)) → b ≡ false
        → d ≡ eq_stack (stack_at s (9 * x.from) x.cells) (stack_at s (9 * z) x.cells) → d ≡ is_met t s (seen_met s x) i
    unfolding met_at
    row_same v {k} {b} {d} hk ek ev eb tb ed =
        let its : stack_at s (9 * z) x.cells ≡ stack_at s (9 * place_at t i) (cells_at t i) = ap₂ (λ (u v : ℕ). stack_at s (9 * u) v) g.is (sym same ∙ h.is) in
        rw (← hk.is, ek, eq-eqb x.last x.last refl, ← ev, not-false (eq_sym (sym_of x.symbol) (sym_of v)) (sym eb ∙ tb)) (ed ∙ ap (eq_stack (stack_at s (9 * x.from) x.cells)) its)

-- ---- along the chain

module _ {t s : List ℕ} {buckets m : ℕ} {x : Seen} {sum : ℕ} (f : Finds t s buckets m x sum) where
  -- what comparing with one of the rows asks
  pub compare : {i : ℕ} → i < m → Compares t s i x sum
  compare l = record { state = f.state; stamped = f.stamped; row = f.rows _ l }

  pub on-shelf : (i : ℕ) → i < m → is_met t s (seen_met s x) i ≡ true → shelf_at buckets t i ≡ bucket_of buckets sum
  unfolding shelf_at
  on-shelf i l g = ap (bucket_of buckets) (same-stamp (compare l) g)

-- The laws of composing stored states: the stored form of a composed stack, its cells one after another, and those of the parent that lie deeper.
-- Assumes nothing.
use mathlib.Core.Path.{◌≡◌, refl, sym, ap, ap₂, ◌∙◌}
use mathlib.Core.List.{List, [], ◌∷◌, ◌++◌, map, map-append, append-nil}
use Prim.Native.Nat.{ℕ, zero, suc, ◌+◌, ◌-◌, ◌*◌, ◌≤◌, ◌<◌}
use native.Mathlib.Nat.{add-zero, sub-zero, zero-sub, suc-sub-suc}
use native.Mathlib.Omega.{arith}
use lib.ListN.{length, take, drop, length-append, length-map, length-drop, drop_of_length-le}
use lib.Seq.{drop-nil}
use Rattle.spec.specs.Stacks.{Sym, before, Stack, cells, reads, read, through, compose}
use Rattle.lent.specs.Bytes.{Stored}
use Rattle.lent.proofs.Stored.{kept-part, read_all}
use Rattle.state.specs.Symbols.{sym_of}
use Rattle.state.specs.Cells.{sym_at, syms_at, Put, Wrote, Cells, stored, stack_at, Lies}
use Rattle.state.specs.Stored.{Readable}
use Rattle.state.specs.Composed.{Resolves, Composes, ComposesKept, Mapped, Composed}
use Rattle.state.specs.declared.sym.StackSym.{StackSym}
use Rattle.state.specs.declared.sym.StackSym.TheVariants.{Before}
use Rattle.state.proofs.Syms.{length-syms, syms-one, syms-add, syms-drop, syms-within, cells_rest}
use Rattle.state.proofs.Puts.{wrote_none, wrote-more, wrote-join, wrote-cells}
use Rattle.state.proofs.States.{length-stored, state-lies, lies-syms, lies-cells, lies-count, lies-here, lies-read, lies-apart}
use Rattle.state.proofs.Reach.{depth-reads, reach-is}

-- ---- the stored form of a composed stack

-- from the parent's position b down: its symbol there, and what lies deeper
from-depth : (b base : ℕ) (xs : List Sym) → reads xs base b ∷ drop (suc b) (xs ++ before base ∷ []) ≡ drop b xs ++ before (base + (b - length xs)) ∷ []
from-depth b base [] = rw (drop-nil, sub-zero)
from-depth zero base (x ∷ xs) = rw (zero-sub, add-zero)
from-depth (suc b) base (x ∷ xs) = rw suc-sub-suc (from-depth b base xs)

-- every cell of the child over the parent, and the parent's cells that lie deeper than the child's bottom
pub stored-compose : (c p : Stack) → stored (compose c p) ≡ map (through p) (stored c) ++ drop (suc c.base) (stored p)
unfolding compose through read
stored-compose c p = go c.above
  where
    go : (xs : List Sym)
        → (map (through p) xs ++ drop c.base p.above) ++ before (p.base + (c.base - length p.above)) ∷ []
        ≡ map (through p) (xs ++ before c.base ∷ []) ++ drop (suc c.base) (stored p)
    go [] = sym (from-depth c.base p.base p.above)
    go (x ∷ xs) = ap (λ (l : List Sym). through p x ∷ l) (go xs)

-- so many cells it has
pub cells-compose : (c p : Stack) → cells (compose c p) ≡ cells c + (cells p - suc c.base)
cells-compose c p =
    sym (length-stored (compose c p))
    ∙ ap length (stored-compose c p)
    ∙ length-append (map (through p) (stored c)) (drop (suc c.base) (stored p))
    ∙ ap₂ ◌+◌ (length-map (stored c) (through p) ∙ length-stored c) (length-drop (suc c.base) (stored p) ∙ ap (λ (n : ℕ). n - suc c.base) (length-stored p))

-- ---- a symbol of the child

pub resolve-asks : {b : List ℕ} {parent p n : ℕ} (x : StackSym) → x ≡ Before n → Resolves b parent p (sym_of x) → Readable b parent p n
resolve-asks x e r = let h = rw e at r.small in record { state = r.state; small = omega arith }

pub resolve-before : (p : Stack) (x : StackSym) {n : ℕ} (y : Sym) → x ≡ Before n → y ≡ read p n → y ≡ through p (sym_of x)
unfolding through
resolve-before p x y e f = rw e f

-- ---- the child's cells, one after another

-- i of the child's cells are written
pub record Mapping (s₀ : List ℕ) (child c to : ℕ) (p : Stack) (i : ℕ) (s : List ℕ) : Type 0 where
  pub most : i ≤ c
  pub room : to + 9 * c ≤ length s
  pub mapped : Mapped s₀ child i to p s

module _ {s₀ w : List ℕ} {child c to parent p : ℕ} (q : Composes s₀ child c to w parent p) where
  pub child-count : c ≡ cells (stack_at s₀ child c)
  child-count = lies-count (state-lies s₀ child c q.child_state)

  pub map-none : Mapping s₀ child c to (stack_at w parent p) 0 s₀
  unfolding syms_at
  map-none =
      let room : to + 9 * c ≤ length s₀ = omega (arith, q.room, cells-compose (stack_at s₀ child c) (stack_at w parent p), child-count) in
      record { most = omega arith; room = room; mapped = record { wrote = wrote_none s₀ to (omega arith) } }

  module _ {i : ℕ} {s : List ℕ} (m : Mapping s₀ child c to (stack_at w parent p) i s) where
    pub map-done : c ≤ i → Mapped s₀ child c to (stack_at w parent p) s
    map-done h = rw (let e : c ≡ i = omega (arith, m.most) in e) m.mapped

    module _ (h : i < c) where
      -- the child's cell is as it was
      same-cell : sym_at s (child + 9 * i) ≡ sym_at s₀ (child + 9 * i)
      same-cell =
          let b : 9 * 1 ≡ 9 = refl in
          let e = kept-part m.mapped.wrote.stored 9 (child + 9 * i) (λ l. omega (arith, q.apart)) in
          let f = syms-within s s₀ (child + 9 * i) (child + 9 * i) 1 e in
          head (rw (syms-one s, syms-one s₀) at f)
        where
          head : {x y : Sym} → x ∷ [] ≡ y ∷ [] → x ≡ y
          head e = cc

      module _ {x : Sym} (e : x ≡ sym_at s (child + 9 * i)) where
        pub map-asks : Resolves w parent p x
        unfolding read
        map-asks =
            let l = state-lies s₀ child c q.child_state in
            let r : x ≡ read (stack_at s₀ child c) i = e ∙ same-cell ∙ lies-read l i h in
            let d = depth-reads (stack_at s₀ child c).above (stack_at s₀ child c).base i in
            record { state = q.parent_state; small = rw r (omega (arith, q.small, d, reach-is (stack_at s₀ child c), child-count)) }

        pub map_more : {y : Sym} {s' : List ℕ} → y ≡ through (stack_at w parent p) x → Put s (to + 9 * i) y s' → Mapping s₀ child c to (stack_at w parent p) (i + 1) s'
        map_more {y} f g =
            let t = through (stack_at w parent p) in
            let last : y ≡ t (sym_at s₀ (child + 9 * i)) = f ∙ ap t (e ∙ same-cell) in
            let syms : map t (syms_at s₀ child (i + 1)) ≡ map t (syms_at s₀ child i) ++ y ∷ [] = rw (syms-add s₀ child i 1, syms-one, last) (map-append t (syms_at s₀ child i) (sym_at s₀ (child + 9 * i) ∷ [])) in
            record {
              most = omega arith;
              room = omega (arith, m.room, g.stored.kept);
              mapped = record { wrote = rw syms (wrote-more to i m.mapped.wrote g) };
            }

-- ---- and the parent's cells that lie deeper

composed : {s₀ s : List ℕ} {to n : ℕ} (x : Stack) → Wrote n s₀ to (stored x) s → Composed s₀ to x s n
composed {s = s} {to = to} {n = n} x w = record { count = sym (length-syms s to n) ∙ ap length w.reads ∙ length-stored x; stored = w.stored; lies = lies-here (wrote-cells w) w.reads }

module _ {s₀ w : List ℕ} {child c to parent p : ℕ} (q : Composes s₀ child c to w parent p) where
  C : Stack
  C = stack_at s₀ child c

  P : Stack
  P = stack_at w parent p

  parent-count : p ≡ cells P
  unfolding P
  parent-count = lies-count (state-lies w parent p q.parent_state)

  module _ {base : ℕ} (e : base ≡ (stack_at s₀ child c).base) where
    -- the new cells fit
    pub deep_room : base < p - 1 → to + 9 * c + 9 * (p - 1 - base) ≤ length s₀
    unfolding C P
    deep_room h = omega (arith, q.room, cells-compose C P, child-count q, parent-count)

    module _ {s₁ : List ℕ} (m : Mapped s₀ child c to (stack_at w parent p) s₁) where
      over : Wrote c s₀ to (map (through P) (stored C)) s₁
      unfolding C P
      over = rw (lies-syms (state-lies s₀ child c q.child_state)) at m.wrote

      pub compose-flat : p - 1 ≤ base → Composed s₀ to (compose (stack_at s₀ child c) (stack_at w parent p)) s₁ c
      unfolding C P
      compose-flat h =
          let none : drop (suc C.base) (stored P) ≡ [] = drop_of_length-le (stored P) {i = suc C.base} (omega (arith, length-stored P, parent-count)) in
          let all : stored (compose C P) ≡ map (through P) (stored C) = stored-compose C P ∙ rw none (append-nil (map (through P) (stored C))) in
          composed (compose C P) (rw all over)

      -- b is where the parent lies now
      pub compose-deep : {b s₂ : List ℕ} → Lies b parent p (stack_at w parent p) → base < p - 1
          → Stored (9 * (p - 1 - base)) s₁ (to + 9 * c) (take (9 * (p - 1 - base)) (drop (parent + 9 * (base + 1)) b)) s₂
          → Composed s₀ to (compose (stack_at s₀ child c) (stack_at w parent p)) s₂ (c + (p - 1 - base))
      unfolding C P
      compose-deep {b} {s₂} l h k =
          let d : ℕ = p - 1 - base in
          let at : ℕ = parent + 9 * (base + 1) in
          let n : base + 1 + d ≡ p = omega arith in
          let r : p - (base + 1) ≡ d = omega arith in
          let c₁ : Cells b at d = cells_rest b parent (base + 1) d (rw n (lies-cells l)) in
          let f : base + 1 ≡ suc C.base = omega arith in
          let rest : syms_at b at d ≡ drop (suc C.base) (stored P) =
          sym (syms-drop b parent p (base + 1) (omega arith) ∙ ap (syms_at b at) r) ∙ ap (drop (base + 1)) (lies-syms l) ∙ ap (λ (i : ℕ). drop i (stored P)) f in
          let wrote : Wrote d s₁ (to + 9 * c) (drop (suc C.base) (stored P)) s₂ = record { stored = rw (c₁.are, rest) at k; reads = syms-within s₂ b (to + 9 * c) at d (read_all k) ∙ rest } in
          composed (compose C P) (rw (stored-compose C P) (wrote-join to c d over wrote))

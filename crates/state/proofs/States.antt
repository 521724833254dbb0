-- The laws of stored states: what stands in their cells, what is read of them, and where they stay the same. Assumes nothing.
use mathlib.Core.Path.{◌≡◌, refl, sym, ap, ◌∙◌}
use mathlib.Core.Bool.{Bool, true, false}
use mathlib.Core.List.{List, [], ◌∷◌, ◌++◌}
use Prim.Native.Nat.{ℕ, zero, suc, ◌+◌, ◌-◌, ◌*◌, ◌^◌, ◌≤◌, ◌<◌}
use native.Mathlib.Nat.{add-zero}
use native.Mathlib.Omega.{arith}
use lib.Dec.{eqb}
use lib.ListN.{length, take, drop, length-append}
use lib.Seq.{drop-drop, take-add, take_all}
use Rattle.spec.specs.Lists.{if}
use Rattle.spec.specs.Opcodes.{in_mode}
use Rattle.spec.specs.Walk.{walk, instructions, from}
use Rattle.spec.specs.Stacks.{Sym, before, constant, jumpdest, other, Stack, cells, reads, read, run, own}
use Rattle.lent.specs.Bytes.{num_at, Holds, Stored}
use Rattle.lent.proofs.Parts.{length_part}
use Rattle.lent.proofs.Numbers.{num-within}
use Rattle.lent.proofs.Stored.{kept-part, read_all}
use Rattle.state.specs.Cells.{value, cell, cells_of, symbol, sym_at, syms_at, Cells, stored, stack_at, State, Lies, reach}
use Rattle.state.proofs.Cells.{number-tag}
use Rattle.state.proofs.Reach.{reach-is}
use Rattle.state.proofs.Syms.{length-cell, length-cells, cells-append, cells-one, length-syms, syms-one, syms-add, reads-inside, reads-below, syms-within, cells-within, split}

pub length-stored : (s : Stack) → length (stored s) ≡ cells s
length-stored s = length-append s.above (before s.base ∷ []) ∙ (omega arith)

-- ---- the symbols of a state's cells are those that the stack is stored as

value-symbol : (t n : ℕ) → value (symbol t n) ≡ n
unfolding symbol if
value-symbol t n = go (eqb t 0) (eqb t 1) (eqb t 2)
  where
    go : (p q r : Bool) → value (if p (before n) (if q (constant n) (if r (jumpdest n) (other n)))) ≡ n
    go true q r = refl
    go false true r = refl
    go false false true = refl
    go false false false = refl

pub value-at : (b : List ℕ) (at : ℕ) → value (sym_at b at) ≡ num_at 8 b (at + 1)
unfolding sym_at
value-at b at = value-symbol (num_at 1 b at) (num_at 8 b (at + 1))

-- a cell whose bytes are those of a Before
cell-before : (b : List ℕ) (at n : ℕ) → take 9 (drop at b) ≡ cell (before n) → sym_at b at ≡ before (value (sym_at b at))
unfolding sym_at symbol if
cell-before b at n e =
    let w : take 9 (drop at b) ≡ take 9 (drop 0 (cell (before n))) = e ∙ sym (take_all 9 (cell (before n)) (omega (arith, length-cell (before n)))) in
    let t : num_at 1 b at ≡ 0 = simp add-zero at (num-within b (cell (before n)) 9 at 0 w 1 0 (omega arith)) ∙ number-tag (before n) in
    rw value-at (go t)
  where
    go : num_at 1 b at ≡ 0 → sym_at b at ≡ before (num_at 8 b (at + 1))
    go t = rw t

module _ (b : List ℕ) (at n : ℕ) where
  last_one : 1 ≤ n → syms_at b at n ≡ syms_at b at (n - 1) ++ sym_at b (at + 9 * (n - 1)) ∷ []
  last_one h =
      let e : n - 1 + 1 ≡ n = omega arith in
      ap (syms_at b at) (sym e) ∙ syms-add b at (n - 1) 1 ∙ rw (syms-one b (at + 9 * (n - 1)))

  bottom-bytes : State b at n → take 9 (drop (at + 9 * (n - 1)) b) ≡ cell (before (stack_at b at n).base)
  unfolding stack_at
  bottom-bytes s =
      let m : ℕ = n - 1 in
      let x : Sym = before (value (sym_at b (at + 9 * m))) in
      let e : 9 * n ≡ 9 * m + 9 = omega (arith, s.some) in
      let l : length (take (9 * m) (drop at b)) ≡ length (cells_of (syms_at b at m)) = length_part (9 * m) at b (omega arith) ∙ sym (length-cells (syms_at b at m) ∙ ap (λ (k : ℕ). 9 * k) (length-syms b at m)) in
      let h = rw (e, take-add (9 * m) 9 (drop at b), drop-drop (9 * m) at b, cells-append (syms_at b at m) (x ∷ []), cells-one x) at s.cells in
      (split (take (9 * m) (drop at b)) (take 9 (drop (at + 9 * m) b)) (cells_of (syms_at b at m)) (cell x) l h).1

  pub state-syms : State b at n → syms_at b at n ≡ stored (stack_at b at n)
  unfolding stack_at
  state-syms s = last_one s.some ∙ ap (λ (x : Sym). syms_at b at (n - 1) ++ x ∷ []) (cell-before b (at + 9 * (n - 1)) (stack_at b at n).base (bottom-bytes s))

  pub state-lies : State b at n → Lies b at n (stack_at b at n)
  state-lies s = record { state = s; is = refl }

module _ {b : List ℕ} {at n : ℕ} {s : Stack} where
  pub lies-syms : Lies b at n s → syms_at b at n ≡ stored s
  lies-syms l = state-syms b at n l.state ∙ ap stored l.is

  pub lies-cells : Lies b at n s → Cells b at n
  lies-cells l = record { fits = l.state.fits; are = l.state.cells ∙ ap cells_of (sym (state-syms b at n l.state)) }

  pub lies-count : Lies b at n s → n ≡ cells s
  lies-count l = sym (length-syms b at n) ∙ ap length (lies-syms l) ∙ length-stored s

  pub lies-here : Cells b at n → syms_at b at n ≡ stored s → Lies b at n s
  unfolding stack_at
  lies-here c e =
      let k : n ≡ cells s = sym (length-syms b at n) ∙ ap length e ∙ length-stored s in
      let h : 1 ≤ n = omega arith in
      let l : length (syms_at b at (n - 1)) ≡ length s.above = length-syms b at (n - 1) ∙ omega arith in
      let two = split (syms_at b at (n - 1)) (sym_at b (at + 9 * (n - 1)) ∷ []) s.above (before s.base ∷ []) l (sym (last_one b at n h) ∙ e) in
      let x : sym_at b (at + 9 * (n - 1)) ≡ before s.base = only two.1 in
      let is : stack_at b at n ≡ s = λ i. record { above = two.0 i; base = value (x i) } in
      record { state = record { some = h; fits = c.fits; cells = c.are ∙ ap cells_of e ∙ ap (λ (t : Stack). cells_of (stored t)) (sym is) }; is = is }
    where
      only : {x y : Sym} → x ∷ [] ≡ y ∷ [] → x ≡ y
      only e = cc

-- ---- where they stay the same

module _ {b d : List ℕ} {n : ℕ} {s : Stack} where
  pub lies_within : {i j : ℕ} → take (9 * n) (drop i b) ≡ take (9 * n) (drop j d) → j + 9 * n ≤ length d → Lies b i n s → Lies d j n s
  lies_within {i} {j} e f l = lies-here (cells-within e f (lies-cells l)) (sym (syms-within b d i j n e) ∙ lies-syms l)

  -- a copy
  pub lies-copied : {c : List ℕ} {i j : ℕ} → Stored (9 * n) c j (take (9 * n) (drop i b)) d → Lies b i n s → Lies d j n s
  lies-copied k l = lies_within (sym (read_all k)) (omega (arith, k.fits, k.kept)) l

-- apart from what was stored
pub lies-apart : {b d bs : List ℕ} {k at i n : ℕ} {s : Stack} → Stored k b at bs d → (i < at + k → i + 9 * n ≤ at) → Lies b i n s → Lies d i n s
lies-apart {i = i} {n = n} k h l = lies_within (sym (kept-part k (9 * n) i h)) (omega (arith, k.kept, l.state.fits)) l

-- ---- what is read of them

reads-stored : (xs : List Sym) (base e k : ℕ) → k ≤ length xs → reads (xs ++ before base ∷ []) e k ≡ reads xs base k
reads-stored [] base e zero h = rw add-zero
reads-stored [] base e (suc k) h = absurd (omega arith)
reads-stored (x ∷ xs) base e zero h = refl
reads-stored (x ∷ xs) base e (suc k) h = reads-stored xs base e k (omega arith)

module _ {b : List ℕ} {at n : ℕ} {s : Stack} (l : Lies b at n s) (k : ℕ) where
  pub lies-read : k < n → sym_at b (at + 9 * k) ≡ read s k
  unfolding read
  lies-read h =
      let c = lies-count l in
      sym (reads-inside b at n s.base k h) ∙ ap (λ (xs : List Sym). reads xs s.base k) (lies-syms l) ∙ reads-stored s.above s.base s.base k (omega arith)

  pub lies-below : {v : ℕ} → n ≤ k → v ≡ s.base → before (v + (k - (n - 1))) ≡ read s k
  unfolding read
  lies-below h e =
      let c = lies-count l in
      let d : k - (n - 1) ≡ k - length s.above = omega arith in
      rw (e, d) (sym (reads-below s.above s.base k (omega arith)))

-- ---- the ways out of base_at and symbol_at

pub base-is : (b : List ℕ) (at n v : ℕ) → Holds 8 b (at + 9 * (n - 1) + 1) v → v ≡ (stack_at b at n).base
unfolding stack_at
base-is b at n v e = e.is ∙ sym (value-at b (at + 9 * (n - 1)))

module _ {b : List ℕ} {at n : ℕ} (r : State b at n) (k : ℕ) where
  pub symbol-inside : (x : Sym) → k < n → x ≡ sym_at b (at + 9 * k) → x ≡ read (stack_at b at n) k
  symbol-inside x h e = e ∙ lies-read (state-lies b at n r) k h

  module _ {v : ℕ} (e : v ≡ (stack_at b at n).base) where
    pub symbol-below : n ≤ k → before (v + (k - (n - 1))) ≡ read (stack_at b at n) k
    symbol-below h = lies-below (state-lies b at n r) k h e

    pub symbol-fits : reach (stack_at b at n) + k ≤ 2 ^ 64 → v + (k - (n - 1)) < 2 ^ 64
    symbol-fits h = omega (arith, reach-is (stack_at b at n))

-- ---- a block of the cut, to which the walk of the code comes: its own run is document 01's

pub own-walked : (mode : ℕ) (code : List ℕ) (start : ℕ) → from start (instructions code) ≡ walk (drop start code) start 0 → own (in_mode mode) code start ≡ run (in_mode mode) code (instructions code) start
unfolding run
own-walked mode code start e = rw e

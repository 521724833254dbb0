-- The laws of cells one after another: their symbols, their bytes, and where both stay the same. Assumes nothing.
use mathlib.Core.Path.{◌≡◌, refl, sym, ap, ◌∙◌}
use mathlib.Core.List.{List, [], ◌∷◌, ◌++◌, append_assoc, append-nil}
use Prim.Native.Nat.{ℕ, zero, suc, ◌+◌, ◌-◌, ◌*◌, ◌≤◌, ◌<◌}
use native.Mathlib.Nat.{zero-add, suc-add, add-zero, sub-zero, suc-sub-suc}
use native.Mathlib.Omega.{arith}
use lib.ListN.{length, take, drop, length-append}
use lib.Seq.{take-add, drop-drop, take-append_seam, drop-append_seam, drop_at}
use Rattle.spec.specs.Stacks.{Sym, before, reads}
use Rattle.lent.specs.Bytes.{num_at}
use Rattle.lent.proofs.Parts.{part-within, length_part}
use Rattle.lent.proofs.Numbers.{length-little, num-within}
use Rattle.lent.proofs.Stored.{read_all}
use Rattle.state.specs.Cells.{value, cell, cells_of, sym_at, syms_at, Put, Cells}

-- ---- the bytes of symbols

pub length-cell : (x : Sym) → length (cell x) ≡ 9
unfolding cell
length-cell x = ap suc (length-little 8 (value x))

pub length-cells : (xs : List Sym) → length (cells_of xs) ≡ 9 * length xs
unfolding cells_of
length-cells [] = refl
length-cells (x ∷ xs) = simp (length-append, length-cell, length-cells xs) (omega arith)

pub cells-append : (xs ys : List Sym) → cells_of (xs ++ ys) ≡ cells_of xs ++ cells_of ys
unfolding cells_of
cells-append [] ys = refl
cells-append (x ∷ xs) ys = rw (cells-append xs ys) (sym (append_assoc (cell x) (cells_of xs) (cells_of ys)))

pub cells-one : (x : Sym) → cells_of (x ∷ []) ≡ cell x
unfolding cells_of
cells-one x = append-nil (cell x)

-- ---- the symbols at a place

module _ (b : List ℕ) where
  pub length-syms : (at n : ℕ) → length (syms_at b at n) ≡ n
  unfolding syms_at
  length-syms at zero = refl
  length-syms at (suc n) = ap suc (length-syms (at + 9) n)

  pub syms-none : (at : ℕ) → syms_at b at 0 ≡ []
  unfolding syms_at
  syms-none at = refl

  pub syms-one : (at : ℕ) → syms_at b at 1 ≡ sym_at b at ∷ []
  unfolding syms_at
  syms-one at = refl

  pub syms-add : (at m n : ℕ) → syms_at b at (m + n) ≡ syms_at b at m ++ syms_at b (at + 9 * m) n
  unfolding syms_at
  syms-add at zero n = rw (zero-add, add-zero)
  syms-add at (suc m) n =
      let e : at + 9 + 9 * m ≡ at + 9 * suc m = omega arith in
      rw (suc-add, syms-add (at + 9) m n, e)

  -- from the k-th on
  pub syms-drop : (at n k : ℕ) → k ≤ n → drop k (syms_at b at n) ≡ syms_at b (at + 9 * k) (n - k)
  syms-drop at n k h =
      let e : k + (n - k) ≡ n = omega arith in
      ap (λ (i : ℕ). drop k (syms_at b at i)) (sym e) ∙ rw (syms-add at k (n - k)) (drop_at (syms_at b at k) (syms_at b (at + 9 * k) (n - k)) k (length-syms at k))

  -- the k-th
  pub reads-inside : (at n base k : ℕ) → k < n → reads (syms_at b at n) base k ≡ sym_at b (at + 9 * k)
  unfolding syms_at
  reads-inside at zero base k h = absurd (omega arith)
  reads-inside at (suc n) base zero h = rw add-zero
  reads-inside at (suc n) base (suc k) h =
      let e : at + 9 + 9 * k ≡ at + 9 * suc k = omega arith in
      reads-inside (at + 9) n base k (omega arith) ∙ ap (sym_at b) e

-- below all of them
pub reads-below : (xs : List Sym) (base k : ℕ) → length xs ≤ k → reads xs base k ≡ before (base + (k - length xs))
reads-below [] base k h = rw sub-zero
reads-below (x ∷ xs) base zero h = absurd (omega arith)
reads-below (x ∷ xs) base (suc k) h = rw suc-sub-suc (reads-below xs base k (omega arith))

-- ---- equal bytes are equal symbols

module _ (b d : List ℕ) where
  sym-within : (i j n : ℕ) → take (9 * suc n) (drop i b) ≡ take (9 * suc n) (drop j d) → sym_at b i ≡ sym_at d j
  unfolding sym_at
  sym-within i j n e =
      let t : num_at 1 b i ≡ num_at 1 d j = simp add-zero at (num-within b d (9 * suc n) i j e 1 0 (omega arith)) in
      let v : num_at 8 b (i + 1) ≡ num_at 8 d (j + 1) = num-within b d (9 * suc n) i j e 8 1 (omega arith) in
      rw (t, v)

  pub syms-within : (i j n : ℕ) → take (9 * n) (drop i b) ≡ take (9 * n) (drop j d) → syms_at b i n ≡ syms_at d j n
  unfolding syms_at
  syms-within i j zero e = refl
  syms-within i j (suc n) e = rw (sym-within i j n e, syms-within (i + 9) (j + 9) n (part-within b d (9 * suc n) i j e (9 * n) 9 (omega arith)))

pub cells-within : {b d : List ℕ} {i j n : ℕ} → take (9 * n) (drop i b) ≡ take (9 * n) (drop j d) → j + 9 * n ≤ length d → Cells b i n → Cells d j n
cells-within {b} {d} {i} {j} {n} e f c = record { fits = f; are = sym e ∙ c.are ∙ ap cells_of (syms-within b d i j n e) }

-- ---- cells after cells

-- two lists whose first parts are equally long
pub split : {A : Type 0} (xs ys us vs : List A) → length xs ≡ length us → xs ++ ys ≡ us ++ vs → (xs ≡ us) × (ys ≡ vs)
split xs ys us vs l e =
    (sym (take-append_seam xs ys) ∙ rw l (ap (take (length us)) e) ∙ take-append_seam us vs, sym (drop-append_seam xs ys) ∙ rw l (ap (drop (length us)) e) ∙ drop-append_seam us vs)

module _ {b : List ℕ} {at : ℕ} where
  pub cells-none : at ≤ length b → Cells b at 0
  unfolding syms_at cells_of
  cells-none h = record { fits = omega arith; are = refl }

  pub cells-put : {a : List ℕ} (x : Sym) → Put a at x b → Cells b at 1
  cells-put x p = record { fits = omega (arith, p.stored.fits, p.stored.kept); are = read_all p.stored ∙ rw (syms-one, p.reads) (sym (cells-one x)) }

module _ (b : List ℕ) (at m n : ℕ) where
  bytes-add : take (9 * (m + n)) (drop at b) ≡ take (9 * m) (drop at b) ++ take (9 * n) (drop (at + 9 * m) b)
  bytes-add =
      let e : 9 * (m + n) ≡ 9 * m + 9 * n = omega arith in
      rw (e, take-add (9 * m) (9 * n) (drop at b), drop-drop (9 * m) at b)

  cells-add : cells_of (syms_at b at (m + n)) ≡ cells_of (syms_at b at m) ++ cells_of (syms_at b (at + 9 * m) n)
  cells-add = rw (syms-add b at m n) (cells-append (syms_at b at m) (syms_at b (at + 9 * m) n))

  pub cells-join : Cells b at m → Cells b (at + 9 * m) n → Cells b at (m + n)
  cells-join p q = record { fits = omega arith; are = rw (bytes-add, cells-add, p.are, q.are) }

  parts : Cells b at (m + n) → (take (9 * m) (drop at b) ≡ cells_of (syms_at b at m)) × (take (9 * n) (drop (at + 9 * m) b) ≡ cells_of (syms_at b (at + 9 * m) n))
  parts c =
      split (take (9 * m) (drop at b)) (take (9 * n) (drop (at + 9 * m) b)) (cells_of (syms_at b at m)) (cells_of (syms_at b (at + 9 * m) n))
      (length_part (9 * m) at b (omega arith) ∙ sym (length-cells (syms_at b at m) ∙ ap (λ (k : ℕ). 9 * k) (length-syms b at m)))
      (sym bytes-add ∙ c.are ∙ cells-add)

  pub cells-front : Cells b at (m + n) → Cells b at m
  cells-front c = record { fits = omega arith; are = (parts c).0 }

  pub cells_rest : Cells b at (m + n) → Cells b (at + 9 * m) n
  cells_rest c = record { fits = omega arith; are = (parts c).1 }

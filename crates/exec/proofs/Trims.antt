-- Trimming from the bottom up: while the symbol next above Before base joins it, the state ends with that symbol. Assumes nothing.
use mathlib.Core.Path.{◌≡◌, refl, sym, ap, ◌∙◌}
use mathlib.Core.Bool.{Bool, true, false, not}
use mathlib.Core.List.{List, [], ◌∷◌, ◌++◌}
use Prim.Native.Nat.{ℕ, suc, ◌+◌, ◌-◌, ◌*◌, ◌≤◌, ◌<◌}
use native.Mathlib.Nat.{sub-zero}
use native.Mathlib.Omega.{arith}
use lib.Dec.{eqb}
use lib.ListN.{length}
use borrow.Author.Tests.{eq-eqb, ne_eqb, eqb-true}
use Rattle.spec.specs.Lists.{if}
use Rattle.spec.specs.Stacks.{Sym, before, constant, jumpdest, other, Stack, joins, settle, trims}
use Rattle.state.specs.Symbols.{sym_of}
use Rattle.state.specs.Cells.{sym_at, syms_at, Lies}
use Rattle.exec.specs.Owns.{Trims}
use Rattle.state.specs.declared.sym.StackSym.{StackSym}
use Rattle.state.specs.declared.sym.StackSym.TheVariants.{Before, Constant, Jumpdest, Other}
use Rattle.state.proofs.Syms.{syms-none, syms-one, syms-add, cells-front}
use Rattle.state.proofs.States.{lies-here}

-- ---- whether a symbol joins

module _ (base : ℕ) where
  pub joins-none : (x : StackSym) (n : ℕ) → x ≡ Before n → base ≡ 0 → not (eqb base 0) ≡ joins (sym_of x) base
  joins-none x n e z = rw (e, z) (sym (ne_eqb (suc n) 0 (λ h. omega arith)))

  pub joins-other : (x : StackSym) → ((n : ℕ) → x ≡ Before n → ⊥) → false ≡ joins (sym_of x) base
  joins-other (Before n) h = absurd (h n refl)
  joins-other (Constant v) h = refl
  joins-other (Jumpdest v) h = refl
  joins-other (Other pc) h = refl

  pub joins-before : (x : StackSym) (n : ℕ) → (base ≡ 0 → ⊥) → x ≡ Before n → eqb n (base - 1) ≡ joins (sym_of x) base
  joins-before x n z e = rw e (go (eqb n (base - 1)) refl)
    where
      go : (c : Bool) → eqb n (base - 1) ≡ c → c ≡ eqb (suc n) base
      go true h = sym (eq-eqb (suc n) base (omega (arith, eqb-true n (base - 1) h)))
      go false h = sym (ne_eqb (suc n) base (λ f. let t = eq-eqb n (base - 1) (omega arith) in let c : ◌≡◌ {A = ℕ} 0 1 = cc in omega arith))

joins-is : (x : Sym) (base : ℕ) → joins x base ≡ true → x ≡ before (base - 1)
joins-is (before n) base e = ap before (omega (arith, eqb-true (suc n) base e))
joins-is (constant v) base e = cc
joins-is (jumpdest v) base e = cc
joins-is (other pc) base e = cc

joins-some : (x : Sym) (base : ℕ) → joins x base ≡ true → 1 ≤ base
joins-some (before n) base e = omega (arith, eqb-true (suc n) base e)
joins-some (constant v) base e = absurd (let z : ◌≡◌ {A = ℕ} 0 1 = cc in omega arith)
joins-some (jumpdest v) base e = absurd (let z : ◌≡◌ {A = ℕ} 0 1 = cc in omega arith)
joins-some (other pc) base e = absurd (let z : ◌≡◌ {A = ℕ} 0 1 = cc in omega arith)

-- ---- the lowest symbol first

module _ (x : Sym) (base : ℕ) where
  trims-join : (xs : List Sym) → joins x base ≡ true → trims (xs ++ x ∷ []) base ≡ trims xs (base - 1)
  unfolding if
  trims-join [] e = rw e
  trims-join (y ∷ ys) e = rw (trims-join ys e)

  trims-stay : (xs : List Sym) → joins x base ≡ false → trims (xs ++ x ∷ []) base ≡ record { above = xs ++ x ∷ []; base = base }
  unfolding if
  trims-stay [] e = rw e
  trims-stay (y ∷ ys) e = rw (trims-stay ys e) (go ys)
    where
      go : (zs : List Sym) → settle y (zs ++ x ∷ []) base ≡ record { above = y ∷ zs ++ x ∷ []; base = base }
      go [] = refl
      go (z ∷ zs) = refl

-- ---- the loop: with m of the n cells left, and Before low below them, what is left to trim ends where the whole does

pub record Trimming (w : List ℕ) (at n base m low : ℕ) : Type 0 where
  pub most : m ≤ n
  pub same : trims (syms_at w at m) low ≡ trims (syms_at w at n) base
  pub bottom : sym_at w (at + 9 * m) ≡ before low

module _ {w : List ℕ} {at n base : ℕ} (t : Trims w at n base) where
  pub trim_start : Trimming w at n base n base
  trim_start = record { most = omega arith; same = refl; bottom = t.bottom }

  module _ {m low : ℕ} (l : Trimming w at n base m low) where
    lies-trimmed : trims (syms_at w at n) base ≡ record { above = syms_at w at m; base = low } → Lies w at (m + 1) (trims (syms_at w at n) base)
    lies-trimmed e =
        let k : m + 1 + (n - m) ≡ n + 1 = omega (arith, l.most) in
        rw e (lies-here (cells-front w at (m + 1) (n - m) (rw k t.cells)) (rw (syms-add w at m 1, syms-one, l.bottom)))

    pub trim-done : m ≡ 0 → Lies w at (m + 1) (trims (syms_at w at n) base)
    trim-done z = lies-trimmed (sym l.same ∙ rw (z, syms-none w at))

    module _ (x : Sym) (c : Bool) (z : m ≡ 0 → ⊥) (i : x ≡ sym_at w (at + 9 * (m - 1))) (j : c ≡ joins x low) where
      snoc : syms_at w at m ≡ syms_at w at (m - 1) ++ x ∷ []
      snoc =
          let e : m - 1 + 1 ≡ m = omega (arith, z) in
          ap (syms_at w at) (sym e) ∙ syms-add w at (m - 1) 1 ∙ rw (syms-one, ← i)

      pub trim-some : c ≡ true → 1 ≤ low
      trim-some h = joins-some x low (sym j ∙ h)

      pub trim-more : c ≡ true → Trimming w at n base (m - 1) (low - 1)
      trim-more h =
          let e : joins x low ≡ true = sym j ∙ h in
          record {
            most = omega (arith, l.most);
            same = sym (trims-join x low (syms_at w at (m - 1)) e) ∙ rw (← snoc) l.same;
            bottom = sym i ∙ joins-is x low e;
          }

      pub trim-stop : c ≡ false → Lies w at (m + 1) (trims (syms_at w at n) base)
      trim-stop h = lies-trimmed (sym l.same ∙ ap (λ (xs : List Sym). trims xs low) snoc ∙ trims-stay x low (syms_at w at (m - 1)) (sym j ∙ h) ∙ ap {B = Stack} (λ (xs : List Sym). record { above = xs; base = low }) (sym snoc))

-- the loop has passed i of the n cells, from the lowest up
pub record Passed (w : List ℕ) (at n base i : ℕ) : Type 0 where
  pub most : i ≤ n
  pub low : i ≤ base
  pub on : Trimming w at n base (n - i) (base - i)

module _ {w : List ℕ} {at n base : ℕ} (t : Trims w at n base) where
  pub passed-none : Passed w at n base 0
  passed-none = record { most = omega arith; low = omega arith; on = rw (sub-zero, sub-zero) (trim_start t) }

  module _ {i : ℕ} (p : Passed w at n base i) where
    pub passed-all : n ≤ i → Lies w at 1 (trims (syms_at w at n) base)
    passed-all h = let z : n - i ≡ 0 = omega arith in let e : n - i + 1 ≡ 1 = omega arith in rw e at (trim-done t p.on z)

    module _ {x : Sym} {c : Bool} (h : i < n) (e : x ≡ sym_at w (at + 9 * (n - i - 1))) (j : c ≡ joins x (base - i)) where
      pub passed-more : c ≡ true → Passed w at n base (i + 1)
      passed-more g =
          let some : 1 ≤ base - i = trim-some t p.on x c (λ z. omega arith) e j g in
          let m : n - i - 1 ≡ n - (i + 1) = omega arith in
          let l : base - i - 1 ≡ base - (i + 1) = omega arith in
          record { most = omega arith; low = omega arith; on = rw (m, l) at (trim-more t p.on x c (λ z. omega arith) e j g) }

      pub passed-stop : c ≡ false → Lies w at (n - i + 1) (trims (syms_at w at n) base)
      passed-stop g = trim-stop t p.on x c (λ z. omega arith) e j g

-- ---- it leaves no more than there was

module _ {A : Type 0} where
  one_of : (P : A → Type 0) (b : Bool) (x y : A) → P x → P y → P (if b x y)
  unfolding if
  one_of P true x y p q = p
  one_of P false x y p q = q

fewer-settle : (x : Sym) (xs : List Sym) (base : ℕ) → length (settle x xs base).above ≤ suc (length xs)
fewer-settle x [] base = one_of (λ (s : Stack). length s.above ≤ 1) (joins x base) _ _ (omega arith) (omega arith)
fewer-settle x (y ∷ ys) base = omega arith

pub fewer-trims : (xs : List Sym) (base : ℕ) → length (trims xs base).above ≤ length xs
fewer-trims [] base = omega arith
fewer-trims (x ∷ xs) base = omega (arith, fewer-settle x (trims xs base).above (trims xs base).base, fewer-trims xs base)

-- Document 01, "Stacks": symbols beside words, for any relation between a symbol and a word: where it holds at every depth before an instruction, it holds
-- after it. What a symbol means (Symbols) is one such relation, what it means of small numbers (PathDeep) another. Assumes nothing.
use Prim.Native.Nat.{ℕ, zero, suc, ◌+◌, ◌^◌, ◌%◌, ◌<◌, ◌≤◌}
use native.Mathlib.Omega.{arith}
use native.Mathlib.Nat.{zero-add, suc-add, add-suc, add-zero}
use mathlib.Core.Path.{◌≡◌, refl, ap, ◌∙◌}
use mathlib.Core.Bool.{Bool, true, false}
use mathlib.Core.List.{List, [], ◌∷◌, ◌++◌}
use lib.Bits.{bit_and}
use lib.Dec.{eqb, eqb-zero-suc, eqb-suc-zero, eqb-suc-suc}
use lib.ListN.{length, get_or, drop, set, replicate, length-drop, length-set}
use lib.Seq.{get_or-drop, get_or-set_same, get_or-set_other}
use borrow.Author.Tests.{eqb-true, eqb-false}
use Rattle.spec.specs.Lists.{if}
use Rattle.spec.specs.Opcodes.{Row}
use Rattle.spec.specs.Walk.{Ins}
use Rattle.spec.specs.Stacks.{Sym, other, Stack, read, pops, push, pushes, span, swap, from_value, known_value, anded, summed, Does, pushes_value, pushes_pc, dups, swaps, ands, adds, jumps, jumpis, lands, halts, plain, act}
use Rattle.spec.specs.Meaning.{supplied, exchanged}
use Rattle.laws.proofs.Branch.{both}
use Rattle.theorems.proofs.Composing.{reads-drop}
use Rattle.theorems.proofs.Counts.{takes, does-to, ands?}

-- ---- what is read where the top has changed places

pub read-pops : (k : ℕ) (s : Stack) (n : ℕ) → read (pops k s) n ≡ read s (k + n)
unfolding read
read-pops k s = reads-drop s.above s.base k

-- the symbols from depth i, m of them, then x, then those of s again
read-span : (s t : Stack) (x : Sym) (i m : ℕ) → ((n : ℕ) → read t n ≡ read s (suc (i + m) + n)) → (n : ℕ)
    → read (pushes (span s i m ++ (x ∷ [])) t) n ≡ if (eqb n m) x (read s (i + n))
unfolding read if
read-span s t x i zero h zero = refl
read-span s t x i zero h (suc n) = rw (eqb-suc-zero n) (h n ∙ ap (read s) (omega arith))
read-span s t x i (suc m) h zero = rw (eqb-zero-suc m, add-zero)
read-span s t x i (suc m) h (suc n) = rw (eqb-suc-suc n m, add-suc i n, ← suc-add i n) (read-span s t x (suc i) m (λ j. h j ∙ ap (read s) (omega arith)) n)

pub read-swap : (m : ℕ) (s : Stack) (n : ℕ) → read (swap m s) n ≡ if (eqb n 0) (read s (suc m)) (if (eqb n (suc m)) (read s 0) (read s n))
unfolding read if
read-swap m s zero = refl
read-swap m s (suc n) = rw (eqb-suc-zero n, eqb-suc-suc n m) (read-span s (pops (suc (suc m)) s) (read s 0) 1 m (λ j. read-pops (suc (suc m)) s j ∙ ap (read s) (omega arith)) n ∙ rw (suc-add 0 n, zero-add))

-- the same of words
read-exchanged : (m : ℕ) (st : List ℕ) (n : ℕ) → suc m < length st
    → get_or (exchanged (suc m) st) n 0 ≡ if (eqb n 0) (get_or st (suc m) 0) (if (eqb n (suc m)) (get_or st 0 0) (get_or st n 0))
unfolding if
read-exchanged m [] n l = absurd (omega arith)
read-exchanged m (x ∷ xs) zero l = refl
read-exchanged m (x ∷ xs) (suc n) l =
    rw (eqb-suc-zero n, eqb-suc-suc n m)
    (both (λ (v : ℕ). get_or (set xs m x) n 0 ≡ v) (eqb n m) (λ e. rw (eqb-true n m e) (get_or-set_same xs m x 0 (omega arith))) (λ e. get_or-set_other xs m n x 0 (eqb-false n m e)))

module _ (R : Sym → ℕ → Type 0) where
  -- R holds at each depth of the words
  pub record Beside (s : Stack) (st : List ℕ) : Type 0 where
    pub at : (n : ℕ) → n < length st → R (read s n) (get_or st n 0)

  beside-push : {x : Sym} {w : ℕ} {s : Stack} {st : List ℕ} → R x w → Beside s st → Beside (push x s) (w ∷ st)
  unfolding read
  beside-push m h = record { at = elim [ zero ↦ λ _. m | suc n ↦ λ l. h.at n (omega arith) ] }

  beside-pops : (k : ℕ) {s : Stack} {st : List ℕ} → Beside s st → Beside (pops k s) (drop k st)
  beside-pops k {s} {st} h = record { at = λ n l. rw (read-pops k s n, get_or-drop k st n 0) (h.at (k + n) (omega (arith, length-drop k st))) }

  -- one of two
  either_way : (t : Bool) (x y : Sym) (v w : ℕ) → R x v → R y w → R (if t x y) (if t v w)
  unfolding if
  either_way true x y v w h k = h
  either_way false x y v w h k = k

  beside-swap : (m : ℕ) {s : Stack} {st : List ℕ} → suc m < length st → Beside s st → Beside (swap m s) (exchanged (suc m) st)
  beside-swap m {s} {st} l h = record {
    at = λ n k.
        let here : n < length st = omega (arith, length-set (set st 0 (get_or st (suc m) 0)) (suc m) (get_or st 0 0), length-set st 0 (get_or st (suc m) 0)) in
        rw (read-swap m s n, read-exchanged m st n l)
        (either_way (eqb n 0) _ _ _ _ (h.at (suc m) l) (either_way (eqb n (suc m)) _ _ _ _ (h.at 0 (omega arith)) (h.at n here)));
  }

  -- what an instruction asks of R: an Other says nothing, a known number is itself, and ADD adds
  pub record Follows (code : List ℕ) : Type 0 where
    pub unsaid : (pc w : ℕ) → R (other pc) w
    pub number : (v : ℕ) → R (from_value code v) v
    pub sum : (pc : ℕ) (a b : Sym) (u w : ℕ) → R a u → R b w → R (summed code pc (known_value a) (known_value b)) ((u + w) % 2 ^ 256)

  module _ (row : ℕ → Row) (code : List ℕ) (r : Follows code) where
    beside-supplied : (pc : ℕ) (f : ℕ → ℕ) (m : ℕ) {s : Stack} {st : List ℕ} → Beside s st → Beside (pushes (replicate m (other pc)) s) (supplied f m ++ st)
    beside-supplied pc f zero h = h
    beside-supplied pc f (suc m) h = beside-push (r.unsaid pc (f m)) (beside-supplied pc f m h)

    -- The instruction, by what it does; of an AND it is to be shown.
    pub beside-act : (f : ℕ → ℕ) (i : Ins) (d : Does) {s : Stack} {st : List ℕ} → Beside s st → takes (row i.op) d ≤ length st
        → (ands? d ≡ true → R (read s 0) (get_or st 0 0) → R (read s 1) (get_or st 1 0) → R (anded i.pc (read s 0) (read s 1)) (bit_and (get_or st 0 0) (get_or st 1 0)))
        → Beside (act row code i d s) (does-to (row i.op) f i d st)
    unfolding act does-to
    beside-act f i pushes_value h l o = beside-push (r.number i.arg) h
    beside-act f i pushes_pc h l o = beside-push (r.number i.pc) h
    beside-act f i (dups n) h l o = beside-push (h.at n l) h
    beside-act f i (swaps n) h l o = beside-swap n l h
    beside-act f i ands h l o = beside-push (o refl (h.at 0 (omega arith)) (h.at 1 l)) (beside-pops 2 h)
    beside-act f i adds {s} {st} h l o = beside-push (r.sum i.pc (read s 0) (read s 1) (get_or st 0 0) (get_or st 1 0) (h.at 0 (omega arith)) (h.at 1 l)) (beside-pops 2 h)
    beside-act f i jumps h l o = beside-pops 1 h
    beside-act f i jumpis h l o = beside-pops 2 h
    beside-act f i lands h l o = h
    beside-act f i halts h l o = beside-supplied i.pc f (row i.op).given (beside-pops (row i.op).taken h)
    beside-act f i plain h l o = beside-supplied i.pc f (row i.op).given (beside-pops (row i.op).taken h)

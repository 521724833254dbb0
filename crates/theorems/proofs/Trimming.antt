-- A block run from any identity depth trims to the same stack: the run reads its stack only by depth, and a trimmed stack is fixed by what is read of it. Assumes nothing.
use Prim.Native.Nat.{ℕ, zero, suc, ◌+◌}
use native.Mathlib.Omega.{arith}
use native.Mathlib.Nat.{zero-add, suc-add, add-zero, add-suc}
use mathlib.Core.Path.{◌≡◌, refl, sym, ap, ap₂, ◌∙◌}
use mathlib.Core.Bool.{Bool, true, false}
use mathlib.Core.Option.{some}
use mathlib.Core.List.{List, [], ◌∷◌, ◌++◌}
use lib.Dec.{eqb}
use lib.ListN.{replicate}
use borrow.Author.Tests.{eq-eqb}
use Rattle.laws.proofs.Branch.{if-true}
use Rattle.spec.specs.Lists.{if}
use Rattle.spec.specs.Walk.{Ins}
use Rattle.spec.specs.Opcodes.{Row, Rules}
use Rattle.spec.specs.Stacks.{Sym, before, other, Stack, entry, reads, read, pops, push, pushes, span, settle, trims, trim, trade, Does, pushes_value, pushes_pc, dups, swaps, ands, adds, jumps, jumpis, lands, halts, plain, does, act, Ran, after, runs, trimmed}
use Rattle.theorems.proofs.Composing.{reads-drop}

-- two stacks that read the same at every depth
pub record Same (s t : Stack) : Type 0 where
  pub at : (n : ℕ) → read s n ≡ read t n

-- ---- trimmed, they are equal

before-inj : (a b : ℕ) → before a ≡ before b → a ≡ b
before-inj a b e = cc

joined : (b : ℕ) → settle (before b) [] (suc b) ≡ record { above = []; base = b }
joined b = if-true _ _ _ (eq-eqb (suc b) (suc b) refl) ∙ ap {B = Stack} (λ (x : ℕ). record { above = []; base = x }) (omega arith)

trims-nil : (ys : List Sym) (b c : ℕ) → ((n : ℕ) → before (b + n) ≡ reads ys c n) → trims ys c ≡ record { above = []; base = b }
trims-nil [] b c h = let e : b + 0 ≡ c + 0 = before-inj _ _ (h 0) in ap {B = Stack} (λ (x : ℕ). record { above = []; base = x }) (omega arith)
trims-nil (y ∷ ys) b c h =
    let ih = trims-nil ys (suc b) c (λ n. rw (suc-add, ← add-suc) (h (suc n))) in
    let top : y ≡ before b = sym (h 0) ∙ ap before (add-zero b) in
    rw (ih, top) (joined b)

trims-same : (xs ys : List Sym) (b c : ℕ) → ((n : ℕ) → reads xs b n ≡ reads ys c n) → trims xs b ≡ trims ys c
trims-same [] ys b c h = sym (trims-nil ys b c h)
trims-same (x ∷ xs) [] b c h = trims-nil (x ∷ xs) c b (λ n. sym (h n))
trims-same (x ∷ xs) (y ∷ ys) b c h = rw (trims-same xs ys b c (λ n. h (suc n)), h 0)

pub trim_same : (s t : Stack) → Same s t → trim s ≡ trim t
unfolding trim read
trim_same s t h = trims-same s.above t.above s.base t.base h.at

-- ---- the run reads its stack only by depth

same-push : (x : Sym) {s t : Stack} → Same s t → Same (push x s) (push x t)
unfolding read
same-push x h = record { at = elim [ zero ↦ refl | suc n ↦ h.at n ] }

same-pushes : (xs : List Sym) {s t : Stack} → Same s t → Same (pushes xs s) (pushes xs t)
same-pushes [] h = h
same-pushes (x ∷ xs) h = same-push x (same-pushes xs h)

same-pops : (k : ℕ) {s t : Stack} → Same s t → Same (pops k s) (pops k t)
unfolding read
same-pops k {s} {t} h = record { at = λ n. reads-drop s.above s.base k n ∙ h.at (k + n) ∙ sym (reads-drop t.above t.base k n) }

same_span : {s t : Stack} → Same s t → (i n : ℕ) → span s i n ≡ span t i n
same_span h i zero = refl
same_span h i (suc n) = ap₂ {C = List Sym} (λ (x : Sym) (xs : List Sym). x ∷ xs) (h.at i) (same_span h (suc i) n)

same-trade : (row : ℕ → Row) (i : Ins) {s t : Stack} → Same s t → Same (trade row i s) (trade row i t)
same-trade row i h = same-pushes (replicate (row i.op).given (other i.pc)) (same-pops (row i.op).taken h)

pub same-act : (row : ℕ → Row) (code : List ℕ) (i : Ins) (d : Does) {s t : Stack} → Same s t → Same (act row code i d s) (act row code i d t)
unfolding act
same-act row code i pushes_value h = same-push _ h
same-act row code i pushes_pc h = same-push _ h
same-act row code i (dups k) h = rw h.at (same-push _ h)
same-act row code i (swaps n) {s} {t} h = rw (h.at (suc n), h.at 0, same_span h 1 n) (same-pushes (read t (suc n) ∷ span t 1 n ++ (read t 0 ∷ [])) (same-pops (suc (suc n)) h))
same-act row code i ands h = rw (h.at, h.at) (same-push _ (same-pops 2 h))
same-act row code i adds h = rw (h.at, h.at) (same-push _ (same-pops 2 h))
same-act row code i jumps h = same-pops 1 h
same-act row code i jumpis h = same-pops 2 h
same-act row code i lands h = h
same-act row code i halts h = same-trade row i h
same-act row code i plain h = same-trade row i h

pub record SameRan (r q : Ran) : Type 0 where
  pub stack : Same r.stack q.stack
  pub goes : r.goes ≡ q.goes

same_if : (b : Bool) {x y x' y' : Ran} → SameRan x x' → SameRan y y' → SameRan (if b x y) (if b x' y')
unfolding if
same_if true f g = f
same_if false f g = g

same_after : (start : ℕ) (i : Ins) (d : Does) {s t s' t' : Stack} {on on' : Ran} → Same s t → Same s' t' → SameRan on on'
    → SameRan (after start i s s' on d) (after start i t t' on' d)
same_after start i pushes_value h k r = r
same_after start i pushes_pc h k r = r
same_after start i (dups n) h k r = r
same_after start i (swaps n) h k r = r
same_after start i ands h k r = r
same_after start i adds h k r = r
same_after start i jumps h k r = record { stack = k; goes = ap some (h.at 0) }
same_after start i jumpis h k r = record { stack = k; goes = ap some (h.at 0) }
same_after start i lands h k r = same_if (eqb i.pc start) r (record { stack = h; goes = refl })
same_after start i halts h k r = record { stack = k; goes = refl }
same_after start i plain h k r = r

same_runs : (r : Rules) (code : List ℕ) (start : ℕ) (is : List Ins) {s t : Stack} → Same s t → SameRan (runs r code start is s) (runs r code start is t)
same_runs r code start [] h = record { stack = h; goes = refl }
same_runs r code start (i ∷ is) h = same_after start i (does r.mode i.op) h (same-act r.row code i _ h) (same_runs r code start is (same-act r.row code i _ h))

-- ---- identity depths

-- Before 0 to Before (d - 1) spelled out, on top of Before d
unfoldable pub identity : ℕ → Stack
identity d = record { above = span entry 0 d; base = d }

reads-span : (i d n : ℕ) → reads (span entry i d) (i + d) n ≡ before (i + n)
unfolding read
reads-span i zero n = ap before (omega arith)
reads-span i (suc d) zero = ap before (omega arith)
reads-span i (suc d) (suc n) = rw (add-suc i d, add-suc i n, ← suc-add i d, ← suc-add i n) (reads-span (suc i) d n)

same-identity : (d : ℕ) → Same (identity d) entry
unfolding identity read
same-identity d = record { at = λ n. rw (zero-add d) at (reads-span 0 d n) }

-- A block run from any identity depth trims to the same stack, and its jump takes the same symbol.
pub run-any-depth : (r : Rules) (code : List ℕ) (start : ℕ) (is : List Ins) (d : ℕ) → trimmed (runs r code start is (identity d)) ≡ trimmed (runs r code start is entry)
run-any-depth r code start is d =
    let h = same_runs r code start is (same-identity d) in
    λ i. record { stack = trim_same _ _ h.stack i; goes = h.goes i }

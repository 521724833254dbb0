-- `iterate_code(code, start, None)` never panics, and yields the walk from `start`. Assumes nothing.
use Prim.Native.Nat.{ℕ, zero, suc, ◌+◌, ◌-◌, ◌≤◌, ◌<◌}
use native.Mathlib.Omega.{arith}
use native.Mathlib.Numerals.{add-one}
use mathlib.Core.Path.{◌≡◌, refl, sym, ap, ◌∙◌}
use mathlib.Core.List.{List, [], ◌∷◌}
use mathlib.Core.Option.{Option, none, some}
use lib.Dec.{leb, ltb}
use lib.ListN.{length, take, drop, get_or, get_elem?}
use borrow.Author.Tests.{leb-false, le-leb, lt-leb, lt-ltb, le-ltb}
use Rattle.spec.specs.Lists.{if}
use Rattle.spec.specs.Opcodes.{Row, argument}
use Rattle.spec.specs.Walk.{Ins, big, walk}
use Rattle.laws.proofs.Branch.{both, if-true, if-false, and_then}
use Rattle.laws.proofs.Members.{and-true}
use Rattle.theorems.proofs.Walking.{Walked, stops, steps, walks_from}
use Rattle.source.specs.Collections.{slice}
use Rattle.source.specs.CodeIterator.{yields, iterate_code}

-- `code[i]` where i is in range
pub index : (xs : List ℕ) (i : ℕ) → i < length xs → get_elem? xs i ≡ some (get_or xs i 0)
index [] i h = absurd (omega arith)
index (x ∷ xs) zero h = refl
index (x ∷ xs) (suc i) h = index xs i (omega arith)

-- the rows have document 01's sizes
pub record Sized (row : ℕ → Row) : Type 0 where
  pub size : (b : ℕ) → (row b).size ≡ suc (argument b)

-- a call of the closure, and what follows it
abbrev yielded : (ℕ → Row) → List ℕ → ℕ → (ℕ → Option (List Ins)) → Option (List Ins)
yielded row code pc next =
    and_then (get_elem? code pc) (λ op.
    if (ltb (length code) (pc + (row op).size)) (some [])
    (and_then (slice code (pc + 1) (pc + (row op).size)) (λ arg. and_then (next (pc + (row op).size)) (λ later. some (record { pc = pc; op = op; arg = big 0 arg } ∷ later)))))

yields-step : (row : ℕ → Row) (code : List ℕ) (n pc : ℕ)
    → yields row code (length code) (suc n) pc ≡ if (leb (length code) pc) (some []) (yielded row code pc (yields row code (length code) n))
unfolding yields
yields-step row code n pc = refl

module _ {row : ℕ → Row} (sized : Sized row) (code : List ℕ) where
  slice-whole : (a n : ℕ) → a + suc n ≤ length code → slice code (a + 1) (a + suc n) ≡ some (take n (drop (suc a) code))
  slice-whole a n h =
      let e : a + suc n - (a + 1) ≡ n = omega arith in
      if-true _ _ _ (and-true _ _ (le-leb (a + 1) (a + suc n) (omega arith)) (le-leb (a + suc n) (length code) h))
      ∙ rw (e, add-one) refl

  pub yields-walked : {at : ℕ} {is : List Ins} → Walked code at is → (n : ℕ) → length code ≤ n + at → yields row code (length code) (suc n) at ≡ some is
  yields-walked (stops {at} h) n enough =
      yields-step row code n at
      ∙ both (λ (o : Option (List Ins)). o ≡ some []) (leb (length code) at) (λ _. refl)
      (λ off.
      rw (index code at (leb-false _ _ off), sized.size)
      (if-true _ _ _ (lt-ltb (length code) (at + suc (argument (get_or code at 0))) (omega arith))))
  yields-walked (steps {i} {is} s w) n enough = split n enough (λ m k. yields-walked w m k)
    where
      op : get_elem? code i.pc ≡ some i.op
      op = let h = s.whole in index code i.pc (omega arith) ∙ ap some (sym s.byte)

      split : (n : ℕ) → length code ≤ n + i.pc
          → ((n : ℕ) → length code ≤ n + (i.pc + suc (argument i.op)) → yields row code (length code) (suc n) (i.pc + suc (argument i.op)) ≡ some is)
          → yields row code (length code) (suc n) i.pc ≡ some (i ∷ is)
      split zero k ih = let h = s.whole in absurd (omega arith)
      split (suc n) k ih =
          let h = s.whole in
          yields-step row code (suc n) i.pc
          ∙ if-false _ _ _ (lt-leb (length code) i.pc (omega arith))
          ∙ rw (op, sized.size i.op) (if-false _ _ _ (le-ltb (length code) (i.pc + suc (argument i.op)) (omega arith))
          ∙ rw (slice-whole i.pc (argument i.op) (omega arith), ih n (omega arith), ← s.number) refl)

-- As `initial_blocks` and `exec` call it.
pub iterate-walks : {row : ℕ → Row} → Sized row → (code : List ℕ) (start : ℕ) → iterate_code row code start none ≡ some (walk (drop start code) start 0)
iterate-walks sized code start = yields-walked sized code (walks_from code start) (length code) (omega arith)

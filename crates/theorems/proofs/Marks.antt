-- Document 01, "Stacks": a Jumpdest symbol names a byte 5B, wherever it is read: of a block's stack, of the symbol that its
-- jump takes, and of what replaces a Before.
-- Assumes nothing.
use Prim.Native.Nat.{ℕ, zero, suc, ◌+◌, ◌^◌, ◌<◌, ◌≤◌}
use native.Mathlib.Omega.{arith}
use native.Mathlib.Decide.{dec_lt}
use mathlib.Core.Path.{◌≡◌, subst}
use mathlib.Core.Option.{Option, none, some}
use mathlib.Core.List.{List, [], ◌∷◌}
use lib.Dec.{eqb, ltb}
use lib.ListN.{length, get_or, replicate, get_or-eq_default}
use borrow.Author.Tests.{eqb-true}
use Rattle.spec.specs.Opcodes.{Row, Rules}
use Rattle.spec.specs.Walk.{Ins}
use Rattle.spec.specs.Stacks.{Sym, before, constant, jumpdest, other, Stack, entry, read, pops, push, pushes, from_value, known_value, mask, is, anded, summed, through, Does, pushes_value, pushes_pc, dups, swaps, ands, adds, jumps, jumpis, lands, halts, plain, does, act, Ran, still, after, runs, trimmed}
use Rattle.laws.proofs.Branch.{both}
use Rattle.theorems.proofs.Blockwise.{read-trim}
use Rattle.theorems.proofs.Beside.{read-pops, read-swap}

module _ (code : List ℕ) where
  abbrev pub Mark : Sym → Type 0
  Mark (before n) = Unit {0}
  Mark (constant v) = Unit {0}
  Mark (jumpdest v) = get_or code v 0 ≡ 0x5B
  Mark (other pc) = Unit {0}

  pub record Marks (s : Stack) : Type 0 where
    pub at : (n : ℕ) → Mark (read s n)

  mark-from : (v : ℕ) → Mark (from_value code v)
  mark-from v = both Mark (eqb (get_or code v 0) 0x5B) (λ e. eqb-true _ _ e) (λ _. tt)

  mark-summed : (pc : ℕ) (a b : Option ℕ) → Mark (summed code pc a b)
  mark-summed pc none none = tt
  mark-summed pc none (some w) = tt
  mark-summed pc (some v) none = tt
  mark-summed pc (some v) (some w) = both Mark (ltb (v + w) (2 ^ 64)) (λ _. mark-from (v + w)) (λ _. tt)

  mark-anded : (pc : ℕ) (a b : Sym) → Mark a → Mark b → Mark (anded pc a b)
  mark-anded pc a b h k = both Mark (is mask (known_value a)) (λ _. k) (λ _. both Mark (is mask (known_value b)) (λ _. h) (λ _. tt))

  marks-push : (x : Sym) → Mark x → {s : Stack} → Marks s → Marks (push x s)
  unfolding read
  marks-push x m h = record { at = elim [ zero ↦ m | suc n ↦ h.at n ] }

  marks-pops : (m : ℕ) {s : Stack} → Marks s → Marks (pops m s)
  marks-pops m {s} h = record { at = λ n. rw (read-pops m s n) (h.at (m + n)) }

  marks-others : (pc m : ℕ) {s : Stack} → Marks s → Marks (pushes (replicate m (other pc)) s)
  marks-others pc zero h = h
  marks-others pc (suc m) h = marks-push (other pc) tt (marks-others pc m h)

  marks-act : (row : ℕ → Row) (i : Ins) (d : Does) {s : Stack} → Marks s → Marks (act row code i d s)
  unfolding act
  marks-act row i pushes_value h = marks-push _ (mark-from i.arg) h
  marks-act row i pushes_pc h = marks-push _ (mark-from i.pc) h
  marks-act row i (dups n) h = marks-push _ (h.at n) h
  marks-act row i (swaps m) {s} h =
      record { at = λ n. rw (read-swap m s n) (both Mark (eqb n 0) (λ _. h.at (suc m)) (λ _. both Mark (eqb n (suc m)) (λ _. h.at 0) (λ _. h.at n))) }
  marks-act row i ands {s} h = marks-push _ (mark-anded i.pc (read s 0) (read s 1) (h.at 0) (h.at 1)) (marks-pops 2 h)
  marks-act row i adds {s} h = marks-push _ (mark-summed i.pc (known_value (read s 0)) (known_value (read s 1))) (marks-pops 2 h)
  marks-act row i jumps h = marks-pops 1 h
  marks-act row i jumpis h = marks-pops 2 h
  marks-act row i lands h = h
  marks-act row i halts h = marks-others i.pc (row i.op).given (marks-pops (row i.op).taken h)
  marks-act row i plain h = marks-others i.pc (row i.op).given (marks-pops (row i.op).taken h)

  -- of a run: of its stack, and of the symbol that its jump takes
  pub record MarksRan (r : Ran) : Type 0 where
    pub stack : Marks r.stack
    pub goes : (x : Sym) → r.goes ≡ some x → Mark x

  ran-still : {s : Stack} → Marks s → MarksRan (still s)
  ran-still h = record { stack = h; goes = λ x e. absurd (let z : ◌≡◌ {A = ℕ} 0 1 = cc in omega arith) }

  ran-jump : {s t : Stack} → Marks s → Marks t → MarksRan (record { stack = t; goes = some (read s 0) })
  ran-jump {s} h k = record { stack = k; goes = λ x e. let same : read s 0 ≡ x = cc in subst Mark same (h.at 0) }

  marks-after : (start : ℕ) (i : Ins) (d : Does) {s t : Stack} {on : Ran} → Marks s → Marks t → MarksRan on → MarksRan (after start i s t on d)
  marks-after start i pushes_value h k r = r
  marks-after start i pushes_pc h k r = r
  marks-after start i (dups n) h k r = r
  marks-after start i (swaps n) h k r = r
  marks-after start i ands h k r = r
  marks-after start i adds h k r = r
  marks-after start i jumps h k r = ran-jump h k
  marks-after start i jumpis h k r = ran-jump h k
  marks-after start i lands h k r = both MarksRan (eqb i.pc start) (λ _. r) (λ _. ran-still h)
  marks-after start i halts h k r = ran-still k
  marks-after start i plain h k r = r

  marks-runs : (rules : Rules) (start : ℕ) (is : List Ins) (s : Stack) → Marks s → MarksRan (runs rules code start is s)
  marks-runs rules start [] s h = ran-still h
  marks-runs rules start (i ∷ is) s h =
      let k = marks-act rules.row i (does rules.mode i.op) h in marks-after start i (does rules.mode i.op) h k (marks-runs rules start is _ k)

  marks-entry : Marks entry
  unfolding read
  marks-entry = record { at = λ n. tt }

  -- Of a block's run, trimmed.
  pub marks_block : (rules : Rules) (start : ℕ) (is : List Ins) → MarksRan (trimmed (runs rules code start is entry))
  marks_block rules start is =
      let r = marks-runs rules start is entry marks-entry in record { stack = record { at = λ n. rw (read-trim _ n) (r.stack.at n) }; goes = r.goes }

  pub mark-through : {p : Stack} → Marks p → (x : Sym) → Mark x → Mark (through p x)
  unfolding through
  mark-through h (before n) m = h.at n
  mark-through h (constant v) m = m
  mark-through h (jumpdest v) m = m
  mark-through h (other pc) m = m

  -- Such a byte lies within the code.
  pub mark-inside : (t : ℕ) → get_or code t 0 ≡ 0x5B → t < length code
  mark-inside t e = split (dec_lt t (length code))
    where
      split : Dec (t < length code) → t < length code
      split (yes l) = l
      split (no l) = absurd (let h : length code ≤ t = omega arith in omega (arith, e, get_or-eq_default code 0 h))

-- The laws of the step: what its leaves ask follows from where the run stands, and what each arm leaves is what document 01 says of the byte.
-- Assumes nothing.
use mathlib.Core.Path.{◌≡◌, refl, sym, ap, ap₂, ◌∙◌}
use mathlib.Core.List.{List}
use Prim.Native.Nat.{ℕ, zero, suc, ◌+◌, ◌-◌, ◌≤◌, ◌<◌}
use native.Mathlib.Nat.{zero-sub, add-zero}
use native.Mathlib.Omega.{arith}
use lib.ListN.{drop}
use borrow.Author.Tests.{eq-eqb, ne_eqb}
use Rattle.spec.specs.Lists.{if}
use Rattle.spec.specs.Opcodes.{argument, row}
use Rattle.spec.specs.Walk.{Ins, ins}
use Rattle.spec.specs.Stacks.{Sym, other, from_value, Stack, read, pops, push, swap, Does, pushes_value, pushes_pc, dups, swaps, ands, adds, jumps, jumpis, lands, halts, plain, does, act}
use Rattle.evm.proofs.Arguments.{argument-push}
use Rattle.state.specs.Symbols.{sym_of}
use Rattle.exec.specs.Working.{stack_of, after_and, after_add, after_trade, popped, Held, Ready, Near, Deepens, Moves, Becomes}
use Rattle.exec.specs.Steps.{on, ends, leaps, turn, next, zero_at, next_of, top_of, spelt, Pushes, Steps, Turns}
use Rattle.exec.specs.Modes.{mode_of}
use Rattle.exec.specs.declared.mode.Mode.{Mode}
use Rattle.exec.specs.declared.mode.Mode.TheVariants.{Plain, KnownZero}
use Rattle.state.specs.declared.sym.StackSym.{StackSym}
use Rattle.exec.specs.declared.top.Top.{Top}
use Rattle.exec.specs.declared.step.Stepped.{Stepped}
use Rattle.exec.specs.declared.step.Stepped.TheVariants.{On, Ends, Jumps}
use Rattle.exec.proofs.Working.{becomes-pops}
use Rattle.exec.proofs.Decides.{Unkeyed, keyed, does-value, does-dups, does-swaps}

-- ---- PUSH0's symbol

module _ (mode : Mode) (code : List ℕ) (pc : ℕ) where
  pub zero-other : mode ≡ Plain → other pc ≡ zero_at (mode_of mode) code pc
  zero-other e = rw e

  pub zero-known : {x : Sym} → mode ≡ KnownZero → x ≡ from_value code 0 → x ≡ zero_at (mode_of mode) code pc
  zero-known e f = rw e f

-- ---- what the leaves ask

module _ {code w : List ℕ} {pc op : ℕ} {t : Top} (p : Steps code pc op w t) where
  pub steps-ready : Ready w t
  steps-ready = record { free = record { held = p.held; free = omega (arith, p.room, p.few, p.whole) }; small = omega (arith, p.low, p.whole, p.short) }

  pub steps-dups : {k : ℕ} → k ≡ op - 0x80 → 0x80 ≤ op → op < 0x90 → Near w t k
  steps-dups e h g = record { ready = steps-ready; near = omega arith }

  pub steps-deepens : {k : ℕ} → k ≡ op - 0x90 → 0x90 ≤ op → op < 0xA0 → Deepens w t (k + 2)
  steps-deepens e h g = record { held = p.held; fits = omega (arith, p.room); small = omega (arith, p.low, p.whole, p.short) }

  pub steps-pushes : {n : ℕ} → n ≡ op - 0x5F → Unkeyed op → 0x5F ≤ op → op < 0x64 → Pushes w t code pc n
  steps-pushes e rest k g =
      let ne : ¬ (op ≡ 0x5F) = rest.0.0.0.0.0.0.0.1 in
      let h : 0x60 ≤ op = omega (arith, ne) in
      record { free = steps-ready.free; few = omega arith; inside = omega (arith, p.whole, argument-push op h (omega arith)) }

-- ---- the leaves

pub becomes-value : {w w' : List ℕ} {t r : Top} (x : Sym) (s : Stack) (code : List ℕ) (v u : ℕ) → x ≡ from_value code v → v ≡ u → Becomes w t (push x s) w' r
    → Becomes w t (push (from_value code u) s) w' r
becomes-value x s code v u e f b = rw (← f, ← e) b

pub jumps-by : {w : List ℕ} {t u : Top} (k : ℕ) (x : StackSym) → Held w t → u ≡ popped k t → sym_of x ≡ read (stack_of w t) 0
    → Turns w t (leaps (pops k (stack_of w t)) (read (stack_of w t) 0)) w (Jumps u x)
jumps-by {w} {t} k x h e f = rw e (let p = becomes-pops t k h in record { is = ap₂ leaps p.is f; moves = p.moves })

-- ---- the arms

module _ (m : ℕ) (code : List ℕ) (start pc op : ℕ) (w : List ℕ) (t : Top) where
  abbrev i : Ins
  i = ins pc op (drop (pc + 1) code)

  abbrev s : Stack
  s = stack_of w t

  module _ (w' : List ℕ) where
    turned : (d : Does) (r : Stepped) → does m op ≡ d → next_of w' r ≡ turn start i s (act row code i d s) d → Moves w t w' (top_of r) → Turns w t (next m code start i s) w' r
    unfolding next
    turned d r e f moved = rw e (record { is = f; moves = moved })

    module _ (u : Top) where
      pub on_value : (n : ℕ) → n ≡ op - 0x5F → Unkeyed op → 0x5F ≤ op → op < 0x64 → Becomes w t (push (from_value code (spelt code pc n)) s) w' u → Turns w t (next m code start i s) w' (On u)
      unfolding act
      on_value n e rest k g b =
          let ne : ¬ (op ≡ 0x5F) = rest.0.0.0.0.0.0.0.1 in
          let h : 0x60 ≤ op = omega (arith, ne) in
          let l : op < 0x80 = omega arith in
          let a : argument op ≡ n = argument-push op h l ∙ sym e in
          turned pushes_value (On u) (does-value m op h g) (rw a (ap on b.is)) b.moves

      -- PUSH0 is plain in mode 0, and pushes the value that no byte spells in the other
      zero_turn : (k : ℕ) → op ≡ 0x5F → push (zero_at k code pc) s ≡ act row code i (does k op) s
      unfolding does act row if
      zero_turn zero e = rw (e, zero-sub, add-zero)
      zero_turn (suc k) e = rw e

      zero-goes : (k : ℕ) → op ≡ 0x5F → (x : Stack) → on x ≡ turn start i s x (does k op)
      unfolding does if
      zero-goes zero e x = rw e
      zero-goes (suc k) e x = rw e

      pub on-zero : op ≡ 0x5F → Becomes w t (push (zero_at m code pc) s) w' u → Turns w t (next m code start i s) w' (On u)
      unfolding next
      on-zero e b = record { is = ap on b.is ∙ zero-goes m e _ ∙ ap (λ (x : Stack). turn start i s x (does m op)) (zero_turn m e); moves = b.moves }

      pub on-pc : op ≡ 0x58 → Becomes w t (push (from_value code pc) s) w' u → Turns w t (next m code start i s) w' (On u)
      unfolding act does if
      on-pc d b = turned pushes_pc (On u) (keyed m op 0x58 (λ z. omega arith) d) (ap on b.is) b.moves

      pub on-dup : (k : ℕ) → k ≡ op - 0x80 → 0x80 ≤ op → op < 0x90 → Becomes w t (push (read s k) s) w' u → Turns w t (next m code start i s) w' (On u)
      unfolding act
      on-dup k e h g b = turned (dups (op - 0x80)) (On u) (does-dups m op h g) (rw (← e) (ap on b.is)) b.moves

      pub on-swap : (k : ℕ) → k ≡ op - 0x90 → 0x90 ≤ op → op < 0xA0 → Becomes w t (swap k s) w' u → Turns w t (next m code start i s) w' (On u)
      unfolding act
      on-swap k e h g b = turned (swaps (op - 0x90)) (On u) (does-swaps m op h g) (rw (← e) (ap on b.is)) b.moves

      pub on_and : op ≡ 0x16 → Becomes w t (after_and pc s) w' u → Turns w t (next m code start i s) w' (On u)
      unfolding act does if
      on_and d b = turned ands (On u) (keyed m op 0x16 (λ z. omega arith) d) (ap on b.is) b.moves

      pub on-add : op ≡ 0x01 → Becomes w t (after_add code pc s) w' u → Turns w t (next m code start i s) w' (On u)
      unfolding act does if
      on-add d b = turned adds (On u) (keyed m op 0x01 (λ z. omega arith) d) (ap on b.is) b.moves

      pub on-plain : does m op ≡ plain → Becomes w t (after_trade op pc s) w' u → Turns w t (next m code start i s) w' (On u)
      unfolding act
      on-plain d b = turned plain (On u) d (ap on b.is) b.moves

      pub ends-halts : does m op ≡ halts → Becomes w t (after_trade op pc s) w' u → Turns w t (next m code start i s) w' (Ends u)
      unfolding act
      ends-halts d b = turned halts (Ends u) d (ap ends b.is) b.moves

    pub leaps-jump : (r : Stepped) → op ≡ 0x56 → Turns w t (leaps (pops 1 s) (read s 0)) w' r → Turns w t (next m code start i s) w' r
    unfolding act does if
    leaps-jump r d b = turned jumps r (keyed m op 0x56 (λ z. omega arith) d) b.is b.moves

    pub leaps-jumpi : (r : Stepped) → op ≡ 0x57 → Turns w t (leaps (pops 2 s) (read s 0)) w' r → Turns w t (next m code start i s) w' r
    unfolding act does if
    leaps-jumpi r d b = turned jumpis r (keyed m op 0x57 (λ z. omega arith) d) b.is b.moves

  stays : Held w t → Moves w t w t
  stays h = record { held = h; ends = refl; front = refl; back = refl }

  pub on-lands : op ≡ 0x5B → pc ≡ start → Held w t → Turns w t (next m code start i s) w (On t)
  unfolding act does if
  on-lands d e h = turned w lands (On t) (keyed m op 0x5B (λ z. omega arith) d) (rw (eq-eqb pc start e)) (stays h)

  pub ends-lands : op ≡ 0x5B → (pc ≡ start → ⊥) → Held w t → Turns w t (next m code start i s) w (Ends t)
  unfolding act does if
  ends-lands d e h = turned w lands (Ends t) (keyed m op 0x5B (λ z. omega arith) d) (rw (ne_eqb pc start e)) (stays h)

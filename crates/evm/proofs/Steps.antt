-- What is found at a place of the code, and what a caller learns of the walk from it. Assumes nothing.
use mathlib.Core.Path.{◌≡◌, ap, sym, ◌∙◌}
use mathlib.Core.Bool.{Bool, true, false, not}
use mathlib.Core.List.{List, [], ◌∷◌}
use Prim.Native.Nat.{ℕ, suc, ◌+◌, ◌-◌, ◌≤◌, ◌<◌}
use native.Mathlib.Omega.{arith}
use native.Mathlib.Decide.{dec_le}
use borrow.Author.Tests.{leb-true, leb-false, ltb-false, not-true}
use lib.Dec.{leb, ltb}
use lib.ListN.{length, get_or, drop}
use Rattle.spec.specs.Opcodes.{argument}
use Rattle.spec.specs.Walk.{ins, walk}
use Rattle.evm.specs.Rows.{SizeIs}
use Rattle.std.specs.Prelude.{Option, Some, None}
use Rattle.evm.specs.Step.{step_of, step_at, next_of, next_at}
use Rattle.evm.specs.declared.walk.Instruction.{Instruction}
use Rattle.evm.proofs.Walks.{next, walk-whole, walk_end}

-- an instruction, by its place, its byte and the place of the next
abbrev pub found : ℕ → ℕ → ℕ → Instruction
found pc op to = record { pc = pc; op = op; next = to }

module _ (code : List ℕ) (at : ℕ) where
  whole : next code at ≤ length code → step_at code at ≡ Some (found at (get_or code at 0) (next code at))
  unfolding step_at
  whole h = ap step_of (walk-whole code at h)

  none : length code < next code at → step_at code at ≡ None
  unfolding step_at
  none h = ap step_of (walk_end code at h)

  -- ---- the ways out of step_at

  pub step_past : length code ≤ at → None ≡ step_at code at
  step_past h = sym (none (omega arith))

  pub step-one : {b : Bool} → at < length code → b ≡ ltb 0 (argument (get_or code at 0)) → not b ≡ true → Some (found at (get_or code at 0) (at + 1)) ≡ step_at code at
  step-one {b} h e f =
      let one : next code at ≡ at + 1 = omega (arith, ltb-false 0 (argument (get_or code at 0)) (sym e ∙ not-true b f)) in
      rw one at (sym (whole (omega (arith, one))))

  module _ {n : ℕ} (s : SizeIs (get_or code at 0) n) {b : Bool} (e : b ≡ leb n (length code - at)) where
    pub step-short : b ≡ false → None ≡ step_at code at
    step-short f = sym (none (omega (arith, leb-false n (length code - at) (sym e ∙ f))))

    pub step-whole : at < length code → b ≡ true → Some (found at (get_or code at 0) (at + n)) ≡ step_at code at
    step-whole g f = rw s.size (sym (whole (omega (arith, leb-true n (length code - at) (sym e ∙ f)))))

  -- ---- what a caller learns of the step r, by which arm of its `match` it is in

  -- a whole instruction: the walk's first, and the walk goes on at `to`
  pub record Took (pc op to : ℕ) : Type 0 where
    pub here : pc ≡ at
    pub byte : op ≡ get_or code at 0
    pub size : to ≡ at + suc (argument op)
    pub inside : to ≤ length code
    pub walks : walk (drop at code) at 0 ≡ ins at op (drop (at + 1) code) ∷ walk (drop to code) to 0

  module _ {r : Option Instruction} (e : r ≡ step_at code at) where
    pub took : {i : Instruction} → r ≡ Some i → Took i.pc i.op i.next
    took {i} w = go (dec_le (next code at) (length code))
      where
        go : Dec (next code at ≤ length code) → Took i.pc i.op i.next
        go (yes h) =
            let f = whole h in
            let j : i ≡ found at (get_or code at 0) (next code at) = cc in
            let p : i.pc ≡ at = ap (λ (i : Instruction). i.pc) j in
            let b : i.op ≡ get_or code at 0 = ap (λ (i : Instruction). i.op) j in
            let t : i.next ≡ next code at = ap (λ (i : Instruction). i.next) j in
            record { here = p; byte = b; size = rw b t; inside = omega arith; walks = rw (b, t) (walk-whole code at h) }
        go (no h) = let f = none (omega arith) in let z : ◌≡◌ {A = ℕ} 0 1 = cc in absurd (omega arith)

    -- the ways out of next_at

    pub next-whole : {i : Instruction} → r ≡ Some i → i.next ≡ next_at code at
    next-whole w = ap (next_of at) (sym w ∙ e)

    pub next-none : r ≡ None → at ≡ next_at code at
    next-none w = ap (next_of at) (sym w ∙ e)

    pub ended : r ≡ None → walk (drop at code) at 0 ≡ []
    ended w = go (dec_le (next code at) (length code))
      where
        go : Dec (next code at ≤ length code) → walk (drop at code) at 0 ≡ []
        go (yes h) = let f = whole h in let z : ◌≡◌ {A = ℕ} 0 1 = cc in absurd (omega arith)
        go (no h) = walk_end code at (omega arith)

    -- a step forward leaves less of the code
    pub less-left : {i : Instruction} → r ≡ Some i → length code - i.next < length code - at
    less-left w = let k = took w in omega (arith, k.size, k.inside)

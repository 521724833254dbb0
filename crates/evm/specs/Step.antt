-- What the walk of document 01 finds at a place, as the code has it. Assumes nothing.
use Rattle.std.specs.Prelude.{ℕ, suc, ◌+◌, List, [], ◌∷◌, drop, Option, Some, None}
use Rattle.spec.specs.Opcodes.{argument}
use Rattle.spec.specs.Walk.{Ins, walk}
use Rattle.evm.specs.declared.walk.Instruction.{Instruction}

-- the first instruction of a walk, with the place of the next
abbrev pub step_of : List Ins → Option Instruction
step_of [] = None
step_of (i ∷ is) = Some (record { pc = i.pc; op = i.op; next = i.pc + suc (argument i.op) })

-- what stands at a place of the code
unfoldable pub step_at : List ℕ → ℕ → Option Instruction
step_at code at = step_of (walk (drop at code) at 0)

-- the place of the next one, if one stands there
abbrev pub next_of : ℕ → Option Instruction → ℕ
next_of at (Some i) = i.next
next_of at None = at

abbrev pub next_at : List ℕ → ℕ → ℕ
next_at code at = next_of at (step_at code at)

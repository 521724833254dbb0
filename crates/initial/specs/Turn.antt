-- One instruction of the cutting, as the code takes it: what it is, the block that it closes, and how the walk goes on. Assumes nothing.
use Rattle.std.specs.Prelude as std
use Rattle.std.specs.Prelude.{false, Some, None, List, [], ◌∷◌, map, ℕ, ◌+◌, min, eqb, get_or, drop}
use Rattle.std.proofs.Math.Option.{Option, none, some}
use Rattle.spec.specs.Lists.{if}
use Rattle.spec.specs.Opcodes.{row}
use Rattle.spec.specs.Walk.{Ins, ins, walk}
use Rattle.spec.specs.Blocks as spec
use Rattle.spec.specs.Blocks.{Kind, terminate, jump, jumpi, dynamic_jump, dynamic_jumpi, Block, block, with_kind, opened, waiting, pushed, jumping, branching, JUMPDEST, JUMPI, JUMP, UNKNOWN, OTHER, ENDS, cuts}
use Rattle.initial.specs.Rows.{type_of, kind_of}
use Rattle.initial.specs.declared.turn.Cut.{Cut}
use Rattle.initial.specs.declared.turn.Cut.TheVariants.{Jumpdest, Jumpi, Jump, Ends, Unknown, Other}
use Rattle.initial.specs.declared.turn.Walking.{Walking}
use Rattle.initial.specs.declared.turn.Walking.TheVariants.{Opened, Waiting, Ended}
use Rattle.initial.specs.declared.turn.Effect.{Effect}
use Rattle.initial.specs.declared.turn.Effect.TheVariants.{Goes, Closes}

-- A destination is kept in two bytes: 0xffff stands for one above, which is past the end of any code too.
abbrev pub clip : Kind → Kind
clip (terminate success) = terminate success
clip (jump t) = jump (min t 0xFFFF)
clip (jumpi t f) = jumpi (min t 0xFFFF) f
clip dynamic_jump = dynamic_jump
clip (dynamic_jumpi f) = dynamic_jumpi f

abbrev pub clipped : Block → Block
clipped b = with_kind (clip b.kind) b

-- what the instruction at a place of the code pushed
unfoldable pub pushed_at : List ℕ → ℕ → Option ℕ
pushed_at code at = pushed (ins at (get_or code at 0) (drop (at + 1) code))

-- the destination that it makes static, if it makes one
unfoldable pub target_of : Option ℕ → std.Option ℕ
target_of none = None
target_of (some v) = Some (min v 0xFFFF)

-- what an instruction is to the cutting
abbrev pub cut_of : spec.Cut → Cut
cut_of JUMPDEST = Jumpdest
cut_of JUMPI = Jumpi
cut_of JUMP = Jump
cut_of (ENDS success) = Ends success
cut_of UNKNOWN = Unknown
cut_of OTHER = Other

-- one instruction at pc, in the block that is open from start on
unfoldable pub turn_of : ℕ → ℕ → Option ℕ → ℕ → Cut → Effect
turn_of start prev push pc Jumpdest = if (eqb start pc) (Goes (Opened start)) (Closes prev (type_of (jump pc)) (Opened pc))
turn_of start prev push pc Jumpi = Closes pc (type_of (clip (branching push (pc + 1)))) (Opened (pc + 1))
turn_of start prev push pc Jump = Closes pc (type_of (clip (jumping push))) Waiting
turn_of start prev push pc (Ends success) = Closes pc (type_of (terminate success)) Waiting
turn_of start prev push pc Unknown =
    if (eqb start 0) (Closes prev (type_of (terminate false)) Ended)
    (if (eqb start pc) (Goes Waiting) (Closes prev (type_of (terminate false)) Waiting))
turn_of start prev push pc Other = Goes (Opened start)

-- the block that a turn closes, if it closes one
abbrev pub closed : ℕ → Effect → List Block
closed start (Goes m) = []
closed start (Closes end t m) = block start start end (kind_of t) ∷ []

abbrev pub then : Effect → Walking
then (Goes m) = m
then (Closes end t m) = m

-- how the cutting goes on, `on` at a mode; no more where it has ended
abbrev pub resume : (spec.Mode → List Block) → Walking → List Block
resume on (Opened start) = on (opened start start)
resume on Waiting = on waiting
resume on Ended = []

-- the blocks that are still to be cut, of these instructions
abbrev pub rest : List Ins → Walking → ℕ → Option ℕ → List Block
rest is m prev push = resume (λ (n : spec.Mode). cuts row is n prev push) m

-- those of the code from a place on, as the rows have them
unfoldable pub ahead : List ℕ → ℕ → Walking → ℕ → List Block
ahead code at m prev = map clipped (rest (walk (drop at code) at 0) m prev (pushed_at code prev))

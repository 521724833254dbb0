-- src/control_flow_graph/initial.rs. Assumes nothing.
use Rattle.std.specs.Prelude.{ℕ, ◌+◌, ◌-◌, Bool, true, false, not, ◌&&◌, ◌||◌, List, [], ◌∷◌, map, eqb, leb}
use Rattle.std.proofs.Math.Option.{Option, none, some}
use Rattle.std.proofs.Math.ListN.{get_elem?}
use Rattle.spec.specs.Lists.{if, within, mem}
use Rattle.spec.specs.Opcodes.{Row}
use Rattle.spec.specs.Walk.{Ins}
use Rattle.laws.specs.Options.{and_then}
use Rattle.source.specs.Collections.{insert_sorted}
use Rattle.source.specs.CodeIterator.{iterate_code}
use Rattle.source.specs.State.{four_bytes}
use Rattle.source.specs.Types.{BlockType, Terminate, Jump, Jumpi, DynamicJump, DynamicJumpi, RustBlock, rust_block, with_type, Blocks}

-- lines 12 to 22; `four_bytes` of state.rs's transcription is lines 15 to 18
abbrev pub is_static_jump : List ℕ → ℕ → Option (Option ℕ)
is_static_jump code prev_pc =
    and_then (get_elem? code prev_pc) (λ prev_op.
    let pushed = and_then (four_bytes code (prev_pc + 1) (prev_op - 0x5F)) (λ v. some (some v)) in
    if (within 0x60 0x63 prev_op) pushed (some none))

-- lines 24 to 31
abbrev pub new_block : ℕ → RustBlock
new_block start = rust_block start start 0 (Terminate false)

-- lines 34, 38, 39 and 41: the locals of the loop
pub record Cutting : Type 0 where
  pub blocks : Blocks
  pub prev_pc : ℕ
  pub block : RustBlock
  pub wait_jumpdest : Bool

-- lines 34, 38, 39 and 41: these of their values
abbrev pub cutting : Blocks → ℕ → RustBlock → Bool → Cutting
cutting bs p b w = record { blocks = bs; prev_pc = p; block = b; wait_jumpdest = w }

-- lines 58 to 60, 77 to 78, 88 to 89, 99 to 100, 111 to 113, 120 to 122 and 134 to 136: `block.end = e; block.btype = t; blocks.insert(block.id, block)`
abbrev pub closed : ℕ → BlockType → RustBlock → Blocks → Blocks
closed e t b bs = insert_sorted b.id (rust_block b.id b.start e t) bs

-- lines 66 to 76
abbrev pub jumpi_type : ℕ → Option ℕ → BlockType
jumpi_type pc none = DynamicJumpi [] (pc + 1)
jumpi_type pc (some true_to) = Jumpi true_to (pc + 1)

-- lines 83 to 87
abbrev pub jump_type : Option ℕ → BlockType
jump_type none = DynamicJump []
jump_type (some to) = Jump to

-- lines 54 to 129: the match on the byte; `on` is the rest of the loop, `break` what follows it
abbrev pub match_op : (ℕ → Row) → List ℕ → Ins → (Cutting → Option Cutting) → Cutting → Option Cutting
match_op row code i on c =
    let jumpdest_starts = on (cutting c.blocks i.pc c.block false) in
    let jumpdest_closes = on (cutting (closed c.prev_pc (Jump i.pc) c.block c.blocks) i.pc (new_block i.pc) false) in
    let jumpi =
    and_then (is_static_jump code c.prev_pc) (λ v.
    on (cutting (closed i.pc (jumpi_type i.pc v) c.block c.blocks) i.pc (new_block (i.pc + (row i.op).size)) false)) in
    let jump =
    and_then (is_static_jump code c.prev_pc) (λ v.
    on (cutting (closed i.pc (jump_type v) c.block c.blocks) i.pc (new_block (i.pc + (row i.op).size)) true)) in
    let ends =
    on (cutting (closed i.pc (Terminate (not (eqb i.op 0xFD) && not (eqb i.op 0xFE))) c.block c.blocks) i.pc (new_block (i.pc + (row i.op).size)) true) in
    let breaks = some (cutting (closed c.prev_pc (Terminate false) c.block c.blocks) c.prev_pc (new_block i.pc) true) in
    let unknown_closes = on (cutting (closed c.prev_pc (Terminate false) c.block c.blocks) i.pc (new_block i.pc) true) in
    let unknown_starts = on (cutting c.blocks i.pc c.block true) in
    let known = on (cutting c.blocks i.pc c.block false) in
    if (eqb i.op 0x5B) (if (not (eqb c.block.start i.pc)) jumpdest_closes jumpdest_starts)
    (if (eqb i.op 0x57) jumpi
    (if (eqb i.op 0x56) jump
    (if (eqb i.op 0xFD || eqb i.op 0xF3 || eqb i.op 0x00 || eqb i.op 0xFF || eqb i.op 0xFE) ends
    (if (not (row i.op).known) (if (eqb c.block.start 0) breaks (if (not (eqb c.block.start i.pc)) unknown_closes unknown_starts)) known))))

-- lines 43 to 130
unfoldable pub for_code : (ℕ → Row) → List ℕ → List Ins → Cutting → Option Cutting
for_code row code [] c = some c
for_code row code (i ∷ is) c =
    let starts = for_code row code is (cutting c.blocks i.pc (rust_block i.pc i.pc c.block.end c.block.btype) false) in
    let waits = for_code row code is (cutting c.blocks i.pc c.block true) in
    let matches = match_op row code i (for_code row code is) c in
    if c.wait_jumpdest (if (eqb i.op 0x5B) starts waits) matches

-- lines 132 to 137
abbrev pub last_block : Cutting → Blocks
last_block c =
    let closes = closed c.prev_pc (Terminate false) c.block c.blocks in
    if (not c.wait_jumpdest && leb c.block.start c.prev_pc) closes c.blocks

-- lines 150 and 157: `keys.contains(to) && code[*to] == op::JUMPDEST`; the code is looked at only where the first is so
abbrev pub valid : List ℕ → List ℕ → ℕ → Option Bool
valid code keys to = let looks = and_then (get_elem? code to) (λ b. some (eqb b 0x5B)) in if (mem to keys) looks (some false)

-- lines 148 to 169
abbrev pub new_btype : List ℕ → List ℕ → BlockType → Option BlockType
new_btype code keys (Terminate success) = some (Terminate success)
new_btype code keys (Jump to) = and_then (valid code keys to) (λ v. some (if v (Jump to) (Terminate false)))
new_btype code keys (Jumpi t f) =
    and_then (valid code keys t) (λ true_valid. some (if (mem f keys) (if true_valid (Jumpi t f) (Jump f)) (Terminate false)))
new_btype code keys (DynamicJump to) = some (DynamicJump to)
new_btype code keys (DynamicJumpi t f) = some (DynamicJumpi t f)

-- lines 141 to 170
unfoldable pub check_each : List ℕ → List ℕ → Blocks → Option Blocks
check_each code keys [] = some []
check_each code keys (e ∷ es) =
    let goes =
    and_then (new_btype code keys e.1.btype) (λ t.
    and_then (check_each code keys es) (λ later. some ((e.0, with_type t e.1) ∷ later))) in
    if (leb e.1.start e.1.end) goes none

-- line 139
abbrev pub keys_of : Blocks → List ℕ
keys_of bs = map (λ (e : ℕ × RustBlock). e.0) bs

-- lines 33 to 172
abbrev pub initial_blocks : (ℕ → Row) → List ℕ → Option Blocks
initial_blocks row [] = some []
initial_blocks row (b ∷ rest) =
    and_then (iterate_code row (b ∷ rest) 0 none) (λ is.
    and_then (for_code row (b ∷ rest) is (cutting [] 0 (new_block 0) false)) (λ c.
    let bs = last_block c in
    check_each (b ∷ rest) (keys_of bs) bs))

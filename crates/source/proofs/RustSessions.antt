-- Document 01, "Sessions to check": the starred codes, through the Rust's modules as they stand here; each is computed. Assumes nothing.
use Prim.Native.Nat.{ℕ}
use mathlib.Core.Path.{◌≡◌, refl}
use mathlib.Core.Bool.{true, false}
use mathlib.Core.List.{List, [], ◌∷◌, map}
use mathlib.Core.Option.{some}
use Rattle.spec.specs.Lists.{if}
use Rattle.spec.specs.Stacks.{read, does, act, trim, run, through, compose}
use Rattle.source.specs.CodeIterator.{yields}
use Rattle.source.specs.State.{max_before}
use Rattle.source.specs.Initial.{for_code, check_each}
use Rattle.source.specs.Reachable.{while_queue, passes}
use Rattle.source.specs.Resolver.{get_state, get_state_with_depth, insert_path_parent, insert_badpath, get_parents, add_inter_state, replays, materialize_path_state, widen, match_symbol, follow_path, try_parent, for_parents, resolve_dynamic_jump_path, first_stage, direct_parents, change, after_turn, one_turn, for_turns, for_rounds}
use Rattle.source.specs.Mod.{rust}
use Rattle.source.specs.Op.{info}
use Rattle.source.specs.Types.{Dynamic, BlockType, Terminate, Jump, DynamicJump, RustBlock, rust_block, Blocks}

abbrev from : List ℕ → ℕ → Dynamic
from p t = record { path = p; to = some t }

abbrev at : ℕ → ℕ → BlockType → ℕ × RustBlock
at s e t = (s, rust_block s s e t)

pub record Session : Type 0 where
  pub code : List ℕ
  pub blocks : Blocks

abbrev session : List ℕ → Blocks → Session
session c b = record { code = c; blocks = b }

abbrev sessions : List Session
sessions =
    session [] []
    ∷ session (0x00 ∷ []) (at 0 0 (Terminate true) ∷ [])
    ∷ session (0x60 ∷ 0x03 ∷ 0x56 ∷ 0x5b ∷ 0x00 ∷ []) (at 0 2 (Jump 3) ∷ at 3 4 (Terminate true) ∷ [])
    ∷ session (0x0c ∷ 0x5b ∷ 0x00 ∷ []) (at 0 0 (Terminate false) ∷ [])
    ∷ session (0x60 ∷ 0x01 ∷ 0x57 ∷ 0x0c ∷ 0x5b ∷ 0x00 ∷ []) (at 0 2 (Terminate false) ∷ [])
    ∷ session (0x60 ∷ 0x5b ∷ 0x50 ∷ 0x60 ∷ 0x01 ∷ 0x56 ∷ []) (at 0 5 (Terminate false) ∷ [])
    ∷ session (0x60 ∷ 0x5b ∷ 0x50 ∷ 0x60 ∷ 0x01 ∷ 0x60 ∷ 0x00 ∷ 0x01 ∷ 0x56 ∷ []) (at 0 8 (Jump 1) ∷ [])
    ∷ session (0x60 ∷ 0x05 ∷ 0x60 ∷ 0x07 ∷ 0x56 ∷ 0x5b ∷ 0x00 ∷ 0x5b ∷ 0x56 ∷ []) (at 0 4 (Jump 7) ∷ at 5 6 (Terminate true) ∷ at 7 8 (Jump 5) ∷ [])
    ∷ session (0x60 ∷ 0x05 ∷ 0x60 ∷ 0x0d ∷ 0x56 ∷ 0x5b ∷ 0x60 ∷ 0x0b ∷ 0x60 ∷ 0x0d ∷ 0x56 ∷ 0x5b ∷ 0x00 ∷ 0x5b ∷ 0x56 ∷ []) (at 0 4 (Jump 13) ∷ at 5 10 (Jump 13) ∷ at 11 12 (Terminate true) ∷ at 13 14 (DynamicJump (from (13 ∷ 0 ∷ []) 5 ∷ from (13 ∷ 5 ∷ []) 11 ∷ [])) ∷ [])
    ∷ []

pub sessions-hold : map (λ (s : Session). rust s.code) sessions ≡ map (λ (s : Session). some s.blocks) sessions
unfolding if read does act trim run through compose yields max_before for_code check_each while_queue passes get_state get_state_with_depth insert_path_parent insert_badpath get_parents add_inter_state replays materialize_path_state widen match_symbol follow_path try_parent for_parents resolve_dynamic_jump_path first_stage direct_parents change after_turn one_turn for_turns for_rounds rust info
sessions-hold = refl

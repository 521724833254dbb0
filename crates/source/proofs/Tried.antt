-- What the transcription gives for small arguments, by computing: each fact is one that a wrong version of must-fail/ is refused by. Assumes nothing.
use Prim.Native.Nat.{ℕ, ◌-◌, ◌^◌}
use mathlib.Core.Path.{◌≡◌, refl}
use mathlib.Core.Bool.{true, false}
use mathlib.Core.List.{List, [], ◌∷◌}
use mathlib.Core.Option.{Option, none, some}
use Rattle.spec.specs.Lists.{if}
use Rattle.spec.specs.Stacks.{before, constant, jumpdest, other}
use Rattle.laws.specs.Options.{and_then}
use Rattle.source.specs.CodeIterator.{yields}
use Rattle.source.specs.State.{State, new, with_identity, max_before, get_stack, deeper, ended, and_symbol, checked_add, match_op}
use Rattle.source.specs.Initial.{is_static_jump, initial_blocks, for_code, check_each}
use Rattle.source.specs.Reachable.{pushes_of_type}
use Rattle.source.specs.Resolver.{RevIdx, Got, Resolved, Deeper, default, set_reachable0, with_replayed_paths, get_state, get_state_with_depth, insert_path_parent, insert_badpath, add_inter_state, replays, materialize_path_state, widen, match_symbol, follow_path, try_parent, for_parents, ENERGY-LIMIT, ROUNDS}
use Rattle.source.specs.Op.{info}
use Rattle.source.specs.Types.{Dynamic, DynamicJump, DynamicJumpi, rust_block}

abbrev entry : List ℕ → Option ℕ → Dynamic
entry p t = record { path = p; to = t }

-- blocks 0 and 1 are reachable
abbrev index : RevIdx
index = set_reachable0 (0 ∷ 1 ∷ []) default

-- what a search found, and what it spent
pub record Search : Type 0 where
  pub jumps : List Dynamic
  pub used : ℕ

abbrev search : List Dynamic → ℕ → Option Search
search js u = some (record { jumps = js; used = u })

abbrev searched : Option Resolved → Option Search
searched o = and_then o (λ t. search t.jumps t.used)

-- no level lies below
abbrev stops : Deeper
stops r path weight pos state room = none

-- a parent whose top is the address 5
abbrev caller : List ℕ → List ℕ × State
caller path = (path, before 0 ∷ jumpdest 5 ∷ [])

-- the parents of block 0, at this limit and with nothing spent
abbrev tries : List (List ℕ × State) → ℕ → Option Search
tries ps limit = searched (for_parents info [] stops (0 ∷ []) 1 0 new limit ps index [] 0)

abbrev value : {A : Type 0} → Option (Got A) → Option A
value o = and_then o (λ g. some g.value)

-- ---- op.rs, reachable.rs

-- CLZ takes one word
pub takes-one : (info 0x1E).taken ≡ 1
unfolding info if
takes-one = refl

-- a DynamicJumpi leads to its false side
pub leads-on : pushes_of_type [] [] (DynamicJumpi [] 5) ≡ some (5 ∷ [])
leads-on = refl

-- ---- initial.rs

-- PUSH5 tells no static jump
pub no-push : is_static_jump (0x64 ∷ 0 ∷ 0 ∷ 0 ∷ 0 ∷ 1 ∷ []) 0 ≡ some none
unfolding if
no-push = refl

-- behind a JUMP no block begins but at a JUMPDEST
pub waits : initial_blocks info (0x56 ∷ 0x50 ∷ []) ≡ some ((0, rust_block 0 0 0 (DynamicJump [])) ∷ [])
unfolding if info yields for_code check_each
waits = refl

-- ---- state.rs

pub down-to-zero : with_identity 1 ≡ before 1 ∷ before 0 ∷ []
down-to-zero = refl

-- position 1 is the one below the top
pub below-top : get_stack (before 0 ∷ constant 1 ∷ constant 2 ∷ []) 1 ≡ some (constant 1)
unfolding if
below-top = refl

-- nothing of a parent of one symbol lies deeper than its Before(0)
pub nothing-deeper : deeper 1 (before 0 ∷ []) ≡ some []
unfolding if
nothing-deeper = refl

-- SWAP1 swaps the top with the one below it
pub swapped : match_op info [] 0 (record { pc = 0; op = 0x90; arg = 0 }) (λ xs. ended xs none) (before 0 ∷ constant 1 ∷ constant 2 ∷ []) ≡ ended (before 0 ∷ constant 2 ∷ constant 1 ∷ []) none
unfolding if
swapped = refl

-- the mask at the top leaves the other
pub masked : and_symbol 3 (constant 0xffffffff) (other 1) ≡ other 1
unfolding if
masked = refl

-- a sum of 2^64 is none
pub no-sum : checked_add (2 ^ 64 - 1) 1 ≡ none
unfolding if
no-sum = refl

-- ---- resolver.rs

-- the last block is to be reachable, and the destination need not be
pub last-reachable : value (insert_path_parent 5 (1 ∷ []) new index) ≡ some true
unfolding insert_path_parent if
last-reachable = refl

-- a path is new once
pub path-once : and_then (insert_path_parent 5 (1 ∷ []) new index) (λ g. value (insert_path_parent 5 (1 ∷ []) new g.idx)) ≡ some false
unfolding insert_path_parent if
path-once = refl

-- and so are state and symbol
pub met-once : (add_inter_state 1 new (other 0) (add_inter_state 1 new (other 0) index).idx).value ≡ false
unfolding add_inter_state if
met-once = refl

-- a path is asked for at the depth that it was kept at
pub at-its-depth : value (materialize_path_state info [] (0 ∷ 1 ∷ []) new 3 (with_replayed_paths (((0 ∷ 1 ∷ [], 3), before 9 ∷ []) ∷ []) index)) ≡ some (before 9 ∷ [])
unfolding materialize_path_state replays get_state_with_depth get_state yields max_before info if
at-its-depth = refl

-- the widening ends where no more is required
pub widens-once : and_then (widen info [] 1 (0 ∷ []) 0 new 0 index) (λ w. some w.required_depth) ≡ some 0
unfolding widen materialize_path_state max_before if
widens-once = refl

-- weight 256 is not too much
pub weighs-256 : searched (follow_path stops (0 ∷ 1 ∷ []) 256 new none index (jumpdest 5)) ≡ search (entry (0 ∷ 1 ∷ []) (some 5) ∷ []) 0
unfolding follow_path match_symbol add_inter_state insert_path_parent insert_badpath if
weighs-256 = refl

-- a constant is no destination
pub leads-nowhere : searched (match_symbol stops (0 ∷ 1 ∷ []) 2 new none index (constant 7)) ≡ search (entry (0 ∷ 1 ∷ []) none ∷ []) 0
unfolding match_symbol insert_badpath if
leads-nowhere = refl

-- a unit is there for the parent that it pays for
pub last-unit : tries (caller (1 ∷ []) ∷ []) 1 ≡ search (entry (0 ∷ 1 ∷ []) (some 5) ∷ []) 1
unfolding for_parents try_parent widen materialize_path_state max_before follow_path match_symbol add_inter_state insert_path_parent insert_badpath if
last-unit = refl

-- a parent that is tried costs a unit
pub costs-one : (λ (o : Option Search). and_then o (λ s. some s.used)) (tries (caller (1 ∷ []) ∷ []) 9) ≡ some 1
unfolding for_parents try_parent widen materialize_path_state max_before follow_path match_symbol add_inter_state insert_path_parent insert_badpath if
costs-one = refl

-- a direct parent that the path has is passed over, and costs a unit
pub passes-over : tries (caller (0 ∷ []) ∷ []) 9 ≡ search [] 1
unfolding for_parents try_parent widen materialize_path_state max_before follow_path match_symbol add_inter_state insert_path_parent insert_badpath if
passes-over = refl

pub limit-is : ENERGY-LIMIT ≡ 500000
limit-is = refl

pub rounds-are : ROUNDS ≡ 128
rounds-are = refl

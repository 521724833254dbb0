-- src/control_flow_graph/resolver.rs. `&mut self` is the index handed in and handed back. A panic, an assert or an unwrap that fails, `unreachable!`, and a
-- number that runs out are none. Sums are exact. Assumes nothing.
use Rattle.std.specs.Prelude.{ℕ, zero, suc, ◌+◌, max, Bool, true, false, not, ◌&&◌, List, [], ◌∷◌, ◌++◌, eqb, leb, ltb, length}
use Rattle.std.proofs.Math.Option.{Option, none, some}
use Rattle.std.proofs.Math.ListN.{get_elem?}
use Rattle.spec.specs.Lists.{if, mem, same, some?, keep}
use Rattle.spec.specs.Opcodes.{Row}
use Rattle.spec.specs.Stacks.{Sym, before, constant, jumpdest, other, eq_sym, eq_syms}
use Rattle.laws.specs.Options.{and_then}
use Rattle.source.specs.Collections.{match_option, unwrap_or, get, contains_key, insert, set_insert, last_unwrapped, minus}
use Rattle.source.specs.State.{State, new, with_identity, explicit_len, max_before, get_stack, resolve_with_parent, exec_code}
use Rattle.source.specs.Types.{Dynamic, BlockType, Terminate, Jump, Jumpi, DynamicJump, DynamicJumpi, RustBlock, with_type, Blocks}
use Rattle.source.specs.Reachable.{Witnesses, get_reachable_nodes, extend_reachable_nodes}

-- line 22: `IndexMap<Vec<usize>, State>`
abbrev pub Parents : Type 0
Parents = List (List ℕ × State)

-- line 30: `HashMap<State, HashSet<StackSym>>`
abbrev pub Inter : Type 0
Inter = List (State × List Sym)

-- lines 12 to 37, 39 and 184: `RevIdx` and its `impl`
pub record RevIdx : Type 0 where
  pub states : List (ℕ × State)
  pub deep_states : List ((ℕ × ℕ) × State)
  pub parents : List (ℕ × Parents)
  pub replayed_paths : List ((List ℕ × ℕ) × State)
  pub istate : List (ℕ × Inter)
  pub badpaths : List (List ℕ)
  pub reachable0 : List ℕ

-- line 19: whether two keys of `deep_states` are one
abbrev pub same_pair : ℕ × ℕ → ℕ × ℕ → Bool
same_pair a b = eqb a.0 b.0 && eqb a.1 b.1

-- line 27: whether two keys of `replayed_paths` are one
abbrev pub same_replay : List ℕ × ℕ → List ℕ × ℕ → Bool
same_replay a b = same a.0 b.0 && eqb a.1 b.1

-- line 343: `RevIdx::default()`
abbrev pub default : RevIdx
default = record { states = []; deep_states = []; parents = []; replayed_paths = []; istate = []; badpaths = []; reachable0 = [] }

-- lines 14, 45 and 49: the field
abbrev pub with_states : List (ℕ × State) → RevIdx → RevIdx
with_states x r =
    record { states = x; deep_states = r.deep_states; parents = r.parents; replayed_paths = r.replayed_paths; istate = r.istate; badpaths = r.badpaths; reachable0 = r.reachable0 }

-- lines 19 and 63: the field
abbrev pub with_deep_states : List ((ℕ × ℕ) × State) → RevIdx → RevIdx
with_deep_states x r =
    record { states = r.states; deep_states = x; parents = r.parents; replayed_paths = r.replayed_paths; istate = r.istate; badpaths = r.badpaths; reachable0 = r.reachable0 }

-- lines 22, 74 and 94: the field
abbrev pub with_parents : List (ℕ × Parents) → RevIdx → RevIdx
with_parents x r =
    record { states = r.states; deep_states = r.deep_states; parents = x; replayed_paths = r.replayed_paths; istate = r.istate; badpaths = r.badpaths; reachable0 = r.reachable0 }

-- lines 27 and 181: the field
abbrev pub with_replayed_paths : List ((List ℕ × ℕ) × State) → RevIdx → RevIdx
with_replayed_paths x r =
    record { states = r.states; deep_states = r.deep_states; parents = r.parents; replayed_paths = x; istate = r.istate; badpaths = r.badpaths; reachable0 = r.reachable0 }

-- lines 30, 132 and 145: the field
abbrev pub with_istate : List (ℕ × Inter) → RevIdx → RevIdx
with_istate x r =
    record { states = r.states; deep_states = r.deep_states; parents = r.parents; replayed_paths = r.replayed_paths; istate = x; badpaths = r.badpaths; reachable0 = r.reachable0 }

-- lines 33 and 106: the field
abbrev pub with_badpaths : List (List ℕ) → RevIdx → RevIdx
with_badpaths x r =
    record { states = r.states; deep_states = r.deep_states; parents = r.parents; replayed_paths = r.replayed_paths; istate = r.istate; badpaths = x; reachable0 = r.reachable0 }

-- lines 40 to 42
abbrev pub set_reachable0 : List ℕ → RevIdx → RevIdx
set_reachable0 x r =
    record { states = r.states; deep_states = r.deep_states; parents = r.parents; replayed_paths = r.replayed_paths; istate = r.istate; badpaths = r.badpaths; reachable0 = x }

-- lines 44 to 46
abbrev pub insert_state : ℕ → State → RevIdx → RevIdx
insert_state start state r = with_states (insert eqb start state r.states) r

-- lines 48, 58, 81, 102, 131 and 154: an index, and what a method returned
pub record Got (A : Type 0) : Type 0 where
  pub idx : RevIdx
  pub value : A

-- lines 48, 58, 81, 102, 131 and 154: a return
abbrev pub got : {A : Type 0} → RevIdx → A → Option (Got A)
got r x = some (record { idx = r; value = x })

module _ (row : ℕ → Row) (code : List ℕ) where
  -- lines 48 to 54
  unfoldable pub get_state : ℕ → RevIdx → Option (Got State)
  get_state start r =
      let new_one = and_then (exec_code row code start none new) (λ o. got (insert_state start o.stack r) o.stack) in
      match_option (get eqb start r.states) (λ st. got r st) new_one

  -- lines 58 to 71
  unfoldable pub get_state_with_depth : ℕ → ℕ → RevIdx → Option (Got State)
  get_state_with_depth start depth r =
      let shallow = get_state start r in
      let new_one =
      and_then (exec_code row code start none (with_identity depth)) (λ o. got (with_deep_states (insert same_pair (start, depth) o.stack r.deep_states) r) o.stack) in
      let deep = match_option (get same_pair (start, depth) r.deep_states) (λ st. got r st) new_one in
      if (eqb depth 0) shallow deep

-- lines 73 to 78
abbrev pub insert_direct_parent : ℕ → ℕ → State → RevIdx → RevIdx
insert_direct_parent to from state r =
    with_parents (insert eqb to (insert same (from ∷ []) state (unwrap_or [] (get eqb to r.parents))) r.parents) r

-- lines 81 to 100
unfoldable pub insert_path_parent : ℕ → List ℕ → State → RevIdx → Option (Got Bool)
insert_path_parent to path state r =
    and_then (last_unwrapped path) (λ ls.
    let reached = set_reachable0 (set_insert to r.reachable0) r in
    let entry = unwrap_or [] (get eqb to r.parents) in
    let there = got (with_parents (insert eqb to entry r.parents) reached) false in
    let put = got (with_parents (insert eqb to (insert same path state entry) r.parents) reached) true in
    let asserted = if (contains_key same path entry) there put in
    if (mem ls r.reachable0) asserted none)

-- line 103: `self.badpaths.contains(path)`
abbrev pub path_in : List ℕ → List (List ℕ) → Bool
path_in p ps = some? (same p) ps

-- lines 102 to 108
unfoldable pub insert_badpath : List ℕ → RevIdx → Got Bool
insert_badpath path r =
    let there : Got Bool = record { idx = r; value = false } in
    let put : Got Bool = record { idx = with_badpaths (path ∷ r.badpaths) r; value = true } in
    if (path_in path r.badpaths) there put

-- lines 113 to 122
abbrev pub filter_parents : List ℕ → Parents → Option Parents
filter_parents reachable0 [] = some []
filter_parents reachable0 (e ∷ es) =
    and_then (last_unwrapped e.0) (λ l. and_then (filter_parents reachable0 es) (λ later. some (if (mem l reachable0) (e ∷ later) later)))

-- lines 111 to 126
unfoldable pub get_parents : ℕ → RevIdx → Option Parents
get_parents to r = match_option (get eqb to r.parents) (filter_parents r.reachable0) (some [])

-- lines 132, 135, 137 and 139 to 141: the entry of `last` as it is left, and what is returned
abbrev pub inter_set : ℕ → Inter → Bool → RevIdx → Got Bool
inter_set last x b r = record { idx = with_istate (insert eqb last x r.istate) r; value = b }

-- lines 131 to 142
unfoldable pub add_inter_state : ℕ → State → Sym → RevIdx → Got Bool
add_inter_state last state jmp r =
    let entry = unwrap_or [] (get eqb last r.istate) in
    let fresh = inter_set last (insert eq_syms state (jmp ∷ []) entry) true r in
    match_option (get eq_syms state entry)
    (λ st.
    let there = inter_set last entry false r in
    let put = inter_set last (insert eq_syms state (jmp ∷ st) entry) true r in
    if (some? (eq_sym jmp) st) there put) fresh

-- lines 144 to 146
abbrev pub clear_inter_state : RevIdx → RevIdx
clear_inter_state r = with_istate [] r

module _ (row : ℕ → Row) (code : List ℕ) where
  -- lines 175 to 179
  unfoldable pub replays : ℕ → List ℕ → State → RevIdx → Option (Got State)
  replays required_depth [] state r = got r state
  replays required_depth (start ∷ iter) state r =
      and_then (get_state_with_depth row code start (max required_depth (unwrap_or 0 (max_before state))) r) (λ g.
      and_then (resolve_with_parent state g.value) (λ composed. replays required_depth iter composed g.idx))

  -- lines 171 to 182
  abbrev pub replay : ℕ → List ℕ → RevIdx → Option (Got State)
  replay required_depth [] r = none
  replay required_depth (first ∷ iter) r =
      and_then (get_state_with_depth row code first required_depth r) (λ g.
      and_then (replays required_depth iter g.value g.idx) (λ h.
      got (with_replayed_paths (insert same_replay (first ∷ iter, required_depth) h.value h.idx.replayed_paths) h.idx) h.value))

  -- lines 148 to 183
  unfoldable pub materialize_path_state : List ℕ → State → ℕ → RevIdx → Option (Got State)
  materialize_path_state path summary required_depth r =
      let one = and_then (get_elem? path 0) (λ start. get_state_with_depth row code start required_depth r) in
      let new_one = replay required_depth path r in
      let several = match_option (get same_replay (path, required_depth) r.replayed_paths) (λ st. got r st) new_one in
      if (ltb required_depth (explicit_len summary)) (got r summary) (if (eqb (length path) 1) one several)

-- line 222
abbrev pub cycles : List ℕ → List ℕ → Bool
cycles [] path = false
cycles (b ∷ []) path = mem b path
cycles (b ∷ c ∷ more) path = false

-- lines 227 to 229 and 237 to 239: `.max_before().map_or(stack_pos, |depth| depth.max(stack_pos))`
abbrev pub required : ℕ → State → ℕ
required stack_pos state = match_option (max_before state) (λ depth. max depth stack_pos) stack_pos

-- lines 226 to 227: the locals of the widening loop
pub record Widened : Type 0 where
  pub idx : RevIdx
  pub current_state : State
  pub required_depth : ℕ

module _ (row : ℕ → Row) (code : List ℕ) where
  -- lines 231 to 248, at most n times
  unfoldable pub widen : ℕ → List ℕ → ℕ → State → ℕ → RevIdx → Option Widened
  widen zero path stack_pos current_state required_depth r = none
  widen (suc n) path stack_pos current_state required_depth r =
      and_then (materialize_path_state row code path current_state required_depth r) (λ g.
      let next_required = required stack_pos g.value in
      let again = widen n path stack_pos g.value next_required g.idx in
      if (leb next_required required_depth) (some (record { idx = g.idx; current_state = g.value; required_depth = next_required })) again)

-- line 196: what is returned
pub record Resolved : Type 0 where
  pub idx : RevIdx
  pub jumps : List Dynamic
  pub used : ℕ

-- line 316: a return
abbrev pub resolved : RevIdx → List Dynamic → ℕ → Option Resolved
resolved r js u = some (record { idx = r; jumps = js; used = u })

-- lines 265 to 270, 298 to 303 and 307 to 312: `if new { dynamic_jumps.push(DynamicJump { path, to }) }`
abbrev pub pushed_if : Got Bool → List ℕ → Option ℕ → Option Resolved
pushed_if g path to = resolved g.idx (if g.value (record { path = path; to = to } ∷ []) []) 0

-- lines 283 to 291: the recursive call, of index, path, weight, position, state and limit
abbrev pub Deeper : Type 0
Deeper = RevIdx → List ℕ → ℕ → ℕ → State → ℕ → Option Resolved

-- lines 280 to 314; `left` is `energy_limit - energy_used`
unfoldable pub match_symbol : Deeper → List ℕ → ℕ → State → Option ℕ → RevIdx → Sym → Option Resolved
match_symbol deeper new_path new_weight new_state left r (before new_stack_pos) = and_then left (λ l. deeper r new_path new_weight new_stack_pos new_state l)
match_symbol deeper new_path new_weight new_state left r (jumpdest to) = and_then (insert_path_parent to new_path new_state r) (λ g. pushed_if g new_path (some to))
match_symbol deeper new_path new_weight new_state left r (constant v) = pushed_if (insert_badpath new_path r) new_path none
match_symbol deeper new_path new_weight new_state left r (other pc) = pushed_if (insert_badpath new_path r) new_path none

-- lines 263 to 314
unfoldable pub follow_path : Deeper → List ℕ → ℕ → State → Option ℕ → RevIdx → Sym → Option Resolved
follow_path deeper new_path new_weight new_state left r jump_sym =
    let heavy = pushed_if (insert_badpath new_path r) new_path none in
    let light =
    and_then (last_unwrapped new_path) (λ l.
    let g = add_inter_state l new_state jump_sym r in
    let known = resolved g.idx [] 0 in
    let goes = match_symbol deeper new_path new_weight new_state left g.idx jump_sym in
    if (not g.value) known goes) in
    if (ltb 256 new_weight) heavy light

module _ (row : ℕ → Row) (code : List ℕ) where
  -- lines 226 to 314, of one parent
  unfoldable pub try_parent : Deeper → List ℕ → ℕ → ℕ → State → Option ℕ → List ℕ × State → RevIdx → Option Resolved
  try_parent deeper path path_weight stack_pos state left parent r =
      and_then (widen row code 256 path stack_pos state (required stack_pos state) r) (λ w.
      and_then (materialize_path_state row code parent.0 parent.1 w.required_depth w.idx) (λ g.
      and_then (get_stack g.value stack_pos) (λ jump_sym.
      and_then (resolve_with_parent w.current_state g.value) (λ new_state.
      follow_path deeper (path ++ parent.0) (path_weight + 1) new_state left g.idx jump_sym))))

module _ (row : ℕ → Row) (code : List ℕ) where
  -- lines 208 to 316
  unfoldable pub for_parents : Deeper → List ℕ → ℕ → ℕ → State → ℕ → Parents → RevIdx → List Dynamic → ℕ → Option Resolved
  for_parents deeper path path_weight stack_pos state energy_limit [] r dynamic_jumps energy_used = resolved r dynamic_jumps energy_used
  for_parents deeper path path_weight stack_pos state energy_limit (p ∷ ps) r dynamic_jumps energy_used =
      let breaks = resolved r dynamic_jumps (energy_used + 1) in
      let skips = for_parents deeper path path_weight stack_pos state energy_limit ps r dynamic_jumps (energy_used + 1) in
      let tries =
      and_then (try_parent row code deeper path path_weight stack_pos state (minus energy_limit (energy_used + 1)) p r) (λ t.
      for_parents deeper path path_weight stack_pos state energy_limit ps t.idx (dynamic_jumps ++ t.jumps) (energy_used + 1 + t.used)) in
      if (ltb energy_limit (energy_used + 1)) breaks (if (cycles p.0 path) skips tries)

  -- lines 188 to 317, at most n levels deep
  unfoldable pub resolve_dynamic_jump_path : ℕ → RevIdx → List ℕ → ℕ → ℕ → State → ℕ → Option Resolved
  resolve_dynamic_jump_path zero r path path_weight stack_pos state energy_limit = none
  resolve_dynamic_jump_path (suc n) r path path_weight stack_pos state energy_limit =
      let goes =
      and_then (last_unwrapped path) (λ current.
      and_then (get_parents current r) (λ parents.
      for_parents (resolve_dynamic_jump_path n) path path_weight stack_pos state energy_limit parents r [] 0)) in
      if (leb path_weight 256) goes none

-- lines 338, 341 and 343: what is there after the first stage
pub record Staged : Type 0 where
  pub blocks : Blocks
  pub stack_pos : List (ℕ × ℕ)
  pub idx : RevIdx

-- lines 338, 341 and 343: these of their values
abbrev pub staged : Blocks → List (ℕ × ℕ) → RevIdx → Option Staged
staged bs ps r = some (record { blocks = bs; stack_pos = ps; idx = r })

-- lines 348 to 351
abbrev pub is_dynamic : BlockType → Bool
is_dynamic (Terminate success) = false
is_dynamic (Jump to) = false
is_dynamic (Jumpi t f) = false
is_dynamic (DynamicJump js) = true
is_dynamic (DynamicJumpi js f) = true

-- lines 356 to 365
abbrev pub static_type : ℕ → BlockType → Option BlockType
static_type to (Terminate success) = none
static_type to (Jump t) = none
static_type to (Jumpi t f) = none
static_type to (DynamicJump js) = some (Jump to)
static_type to (DynamicJumpi js false_to) = some (Jumpi to false_to)

-- lines 355 to 370: the block's type, and what is pushed to stack_pos
abbrev pub stage_of : RustBlock → Option Sym → Option (BlockType × List (ℕ × ℕ))
stage_of b none = some (b.btype, [])
stage_of b (some (jumpdest to)) = and_then (static_type to b.btype) (λ t. some (t, []))
stage_of b (some (before new_stack_pos)) = some (b.btype, (b.start, new_stack_pos) ∷ [])
stage_of b (some (constant v)) = some (b.btype, [])
stage_of b (some (other pc)) = some (b.btype, [])

module _ (row : ℕ → Row) (code : List ℕ) where
  -- lines 347 to 372
  unfoldable pub first_stage : Blocks → List (ℕ × ℕ) → RevIdx → Option Staged
  first_stage [] stack_pos r = staged [] stack_pos r
  first_stage (e ∷ es) stack_pos r =
      let continues = and_then (first_stage es stack_pos r) (λ s. staged (e ∷ s.blocks) s.stack_pos s.idx) in
      let runs =
      and_then (exec_code row code e.1.start none new) (λ o.
      and_then (stage_of e.1 o.symbol) (λ t.
      and_then (first_stage es (stack_pos ++ t.1) (insert_state e.1.start o.stack r)) (λ s.
      staged ((e.0, with_type t.0 e.1) ∷ s.blocks) s.stack_pos s.idx))) in
      if (not (is_dynamic e.1.btype)) continues runs

-- lines 377 to 393
abbrev pub insert_sides : RustBlock → State → BlockType → RevIdx → RevIdx
insert_sides b state (Terminate success) r = r
insert_sides b state (Jump to) r = insert_direct_parent to b.start state r
insert_sides b state (Jumpi t f) r = insert_direct_parent f b.start state (insert_direct_parent t b.start state r)
insert_sides b state (DynamicJump js) r = r
insert_sides b state (DynamicJumpi js f) r = insert_direct_parent f b.start state r

module _ (row : ℕ → Row) (code : List ℕ) where
  -- lines 375 to 394
  unfoldable pub direct_parents : Blocks → RevIdx → Option RevIdx
  direct_parents [] r = some r
  direct_parents (e ∷ es) r =
      and_then (get_state row code e.1.start r) (λ g. direct_parents es (insert_sides e.1 g.value e.1.btype g.idx))

-- lines 433 to 439
abbrev pub add_targets : List Dynamic → Witnesses → List ℕ → Option (Witnesses × List ℕ)
add_targets [] witness_targets new_targets = some (witness_targets, new_targets)
add_targets (j ∷ js) witness_targets new_targets =
    let without = add_targets js witness_targets new_targets in
    match_option j.to
    (λ to.
    and_then (last_unwrapped j.path) (λ witness.
    add_targets js (insert eqb witness (unwrap_or [] (get eqb witness witness_targets) ++ (to ∷ [])) witness_targets) (new_targets ++ (to ∷ [])))) without

-- lines 440 to 450, of the block's type
abbrev pub extend_type : List Dynamic → BlockType → Option BlockType
extend_type jumps (Terminate success) = none
extend_type jumps (Jump to) = none
extend_type jumps (Jumpi t f) = none
extend_type jumps (DynamicJump to) = some (DynamicJump (to ++ jumps))
extend_type jumps (DynamicJumpi true_to f) = some (DynamicJumpi (true_to ++ jumps) f)

-- lines 440, 464, 474 and 483: `blocks.get_mut(start).unwrap().btype = f(..)`
unfoldable pub change : (BlockType → Option BlockType) → ℕ → Blocks → Option Blocks
change f start [] = none
change f start (e ∷ es) =
    let here = and_then (f e.1.btype) (λ t. some ((e.0, with_type t e.1) ∷ es)) in
    let later = and_then (change f start es) (λ more. some (e ∷ more)) in
    if (eqb start e.0) here later

-- lines 339, 343, 396, 399, 408 and 409: the locals of a round
pub record Round : Type 0 where
  pub idx : RevIdx
  pub blocks : Blocks
  pub total_energy_used : ℕ
  pub witness_targets : Witnesses
  pub found_new_paths : Bool
  pub new_targets : List ℕ

-- line 397
abbrev pub ENERGY-LIMIT : ℕ
ENERGY-LIMIT = 500000

-- line 401: `0..128`
abbrev pub ROUNDS : ℕ
ROUNDS = 128

-- lines 429 to 452
unfoldable pub after_turn : ℕ → Round → Resolved → Option Round
after_turn start o t =
    let idle : Option Round = some (record {
      idx = clear_inter_state t.idx;
      blocks = o.blocks;
      total_energy_used = o.total_energy_used + t.used;
      witness_targets = o.witness_targets;
      found_new_paths = o.found_new_paths;
      new_targets = o.new_targets;
    }) in
    let found : Option Round =
    and_then (add_targets t.jumps o.witness_targets o.new_targets) (λ w.
    and_then (change (extend_type t.jumps) start o.blocks) (λ bs.
    some (record {
      idx = clear_inter_state t.idx;
      blocks = bs;
      total_energy_used = o.total_energy_used + t.used;
      witness_targets = w.0;
      found_new_paths = true;
      new_targets = w.1;
    }))) in
    if (eqb (length t.jumps) 0) idle found

module _ (row : ℕ → Row) (code : List ℕ) where
  -- lines 419 to 452
  unfoldable pub one_turn : ℕ → ℕ → Round → Option Round
  one_turn start pos o =
      and_then (get_state row code start o.idx) (λ g.
      and_then (minus ENERGY-LIMIT o.total_energy_used) (λ limit.
      and_then (resolve_dynamic_jump_path row code 256 g.idx (start ∷ []) 1 pos g.value limit) (λ t. after_turn start o t)))

  -- lines 411 to 453
  unfoldable pub for_turns : List ℕ → List (ℕ × ℕ) → Round → Option Round
  for_turns reachable [] o = some o
  for_turns reachable (k ∷ ks) o =
      let continues = for_turns reachable ks o in
      let turns = and_then (one_turn k.0 k.1 o) (for_turns reachable ks) in
      if (not (mem k.0 reachable)) continues (if (leb ENERGY-LIMIT o.total_energy_used) (some o) turns)

  -- lines 401 to 458
  unfoldable pub for_rounds : ℕ → List (ℕ × ℕ) → List ℕ → RevIdx → Blocks → ℕ → Witnesses → Option Blocks
  for_rounds zero stack_pos reachable r blocks total witness_targets = some blocks
  for_rounds (suc n) stack_pos reachable r blocks total witness_targets =
      let goes =
      and_then (for_turns reachable stack_pos
      (record { idx = set_reachable0 reachable r; blocks = blocks; total_energy_used = total; witness_targets = witness_targets; found_new_paths = false; new_targets = [] })) (λ o.
      let more =
      and_then (extend_reachable_nodes o.blocks reachable o.witness_targets o.new_targets) (λ e.
      for_rounds n stack_pos e.0 o.idx o.blocks o.total_energy_used o.witness_targets) in
      if (not o.found_new_paths) (some o.blocks) more) in
      if (leb ENERGY-LIMIT total) (some blocks) goes

-- line 465: `b.to.is_some()`
abbrev pub is_some : Option ℕ → Bool
is_some none = false
is_some (some t) = true

-- lines 464 to 466
abbrev pub retained : BlockType → Option BlockType
retained (Terminate success) = some (Terminate success)
retained (Jump to) = some (Jump to)
retained (Jumpi t f) = some (Jumpi t f)
retained (DynamicJump dj) = some (DynamicJump (keep (λ (d : Dynamic). is_some d.to) dj))
retained (DynamicJumpi t f) = some (DynamicJumpi t f)

-- lines 463 to 467 and 471 to 485: of each that stands in stack_pos
abbrev pub change_each : (BlockType → Option BlockType) → List (ℕ × ℕ) → Blocks → Option Blocks
change_each f [] blocks = some blocks
change_each f (k ∷ ks) blocks = and_then (change f k.0 blocks) (change_each f ks)

-- lines 475 and 477: `targets.all(|t| t == first)`, with the `v.to.unwrap()` of each that it asks for; it ends at the first that is not so
abbrev pub all_to : ℕ → List Dynamic → Option Bool
all_to first [] = some true
all_to first (d ∷ ds) = let later = all_to first ds in and_then d.to (λ t. if (eqb t first) later (some false))

-- lines 472 to 484
abbrev pub one_target : List Dynamic → Option BlockType
one_target [] = some (DynamicJump [])
one_target (d ∷ ds) = and_then d.to (λ first. and_then (all_to first ds) (λ all. some (if all (Jump first) (DynamicJump (d ∷ ds)))))

-- lines 474 to 484
abbrev pub merged_type : BlockType → Option BlockType
merged_type (Terminate success) = some (Terminate success)
merged_type (Jump to) = some (Jump to)
merged_type (Jumpi t f) = some (Jumpi t f)
merged_type (DynamicJump dj) = one_target dj
merged_type (DynamicJumpi t f) = some (DynamicJumpi t f)

module _ (row : ℕ → Row) (code : List ℕ) where
  -- lines 336 to 488
  abbrev pub resolve_dynamic_jumps : Blocks → Option Blocks
  resolve_dynamic_jumps blocks =
      and_then (first_stage row code blocks [] (set_reachable0 (0 ∷ []) default)) (λ s.
      and_then (direct_parents row code s.blocks s.idx) (λ r.
      and_then (get_reachable_nodes s.blocks 0 none) (λ reachable.
      and_then (for_rounds row code ROUNDS s.stack_pos reachable r s.blocks 0 []) (λ bs.
      and_then (change_each retained s.stack_pos bs) (λ cs.
      change_each merged_type s.stack_pos cs)))))

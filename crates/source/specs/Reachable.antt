-- src/control_flow_graph/reachable.rs. The queue stands with its last first. A loop that has not ended after so many turns is none. Assumes nothing.
use Rattle.std.specs.Prelude.{ℕ, zero, suc, ◌+◌, Bool, not, ◌||◌, eqb, length}
use mathlib.Core.List.{List, [], ◌∷◌, ◌++◌, reverse_aux}
use Rattle.std.proofs.Math.Option.{Option, none, some}
use Rattle.spec.specs.Lists.{if, mem, total}
use Rattle.laws.specs.Options.{and_then}
use Rattle.source.specs.Collections.{match_option, unwrap_or, get, set_insert, last_unwrapped}
use Rattle.source.specs.Types.{Dynamic, BlockType, Terminate, Jump, Jumpi, DynamicJump, DynamicJumpi, RustBlock, Blocks}

-- line 66: `HashMap<usize, Vec<usize>>`
abbrev pub Witnesses : Type 0
Witnesses = List (ℕ × List ℕ)

-- lines 32, 35 to 36, 39, 50, 69, 86, 89 to 90, 97 and 102: `queue.push(t)` of each, in this order
abbrev pub push_each : List ℕ → List ℕ → List ℕ
push_each ts queue = reverse_aux ts queue

module _ (blocks : Blocks) (pushes : List ℕ → ℕ → RustBlock → Option (List ℕ)) where
  -- lines 18 to 53 and 72 to 104: `while let Some(current) = queue.pop()`, of both functions
  unfoldable pub while_queue : ℕ → List ℕ → List ℕ → Option (List ℕ)
  while_queue zero queue visited = none
  while_queue (suc n) [] visited = some visited
  while_queue (suc n) (current ∷ queue) visited =
      let skips = while_queue n queue visited in
      let lacks = some [] in
      let enters =
      and_then (match_option (get eqb current blocks) (pushes (current ∷ visited) current) lacks) (λ ts. while_queue n (push_each ts queue) (current ∷ visited)) in
      if (mem current visited) skips enters

-- lines 39 to 44: what passes of an entry
abbrev pub filter_entry : List ℕ → List ℕ → List ℕ → Option ℕ → Option (List ℕ)
filter_entry global visited path none = some []
filter_entry global visited path (some t) = and_then (last_unwrapped path) (λ p. some (if (mem p visited || mem p global) (t ∷ []) []))

-- lines 39 to 44: of each
abbrev pub filter_entries : List ℕ → List ℕ → List Dynamic → Option (List ℕ)
filter_entries global visited [] = some []
filter_entries global visited (d ∷ ds) =
    and_then (filter_entry global visited d.path d.to) (λ ts. and_then (filter_entries global visited ds) (λ us. some (ts ++ us)))

-- lines 29 to 52
abbrev pub pushes_of_type : List ℕ → List ℕ → BlockType → Option (List ℕ)
pushes_of_type global visited (Terminate success) = some []
pushes_of_type global visited (Jump to) = some (to ∷ [])
pushes_of_type global visited (Jumpi t f) = some (t ∷ f ∷ [])
pushes_of_type global visited (DynamicJump to) = filter_entries global visited to
pushes_of_type global visited (DynamicJumpi t f) = some (f ∷ [])

-- lines 29 to 52: at most so many does a block push
abbrev pub most_pushes : BlockType → ℕ
most_pushes (Terminate success) = 0
most_pushes (Jump to) = 1
most_pushes (Jumpi t f) = 2
most_pushes (DynamicJump to) = length to
most_pushes (DynamicJumpi t f) = suc (length t)

-- lines 18 to 53: at most so many do all
abbrev pub all_pushes : Blocks → ℕ
all_pushes bs = total (λ (e : ℕ × RustBlock). most_pushes e.1.btype) bs

-- lines 54 and 55: `set.extend(more)`
abbrev pub set_extend : List ℕ → List ℕ → List ℕ
set_extend [] set = set
set_extend (a ∷ more) set = set_extend more (set_insert a set)

module _ (blocks : Blocks) (from : ℕ) where
  -- lines 16 to 53
  abbrev pub visit : List ℕ → Option (List ℕ)
  visit global = while_queue blocks (λ visited current bl. pushes_of_type global visited bl.btype) (suc (suc (all_pushes blocks))) (from ∷ []) []

  -- lines 14 to 59
  unfoldable pub passes : ℕ → List ℕ → List ℕ → Option (List ℕ)
  passes zero global reachable = none
  passes (suc k) global reachable =
      and_then (visit global) (λ visited.
      let more = set_extend visited reachable in
      let again = passes k (set_extend visited global) more in
      if (eqb (length reachable) (length more)) (some more) again)

  -- lines 7 to 61
  abbrev pub get_reachable_nodes : Option (List ℕ) → Option (List ℕ)
  get_reachable_nodes initial_visited = passes (suc (suc (all_pushes blocks))) (unwrap_or [] initial_visited) []

-- lines 83 to 99
abbrev pub sides_of_type : BlockType → List ℕ
sides_of_type (Terminate success) = []
sides_of_type (Jump to) = to ∷ []
sides_of_type (Jumpi t f) = t ∷ f ∷ []
sides_of_type (DynamicJump to) = []
sides_of_type (DynamicJumpi t f) = f ∷ []

-- lines 63 to 107: the set afterwards, and what is returned
abbrev pub extend_reachable_nodes : Blocks → List ℕ → Witnesses → List ℕ → Option (List ℕ × Bool)
extend_reachable_nodes blocks reachable witness_targets seeds =
    and_then
    (while_queue blocks (λ set current bl. some (sides_of_type bl.btype ++ unwrap_or [] (get eqb current witness_targets)))
    (suc (length seeds + total (λ (e : ℕ × RustBlock). length (sides_of_type e.1.btype) + length (unwrap_or [] (get eqb e.0 witness_targets))) blocks)) (push_each seeds []) reachable)
    (λ set. some (set, not (eqb (length set) (length reachable))))

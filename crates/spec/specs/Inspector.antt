-- Document 02, "No. 12. Second product: the map inspector": when a path entry with a destination is right, the place in its path where it is not, and the
-- call's answer. The runs are those of the mode that is named. Assumes nothing.
use Rattle.std.specs.Prelude.{ℕ, suc, Bool, false, ◌&&◌, List, [], ◌∷◌, ◌++◌, eqb, leb, ltb, length, drop, replicate}
use Rattle.std.proofs.Math.Option.{Option, none, some}
use Rattle.spec.specs.Lists.{if, mem, some?, keep, little}
use Rattle.spec.specs.Opcodes.{Row, Rules}
use Rattle.spec.specs.Stacks.{Sym, jumpdest, through, own, eq_sym}
use Rattle.spec.specs.PathMeaning.{fetched, all_known}
use Rattle.spec.specs.Search.{sides, Found, nowhere, found, Rec, dests, St}
use Rattle.spec.specs.Ending.{Final, finals}
use Rattle.spec.specs.Entries.{Map}
use Rattle.spec.specs.Forms.{wide_in, sort}
use Rattle.spec.specs.Rooms.{longest, work_need}
use Rattle.spec.specs.Reader.{Reading, holds, bad, Piece, whole, cut, pieces, Item, a_head, a_block, a_way, a_record, no_item, item_for, read, told}
use Rattle.spec.specs.Answer.{prepared}

-- ---- "blocks joined by edges of that map"

-- where a block leads: its static sides, the false side of a DynamicJumpi, the destinations of its 7s
abbrev pub targets : Final → List ℕ
targets f = sides f.block.kind ++ dests f.entries

-- the map has an edge to x from the block at y
abbrev pub edge? : Map → ℕ → ℕ → Bool
edge? m x y = some? (λ (f : Final). eqb y f.block.start && mem x (targets f)) m.blocks

-- ---- a block of a path

-- "starts within the code, no unknown byte run"
abbrev pub sound : (ℕ → Row) → List ℕ → ℕ → Bool
sound row code b = let known = all_known row b (fetched code b) in ltb b (length code) && known

-- The first block that fails, by its place, the first of `path` standing at `at`; `joins` is what is asked of it beside: at the path's beginning that it is the
-- entry's block, later that it has an edge to the block named before it.
unfoldable pub first_failing : (ℕ → Row) → List ℕ → Map → (ℕ → Bool) → List ℕ → ℕ → Option ℕ
first_failing row code m joins [] at = none
first_failing row code m joins (b ∷ bs) at =
    let later = first_failing row code m (edge? m b) bs (suc at) in
    let joined = joins b in
    if (sound row code b && joined) later (some at)

-- ---- "the symbol at the jump being Jumpdest of the destination"

-- A symbol looked up along the blocks that ran before: a Before(n) is position n of the next block's own run. Nothing is composed.
unfoldable pub looked : Rules → List ℕ → Sym → List ℕ → Sym
looked rules code x [] = x
looked rules code x (b ∷ bs) = looked rules code (through (own rules code b).stack x) bs

-- of the symbol that the first-named block's jump takes, and the blocks behind it
abbrev pub arrives : Rules → List ℕ → ℕ → List ℕ → Option Sym → Bool
arrives rules code t bs none = false
arrives rules code t bs (some x) = eq_sym (jumpdest t) (looked rules code x bs)

abbrev pub sees? : Rules → List ℕ → ℕ → List ℕ → Bool
sees? rules code t [] = false
sees? rules code t (b ∷ bs) = arrives rules code t bs (own rules code b).goes

-- ---- a path entry

-- "the place in the path of the first block that fails, 0 if the path is empty or only the symbol differs"
abbrev pub or_symbol : Bool → Option ℕ → Option ℕ
or_symbol ok (some at) = some at
or_symbol ok none = if ok none (some 0)

-- of a path to t, of the block at b: none where it is right
unfoldable pub fault : Rules → List ℕ → Map → ℕ → List ℕ → ℕ → Option ℕ
fault rules code m b path t = let seen = sees? rules code t path in or_symbol seen (first_failing rules.row code m (eqb b) path 0)

-- "each path entry with a destination": of one without nothing is asked
abbrev pub fault_to : Rules → List ℕ → Map → ℕ → List ℕ → Found → Option ℕ
fault_to rules code m b path nowhere = none
fault_to rules code m b path (found t s) = fault rules code m b path t

abbrev pub fault_of : Rules → List ℕ → Map → Rec → Option ℕ
fault_of rules code m r = fault_to rules code m r.start r.path r.to

-- ---- the path entries of a byte string, as they stand in it

pub record PathEntry : Type 0 where
  pub offset : ℕ
  pub entry : Rec

abbrev pub shows : ℕ → ℕ → (ℕ → List PathEntry) → Item → List PathEntry
shows b at on (a_head s n m e) = on b
shows b at on (a_block c n) = on c.start
shows b at on (a_way t p) = record { offset = at; entry = record { start = b; to = t; path = p; energy = 0 } } ∷ on b
shows b at on (a_record numbered r) = record { offset = at; entry = r } ∷ on b
shows b at on no_item = on b

-- a 7 is of the block before it, here at b
unfoldable pub path_entries : Bool → ℕ → List Piece → List PathEntry
path_entries wide b [] = []
path_entries wide b (cut at ∷ ps) = path_entries wide b ps
path_entries wide b (whole at e ∷ ps) = shows b at (λ a. path_entries wide a ps) (item_for (sort wide e.kind) e.body)

-- ---- the call

-- refused by 1, 13 or 3; 12, at an offset; 17, at an offset, with the place; 0
pub data Inspection : Type 0 where
  refused : ℕ → Inspection
  bad_entry : ℕ → Inspection
  not_right : ℕ → ℕ → Inspection
  accepted : Inspection

-- a path entry that is not right: its offset, and the place in its path
pub record WrongPath : Type 0 where
  pub offset : ℕ
  pub place : ℕ

abbrev pub or_next : ℕ → List WrongPath → Option ℕ → List WrongPath
or_next at later none = later
or_next at later (some place) = record { offset = at; place = place } ∷ later

-- all that are not
unfoldable pub all_wrong : Rules → List ℕ → Map → List PathEntry → List WrongPath
all_wrong rules code m [] = []
all_wrong rules code m (e ∷ es) = let later = all_wrong rules code m es in or_next e.offset later (fault_of rules code m e.entry)

abbrev pub first_of : List WrongPath → Inspection
first_of [] = accepted
first_of (x ∷ xs) = not_right x.offset x.place

-- those that stand at an offset or later
abbrev pub since : ℕ → List PathEntry → List PathEntry
since from = keep (λ (e : PathEntry). leb from e.offset)

-- of a map's bytes, from an offset on; its edges are those of the whole map
abbrev pub wrong_from : Rules → List ℕ → List ℕ → ℕ → Reading → List WrongPath
wrong_from rules code map from (bad at) = []
wrong_from rules code map from (holds m) = all_wrong rules code m (since from (path_entries (wide_in map) 0 (pieces map 0 0)))

abbrev pub looks_at : Rules → List ℕ → List ℕ → ℕ → Reading → Inspection
looks_at rules code map from (bad at) = bad_entry at
looks_at rules code map from (holds m) = first_of (wrong_from rules code map from (holds m))

-- "Refusals: 1, 13 and 3 as before; 12 as in No. 2; 17, path entry not right"; `work` is how long W is
unfoldable pub inspect_from : Rules → List ℕ → List ℕ → ℕ → ℕ → Inspection
inspect_from rules code map from work =
    let run = looks_at rules code map from (read map) in
    if (ltb longest (length code)) (refused 1)
    (if (ltb 1 rules.mode) (refused 13)
    (if (ltb work (work_need (length code))) (refused 3) run))

-- the whole map
abbrev pub inspect : Rules → List ℕ → List ℕ → ℕ → Inspection
inspect rules code map work = inspect_from rules code map 0 work

abbrev pub number_of : Inspection → ℕ
number_of (refused n) = n
number_of (bad_entry at) = 12
number_of (not_right at place) = 17
number_of accepted = 0

-- "with its offset"
abbrev pub value_of : Inspection → ℕ
value_of (refused n) = 0
value_of (bad_entry at) = at
value_of (not_right at place) = at
value_of accepted = 0

abbrev pub exported : Inspection → ℕ
exported i = told (number_of i) (value_of i)

-- what a call leaves: the place, in 8 bytes where they are there; W
abbrev pub place_after : Inspection → List ℕ → List ℕ
place_after (refused n) b = b
place_after (bad_entry at) b = b
place_after (not_right at place) b = if (leb 8 (length b)) (little 8 place ++ drop 8 b) b
place_after accepted b = b

-- all that are not right, offset and place in 8 bytes each, as many as there is room for
unfoldable pub rows : List WrongPath → List ℕ → List ℕ
rows [] b = b
rows (x ∷ xs) b = let later = rows xs (drop 16 b) in if (leb 16 (length b)) (little 8 x.offset ++ little 8 x.place ++ later) b

abbrev pub rows_after : Inspection → List WrongPath → List ℕ → List ℕ
rows_after (refused n) xs b = b
rows_after (bad_entry at) xs b = b
rows_after (not_right at place) xs b = rows xs b
rows_after accepted xs b = b

abbrev pub work_after : Inspection → List ℕ → List ℕ
work_after (refused n) w = w
work_after (bad_entry at) w = replicate (length w) 0
work_after (not_right at place) w = replicate (length w) 0
work_after accepted w = replicate (length w) 0

-- ---- a run of ours "shown with that run's edges before pruning": the final blocks before pruning, and the record
unfoldable pub unpruned : Rules → ℕ → List ℕ → St → Map
unpruned rules choice code s =
    record { size = length code; energy = s.energy; blocks = finals (prepared rules code) s.recs; recs = s.recs; numbered = eqb choice 0 }

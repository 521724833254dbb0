-- The edges of a stored map, as they stand in its bytes, an entry after the other. Assumes nothing.
use Rattle.std.specs.Prelude.{ℕ, ◌+◌, ◌*◌, ◌≡◌, Bool, true, false, ◌&&◌, ◌||◌, List, [], ◌∷◌, eqb, Result, Ok, Err}
use Rattle.spec.specs.Lists.{mem}
use Rattle.spec.specs.Search.{sides, dest}
use Rattle.spec.specs.Entries.{Map}
use Rattle.spec.specs.Reader.{Reading, holds, bad, Item, a_head, a_block, a_way, a_record, no_item, read}
use Rattle.reader.specs.Dests.{found_of}
use Rattle.reader.specs.Shapes.{behind_at, entry_at}
use Rattle.reader.specs.Walks.{items_from, Walking}
use Rattle.reader.specs.declared.entry.Entry.{Entry}
use Rattle.reader.specs.declared.entry.Entry.TheVariants.{Head, Terminate, Jump, Jumpi, DynamicJump, DynamicJumpi, Way, Record}
use Rattle.reader.specs.declared.entry.Fault.{Fault}
use Rattle.inspector.specs.declared.seek.Sight.{Sight}
use Rattle.inspector.specs.declared.seek.Sight.TheVariants.{Edge, Own, Other}

-- the map that accepted bytes hold
unfoldable pub held_in : Reading → Map
held_in (holds m) = m
held_in (bad at) = record { size = 0; energy = 0; blocks = []; recs = []; numbered = false }

abbrev pub map_in : List ℕ → Map
map_in b = held_in (read b)

pub record Ready (b : List ℕ) : Type 0 where
  pub held : read b ≡ holds (map_in b)

-- ---- an edge from y to x among items; `mine` says that the block before them starts at y

unfoldable pub edge_among : ℕ → ℕ → Bool → List Item → Bool
edge_among x y mine [] = false
edge_among x y mine (a_block c n ∷ is) = let later = edge_among x y (eqb y c.start) is in (eqb y c.start && mem x (sides c.kind)) || later
edge_among x y mine (a_way t p ∷ is) = let later = edge_among x y mine is in (mine && mem x (dest t)) || later
edge_among x y mine (a_head s n m e ∷ is) = edge_among x y false is
edge_among x y mine (a_record numbered r ∷ is) = edge_among x y false is
edge_among x y mine (no_item ∷ is) = edge_among x y false is

-- from an offset on, and of the whole map
abbrev pub edge_from : List ℕ → ℕ → ℕ → Bool → ℕ → Bool
edge_from b x y mine at = edge_among x y mine (items_from b at)

abbrev pub edge_in : List ℕ → ℕ → ℕ → Bool
edge_in b x y = edge_from b x y false 0

-- ---- one entry

abbrev pub sight_by : Bool → Bool → Sight
sight_by false leads = Other
sight_by true true = Edge
sight_by true false = Own

abbrev pub sight_of : Result Entry Fault → Bool → ℕ → ℕ → Sight
sight_of (Ok (Terminate s e ok)) mine y x = sight_by (eqb y s) false
sight_of (Ok (Jump s e t)) mine y x = sight_by (eqb y s) (mem x (t ∷ []))
sight_of (Ok (Jumpi s e t f)) mine y x = sight_by (eqb y s) (mem x (t ∷ f ∷ []))
sight_of (Ok (DynamicJump s e n)) mine y x = sight_by (eqb y s) false
sight_of (Ok (DynamicJumpi s e f n)) mine y x = sight_by (eqb y s) (mem x (f ∷ []))
sight_of (Ok (Way t path n)) mine y x = sight_by mine (mem x (dest (found_of t)))
sight_of (Ok (Head size n m energy)) mine y x = Other
sight_of (Ok (Record s t v path n)) mine y x = Other
sight_of (Err fault) mine y x = Other

-- ---- what is found

-- the block that starts at y stands at an offset, with all edges from y: nothing of y stands behind its 7s
pub record Stands (b : List ℕ) (y at : ℕ) : Type 0 where
  pub walking : Walking b at
  pub own : (x : ℕ) → sight_of (entry_at b at) false y x ≡ Other → ⊥
  pub lone : (x : ℕ) → edge_from b x y false (behind_at b at) ≡ false
  pub same : (x : ℕ) → edge_from b x y false at ≡ edge_in b x y

pub record Sought (b : List ℕ) (x y : ℕ) (r : Bool) : Type 0 where
  pub is : r ≡ edge_in b x y

-- an edge from y to x as a number that is not 0
abbrev pub pair_of : ℕ → ℕ → ℕ
pair_of y x = y * 65536 + x + 1

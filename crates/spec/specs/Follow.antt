-- Document 02, "No. 8. Follow a trace through the map". Assumes nothing.
use Rattle.std.specs.Prelude.{ℕ, suc, ◌+◌, ◌*◌, ◌/◌, ◌%◌, Bool, true, false, ◌&&◌, List, [], ◌∷◌, ◌++◌, map, eqb, leb, ltb, length, get_or, replicate}
use Rattle.std.proofs.Math.Option.{Option, none, some}
use Rattle.spec.specs.Lists.{if, mem, total, gather}
use Rattle.spec.specs.Opcodes.{row}
use Rattle.spec.specs.Search.{sides, dests}
use Rattle.spec.specs.Ending.{Final}
use Rattle.spec.specs.Entries.{Map}
use Rattle.spec.specs.Reader.{Reading, holds, bad, read, told}
use Rattle.spec.specs.Eights.{eights, as_eights, over}
use Rattle.spec.specs.Counting.{distinct}

-- ---- the blocks of an answer

abbrev pub starts_at : Final → ℕ
starts_at f = f.block.start

-- "a distinct outgoing destination of it, missing ones left out, in the answer's order"
abbrev pub outgoing : Final → List ℕ
outgoing f = distinct (sides f.block.kind ++ dests f.entries)

-- the block that starts there
unfoldable pub starting : ℕ → List Final → Option Final
starting a [] = none
starting a (f ∷ fs) = let later = starting a fs in if (eqb a (starts_at f)) (some f) later

-- ---- one step of the log

-- before the log's first step, or behind a step, at a pc in a block
pub data Stand : Type 0 where
  outside : Stand
  inside : Final → ℕ → Stand

-- What a step does: it is not in the map; it goes on in the block; it begins, with a block; it takes an edge from one block and enters another.
pub data Move : Type 0 where
  not_in_map : Move
  stays_in : Final → Move
  begins : Final → Move
  takes : Final → Final → Move

abbrev pub beginning : Option Final → Move
beginning none = not_in_map
beginning (some f) = begins f

abbrev pub taking : Final → Option Final → Move
taking f none = not_in_map
taking f (some g) = takes f g

-- the size of the instruction at a pc
abbrev pub size_at : List ℕ → ℕ → ℕ
size_at code pc = (row (get_or code pc 0)).size

-- "walks it block by block"; nothing follows a step past the code's end
unfoldable pub move : Map → List ℕ → Stand → ℕ → Move
move m code outside q = if (eqb q 0) (beginning (starting 0 m.blocks)) not_in_map
move m code (inside f pc) q =
    let edge = if (mem q (outgoing f)) (taking f (starting q m.blocks)) not_in_map in
    let next = if (eqb q (pc + size_at code pc) && leb q f.block.end) (stays_in f) not_in_map in
    let on = if (eqb pc f.block.end) edge next in
    if (ltb pc (length code)) on not_in_map

-- where we stand behind a step to q that did so
abbrev pub stands : Move → ℕ → Stand
stands not_in_map q = outside
stands (stays_in f) q = inside f q
stands (begins f) q = inside f q
stands (takes f g) q = inside g q

-- ---- the counts

-- an outgoing edge, and how often it was taken
pub record Way : Type 0 where
  pub to : ℕ
  pub times : ℕ

-- "for each block, how often it was entered, how often each outgoing edge was taken"
pub record Counts : Type 0 where
  pub start : ℕ
  pub entered : ℕ
  pub ways : List Way

abbrev pub none_taken : Final → Counts
none_taken f = record { start = starts_at f; entered = 0; ways = map (λ (t : ℕ). record { to = t; times = 0 }) (outgoing f) }

abbrev pub bumped : Bool → ℕ → ℕ
bumped true n = suc n
bumped false n = n

abbrev pub enter : ℕ → Counts → Counts
enter a c = record { start = c.start; entered = bumped (eqb a c.start) c.entered; ways = c.ways }

abbrev pub take_edge : ℕ → ℕ → Counts → Counts
take_edge a b c = record {
  start = c.start;
  entered = c.entered;
  ways = map (λ (w : Way). record { to = w.to; times = bumped (eqb a c.start && eqb b w.to) w.times }) c.ways;
}

unfoldable pub counted : Move → List Counts → List Counts
counted not_in_map cs = cs
counted (stays_in f) cs = cs
counted (begins f) cs = map (enter (starts_at f)) cs
counted (takes f g) cs = map (enter (starts_at g)) (map (take_edge (starts_at f) (starts_at g)) cs)

-- ---- the walk

-- "the first step that isn't in the map, with its place in the log, or the number of steps if all are"
pub record Followed : Type 0 where
  pub place : ℕ
  pub counts : List Counts

abbrev pub onward : ℕ → List Counts → (Stand → ℕ → List Counts → Followed) → ℕ → Move → Followed
onward place cs on q not_in_map = record { place = place; counts = cs }
onward place cs on q (stays_in f) = on (stands (stays_in f) q) (suc place) (counted (stays_in f) cs)
onward place cs on q (begins f) = on (stands (begins f) q) (suc place) (counted (begins f) cs)
onward place cs on q (takes f g) = on (stands (takes f g) q) (suc place) (counted (takes f g) cs)

unfoldable pub follow_from : Map → List ℕ → List ℕ → Stand → ℕ → List Counts → Followed
follow_from m code [] at place cs = record { place = place; counts = cs }
follow_from m code (q ∷ log) at place cs =
    onward place cs (λ (s : Stand) (p : ℕ) (ds : List Counts). follow_from m code log s p ds) q (move m code at q)

abbrev pub follow : Map → List ℕ → List ℕ → Followed
follow m code log = follow_from m code log outside 0 (map none_taken m.blocks)

-- ---- the call

-- "each block's, then one a distinct outgoing destination of it"
abbrev pub numbers : List Counts → List ℕ
numbers = gather (λ (c : Counts). c.entered ∷ map (λ (w : Way). w.times) c.ways)

abbrev pub count_bytes : Map → ℕ
count_bytes m = 8 * total (λ (f : Final). suc (length (outgoing f))) m.blocks

pub data FollowOutcome : Type 0 where
  follows : Followed → FollowOutcome
  bad_map : ℕ → FollowOutcome
  uneven_log : FollowOutcome
  no_count_room : FollowOutcome

-- "8-byte little-endian numbers"
abbrev pub steps : List ℕ → List ℕ
steps log = eights (length log / 8) log

-- "Refusals: 12 as in No. 2; 14, log not a multiple of 8 bytes; 15, count room short; in that order"
abbrev pub followed_as : List ℕ → List ℕ → List ℕ → Reading → FollowOutcome
followed_as code log counts (bad at) = bad_map at
followed_as code log counts (holds m) =
    let answer = follows (follow m code (steps log)) in
    if (eqb (length log % 8) 0) (if (leb (count_bytes m) (length counts)) answer no_count_room) uneven_log

abbrev pub follow_call : List ℕ → List ℕ → List ℕ → List ℕ → FollowOutcome
follow_call stored code log counts = followed_as code log counts (read stored)

-- the exported number: the refusal's, and with it the place of that step, or of the bad entry
abbrev pub follows_as : FollowOutcome → ℕ
follows_as (follows f) = told 0 f.place
follows_as (bad_map at) = told 12 at
follows_as uneven_log = 14
follows_as no_count_room = 15

abbrev pub counts_after : List ℕ → FollowOutcome → List ℕ
counts_after counts (follows f) = over (as_eights (numbers f.counts)) counts
counts_after counts (bad_map at) = counts
counts_after counts uneven_log = counts
counts_after counts no_count_room = counts

-- all zero bytes, whether an index was built there or not; untouched on refusals
abbrev pub work_after : List ℕ → FollowOutcome → List ℕ
work_after work (follows f) = replicate (length work) 0
work_after work (bad_map at) = work
work_after work uneven_log = work
work_after work no_count_room = work

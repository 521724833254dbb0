-- One step of the log: what the code does is what the definitions' `move` does. Assumes nothing.
use Rattle.std.specs.Prelude.{◌≡◌, ℕ, ◌+◌, ◌&&◌, List, ◌∷◌, ◌++◌, length, ◌==◌, nat_le, nat_lt, Option, Some, None}
use Rattle.spec.specs.Lists.{if, mem}
use Rattle.spec.specs.Ending.{Final}
use Rattle.spec.specs.Entries.{Map}
use Rattle.spec.specs.Follow as spec
use Rattle.spec.specs.Follow.{starts_at, outgoing, starting, outside, inside, not_in_map, stays_in, begins, takes, beginning, taking, size_at, move}
use Rattle.follow.specs.Blocks.{finals_at}
use Rattle.follow.specs.Places.{PlaceOf}
use Rattle.follow.specs.Finding.{slots_of, Placed}
use Rattle.follow.specs.declared.find.Counted.{Counted}
use Rattle.follow.specs.declared.step.Stand.{Stand}
use Rattle.follow.specs.declared.step.Move.{Move}
use Rattle.follow.specs.declared.step.Move.TheVariants.{Stays, Begins, Takes}

-- ---- where the code stands

pub data StandsAs (b : List ℕ) : Option Stand → spec.Stand → Type 0 where
  out_there : StandsAs b None outside
  in_block : {f : Final} {s : Stand} → Placed b f s.at.block s.at.slot → StandsAs b (Some s) (inside f s.pc)

pub record Stood (b : List ℕ) (k : Counted) : Type 0 where
  pub final : Final
  pub placed : Placed b final k.block k.slot

pub record Standing (b : List ℕ) (s : Option Stand) : Type 0 where
  pub at : spec.Stand
  pub stands : StandsAs b s at

-- ---- what a step does

-- the place of an edge's count: behind its block's, by its place among the block's destinations
pub record EdgeOf (b : List ℕ) (f : Final) (to edge : ℕ) : Type 0 where
  pub before : List Final
  pub after : List Final
  pub is : finals_at b 0 ≡ before ++ f ∷ after
  pub n : ℕ
  pub place : PlaceOf to (outgoing f) n
  pub edge_is : edge ≡ slots_of before + 1 + n

pub data MoveAs (b : List ℕ) : spec.Move → Option Move → Type 0 where
  no_move : MoveAs b not_in_map None
  goes_on : {f : Final} {k : Counted} → Placed b f k.block k.slot → MoveAs b (stays_in f) (Some (Stays k))
  begins_with : {f : Final} {k : Counted} → Placed b f k.block k.slot → MoveAs b (begins f) (Some (Begins k))
  takes_to : {f g : Final} {k : Counted} {edge : ℕ} → EdgeOf b f (starts_at g) edge → Placed b g k.block k.slot → MoveAs b (takes f g) (Some (Takes edge k))

abbrev pub BeginsSo : List ℕ → ℕ → Option Move → Type 0
BeginsSo b q r = MoveAs b (if (q == 0) (beginning (starting 0 (finals_at b 0))) not_in_map) r

-- by an edge
abbrev pub edge_of : List ℕ → Final → ℕ → spec.Move
edge_of b f q = if (mem q (outgoing f)) (taking f (starting q (finals_at b 0))) not_in_map

pub record EdgeSo (b : List ℕ) (k : Counted) (q : ℕ) (r : Option Move) : Type 0 where
  pub so : (f : Final) → Placed b f k.block k.slot → MoveAs b (edge_of b f q) r

-- to the next instruction
abbrev pub on_of : List ℕ → Final → ℕ → ℕ → spec.Move
on_of code f pc q = if (q == pc + size_at code pc && nat_le q f.block.end) (stays_in f) not_in_map

pub record InsideSo (b code : List ℕ) (s : Stand) (q : ℕ) (r : Option Move) : Type 0 where
  pub so : (f : Final) → Placed b f s.at.block s.at.slot → MoveAs b (if (nat_lt s.pc (length code)) (if (s.pc == f.block.end) (edge_of b f q) (on_of code f s.pc q)) not_in_map) r

-- the definitions' move, of the map that the bytes hold
pub record StepsSo (b code : List ℕ) (s : Option Stand) (q : ℕ) (r : Option Move) : Type 0 where
  pub so : (m : Map) (at : spec.Stand) → m.blocks ≡ finals_at b 0 → StandsAs b s at → MoveAs b (move m code at q) r

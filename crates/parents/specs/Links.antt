-- The lists in the rows of W: the direct parents of each address, linked, and the blocks that take turns, one after the other. A link is 0 where nothing
-- follows. Assumes nothing.
use Rattle.std.specs.Prelude.{◌≡◌, List, [], ◌∷◌, ℕ, ◌+◌, ◌≤◌, eqb, drop}
use Rattle.spec.specs.Opcodes.{in_mode}
use Rattle.spec.specs.Lists.{last_of, keep}
use Rattle.spec.specs.Search.{Node, Taker, Parent, direct, parent}
use Rattle.layout.specs.Rows.{position_at, taker_at, next_of}
use Rattle.spec.specs.Walk.{walk, instructions, from}
use Rattle.spec.specs.Stacks.{run}

-- ---- the lists

-- the blocks that the list of t's parents has from a link on
pub data Parents (w : List ℕ) (n t : ℕ) : ℕ → List ℕ → Type 0 where
  no_parent : Parents w n t 0 []
  next_parent : {a : ℕ} {starts : List ℕ} → a ≤ n → Parents w n t (next_of w t a) starts → Parents w n t (a + 1) (a ∷ starts)

-- a block that takes turns, by its start, with the position that it asks for
pub record Turn : Type 0 where
  pub start : ℕ
  pub position : ℕ

abbrev pub turn : ℕ → ℕ → Turn
turn a p = record { start = a; position = p }

abbrev pub turn_of : Taker → Turn
turn_of k = turn k.start k.position

-- the blocks that take turns, of which so many are left: entry i stands in row i, and the first block has the last entry
pub data Takers (w : List ℕ) (n : ℕ) : ℕ → List Turn → Type 0 where
  no_taker : Takers w n 0 []
  next_taker : {i : ℕ} {ks : List Turn} → i ≤ n → taker_at w i ≤ n → Takers w n i ks → Takers w n (i + 1) (turn (taker_at w i) (position_at w (taker_at w i)) ∷ ks)

-- ---- what they hold: "Direct parents ... in address order"

abbrev pub direct_to : ℕ → List Node → List Parent
direct_to t rs = keep (λ (p : Parent). eqb t p.to) (direct rs)

abbrev pub from_of : Parent → ℕ
from_of p = last_of p.path

-- a parent of t by its start, with its block's own stack
abbrev pub parent_of : ℕ → List ℕ → ℕ → ℕ → Parent
parent_of mode code t a = parent t (a ∷ []) (run (in_mode mode) code (instructions code) a).stack

-- the walk of the code comes to the start, as a run of the block asks
abbrev pub Comes : List ℕ → ℕ → Type 0
Comes code a = from a (instructions code) ≡ walk (drop a code) a 0

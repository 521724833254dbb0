-- A path entry with a destination, in one pass over its path. Assumes nothing.
use Rattle.std.specs.Prelude.{ℕ, ◌+◌, ◌*◌, ◌^◌, ◌≤◌, ◌<◌, ◌≡◌, List, length, take, drop, Result, Ok, Err}
use Rattle.std.proofs.Math.Option.{Option, none, some}
use Rattle.spec.specs.Opcodes.{row, in_mode}
use Rattle.spec.specs.Stacks.{Sym, jumpdest, eq_sym}
use Rattle.spec.specs.Entries.{Map}
use Rattle.spec.specs.Reader.{addresses}
use Rattle.spec.specs.Inspector.{edge?, first_failing, looked, or_symbol, fault}
use Rattle.state.specs.Symbols.{sym_of}
use Rattle.state.specs.Cells.{depth}
use Rattle.state.specs.declared.sym.StackSym.{StackSym}
use Rattle.inspector.specs.Edges.{map_in}
use Rattle.inspector.specs.Tables.{Filled}
use Rattle.inspector.specs.Symbols.{step}
use Rattle.inspector.specs.declared.path.Path.{Path}

-- its addresses
abbrev pub path_in : List ℕ → Path → List ℕ
path_in b p = addresses (take (2 * p.count) (drop p.at b))

abbrev pub place_of : Option ℕ → Result Unit ℕ
place_of none = Ok tt
place_of (some i) = Err i

-- what is left of it behind the block `last`, with the symbol as it is looked up so far
unfoldable pub rest_of : ℕ → List ℕ → Map → ℕ → ℕ → Sym → List ℕ → ℕ → Option ℕ
rest_of mode code m t last x bs at = or_symbol (eq_sym (jumpdest t) (looked (in_mode mode) code x bs)) (first_failing row code m (edge? m last) bs at)

-- a path of the bytes
pub record InPath (b : List ℕ) (p : Path) : Type 0 where
  pub fits : p.at + 2 * p.count ≤ length b
  pub few : p.count < 2 ^ 32

-- its first block, and the symbol that its jump takes
pub record Begins (p : Path) (first : ℕ) (x : Sym) : Type 0 where
  pub some_there : 1 ≤ p.count
  pub small : first < 65536
  pub near : depth x ≤ step

pub record Along (mode : ℕ) (b code w : List ℕ) (p : Path) (first : ℕ) (symbol : StackSym) (w' : List ℕ) (r : Result Unit ℕ) : Type 0 where
  pub is : r ≡ place_of (rest_of mode code (map_in b) p.to first (sym_of symbol) (drop 1 (path_in b p)) 1)
  pub filled : Filled b code w w'

pub record Judged (mode : ℕ) (b code w : List ℕ) (owner : ℕ) (p : Path) (w' : List ℕ) (r : Result Unit ℕ) : Type 0 where
  pub is : r ≡ place_of (fault (in_mode mode) code (map_in b) owner (path_in b p) p.to)
  pub filled : Filled b code w w'

-- The symbols of the code as those of document 01. Assumes nothing.
use Rattle.std.specs.Prelude as std
use Rattle.std.specs.Prelude.{ℕ, Some, None}
use Rattle.std.proofs.Math.Option.{Option, none, some}
use Rattle.spec.specs.Stacks.{Sym, before, constant, jumpdest, other}
use Rattle.state.specs.declared.sym.StackSym.{StackSym}
use Rattle.state.specs.declared.sym.StackSym.TheVariants.{Before, Constant, Jumpdest, Other}

abbrev pub sym_of : StackSym → Sym
sym_of (Before n) = before n
sym_of (Constant v) = constant v
sym_of (Jumpdest v) = jumpdest v
sym_of (Other pc) = other pc

abbrev pub known_of : std.Option ℕ → Option ℕ
known_of (Some v) = some v
known_of None = none

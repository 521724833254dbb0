-- What is recorded of a path, by the symbol read at its end. Assumes nothing.
use mathlib.Core.Path.{◌≡◌, refl}
use Prim.Native.Nat.{ℕ}
use Rattle.std.specs.Prelude.{Some}
use Rattle.state.specs.Symbols.{sym_of}
use Rattle.state.specs.declared.sym.StackSym.TheVariants.{Before, Constant, Jumpdest, Other}
use Rattle.state.specs.declared.sym.StackSym.{StackSym}
use Rattle.tables.specs.Tables.{no_entry}
use Rattle.tables.specs.declared.row.Seen.{Seen}
use Rattle.enter.specs.Enters.{entry_of}

pub entry-jumpdest : (start : ℕ) (x : Seen) (energy t : ℕ) → x.symbol ≡ Jumpdest t
    → record { start = start; to = Some t; from = x.from; cells = x.cells; energy = energy } ≡ entry_of start x energy (sym_of x.symbol)
unfolding entry_of
entry-jumpdest start x energy t g = rw g

entry_other : (start : ℕ) (x : Seen) (energy : ℕ) (c : StackSym) → ((t : ℕ) → c ≡ Jumpdest t → ⊥) → no_entry start energy ≡ entry_of start x energy (sym_of c)
unfolding entry_of
entry_other start x energy (Before n) o = refl
entry_other start x energy (Constant v) o = refl
entry_other start x energy (Jumpdest t) o = absurd (o t refl)
entry_other start x energy (Other pc) o = refl

pub entry-nowhere : (start : ℕ) (x : Seen) (energy : ℕ) → ((t : ℕ) → x.symbol ≡ Jumpdest t → ⊥) → no_entry start energy ≡ entry_of start x energy (sym_of x.symbol)
entry-nowhere start x energy o = entry_other start x energy x.symbol o

-- `known_value` meets its contract: each variant by a law of symbols. Assumes nothing.
use mathlib.Core.Logic.{⊎_elim}
use Rattle.state.proofs.Symbols.{known-of}
use Rattle.state.proofs.sym.StackSym.known_value.Goals as goal

pub returns-in-Constant : goal.returns-in-Constant
returns-in-Constant c = ⊎_elim (λ e. search known-of) (λ e. search known-of) c.in-Constant.is

pub returns-in-Before : goal.returns-in-Before
returns-in-Before c = ⊎_elim (λ (x, e). search known-of) (λ (x, e). search known-of) c.in-Before.is

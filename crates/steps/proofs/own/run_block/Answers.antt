-- `run_block`: the mode of its number has its number. Assumes nothing.
use mathlib.Core.Path.{◌≡◌, subst}
use Prim.Native.Nat.{ℕ}
use mathlib.Core.List.{List}
use Rattle.exec.specs.Owns.{Owned}
use Rattle.exec.specs.declared.run.Own.{Own}
use Rattle.steps.proofs.own.run_block.Goals as goal

owned_in : {x mode start end : ℕ} {code w w' : List ℕ} {own : Own} → x ≡ mode → Owned x code start w end w' own → Owned mode code start w end w' own
owned_in {x} {mode} {start} {end} {code} {w} {w'} {own} e o = subst (λ (i : ℕ). Owned i code start w end w' own) e o

pub returns : goal.returns
returns c = search owned_in

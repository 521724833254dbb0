-- What aznifrem_inspect and aznifrem_inspect_from give. Assumes nothing.
use mathlib.Core.Path.{◌≡◌, refl, sym, ap₂, ◌∙◌}
use Prim.Native.Nat.{ℕ}
use mathlib.Core.List.{List}
use Rattle.std.specs.Prelude.{Result, Ok, Err}
use Rattle.spec.specs.Reader.{told}
use Rattle.spec.specs.Inspector.{Inspection, exported}
use Rattle.refusal.specs.declared.Refusal.{Refusal}
use Rattle.inspector.specs.Calling.{number_in, value_in, IsOutcome, InspectedFrom, InspectedAs}
use Rattle.aznifrem.specs.InspectContract.{ExportedInspect, ExportedInspectFrom}
use Rattle.aznifrem.specs.Told.{told_of}
use Rattle.aznifrem.proofs.Telling.{told_none}

-- an answer as one number
joined : (r : Result Unit Refusal) → told_of r ≡ told (number_in r) (value_in r)
joined (Ok u) = sym (told_none 0)
joined (Err e) = refl

number_is : {i : Inspection} {r : Result Unit Refusal} → IsOutcome i r → {x : ℕ} → x ≡ told_of r → x ≡ exported i
number_is {r = r} o k = k ∙ joined r ∙ ap₂ told o.number o.value

pub inspect-given : {mode : ℕ} {code map w place w' place' : List ℕ} {r : Result Unit Refusal} {x : ℕ} → InspectedAs mode code map w place w' place' r → x ≡ told_of r
    → ExportedInspect mode code map w place w' place' x
inspect-given d k = record { number = number_is d.result k; w_is = d.w_is; place_is = d.place_is }

pub from-given : {mode : ℕ} {code map : List ℕ} {from : ℕ} {w rs w' rs' : List ℕ} {r : Result Unit Refusal} {x : ℕ} → InspectedFrom mode code map from w rs w' rs' r → x ≡ told_of r
    → ExportedInspectFrom mode code map from w rs w' rs' x
from-given d k = record { number = number_is d.result k; w_is = d.w_is; rows_are = d.rows_are }

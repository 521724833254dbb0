-- Where a room is short, nothing but the number has to be shown between turns. Assumes nothing.
use mathlib.Core.Path.{◌≡◌}
use mathlib.Core.List.{List}
use Prim.Native.Nat.{ℕ}
use Rattle.spec.specs.Search.{St}
use Rattle.layout.specs.Buffers.{Mem}
use Rattle.steps.specs.Runs.{st_of, Did}
use Rattle.steps.specs.declared.plan.Plan.{Plan}
use Rattle.steps.specs.Goings.{Gone}
use Rattle.resolver.specs.Turns.{Passed}

pub passed-refused : {code : List ℕ} {k : Plan} {reached : List ℕ} {since : ℕ} {f : St → St} {m m' : Mem} {o d : Gone} → (d.code ≡ 0 → ⊥)
    → Did k.rooms f (st_of k m o) d.code (st_of k m' d) → Passed code k reached since f m o m' d
passed-refused n d = record { did = d; idle = λ z. absurd (n z); flags = λ z. absurd (n z); rows = λ z. absurd (n z); beyond = λ z. absurd (n z); older = λ z. absurd (n z) }

-- A reached set that is closed is its own closure. Assumes nothing.
use mathlib.Core.Path.{◌≡◌, refl}
use mathlib.Core.Logic.{inl}
use mathlib.Core.Bool.{true}
use mathlib.Core.List.{List}
use Prim.Native.Nat.{ℕ}
use Rattle.spec.specs.Lists.{mem}
use Rattle.spec.specs.Reach.{closure}
use Rattle.theorems.proofs.Reached.{Reached, seed, along}
use Rattle.reachable.specs.Marks.{flagged}
use Rattle.reachable.specs.Edges.{row_edges}
use Rattle.reachable.specs.Promises.{Closed}
use Rattle.reachable.proofs.Seeds.{closure-test}
use Rattle.reachable.proofs.Expanding.{edge-side}

closed-reached : {n : ℕ} {w : List ℕ} {x : ℕ} → Closed w n → Reached (row_edges w n) (flagged w n) x → mem x (flagged w n) ≡ true
closed-reached c (seed h) = h
closed-reached {n} {w = w} c (along e i p q) = c.sides e.place e.to (closed-reached c p) (edge-side w n i (inl refl))

pub closed-own : {n : ℕ} {w : List ℕ} → Closed w n → (x : ℕ) → mem x (flagged w n) ≡ mem x (closure (row_edges w n) (flagged w n))
closed-own {n} {w} c x = closure-test (row_edges w n) (flagged w n) x (λ h. seed h, λ r. closed-reached c r)

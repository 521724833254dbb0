-- First shortages along a run, and what ends at one. Assumes nothing.
use mathlib.Core.Path.{◌≡◌, refl, sym, ap, ◌∙◌}
use Prim.Native.Nat.{ℕ, zero, suc}
use native.Mathlib.Omega.{arith}
use mathlib.Core.Bool.{true, false}
use mathlib.Core.List.{List, [], ◌∷◌}
use Rattle.spec.specs.Search as search
use Rattle.spec.specs.Search.{Room, St, need, Turn}
use Rattle.spec.specs.Rooms.{Lent, or_else, shortage}
use Rattle.theorems.proofs.Older.{clear}
use Rattle.theorems.proofs.Shortage.{first-stays}
use Rattle.theorems.proofs.Growth.{Later}
use Rattle.layout.specs.Buffers.{Mem}
use Rattle.tables.specs.Recording.{Lends, short_of}
use Rattle.tables.proofs.Shorts.{short-after}
use Rattle.tables.specs.declared.Rooms.{Rooms}
use Rattle.steps.specs.Runs.{st_of}
use Rattle.enter.specs.Enters.{shut_with, Outcome}
use Rattle.steps.specs.declared.plan.Plan.{Plan}
use Rattle.steps.specs.declared.Level.{Level}
use Rattle.steps.specs.Goings.{Gone}

-- what follows a state that is short has the same first shortage
pub short-later : (x : Lent) (s t : St) → Later s t → (shortage x s.needs ≡ 0 → ⊥) → shortage x t.needs ≡ shortage x s.needs
short-later x s t h n = go (shortage x s.needs) refl
  where
    go : (k : ℕ) → shortage x s.needs ≡ k → shortage x t.needs ≡ shortage x s.needs
    go zero e = absurd (n e)
    go (suc k) e = first-stays x s t h k e ∙ sym e

-- one need more, of a state that is not short
pub short-need : {x : Lent} {k : Rooms} → Lends x k → (r : Room) (u : ℕ) (s : St) → shortage x s.needs ≡ 0
    → shortage x (need r u s).needs ≡ short_of k (record { room = r; units = u } ∷ [])
short-need {x} {k} d r u s z = short-after d (record { room = r; units = u } ∷ []) s.needs ∙ ap (λ (y : ℕ). or_else y (short_of k (record { room = r; units = u } ∷ []))) z

pub not-true : {A : Type 0} → false ≡ true → A
not-true e = let z : ◌≡◌ {A = ℕ} 0 1 = cc in absurd (omega arith)

-- what opens a level adds to the needs
abbrev pub Laters : (search.Level → St → St) → Type 0
Laters deeper = (x : search.Level) (s : St) → Later s (deeper x s)

-- a room is short
pub outcome-refused : {code : List ℕ} {k : Plan} {t : Turn} {since start : ℕ} {f : (search.Level → St → St) → St → St} {l : Level} {m m' : Mem} {o d : Gone}
    → (d.code ≡ 0 → ⊥) → d.energy ≡ o.energy
    → ((deeper : search.Level → St → St) → Laters deeper → (x : Lent) → Lends x k.rooms → (mid : St) → clear mid ≡ st_of k m o → shortage x mid.needs ≡ 0
    → shortage x (f deeper mid).needs ≡ d.code)
    → Outcome code k t since start f l m o m' (shut_with d l)
outcome-refused n g h = record {
  shut = λ _ deeper later. record { short = h deeper later; made = λ mid e z. absurd (n z) };
  unopened = λ _. refl;
  opened = λ e. not-true e;
  fits = λ z. absurd (n z);
  stays = λ z. absurd (n z);
  counts = λ z. absurd (n z);
  energy = g;
}

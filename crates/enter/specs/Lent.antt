-- The six buffers through a call that they are lent to. Assumes nothing.
use Rattle.std.specs.Prelude.{◌≡◌, ℕ, List, length}
use Rattle.std.specs.Borrow.{MutBor}
use Rattle.layout.specs.declared.buffers.Buffers.{Buffers}

-- the reference is still the same one, to as many bytes
pub record SameLoan (x y : MutBor (List ℕ)) : Type 0 where
  pub same : y.ghost_name ≡ x.ghost_name
  pub long : length y.now ≡ length x.now

-- all six are still lent
pub record StillLent (x y : Buffers) : Type 0 where
  pub w : SameLoan x.w y.w
  pub p : SameLoan x.p y.p
  pub s : SameLoan x.s y.s
  pub t : SameLoan x.t y.t
  pub r : SameLoan x.r y.r
  pub q : SameLoan x.q y.q

-- the path in hand and the remembered rows stay
pub record SamePath (x y : Buffers) : Type 0 where
  pub p : y.p.now ≡ x.p.now
  pub t : y.t.now ≡ x.t.now

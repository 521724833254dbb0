-- The rooms that the program lends. Assumes nothing.
use Rattle.std.specs.Prelude.{◌≡◌, List, ℕ, ◌≤◌, length}
use Rattle.layout.specs.Buffers.{Mem}

-- the seven buffers are as long as document 01 says, and what is printed has room
pub record Lends (m : Mem) (raw out : List ℕ) : Type 0 where
  pub w : length m.w ≡ 33024
  pub p : length m.p ≡ 32768
  pub s : length m.s ≡ 32768
  pub t : length m.t ≡ 32768
  pub r : length m.r ≡ 32768
  pub q : length m.q ≡ 32768
  pub output : length raw ≡ 32768
  pub room : 98304 ≤ length out

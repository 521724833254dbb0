-- A one-block parent on the path is skipped, and no path that was found. Assumes nothing.
use mathlib.Core.Path.{◌≡◌}
use Prim.Native.Nat.{ℕ, ◌≤◌, ◌<◌}
use mathlib.Core.Bool.{Bool, false, not}
use mathlib.Core.List.{List}
use lib.Dec.{eqb}
use borrow.Author.Tests.{lt-ltb, le-ltb}
use Rattle.layout.specs.Fields.{count_at}
use Rattle.layout.specs.Rows.{start_of}
use Rattle.enter.specs.Enters.{skips}

pub skip-found : (w : List ℕ) (n at : ℕ) → 0x10000 ≤ at → false ≡ skips w n at
unfolding skips
skip-found w n at h = rw (le-ltb at 0x10000 h)

pub skip-direct : (w : List ℕ) (n at : ℕ) {a : ℕ} {v : Bool} → at < 0x10000 → a ≡ start_of at → v ≡ not (eqb (count_at w n a) 0) → v ≡ skips w n at
unfolding skips
skip-direct w n at h e f = rw (lt-ltb at 0x10000 h, ← e) f

-- `prepare_row`: both stages, one after the other. Assumes nothing.
use mathlib.Core.Path.{◌∙◌}
use mathlib.Core.List.{List}
use Prim.Native.Nat.{ℕ}
use Rattle.layout.specs.Rows.{numbers_at}
use Rattle.parents.specs.Writes.{link_sides}
use Rattle.parents.specs.Promises.{Sides, Wrote, Settled, PreparesRow, PreparedRow}
use Rattle.parents.proofs.prepare_row.Goals as goal

module _ {mode : ℕ} {code w : List ℕ} {end a many : ℕ} (p : PreparesRow mode code w end a many) where
  row-sides : {v : List ℕ} {r : ℕ} → Settled mode code w end a many v r → Sides v a
  row-sides {v} {r} s = p.sides v r s

  row-both : {v w' : List ℕ} {r : ℕ} → Settled mode code w end a many v r → Wrote v w' (link_sides v a (numbers_at v a)) → PreparedRow mode code w end a many w' r
  row-both {v} s d = record { between = v; settled = s; linked = d; kept = d.kept ∙ s.kept }

pub link_sides-requires : goal.link_sides-requires
link_sides-requires c = search row-sides

pub returns : goal.returns
returns c = search row-both

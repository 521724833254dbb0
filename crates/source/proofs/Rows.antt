-- op.rs: the Rust's table has document 01's rows. At the 256 bytes by computing. Assumes nothing.
use Prim.Native.Nat.{ℕ, suc}
use mathlib.Core.Path.{◌≡◌, refl}
use Rattle.spec.specs.Lists.{if}
use Rattle.spec.specs.Opcodes.{argument, row}
use Rattle.theorems.proofs.Counts.{and-off, differs, above, everywhere}
use Rattle.source.specs.Op.{info}
use Rattle.source.proofs.Iterating.{Sized}

rows_same : (b : ℕ) → info b ≡ row b
unfolding info row if
rows_same = everywhere info row refl (λ b h. simp (differs b h, above b h, and-off, tt {0}))

-- `info` is document 01's table.
pub info-row : info ≡ row
info-row = λ i b. rows_same b i

pub sized : Sized row
unfolding row if
sized = record { size = everywhere (λ b. (row b).size) (λ b. suc (argument b)) refl (λ b h. simp (above b h, and-off, tt {0})) }

-- A row's first eight bytes, two at a time, and its numbers read back. Assumes nothing.
use mathlib.Core.Path.{◌≡◌}
use mathlib.Core.List.{List}
use Prim.Native.Nat.{ℕ, ◌+◌}
use native.Mathlib.Omega.{arith}
use Rattle.spec.specs.Lists.{little}
use Rattle.lent.specs.Bytes.{Holds, Stored}
use Rattle.lent.proofs.Stored.{stored-join}
use Rattle.layout.specs.Parts.{row_place}
use Rattle.layout.specs.Rows.{END, TO, OTHER, numbered, numbers_of, Put, TypeIs, PutBlock}
use Rattle.layout.specs.declared.row.RowType.{RowType}
use Rattle.layout.specs.declared.row.BlockType.{BlockType}

module _ (a end : ℕ) (t : RowType) {w w₁ w₂ w₃ w₄ : List ℕ} where
  pub put-fields : Stored 2 w (row_place a) (little 2 t.kind) w₁ → Stored 2 w₁ (row_place a + END) (little 2 end) w₂
      → Stored 2 w₂ (row_place a + TO) (little 2 t.to) w₃ → Stored 2 w₃ (row_place a + OTHER) (little 2 t.other) w₄ → Put w a end t w₄
  put-fields k e o f =
      let to : row_place a + TO ≡ row_place a + END + 2 = omega arith in
      let other : row_place a + OTHER ≡ row_place a + END + 2 + 2 = omega arith in
      record { stored = stored-join k (stored-join e (stored-join (rw to at o) (rw other at f))) }

pub read-numbers : {w : List ℕ} (a : ℕ) {k t f : ℕ} → Holds 1 w (row_place a) k → Holds 2 w (row_place a + TO) t → Holds 2 w (row_place a + OTHER) f
    → TypeIs w a (numbered k t f)
read-numbers a k t f = record { is = rw (k.is, t.is, f.is); to = t.small; other = f.small }

-- ---- a type of the enum is written by its numbers

pub put-numbers : (t : BlockType) {n : RowType} {a end : ℕ} {w w' : List ℕ} → n ≡ numbers_of t → Put w a end n w' → PutBlock w a end t w'
put-numbers t e p = record { stored = (rw e at p).stored }

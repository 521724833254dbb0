-- The contracts leave no choice: two results of one call are the same, byte for byte. Assumes nothing.
use mathlib.Core.Path.{◌≡◌, refl, sym, ◌∙◌}
use mathlib.Core.List.{List}
use Rattle.std.specs.Prelude.{Option}
use Prim.Native.Nat.{ℕ, ◌+◌, ◌*◌, ◌≤◌}
use native.Mathlib.Omega.{arith}
use Rattle.lent.proofs.Once.{Same, same-as, same_then, same_rows, one-stored}
use Rattle.layout.specs.Parts.{ROW, rows_end, fields_place, list_place, SameRows}
use Rattle.layout.specs.Rows.{Put, TypeIs, PutBlock, BlockIs}
use Rattle.layout.specs.declared.row.RowType.{RowType}
use Rattle.layout.specs.declared.row.BlockType.{BlockType}

pub one-put : {w w' w'' : List ℕ} {a end : ℕ} {t : RowType} → Put w a end t w' → Put w a end t w'' → w' ≡ w''
one-put p q = (one-stored p.stored q.stored).1

pub one_type : {w : List ℕ} {a : ℕ} {t u : RowType} → TypeIs w a t → TypeIs w a u → t ≡ u
one_type p q = p.is ∙ sym q.is

pub one-written : {w w' w'' : List ℕ} {a end : ℕ} {t : BlockType} → PutBlock w a end t w' → PutBlock w a end t w'' → w' ≡ w''
one-written p q = (one-stored p.stored q.stored).1

pub one_block : {w : List ℕ} {a : ℕ} {t u : Option BlockType} → BlockIs w a t → BlockIs w a u → t ≡ u
one_block p q = p.is ∙ sym q.is

-- where the blocks' rows are the same, and the fields of every address, all before the worklist is
pub same-to-list : {n : ℕ} {v u : List ℕ} → SameRows n u v → ((a : ℕ) → a ≤ n → Same v u (fields_place n a) ROW) → Same v u 0 (list_place n)
same-to-list {n} {v} {u} rows fields =
    let front : Same v u 0 (rows_end n) = record { is = rows } in
    let back : Same v u (rows_end n) (ROW * (n + 1)) = same_rows (rows_end n) ROW (n + 1) (λ a h. same-as (fields a (omega arith)) (omega arith) refl) in
    same-as (same_then front back (omega arith)) refl (omega arith)

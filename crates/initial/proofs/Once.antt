-- The contracts leave no choice: two results of one call are the same, byte for byte. Those of `cut` and `check` do not either. The list says
-- numbers, which say their bytes, since a slice holds bytes. Assumes nothing.
use mathlib.Core.Path.{◌≡◌, refl, sym, ap, ap₂, ◌∙◌}
use mathlib.Core.Bool.{false, not}
use mathlib.Core.List.{List, [], ◌∷◌, ◌++◌}
use Prim.Native.Nat.{ℕ, zero, suc, ◌+◌, ◌-◌, ◌*◌, ◌≤◌, ◌<◌}
use native.Mathlib.Nat.{zero-add}
use native.Mathlib.Omega.{arith}
use native.Mathlib.Decide.{ℕ_discrete}
use lib.Dec.{eqb}
use lib.ListN.{length, get_or, take, drop}
use lib.Seq.{take-add}
use borrow.Author.Tests.{eq-eqb, eqb-true, not-false}
use Rattle.spec.specs.Blocks.{Block, starts}
use Rattle.lent.specs.Bytes.{num_at, Holds}
use Rattle.lent.proofs.Once.{Bytes, one-held, Same, same-num, same-as, same_then, same_rows, same_whole}
use Rattle.layout.specs.Parts.{ROW, row_place, rows_end, starts_place, start_place}
use Rattle.layout.specs.Rows.{tag_at, starts_at}
use Rattle.initial.specs.Rows.{block_at, row_blocks, blocks_at, row_of, Laid, Listed}
use Rattle.initial.specs.Promises.{Beyond, Written, CheckedAll, Initial}
use Rattle.initial.proofs.Rows.{here-empty, here-block, start-at, found, block_in}
use Rattle.initial.proofs.Listing.{list_length, list_at}

-- ---- the blocks say each row

module _ (w v : List ℕ) (n : ℕ) (e : blocks_at w n ≡ blocks_at v n) where
  same_tag : (a : ℕ) → a ≤ n → tag_at w a ≡ 0 → tag_at v a ≡ 0
  same_tag a h z =
      let p : not (eqb (tag_at v a) 0) ≡ false = sym (start-at v a n h) ∙ rw (← e) (start-at w a n h ∙ rw (eq-eqb (tag_at w a) 0 z)) in
      eqb-true (tag_at v a) 0 (not-false _ p)

  same_row : (a : ℕ) → a ≤ n → row_blocks w a ≡ row_blocks v a
  same_row a h = go (ℕ_discrete (tag_at w a) 0)
    where
      go : Dec (tag_at w a ≡ 0) → row_blocks w a ≡ row_blocks v a
      go (yes z) = here-empty w a z ∙ sym (here-empty v a (same_tag a h z))
      go (no s) =
          let f = found v {b = block_at w a} n (rw e at (block_in w n a h s)) in
          here-block w a s ∙ ap {B = List Block} (λ (b : Block). b ∷ []) f.1.same ∙ sym (here-block v a f.1.starts)

  module _ (p : Laid w n) (q : Laid v n) where
    front-rows : (m : ℕ) → m ≤ suc n → take (row_place m) w ≡ take (row_place m) v
    front-rows zero h = refl
    front-rows (suc m) h =
        let k : row_place (suc m) ≡ row_place m + ROW = omega arith in
        let row : take ROW (drop (row_place m) w) ≡ take ROW (drop (row_place m) v) = p.row m (omega arith) ∙ ap row_of (same_row m (omega arith)) ∙ sym (q.row m (omega arith)) in
        rw (k, take-add (row_place m) ROW w, take-add (row_place m) ROW v) (ap₂ (λ (x y : List ℕ). x ++ y) (front-rows m (omega arith)) row)

    all-rows : Same w v 0 (rows_end n)
    all-rows = let k : row_place (suc n) ≡ rows_end n = omega arith in record { is = rw k at (front-rows (suc n) (omega arith)) }

    exact : {u : List ℕ} → Beyond n u w → Beyond n u v → w ≡ v
    exact b d = same_whole (rows_end n) all-rows (b.others ∙ sym d.others)

-- ---- and how many starts are listed, and each entry

module _ {w v : List ℕ} {n many many' : ℕ} (e : blocks_at w n ≡ blocks_at v n) (p : Listed n w many) (q : Listed n v many') where
  lists : starts_at w n 0 many ≡ starts_at v n 0 many'
  lists = p.is ∙ ap starts e ∙ sym q.is

  same-many : many ≡ many'
  same-many = sym (list_length n w 0 many) ∙ ap length lists ∙ list_length n v 0 many'

  same-entry : (i : ℕ) → i < many → num_at 2 w (start_place n i) ≡ num_at 2 v (start_place n i)
  same-entry i h =
      rw zero-add at (sym (list_at n w 0 many i h) ∙ ap (λ (xs : List ℕ). get_or xs i 0) lists ∙ list_at n v 0 many' i (omega (arith, same-many)))

  same-list : Bytes w → Bytes v → length w ≡ length v → Same w v (starts_place n) (2 * many)
  same-list b d long = same_rows (starts_place n) 2 many (λ i h. same-num b d long 2 (start_place n i) (same-entry i h))

-- the rows, what is between them and the list, the list, and what is past it
one-listed : (u : List ℕ) {w v : List ℕ} {n many many' : ℕ} → Bytes w → Bytes v → blocks_at w n ≡ blocks_at v n → Laid w n → Laid v n → Listed n w many → Listed n v many'
    → take (starts_place n - rows_end n) (drop (rows_end n) w) ≡ take (starts_place n - rows_end n) (drop (rows_end n) v)
    → drop (start_place n many) w ≡ drop (start_place n many) u → drop (start_place n many') v ≡ drop (start_place n many') u → length w ≡ length v
    → (many ≡ many') × (w ≡ v)
one-listed u {w} {v} {n} {many} {many'} b d e k l p q between past past' long =
    let m : many ≡ many' = same-many e p q in
    let rest : Same w v (rows_end n) (starts_place n - rows_end n) = record { is = between } in
    let front : Same w v 0 (starts_place n) = same-as (same_then (all-rows w v n e k l) rest (omega arith)) refl (omega arith) in
    (m, same_whole (start_place n many) (same_then front (same-list e p q b d long) (omega arith)) (past ∙ rw m (sym past')))

-- ---- so what a function ensures leaves one result

pub one_written : {n : ℕ} {bs : List Block} {u w v : List ℕ} → Written n bs u w → Written n bs u v → w ≡ v
one_written {n} {bs} {u} {w} {v} p q = exact w v n (p.blocks ∙ sym q.blocks) p.laid q.laid p.beyond q.beyond

pub one-checked : {code u w v : List ℕ} {many many' : ℕ} → Bytes w → Bytes v → CheckedAll code u w many → CheckedAll code u v many' → (many ≡ many') × (w ≡ v)
one-checked {u} b d p q =
    one-listed u b d (p.same ∙ sym q.same) p.laid q.laid p.listed q.listed (p.between ∙ sym q.between) p.past q.past (p.kept ∙ sym q.kept)

pub one-initial : {code u w v : List ℕ} {many many' : ℕ} → Bytes w → Bytes v → Initial code u w many → Initial code u v many' → (many ≡ many') × (w ≡ v)
one-initial {u} b d p q =
    one-listed u b d (p.same ∙ sym q.same) p.laid q.laid p.listed q.listed (p.between ∙ sym q.between) p.past q.past (p.kept ∙ sym q.kept)

-- ---- an entry of the list

pub one-start : (n i : ℕ) {a b : ℕ} {w : List ℕ} → Holds 2 w (start_place n i) a → Holds 2 w (start_place n i) b → a ≡ b
one-start n i p q = one-held p q

-- One row is written: its block stands there, the other rows stay, and each row holds its block and nothing else. Assumes nothing.
use mathlib.Core.Path.{◌≡◌, refl, sym, ap, ◌∙◌}
use mathlib.Core.List.{List, [], ◌∷◌, ◌++◌, append-nil}
use Prim.Native.Nat.{ℕ, suc, ◌+◌, ◌-◌, ◌≤◌, ◌<◌}
use native.Mathlib.Nat.{add-zero, zero-add}
use native.Mathlib.Omega.{arith}
use native.Mathlib.Decide.{ℕ_discrete}
use lib.ListN.{take, drop, replicate, length-replicate, replicate-append-replicate}
use lib.Seq.{take-add, take_at, drop_at, drop-drop}
use Rattle.spec.specs.Blocks.{Block, block}
use Rattle.lent.specs.Bytes.{num_at, Stored}
use Rattle.lent.proofs.Parts.{part-of-take, part-prefix}
use Rattle.lent.proofs.Numbers.{number-little, num-zeros}
use Rattle.lent.proofs.Stored.{kept-drop, kept-part, read_all, read-part, read-num}
use Rattle.layout.specs.Parts.{ROW, row_place, rows_end, SameRows}
use Rattle.layout.specs.Rows.{END, TO, OTHER, BLOCK, REST, tag_of, to_of, other_of, tag_at, type_at, head_of, PutBlock}
use Rattle.layout.specs.declared.row.BlockType.{BlockType}
use Rattle.initial.specs.Rows.{kind_of, row_blocks, blocks_from, blocks_at, row_of, Laid}
use Rattle.initial.specs.Promises.{Empty, Beyond}
use Rattle.layout.proofs.Types.{typed-back, tag-range}
use Rattle.initial.proofs.Types.{Good, type-kind}
use Rattle.initial.proofs.Rows.{here-row, tag-row, here-empty, here-block, from-rows, from_empty, blocks-split}

-- ---- the fields of a row's first eight bytes

module _ (end : ℕ) (t : BlockType) where
  head-tag : num_at 1 (head_of end t) 0 ≡ tag_of t
  unfolding num_at
  head-tag = number-little 1 (tag_of t) (omega (arith, (tag-range t).1))

  head-end : end < 65536 → num_at 2 (head_of end t) END ≡ end
  unfolding num_at
  head-end h = number-little 2 end h

  head-to : to_of t < 65536 → num_at 2 (head_of end t) TO ≡ to_of t
  unfolding num_at
  head-to h = number-little 2 (to_of t) h

  head-other : other_of t < 65536 → num_at 2 (head_of end t) OTHER ≡ other_of t
  unfolding num_at
  head-other h = number-little 2 (other_of t) h

later-zero : (bs : List Block) → drop BLOCK (row_of bs) ≡ replicate REST 0
later-zero [] = refl
later-zero (b ∷ bs) = refl

pub laid-later : {w : List ℕ} {n : ℕ} → Laid w n → (a : ℕ) → a ≤ n → take REST (drop (row_place a + BLOCK) w) ≡ replicate REST 0
laid-later {w} l a h =
    rw (← drop-drop BLOCK (row_place a) w) (part-of-take REST BLOCK (drop (row_place a) w) ∙ ap (λ (bs : List ℕ). drop BLOCK bs) (l.row a h) ∙ later-zero (row_blocks w a))

pub laid-prefix : {w v : List ℕ} {n : ℕ} → Laid v n → SameRows n v w → Laid w n
laid-prefix {w} {v} {n} l e =
    record { row = λ a h. let s = part-prefix w v (rows_end n) e ROW (row_place a) (omega arith) in s ∙ l.row a h ∙ ap row_of (sym (here-row w v a s)) }

-- ---- the row that is written

module _ {w w' : List ℕ} {a end : ℕ} {t : BlockType} (p : PutBlock w a end t w') where
  put-tag : tag_at w' a ≡ tag_of t
  put-tag = rw add-zero at (read-num p.stored 1 0 (omega arith)) ∙ head-tag end t

  put-type : Good t → type_at w' a ≡ t
  put-type g =
      rw (put-tag, read-num p.stored 2 TO (omega arith), head-to end t g.to, read-num p.stored 2 OTHER (omega arith), head-other end t g.other) (typed-back t)

  pub put-here : Good t → end < 65536 → row_blocks w' a ≡ block a a end (kind_of t) ∷ []
  put-here g e =
      here-block w' a (λ z. omega (arith, put-tag, (tag-range t).0))
      ∙ rw (put-type g, read-num p.stored 2 END (omega arith), head-end end t e)

  -- ---- the other rows

  put_other : (x : ℕ) → (x ≡ a → ⊥) → take ROW (drop (row_place x) w') ≡ take ROW (drop (row_place x) w)
  put_other x h = kept-part p.stored ROW (row_place x) (λ l. omega arith)

  pub put-tag-other : (x : ℕ) → (x ≡ a → ⊥) → tag_at w' x ≡ tag_at w x
  put-tag-other x h = tag-row w' w x (put_other x h)

  pub put-here-other : (x : ℕ) → (x ≡ a → ⊥) → row_blocks w' x ≡ row_blocks w x
  put-here-other x h = here-row w' w x (put_other x h)

  -- ---- the row holds its block and nothing else, where it held nothing past its first eight bytes

  put-row : take ROW (drop (row_place a) w') ≡ head_of end t ++ take REST (drop (row_place a + BLOCK) w)
  put-row =
      take-add BLOCK REST (drop (row_place a) w')
      ∙ rw (read_all p.stored, drop-drop BLOCK (row_place a) w', kept-part p.stored REST (row_place a + BLOCK) (λ l. omega arith))

  pub put-laid : (n : ℕ) → Laid w n → a ≤ n → Good t → end < 65536 → Laid w' n
  put-laid n l h g e = record { row = λ x k. go x k (ℕ_discrete x a) }
    where
      go : (x : ℕ) → x ≤ n → Dec (x ≡ a) → take ROW (drop (row_place x) w') ≡ row_of (row_blocks w' x)
      go x k (yes q) = rw (q, put-here g e, type-kind t) (put-row ∙ ap (λ (bs : List ℕ). head_of end t ++ bs) (laid-later l a h))
      go x k (no q) = put_other x q ∙ l.row x k ∙ ap row_of (sym (put-here-other x q))

  -- ---- the blocks, where none stands at the row or past it

  pub put-append : (n : ℕ) → Empty w a n → a ≤ n → Good t → end < 65536 → blocks_at w' n ≡ blocks_at w n ++ (block a a end (kind_of t) ∷ [])
  put-append n z h g e =
      let before : blocks_from w' 0 a ≡ blocks_from w 0 a = from-rows w' w 0 a (λ x l k. put-here-other x (λ q. omega arith)) in
      let after : blocks_from w' (suc a) (n - a) ≡ [] = from_empty w' (suc a) (n - a) (λ x l k. put-tag-other x (λ q. omega arith) ∙ z.none x (omega arith) (omega arith)) in
      let none : blocks_from w (suc a) (n - a) ≡ [] = from_empty w (suc a) (n - a) (λ x l k. z.none x (omega arith) (omega arith)) in
      let gap : row_blocks w a ≡ [] = here-empty w a (z.none a (omega arith) h) in
      blocks-split w' n a h ∙ rw (before, put-here g e, after, blocks-split w n a h, gap, none) (ap (λ (l : List Block). l ++ (block a a end (kind_of t) ∷ [])) (sym (append-nil (blocks_from w 0 a))))

  pub put-empty : (lo n : ℕ) → Empty w a n → a < lo → Empty w' lo n
  put-empty lo n z h = record { none = λ x l k. put-tag-other x (λ q. omega arith) ∙ z.none x (omega arith) k }

  pub put-beyond : (n : ℕ) → a ≤ n → Beyond n w w'
  put-beyond n h = record { others = kept-drop p.stored (rows_end n) (omega arith); kept = p.stored.kept }

pub less-empty : {w : List ℕ} {lo hi n : ℕ} → Empty w lo n → lo ≤ hi → Empty w hi n
less-empty z h = record { none = λ x l k. z.none x (omega arith) k }

pub beyond-same : (n : ℕ) (w : List ℕ) → Beyond n w w
beyond-same n w = record { others = refl; kept = refl }

pub beyond-more : {n : ℕ} {w v u : List ℕ} → Beyond n w v → Beyond n v u → Beyond n w u
beyond-more p q = record { others = q.others ∙ p.others; kept = q.kept ∙ p.kept }

-- ---- all rows are wiped

part-zeros : (k i m : ℕ) → i + k ≤ m → take k (drop i (replicate {A = ℕ} m 0)) ≡ replicate k 0
part-zeros k i m h =
    let e : i + (k + (m - (i + k))) ≡ m = omega arith in
    rw (← e, ← replicate-append-replicate {A = ℕ} i (k + (m - (i + k))) 0, drop_at (replicate {A = ℕ} i 0) _ i (length-replicate i 0), ← replicate-append-replicate {A = ℕ} k (m - (i + k)) 0)
    (take_at (replicate {A = ℕ} k 0) _ k (length-replicate k 0))

module _ (n : ℕ) {w w' : List ℕ} (s : Stored (rows_end n) w 0 (replicate (rows_end n) 0) w') where
  pub wiped-empty : Empty w' 0 n
  wiped-empty = record { none = λ a l h. rw zero-add at (read-num s 1 (row_place a) (omega arith)) ∙ num-zeros 1 (rows_end n) (row_place a) }

  pub wiped-blocks : blocks_at w' n ≡ []
  wiped-blocks = from_empty w' 0 (suc n) (λ x l k. wiped-empty.none x (omega arith) (omega arith))

  pub wiped-laid : Laid w' n
  wiped-laid =
      record { row = λ a h. rw (here-empty w' a (wiped-empty.none a (omega arith) h)) (rw zero-add at (read-part s ROW (row_place a) (omega arith)) ∙ part-zeros ROW (row_place a) (rows_end n) (omega arith)) }

  pub wiped-beyond : Beyond n w w'
  wiped-beyond = record { others = kept-drop s (rows_end n) (omega arith); kept = s.kept }

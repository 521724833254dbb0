-- The laws of the merge: one row by its note, the rows of all records, and the notes that the records give. Assumes nothing.
use mathlib.Core.Path.{◌≡◌, refl, sym, ap, ap₂, ◌∙◌}
use mathlib.Core.Bool.{Bool, true, false, not, ◌&&◌}
use mathlib.Core.List.{List, [], ◌∷◌, ◌++◌, map, map-append}
use Prim.Native.Nat.{ℕ, zero, suc, ◌+◌, ◌-◌, ◌≤◌, ◌<◌}
use native.Mathlib.Decide.{ℕ_discrete, dec_lt}
use native.Mathlib.Nat.{add-zero}
use native.Mathlib.Omega.{arith}
use lib.Dec.{eqb, leb}
use lib.ListN.{length, take, drop}
use lib.Seq.{take-add, take-take, drop-drop}
use borrow.Author.Tests.{eqb-true, eqb-false, eq-eqb, ne_eqb, leb-true, le-leb, lt-leb}
use Rattle.std.specs.Prelude.{Option, Some, None}
use Rattle.spec.specs.Blocks.{Kind, terminate, jump, jumpi, dynamic_jump, dynamic_jumpi, Block, block, with_kind}
use Rattle.laws.proofs.Branch.{both, if-true, if-false, and-false}
use Rattle.laws.proofs.Members.{In, here, there}
use Rattle.spec.specs.Lists.{number}
use Rattle.lent.specs.Bytes.{num_at, Holds}
use Rattle.lent.proofs.Parts.{drop_more, part-prefix, part-suffix, part-within}
use Rattle.lent.proofs.Numbers.{num-suffix, num-within}
use Rattle.lent.proofs.Stored.{kept-take, kept-drop, kept-part, read_all}
use Rattle.layout.specs.Fields.{NOTE, note_at}
use Rattle.layout.specs.Parts.{row_place, fields_place, ROW, rows_end, list_place, PastRows}
use Rattle.layout.specs.Records.{RECORD, record_place, start_at}
use Rattle.layout.specs.Rows.{END, typed, type_at, PutBlock, POSITION, tag_at, head_of}
use Rattle.layout.specs.declared.row.BlockType.{BlockType}
use Rattle.layout.specs.declared.row.BlockType.TheVariants.{Terminate, Jump, Jumpi, DynamicJump, DynamicJumpi}
use Rattle.initial.specs.Rows.{kind_of, kind_at, row_blocks, blocks_from, blocks_at}
use Rattle.initial.proofs.Types.{kind-dynamic_jump, good-jump}
use Rattle.initial.proofs.Rows.{here-row, here-block, by_row, blocks-prefix, found}
use Rattle.initial.proofs.Writing.{put-here}
use Rattle.reachable.specs.Promises.{Room}
use Rattle.graph.specs.Notes.{stepped, note_of, shared_of, by_note, merged_kind, merged_by, merged_block, merged_row}
use Rattle.graph.specs.Promises.{Notes, Noted, Merges, MergedRow, Merged, MergedAll}

-- ---- by a note

module _ (n note : ℕ) where
  pub by-none : note ≡ 0 → by_note n note ≡ dynamic_jump
  unfolding by_note
  by-none e = if-true _ _ _ (eq-eqb note 0 e)

  pub by_one : (note ≡ 0 → ⊥) → note ≤ n + 1 → by_note n note ≡ jump (note - 1)
  unfolding by_note
  by_one z h = if-false _ _ _ (ne_eqb note 0 z) ∙ if-true _ _ _ (le-leb note (n + 1) h)

  pub by-several : n + 1 < note → by_note n note ≡ dynamic_jump
  unfolding by_note
  by-several h = if-false _ _ _ (ne_eqb note 0 (λ z. omega arith)) ∙ if-false _ _ _ (lt-leb note (n + 1) h)

  pub shared-zero : note ≡ 0 → None ≡ shared_of n note
  unfolding shared_of
  shared-zero e = sym (if-true _ _ _ (eq-eqb note 0 e))

  pub shared-many : n + 1 < note → None ≡ shared_of n note
  unfolding shared_of
  shared-many h = sym (if-false _ _ _ (ne_eqb note 0 (λ z. omega arith)) ∙ if-false _ _ _ (lt-leb note (n + 1) h))

  pub shared-one : (note ≡ 0 → ⊥) → note ≤ n + 1 → Some (note - 1) ≡ shared_of n note
  unfolding shared_of
  shared-one z h = sym (if-false _ _ _ (ne_eqb note 0 z) ∙ if-true _ _ _ (le-leb note (n + 1) h))

  pub shared-some : {to : ℕ} → shared_of n note ≡ Some to → (note ≡ 0 → ⊥) × (note ≤ n + 1) × (to ≡ note - 1)
  unfolding shared_of
  shared-some {to} =
      both (λ (x : Option ℕ). x ≡ Some to → (note ≡ 0 → ⊥) × (note ≤ n + 1) × (to ≡ note - 1)) (eqb note 0) (λ _ e. cc)
      (λ z. both (λ (x : Option ℕ). x ≡ Some to → (note ≡ 0 → ⊥) × (note ≤ n + 1) × (to ≡ note - 1)) (leb note (n + 1)) (λ h e. (eqb-false note 0 z, leb-true note (n + 1) h, cc)) (λ _ e. cc))

  Same : Kind → Type 0
  Same k = merged_kind n note k ≡ k

  other-kind : (t : BlockType) → (t ≡ DynamicJump → ⊥) → merged_kind n note (kind_of t) ≡ kind_of t
  other-kind (Terminate success) h = refl
  other-kind (Jump to) h = refl
  other-kind (Jumpi to f) h = refl
  other-kind DynamicJump h = absurd (h refl)
  other-kind (DynamicJumpi f) h = refl

-- ---- the bytes of a row

module _ (n note : ℕ) (w : List ℕ) (a : ℕ) where
  bytes-other : (tag_at w a ≡ 5 → ⊥) → take ROW (drop (row_place a) w) ≡ merged_row n note w a
  unfolding merged_row
  bytes-other h = sym (if-false _ _ _ (ap (λ (b : Bool). b && not (eqb note 0) && leb note (n + 1)) (ne_eqb (tag_at w a) 5 h)))

  module _ (d : tag_at w a ≡ 5) where
    bytes-none : note ≡ 0 → take ROW (drop (row_place a) w) ≡ merged_row n note w a
    unfolding merged_row
    bytes-none e = sym (if-false _ _ _ (rw (eq-eqb (tag_at w a) 5 d, eq-eqb note 0 e)))

    bytes-several : n + 1 < note → take ROW (drop (row_place a) w) ≡ merged_row n note w a
    unfolding merged_row
    bytes-several h = sym (if-false _ _ _ (rw (eq-eqb (tag_at w a) 5 d, ne_eqb note 0 (λ z. omega arith), lt-leb note (n + 1) h)))

    bytes_one : {w' : List ℕ} → (note ≡ 0 → ⊥) → note ≤ n + 1 → PutBlock w a (num_at 2 w (row_place a + END)) (Jump (note - 1)) w' → take ROW (drop (row_place a) w') ≡ merged_row n note w a
    unfolding merged_row
    bytes_one {w'} z h p =
        let rest : take 12 (drop 8 (drop (row_place a) w')) ≡ take 12 (drop (row_place a + POSITION) w) = rw (drop-drop 8 (row_place a) w') (kept-part p.stored 12 (row_place a + POSITION) (λ l. omega arith)) in
        take-add 8 12 (drop (row_place a) w') ∙ ap₂ (λ (x y : List ℕ). x ++ y) (read_all p.stored) rest
        ∙ sym (if-true _ _ _ (rw (eq-eqb (tag_at w a) 5 d, ne_eqb note 0 z, le-leb note (n + 1) h)))

-- they go by the row's bytes alone
bytes_same : (n note : ℕ) (w v : List ℕ) (a : ℕ) → take ROW (drop (row_place a) w) ≡ take ROW (drop (row_place a) v) → merged_row n note w a ≡ merged_row n note v a
unfolding merged_row
bytes_same n note w v a e =
    let tag : tag_at w a ≡ tag_at v a = simp add-zero at (num-within w v 20 (row_place a) (row_place a) e 1 0 (omega arith)) in
    rw (tag, num-within w v 20 (row_place a) (row_place a) e 2 2 (omega arith), part-within w v 20 (row_place a) (row_place a) e 12 8 (omega arith), e)

-- ---- one row

dynamic : (w : List ℕ) (a : ℕ) → tag_at w a ≡ 5 → kind_at w a ≡ dynamic_jump
dynamic w a e = kind-dynamic_jump _ _ e

-- a row is read as a DynamicJump by one byte
pub five : (k to f : ℕ) → kind_of (typed k to f) ≡ dynamic_jump → k ≡ 5
unfolding typed
five k to f =
    let Five : BlockType → Type 0 = λ t. kind_of t ≡ dynamic_jump → k ≡ 5 in
    both Five (eqb k 1) (λ _ e. cc)
    (λ _. both Five (eqb k 2) (λ _ e. cc)
    (λ _. both Five (eqb k 3) (λ _ e. cc)
    (λ _. both Five (eqb k 4) (λ _ e. cc)
    (λ _. both Five (eqb k 5) (λ q _. eqb-true k 5 q) (λ _ e. cc)))))

tagged : (w : List ℕ) (a : ℕ) {b : Bool} → b ≡ eqb (tag_at w a) 5 → b ≡ true → tag_at w a ≡ 5
tagged w a e on = eqb-true (tag_at w a) 5 (sym e ∙ on)

module _ {n a : ℕ} {w : List ℕ} where
  row_stays : merged_kind n (note_at w n a) (kind_at w a) ≡ kind_at w a → take ROW (drop (row_place a) w) ≡ merged_row n (note_at w n a) w a → MergedRow n w a w
  row_stays e b = record {
    same = by_row w a (λ (bs : List Block). bs ≡ map (merged_by n (note_at w n a)) bs) (λ _. refl)
        (λ _. ap {B = List Block} (λ (x : Kind). block a a (num_at 2 w (row_place a + END)) x ∷ []) (sym e));
    bytes = b;
    before = refl;
    past = refl;
    long = refl;
  }

  pub row_other : {b : Bool} → b ≡ eqb (tag_at w a) 5 → b ≡ false → MergedRow n w a w
  row_other e off =
      let h : tag_at w a ≡ 5 → ⊥ = eqb-false (tag_at w a) 5 (sym e ∙ off) in
      row_stays (other-kind n (note_at w n a) (type_at w a) (λ q. h (five _ _ _ (ap kind_of q)))) (bytes-other n (note_at w n a) w a h)

  module _ {note : ℕ} {b : Bool} {x : Option ℕ} (e : b ≡ eqb (tag_at w a) 5) (on : b ≡ true) (t : Holds 4 w (fields_place n a + NOTE) note) (s : x ≡ shared_of n note) where
    pub row-none : x ≡ None → MergedRow n w a w
    row-none z = go (ℕ_discrete note 0) (dec_lt (n + 1) note)
      where
        other : None ≡ Some (note - 1) → ⊥
        other q = cc

        tag : tag_at w a ≡ 5
        tag = tagged w a e on

        go : Dec (note ≡ 0) → Dec (n + 1 < note) → MergedRow n w a w
        go (yes e₀) _ = row_stays (rw (dynamic w a tag) (by-none n (note_at w n a) (sym t.is ∙ e₀))) (bytes-none n (note_at w n a) w a tag (sym t.is ∙ e₀))
        go (no nz) (yes h) = row_stays (rw (dynamic w a tag) (by-several n (note_at w n a) (rw t.is at h))) (bytes-several n (note_at w n a) w a tag (rw t.is at h))
        go (no nz) (no l) = absurd (other (sym z ∙ s ∙ sym (shared-one n note nz (omega arith))))

    pub row_one : {to end : ℕ} {w' : List ℕ} → Room n w → x ≡ Some to → Holds 2 w (row_place a + END) end → PutBlock w a end (Jump to) w' → MergedRow n w a w'
    row_one {to} {end} {w'} l z d p =
        let tag : tag_at w a ≡ 5 = tagged w a e on in
        let k = shared-some n note (sym s ∙ z) in
        let p₁ : PutBlock w a end (Jump (note - 1)) w' = rw k.2 at p in
        record {
          same = put-here p₁ (good-jump (note - 1) (omega (arith, l.short, k.1))) d.small
              ∙ rw d.is
              (sym (ap (map (merged_by n (note_at w n a))) (here-block w a (λ o. omega (arith, tag, o)))
              ∙ rw (dynamic w a tag, ← t.is, by_one n note k.0 k.1)));
          bytes = rw (← t.is) (bytes_one n note w a tag k.0 k.1 (rw d.is at p₁));
          before = kept-take p.stored (row_place a) (omega arith);
          past = kept-drop p.stored (row_place (a + 1)) (omega arith);
          long = p.stored.kept;
        }

-- ---- once more, and by no note

module _ (n note : ℕ) where
  note-again : Same n note (by_note n note)
  unfolding by_note Same
  note-again = both (Same n note) (eqb note 0) (λ e. if-true _ _ _ e) (λ e. both (Same n note) (leb note (n + 1)) (λ _. refl) (λ f. if-false _ _ _ e ∙ if-false _ _ _ f))

  kind-again : (k : Kind) → merged_kind n note (merged_kind n note k) ≡ merged_kind n note k
  unfolding Same
  kind-again (terminate success) = refl
  kind-again (jump t) = refl
  kind-again (jumpi t f) = refl
  kind-again dynamic_jump = note-again
  kind-again (dynamic_jumpi f) = refl

  again : (bs : List Block) → map (merged_by n note) (map (merged_by n note) bs) ≡ map (merged_by n note) bs
  again [] = refl
  again (b ∷ bs) =
      ap₂ {C = List Block} (λ (x : Block) (xs : List Block). x ∷ xs) (ap (λ (k : Kind). with_kind k b) (kind-again b.kind)) (again bs)

  kind-none : note ≡ 0 → (k : Kind) → merged_kind n note k ≡ k
  kind-none e (terminate success) = refl
  kind-none e (jump t) = refl
  kind-none e (jumpi t f) = refl
  kind-none e dynamic_jump = by-none n note e
  kind-none e (dynamic_jumpi f) = refl

  none-merged : note ≡ 0 → (bs : List Block) → map (merged_by n note) bs ≡ bs
  none-merged e [] = refl
  none-merged e (b ∷ bs) = ap₂ {C = List Block} (λ (x : Block) (xs : List Block). x ∷ xs) (ap (λ (k : Kind). with_kind k b) (kind-none e b.kind)) (none-merged e bs)

  bytes-unnoted : note ≡ 0 → (w : List ℕ) (a : ℕ) → take ROW (drop (row_place a) w) ≡ merged_row n note w a
  unfolding merged_row
  bytes-unnoted e w a =
      sym (if-false _ _ _
      (ap (λ (b : Bool). eqb (tag_at w a) 5 && not b && leb note (n + 1)) (eq-eqb note 0 e) ∙ ap (λ (b : Bool). b && leb note (n + 1)) (and-false (eqb (tag_at w a) 5) refl)))

  -- a row that was merged stays
  bytes-again : (w₀ w : List ℕ) (a : ℕ) → take ROW (drop (row_place a) w) ≡ merged_row n note w₀ a → merged_row n note w a ≡ merged_row n note w₀ a
  unfolding merged_row num_at number
  bytes-again w₀ w a = both (λ (bs : List ℕ). take ROW (drop (row_place a) w) ≡ bs → merged_row n note w a ≡ bs) (eqb (tag_at w₀ a) 5 && not (eqb note 0) && leb note (n + 1))
      (λ _ e. sym (bytes-other n note w a (λ d. other e d)) ∙ e)
      (λ c e. bytes_same n note w w₀ a e ∙ if-false _ _ _ c)
    where
      other : take ROW (drop (row_place a) w) ≡ head_of (num_at 2 w₀ (row_place a + END)) (Jump (note - 1)) ++ take 12 (drop (row_place a + POSITION) w₀) → tag_at w a ≡ 5 → ⊥
      other e d =
          let tag : tag_at w a ≡ 3 = ap number (sym (take-take 1 20 (drop (row_place a) w) (omega arith)) ∙ ap (take 1) e) in
          omega (arith, tag, d)

-- ---- all records

-- the row of a, once the blocks of the first i records are merged: merged, or as it was where none of them is of a
pub data RowSo (n : ℕ) (r w₀ w : List ℕ) (i a : ℕ) : Type 0 where
  merged : row_blocks w a ≡ map (merged_by n (note_at w₀ n a)) (row_blocks w₀ a) → take ROW (drop (row_place a) w) ≡ merged_row n (note_at w₀ n a) w₀ a → RowSo n r w₀ w i a
  as_it_was : take ROW (drop (row_place a) w) ≡ take ROW (drop (row_place a) w₀) → ((j : ℕ) → j < i → a ≡ start_at r j → ⊥) → RowSo n r w₀ w i a

pub record Merging (n m : ℕ) (r w₀ w : List ℕ) (i : ℕ) : Type 0 where
  pub row : (a : ℕ) → a ≤ n → RowSo n r w₀ w i a
  pub beyond : PastRows n w₀ w
  pub long : length w ≡ length w₀
  pub inside : i ≤ m

pub merge-start : {n m : ℕ} {r w : List ℕ} → Merging n m r w w 0
merge-start = record { row = λ a h. as_it_was refl (λ j l. absurd (omega arith)); beyond = refl; long = refl; inside = omega arith }

-- the block of a row has its own address's note
own-note : (n : ℕ) (notes : ℕ → ℕ) (w : List ℕ) (a : ℕ) → map (merged_by n (notes a)) (row_blocks w a) ≡ map (merged_block n notes) (row_blocks w a)
own-note n notes w a = by_row w a (λ (bs : List Block). map (merged_by n (notes a)) bs ≡ map (merged_block n notes) bs) (λ _. refl) (λ _. refl)

all-rows : (f : Block → Block) (w v : List ℕ) (a m : ℕ) → ((x : ℕ) → a ≤ x → x < a + m → row_blocks w x ≡ map f (row_blocks v x)) → blocks_from w a m ≡ map f (blocks_from v a m)
unfolding blocks_from
all-rows f w v a zero h = refl
all-rows f w v a (suc m) h =
    ap₂ (λ (x y : List Block). x ++ y) (h a (omega arith) (omega arith)) (all-rows f w v (suc a) m (λ x l g. h x (omega arith) (omega arith)))
    ∙ sym (map-append f (row_blocks v a) (blocks_from v (suc a) m))

-- where no record is of a, it has no note
no_note : (r : List ℕ) (a m : ℕ) → ((j : ℕ) → j < m → a ≡ start_at r j → ⊥) → note_of r a m ≡ 0
unfolding note_of stepped
no_note r a zero h = refl
no_note r a (suc m) h = if-false _ _ _ (ne_eqb a (start_at r m) (h m (omega arith))) ∙ no_note r a m (λ j l. h j (omega arith))

-- a record of them stands in R
pub merge_in : {n m i : ℕ} {w r : List ℕ} → Merges n m w r → i < m → record_place i + RECORD ≤ length r
merge_in a l = (a.each _ l).in_r

module _ {n m i : ℕ} {r w₀ w : List ℕ} (g : Merging n m r w₀ w i) where
  pub merge-room : Merges n m w₀ r → Room n w
  merge-room a = record { short = a.lent.short; room = omega (arith, a.lent.room, g.long) }

  pub merge-start-of : {b : ℕ} → Merges n m w₀ r → i < m → Holds 2 r (record_place i) b → b ≤ n
  merge-start-of a l h = omega (arith, h.is, (a.each i l).start)

  pub merge-turn : {b : ℕ} {w' : List ℕ} → Merges n m w₀ r → i < m → Holds 2 r (record_place i) b → MergedRow n w b w' → Merging n m r w₀ w' (i + 1)
  merge-turn {b} {w'} asks l h t = record {
    row = λ a k. go a (ℕ_discrete a b) (g.row a k);
    beyond = drop_more w' w (row_place (b + 1)) t.past (rows_end n) (omega (arith, merge-start-of asks l h)) ∙ g.beyond;
    long = t.long ∙ g.long;
    inside = omega arith;
  }
    where
      note : note_at w n b ≡ note_at w₀ n b
      note = num-suffix w w₀ (rows_end n) g.beyond 4 (fields_place n b + NOTE) (omega arith)

      same_row : (a : ℕ) → (a ≡ b → ⊥) → take ROW (drop (row_place a) w') ≡ take ROW (drop (row_place a) w)
      same_row a q = side (dec_lt a b)
        where
          side : Dec (a < b) → take ROW (drop (row_place a) w') ≡ take ROW (drop (row_place a) w)
          side (yes k) = part-prefix w' w (row_place b) t.before 20 (row_place a) (omega arith)
          side (no k) = part-suffix w' w (row_place (b + 1)) t.past 20 (row_place a) (omega arith)

      go : (a : ℕ) → Dec (a ≡ b) → RowSo n r w₀ w i a → RowSo n r w₀ w' (i + 1) a
      go a (yes q) (merged s y) =
          merged (rw q (rw (note, rw q at s) at t.same ∙ again n (note_at w₀ n b) (row_blocks w₀ b))) (rw q (t.bytes ∙ rw note (bytes-again n (note_at w₀ n b) w₀ w b (rw q at y))))
      go a (yes q) (as_it_was y f) =
          let row : row_blocks w b ≡ row_blocks w₀ b = here-row w w₀ b (rw q at y) in
          merged (rw q (rw (note, row) at t.same)) (rw q (t.bytes ∙ rw note (bytes_same n (note_at w₀ n b) w w₀ b (rw q at y))))
      go a (no q) (merged s y) = merged (here-row w' w a (same_row a q) ∙ s) (same_row a q ∙ y)
      go a (no q) (as_it_was y f) = as_it_was (same_row a q ∙ y) (λ j k e. later j k e (ℕ_discrete j i))
        where
          later : (j : ℕ) → j < i + 1 → a ≡ start_at r j → Dec (j ≡ i) → ⊥
          later j k e (yes z) = q (e ∙ ap (start_at r) z ∙ sym h.is)
          later j k e (no z) = f j (omega arith) e

  pub merge-done : Merges n m w₀ r → m ≤ i → Merged n w₀ w
  merge-done asks k = record {
    blocks = all-rows (merged_block n (note_at w₀ n)) w w₀ 0 (suc n) (λ a _ l. blocks a (g.row a (omega arith)) (omega arith));
    bytes = λ a l. bytes a (g.row a l) l;
    beyond = g.beyond;
    long = g.long;
  }
    where
      none : (a : ℕ) → a ≤ n → ((j : ℕ) → j < i → a ≡ start_at r j → ⊥) → note_at w₀ n a ≡ 0
      none a l f = asks.notes a l ∙ no_note r a m (λ j h. f j (omega arith))

      blocks : (a : ℕ) → RowSo n r w₀ w i a → a ≤ n → row_blocks w a ≡ map (merged_block n (note_at w₀ n)) (row_blocks w₀ a)
      blocks a (merged s y) l = s ∙ own-note n (note_at w₀ n) w₀ a
      blocks a (as_it_was y f) l = here-row w w₀ a y ∙ sym (none-merged n (note_at w₀ n a) (none a l f) (row_blocks w₀ a)) ∙ own-note n (note_at w₀ n) w₀ a

      bytes : (a : ℕ) → RowSo n r w₀ w i a → a ≤ n → take ROW (drop (row_place a) w) ≡ merged_row n (note_at w₀ n a) w₀ a
      bytes a (merged s y) l = y
      bytes a (as_it_was y f) l = y ∙ bytes-unnoted n (note_at w₀ n a) (none a l f) w₀ a

-- ---- by the notes of the records

map-agrees : (f g : Block → Block) (bs : List Block) → ((b : Block) → In b bs → f b ≡ g b) → map f bs ≡ map g bs
map-agrees f g [] h = refl
map-agrees f g (b ∷ bs) h = ap₂ {C = List Block} (λ (x : Block) (xs : List Block). x ∷ xs) (h b here) (map-agrees f g bs (λ c i. h c (there i)))

-- once the records are noted
pub noted-merges : {n m : ℕ} {w r w₁ : List ℕ} → Notes n m w r → Noted n m w r w₁ → Merges n m w₁ r
noted-merges a t = record {
  lent = record { short = a.lent.short; room = omega (arith, a.lent.room, t.kept.long) };
  each = a.each;
  notes = t.notes;
}

pub merged-all : {n m : ℕ} {w r w₁ w₂ : List ℕ} → Noted n m w r w₁ → Merged n w₁ w₂ → MergedAll n m w r w₂
merged-all {n} {m} {w} {r} {w₁} {w₂} t g = record {
  blocks = g.blocks
      ∙ map-agrees (merged_block n (note_at w₁ n)) (merged_block n (λ (a : ℕ). note_of r a m)) (blocks_at w₁ n)
      (λ b i. ap (λ (note : ℕ). merged_by n note b) (t.notes b.start (found w₁ n i).0))
      ∙ ap (map (merged_block n (λ (a : ℕ). note_of r a m))) (blocks-prefix w₁ w n t.kept.rows);
  bytes = λ a h. g.bytes a h ∙ ap (λ (y : ℕ). merged_row n y w₁ a) (t.notes a h)
      ∙ bytes_same n (note_of r a m) w₁ w a (part-prefix w₁ w (rows_end n) t.kept.rows 20 (row_place a) (omega arith));
  beyond = drop_more w₂ w₁ (rows_end n) g.beyond (list_place n) (omega arith) ∙ t.kept.beyond;
  long = g.long ∙ t.kept.long;
}

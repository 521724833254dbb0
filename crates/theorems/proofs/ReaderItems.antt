-- One entry, read and written: an item and its bytes; a map as its items. Assumes nothing.
use Prim.Native.Nat.{ℕ, zero, suc, ◌+◌, ◌*◌, ◌%◌, ◌≤◌}
use native.Mathlib.Omega.{arith}
use mathlib.Core.Path.{◌≡◌, refl, sym, ap, ap₂, ◌∙◌}
use mathlib.Core.Bool.{Bool, true}
use mathlib.Core.List.{List, [], ◌∷◌, ◌++◌, map}
use lib.Dec.{eqb, leb}
use lib.ListN.{length, take, drop, length-drop, take-append-drop, drop_of_length-le}
use lib.Seq.{drop-drop}
use borrow.Author.Tests.{eqb-true, leb-true}
use Rattle.spec.specs.Lists.{gather, little}
use Rattle.spec.specs.Blocks.{Kind, terminate, jump, jumpi, dynamic_jump, dynamic_jumpi, Block}
use Rattle.spec.specs.Search.{Found, Rec}
use Rattle.spec.specs.Ending.{Final}
use Rattle.spec.specs.Entries.{wide_code, way_kind, record_kind, numbered_kind, Map, item, absent, destination, flag, path_bytes, path_entry, shown, extent, record_entry, joined, entries, bytes, block_bytes}
use Rattle.spec.specs.Forms.{field, announced, entry, behind, TERMINATE, JUMP, JUMPI, DYNAMIC-JUMP, DYNAMIC-JUMPI, Sort, HEAD, WAY, RECORD, UNKNOWN, BLOCK, sort, long}
use Rattle.spec.specs.Reader.{fair, Item, a_head, a_block, a_way, a_record, no_item, destined, addresses, item_for}
use Rattle.spec.specs.BadEntries.{Whole}
use Rattle.laws.proofs.Branch.{both}
use Rattle.laws.proofs.Members.{In, here, there, gather_append}
use Rattle.theorems.proofs.Bounds.{Bare}
use Rattle.theorems.proofs.ReaderSplit.{body-long}
use Rattle.theorems.proofs.Bytes.{Bytes, bytes_drop, part, spelled}

-- ---- the bytes of an item

abbrev pub block-entry : ℕ → Block → Kind → List ℕ
block-entry n b (terminate success) = item 2 (extent b ++ (flag success ∷ []))
block-entry n b (jump t) = item 3 (extent b ++ little 2 t)
block-entry n b (jumpi t f) = item 4 (extent b ++ little 2 t ++ little 2 f)
block-entry n b dynamic_jump = item 5 (extent b ++ little 4 n)
block-entry n b (dynamic_jumpi f) = item 6 (extent b ++ little 2 f ++ little 4 n)

flag-back : (n : ℕ) → n ≤ 1 → flag (eqb n 1) ≡ n
flag-back zero h = refl
flag-back (suc zero) h = refl
flag-back (suc (suc n)) h = absurd (omega arith)

-- ---- a map as its items

abbrev pub way_for : Rec → Item
way_for r = a_way r.to r.path

abbrev pub block-items : Final → List Item
block-items f = a_block f.block (length f.entries) ∷ map way_for f.entries

abbrev pub items_of : Map → List Item
items_of m = a_head m.size (length m.blocks) (length m.recs) m.energy ∷ gather block-items m.blocks ++ map (a_record m.numbered) m.recs

-- a whole entry's bytes, and those behind it
pub entry-back : (b : List ℕ) → Bytes b → Whole b → item (entry b).kind (entry b).body ++ behind b ≡ b
entry-back b h w =
    let n = announced b in
    let k = field 4 2 b in
    let body = take n (drop 6 b) in
    let rest : body ++ behind b ≡ drop 6 b = rw (← drop-drop n 6 b) (take-append-drop n (drop 6 b)) in
    ap (λ (l : ℕ). little 4 l ++ (little 2 k ++ (body ++ behind b))) (body-long b w)
    ∙ part 4 0 b h (omega arith) (part 2 4 b h (omega arith) rest)

module _ (wide : Bool) where
  abbrev pub written : Item → List ℕ
  written (a_head s n m e) = item 1 (little 2 s ++ little 2 n ++ little 4 m ++ little 4 e)
  written (a_block b n) = block-entry n b b.kind
  written (a_way t p) = item (way_kind wide) (little 2 (destination wide t) ++ path_bytes p)
  written (a_record b r) = record_entry wide b r
  written no_item = []

  -- ---- kind by kind

  pub by_kind : (F : ℕ → Sort → Type 0) → F 1 HEAD → F 2 (BLOCK TERMINATE) → F 3 (BLOCK JUMP) → F 4 (BLOCK JUMPI) → F 5 (BLOCK DYNAMIC-JUMP) → F 6 (BLOCK DYNAMIC-JUMPI)
      → F (way_kind wide) (WAY (absent wide)) → F (record_kind wide) (RECORD 4 (absent wide)) → F (numbered_kind wide) (RECORD 8 (absent wide)) → ((k : ℕ) → F k UNKNOWN) → (k : ℕ) → F k (sort wide k)
  unfolding sort
  by_kind F f1 f2 f3 f4 f5 f6 f7 f8 f9 f k =
      both (F k) (eqb k 1) (λ e. rw (eqb-true k 1 e) f1)
      (λ _. both (F k) (eqb k 2) (λ e. rw (eqb-true k 2 e) f2)
      (λ _. both (F k) (eqb k 3) (λ e. rw (eqb-true k 3 e) f3)
      (λ _. both (F k) (eqb k 4) (λ e. rw (eqb-true k 4 e) f4)
      (λ _. both (F k) (eqb k 5) (λ e. rw (eqb-true k 5 e) f5)
      (λ _. both (F k) (eqb k 6) (λ e. rw (eqb-true k 6 e) f6)
      (λ _. both (F k) (eqb k (way_kind wide)) (λ e. rw (eqb-true k (way_kind wide) e) f7)
      (λ _. both (F k) (eqb k (record_kind wide)) (λ e. rw (eqb-true k (record_kind wide) e) f8)
      (λ _. both (F k) (eqb k (numbered_kind wide)) (λ e. rw (eqb-true k (numbered_kind wide) e) f9) (λ _. f k)))))))))

  -- ---- what is read of a body is written again

  destined-back : (n : ℕ) → destination wide (destined (absent wide) n) ≡ n
  destined-back n = both (λ (t : Found). destination wide t ≡ n) (eqb n (absent wide)) (λ e. sym (eqb-true _ _ e)) (λ _. refl)

  module _ (body : List ℕ) (h : Bytes body) where
    -- the last field
    last-part : (k at : ℕ) → at + k ≡ length body → little k (field at k body) ++ [] ≡ drop at body
    last-part k at e = part k at body h (omega arith) (sym (drop_of_length-le body {i = at + k} (omega arith)))

    -- a path, behind its length
    path-part : (at : ℕ) → length body ≡ at + 4 + 2 * field at 4 body → path_bytes (addresses (drop (at + 4) body)) ≡ drop at body
    path-part at e =
        let s = spelled (field at 4 body) (drop (at + 4) body) (bytes_drop (at + 4) body h) (rw length-drop (omega arith)) in
        rw (s.long, s.same) (part 4 at body h (omega arith) refl)

    abbrev Back : ℕ → Sort → Type 0
    Back k s = (s ≡ UNKNOWN → ⊥) → length body ≡ long s body → fair s body ≡ true → written (item_for s body) ≡ item k body

    pub body_back : (k : ℕ) → Back k (sort wide k)
    body_back =
        by_kind Back
        (λ u e f. ap (item 1) (part 2 0 body h (omega arith) (part 2 2 body h (omega arith) (part 4 4 body h (omega arith) (last-part 4 8 (sym e))))))
        (λ u e f. ap (item 2) (part 2 0 body h (omega arith) (part 2 2 body h (omega arith) (ap (λ (n : ℕ). n ∷ []) (success f) ∙ last-part 1 4 (sym e)))))
        (λ u e f. ap (item 3) (part 2 0 body h (omega arith) (part 2 2 body h (omega arith) (last-part 2 4 (sym e)))))
        (λ u e f. ap (item 4) (part 2 0 body h (omega arith) (part 2 2 body h (omega arith) (part 2 4 body h (omega arith) (last-part 2 6 (sym e))))))
        (λ u e f. ap (item 5) (part 2 0 body h (omega arith) (part 2 2 body h (omega arith) (last-part 4 4 (sym e)))))
        (λ u e f. ap (item 6) (part 2 0 body h (omega arith) (part 2 2 body h (omega arith) (part 2 4 body h (omega arith) (last-part 4 6 (sym e))))))
        (λ u e f. ap (item (way_kind wide)) (ap (λ (n : ℕ). little 2 n ++ path_bytes (addresses (drop 6 body))) (destined-back (field 0 2 body)) ∙ part 2 0 body h (omega arith) (path-part 2 e)))
        (λ u e f. ap (item (record_kind wide)) (ap (λ (n : ℕ). little 2 (field 0 2 body) ++ (little 2 n ++ path_bytes (addresses (drop 8 body)))) (destined-back (field 2 2 body))
        ∙ part 2 0 body h (omega arith) (part 2 2 body h (omega arith) (path-part 4 e))))
        (λ u e f. ap (item (numbered_kind wide)) (ap (λ (n : ℕ). little 2 (field 0 2 body) ++ (little 2 n ++ (little 4 (field 4 4 body) ++ path_bytes (addresses (drop 12 body))))) (destined-back (field 2 2 body))
        ∙ part 2 0 body h (omega arith) (part 2 2 body h (omega arith) (part 4 4 body h (omega arith) (path-part 8 e)))))
        (λ k u e f. absurd (u refl))
      where
        success : leb (field 4 1 body) 1 ≡ true → flag (eqb (field 4 1 body) 1) ≡ field 4 1 body % 256
        success f = let one : field 4 1 body ≤ 1 = leb-true _ _ f in flag-back _ one ∙ omega arith

  ways-bytes : (es : List Rec) → joined (map (path_entry wide) es) ≡ gather written (map way_for es)
  ways-bytes [] = refl
  ways-bytes (r ∷ es) = ap (λ (l : List ℕ). path_entry wide r ++ l) (ways-bytes es)

  shown-bytes : (b : Block) (es : List Rec) (k : Kind) → Bare es k → joined (shown wide (extent b) es k) ≡ block-entry (length es) b k ++ gather written (map way_for es)
  shown-bytes b es (terminate success) e = rw e
  shown-bytes b es (jump t) e = rw e
  shown-bytes b es (jumpi t f) e = rw e
  shown-bytes b es dynamic_jump e = ap (λ (l : List ℕ). item 5 (extent b ++ little 4 (length es)) ++ l) (ways-bytes es)
  shown-bytes b es (dynamic_jumpi f) e = ap (λ (l : List ℕ). item 6 (extent b ++ little 2 f ++ little 4 (length es)) ++ l) (ways-bytes es)

  blocks-bytes : (fs : List Final) → ((f : Final) → In f fs → Bare f.entries f.block.kind)
      → joined (gather (λ (f : Final). shown wide (extent f.block) f.entries f.block.kind) fs) ≡ gather written (gather block-items fs)
  blocks-bytes [] h = refl
  blocks-bytes (f ∷ fs) h =
      gather_append (λ (e : List ℕ). e) (shown wide (extent f.block) f.entries f.block.kind) _
      ∙ ap₂ (λ (x y : List ℕ). x ++ y) (shown-bytes f.block f.entries f.block.kind (h f here)) (blocks-bytes fs (λ g i. h g (there i)))
      ∙ sym (gather_append written (block-items f) (gather block-items fs))

  records-bytes : (b : Bool) (rs : List Rec) → joined (map (record_entry wide b) rs) ≡ gather written (map (a_record b) rs)
  records-bytes b [] = refl
  records-bytes b (r ∷ rs) = ap (λ (l : List ℕ). record_entry wide b r ++ l) (records-bytes b rs)

pub map-bytes : (m : Map) → ((f : Final) → In f m.blocks → Bare f.entries f.block.kind) → bytes m ≡ gather (written (wide_code m.size)) (items_of m)
unfolding bytes entries
map-bytes m h =
    let shows : Final → List (List ℕ) = λ f. shown (wide_code m.size) (extent f.block) f.entries f.block.kind in
    ap (λ (l : List ℕ). written (wide_code m.size) (a_head m.size (length m.blocks) (length m.recs) m.energy) ++ l)
    (gather_append (λ (e : List ℕ). e) (gather shows m.blocks) (map (record_entry (wide_code m.size) m.numbered) m.recs)
    ∙ ap₂ (λ (x y : List ℕ). x ++ y) (blocks-bytes (wide_code m.size) m.blocks h) (records-bytes (wide_code m.size) m.numbered m.recs)
    ∙ sym (gather_append (written (wide_code m.size)) (gather block-items m.blocks) (map (a_record m.numbered) m.recs)))

pub blocks-as-items : (m : Map) → ((f : Final) → In f m.blocks → Bare f.entries f.block.kind) → block_bytes m ≡ gather (written (wide_code m.size)) (gather block-items m.blocks)
unfolding block_bytes
blocks-as-items m h = blocks-bytes (wide_code m.size) m.blocks h

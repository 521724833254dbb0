-- What is said of a block: up to its end, and from its type on, by its kind. Assumes nothing.
use mathlib.Core.Path.{◌≡◌, ap}
use Rattle.std.specs.Prelude.{Option, Some}
use mathlib.Core.Bool.{Bool, true, false}
use mathlib.Core.List.{List, [], map, map-map}
use Prim.Native.Nat.{ℕ, ◌+◌, ◌^◌, ◌≤◌, ◌<◌}
use native.Mathlib.Omega.{arith}
use lib.Dec.{ltb}
use lib.ListN.{length}
use borrow.Author.Tests.{le-ltb}
use Rattle.spec.specs.Json.{commas, way_json}
use Rattle.laws.proofs.Branch.{if-false}
use Rattle.lent.specs.Bytes.{num_at, Holds}
use Rattle.layout.specs.Parts.{ROW, row_place}
use Rattle.layout.specs.Rows.{END, BlockIs, tag_at, tag_of, type_at}
use Rattle.layout.specs.declared.row.BlockType.TheVariants.{Terminate, Jump, Jumpi, DynamicJump, DynamicJumpi}
use Rattle.layout.specs.declared.row.BlockType.{BlockType}
use Rattle.initial.specs.Rows.{kind_at, kind_of}
use Rattle.layout.proofs.Types.{by-byte, row-some}
use Rattle.entries.specs.Rows.{chosen, entries_at}
use Rattle.output.specs.declared.Output.{Output}
use Rattle.output.specs.Promises.{PutsFew}
use Rattle.entries.specs.Promises.{PutsBlock}
use Rattle.output.proofs.Puts.{few-join, few-less}
use Rattle.entries.proofs.Blocks.{entries-same}
use Rattle.json_text.specs.Rows.{lined, way_of, way_text, type_for, block_text, front, tail, tail_of}
use Rattle.json_text.specs.Promises.{Sides}
use Rattle.json_text.proofs.Pieces.{block-pieces}
use Rattle.json_text.proofs.Ways.{Says, Names, said}

-- ---- up to its end

pub front-put : {w : List ℕ} (a : ℕ) {e : ℕ} {o o₁ o₂ o₃ : Output} → Holds 2 w (row_place a + END) e
    → Names "{\"id\":" a o o₁ → Names ",\"start\":" a o₁ o₂ → Names ",\"end\":" e o₂ o₃
    → PutsFew 37 o (front a (num_at 2 w (row_place a + END))) o₃
unfolding front
front-put a h p q r = rw (← h.is) (few-less (few-join (few-join p q) r) (omega arith))

-- ---- from its type on

-- the texts of rows, as those of their ways
pub ways-are : (r q : List ℕ) (is : List ℕ) → commas (map way_json (map (way_of r q) is)) ≡ lined (way_text r q) is
unfolding lined way_text
ways-are r q is = ap commas (map-map way_json (way_of r q) is)

-- what is put from there on: the rows that the block at a lists are in it
abbrev pub From : List ℕ → List ℕ → ℕ → ℕ → BlockType → List ℕ
From r q m a t = tail_of (map (way_of r q) (entries_at r m a (tag_of t))) (kind_of t)

-- a dynamic kind's rows
listing : (r : List ℕ) (m a tag : ℕ) → 5 ≤ tag → entries_at r m a tag ≡ chosen r m a tag
unfolding entries_at
listing r m a tag h = if-false (ltb tag 5) [] (chosen r m a tag) (le-ltb tag 5 h)

module _ {t : BlockType} (r q : List ℕ) (m a : ℕ) {o : Output} where
  pub failure-put : {s : Bool} {o' : Output} → t ≡ Terminate s → s ≡ false → Says ",\"type\":\"Terminate\",\"data\":{\"success\":false}}" o o' → PutsFew (2 ^ 36 + 96) o (From r q m a t) o'
  unfolding tail
  failure-put e h p = rw (e, h) (few-less (said p) (omega arith))

  pub success-put : {s : Bool} {o' : Output} → t ≡ Terminate s → s ≡ true → Says ",\"type\":\"Terminate\",\"data\":{\"success\":true}}" o o' → PutsFew (2 ^ 36 + 96) o (From r q m a t) o'
  unfolding tail
  success-put e h p = rw (e, h) (few-less (said p) (omega arith))

  pub jump-put : {to : ℕ} {o₁ o₂ : Output} → t ≡ Jump to → Names ",\"type\":\"Jump\",\"data\":{\"to\":" to o o₁ → Says "}}" o₁ o₂ → PutsFew (2 ^ 36 + 96) o (From r q m a t) o₂
  unfolding tail
  jump-put e p s = rw e (few-less (few-join p (said s)) (omega arith))

  pub jumpi-put : {to other : ℕ} {o₁ o₂ o₃ : Output} → t ≡ Jumpi to other → Names ",\"type\":\"Jumpi\",\"data\":{\"true_to\":" to o o₁
      → Names ",\"false_to\":" other o₁ o₂ → Says "}}" o₂ o₃ → PutsFew (2 ^ 36 + 96) o (From r q m a t) o₃
  unfolding tail
  jumpi-put e p s u = rw e (few-less (few-join (few-join p s) (said u)) (omega arith))

  pub dynamic_jump-put : {o₁ o₂ o₃ : Output} → t ≡ DynamicJump → Says ",\"type\":\"DynamicJump\",\"data\":{\"to\":[" o o₁
      → PutsFew (2 ^ 36) o₁ (lined (way_text r q) (chosen r m a (tag_of t))) o₂ → Says "]}}" o₂ o₃ → PutsFew (2 ^ 36 + 96) o (From r q m a t) o₃
  unfolding tail
  dynamic_jump-put e p s u = rw (e, listing r m a 5 (omega arith), ways-are r q (chosen r m a 5)) (few-less (few-join (few-join (said p) (rw e at s)) (said u)) (omega arith))

  pub dynamic_jumpi-put : {other : ℕ} {o₁ o₂ o₃ o₄ : Output} → t ≡ DynamicJumpi other → Says ",\"type\":\"DynamicJumpi\",\"data\":{\"true_to\":[" o o₁
      → PutsFew (2 ^ 36) o₁ (lined (way_text r q) (chosen r m a 6)) o₂ → Names "],\"false_to\":" other o₂ o₃ → Says "}}" o₃ o₄
      → PutsFew (2 ^ 36 + 96) o (From r q m a t) o₄
  unfolding tail
  dynamic_jumpi-put e p s u v =
      rw (e, listing r m a 6 (omega arith), ways-are r q (chosen r m a 6)) (few-less (few-join (few-join (few-join (said p) s) u) (said v)) (omega arith))

-- ---- the block

module _ {n m a at : ℕ} {w r q : List ℕ} (b : PutsBlock n m w r q a at) where
  pub block_room : row_place a + ROW ≤ length w
  block_room = omega (arith, b.inside, b.blocks.linked.lent.room)

  pub block-small : a < 65536
  block-small = omega (arith, b.inside, b.blocks.linked.lent.short)

module _ {w : List ℕ} {a : ℕ} {x : Option BlockType} {t : BlockType} (h : BlockIs w a x) (e : x ≡ Some t) where
  pub sides : Sides t
  sides = rw (row-some h e).1 at read
    where
      read : Sides (type_at w a)
      read =
          let z : 0 < 65536 = omega arith in
          by-byte (tag_at w a) _ _ Sides (λ _. record { to = z; other = z }) (λ _. record { to = z; other = z }) (λ _. record { to = h.to; other = z })
          (λ _. record { to = h.to; other = h.other }) (λ _. record { to = z; other = z }) (λ _ _. record { to = z; other = h.other }) (row-some h e).0

  pub block-put : (r q : List ℕ) (m : ℕ) {o o₁ o₂ : Output} → PutsFew 37 o (front a (num_at 2 w (row_place a + END))) o₁
      → PutsFew (2 ^ 36 + 96) o₁ (From r q m a t) o₂ → PutsFew (2 ^ 36 + 256) o (block_text w r q m a) o₂
  unfolding block_text
  block-put r q m p s =
      let kind : kind_at w a ≡ kind_of t = ap kind_of (row-some h e).1 in
      rw (block-pieces a (num_at 2 w (row_place a + END)) (type_for (map (way_of r q) (entries_at r m a (tag_at w a))) (kind_at w a)), entries-same h e r m, kind)
      (few-less (few-join p s) (omega arith))

-- a block's text has some byte
pub block-some : (w r q : List ℕ) (m a : ℕ) → 1 ≤ length (block_text w r q m a)
unfolding block_text front
block-some w r q m a =
    rw (block-pieces a (num_at 2 w (row_place a + END)) (type_for (map (way_of r q) (entries_at r m a (tag_at w a))) (kind_at w a))) (omega arith)

-- The blocks read off the rows are the map's, so their text is the definition's. Assumes nothing.
use mathlib.Core.Path.{◌≡◌, refl, sym, ap, ap₂, ◌∙◌}
use mathlib.Core.Bool.{false, not}
use mathlib.Core.List.{List, [], ◌∷◌, map, map-map}
use mathlib.Core.Option.{none, some}
use Prim.Native.Nat.{ℕ, ◌+◌}
use lib.ListN.{length}
use Rattle.spec.specs.Opcodes.{in_mode}
use Rattle.spec.specs.Lists.{if, keep}
use Rattle.spec.specs.Blocks.{Kind, terminate, jump, jumpi, dynamic_jump, dynamic_jumpi, Block}
use Rattle.spec.specs.Search.{Rec, Found, nowhere, found, is_nowhere}
use Rattle.spec.specs.Ending.{Final, entries_of, finals, pruned}
use Rattle.spec.specs.Answer.{prepared}
use Rattle.spec.specs.Json.{Way, Shown, dest_of, way_for, type_of, shown_of, json, text}
use Rattle.layout.specs.Marks.{to_number}
use Rattle.layout.specs.Rows.{tag_at}
use Rattle.laws.proofs.Members.{In, here, there, in-keep}
use Rattle.initial.specs.Rows.{kind_at, block_at}
use Rattle.graph.specs.Border.{Finished}
use Rattle.entries.specs.Rows.{upto, entries_at, kept, kept_below}
use Rattle.entries.specs.Promises.{Ends, map_of}
use Rattle.entries.proofs.Matching as rows
use Rattle.entries.proofs.Matching.{row, rec, entries_for, lists-are}
use Rattle.entries.proofs.Exact.{kept-blocks, kept-lists}
use Rattle.entries.proofs.Blocks.{kept-some}
use Rattle.json_text.specs.Rows.{goal_to, way_of, type_for, shown_at, map_text}

map_same : {A B : Type 0} (f g : A → B) (xs : List A) → ((x : A) → In x xs → f x ≡ g x) → map f xs ≡ map g xs
map_same f g [] e = refl
map_same {A} {B} f g (x ∷ xs) e = ap₂ (λ (y : B) (ys : List B). y ∷ ys) (e x here) (map_same f g xs (λ y i. e y (there i)))

-- ---- a way, by what is shown of a row and of a record, in either family

way : rows.Shown → Way
way s = record { path = s.path; to = if s.goes (some s.to) none }

dest-is : (to : Found) → if (not (is_nowhere to)) (some (to_number to)) none ≡ dest_of to
unfolding if
dest-is nowhere = refl
dest-is (found t s) = refl

way-is : (x : Rec) → way (rec false x) ≡ way_for x
unfolding way
way-is x = rw (dest-is x.to)

type-is : (es : List Rec) (k : Kind) → type_of es k ≡ type_for (map way_for es) k
type-is es (terminate success) = refl
type-is es (jump t) = refl
type-is es (jumpi t f) = refl
type-is es dynamic_jump = refl
type-is es (dynamic_jumpi f) = refl

-- ---- a block, by the records

by-records : List Rec → Block → Shown
by-records recs b =
    record { id = b.id; start = b.start; end = b.end; btype = type_for (map way_for (entries_for b.kind (entries_of b.start recs))) b.kind }

module _ {mode : ℕ} {w r q code : List ℕ} {recs : List Rec} (f : Finished mode code recs w r q) where
  ways-same : (a : ℕ) → (tag_at w a ≡ 0 → ⊥)
      → map way_for (entries_for (kind_at w a) (entries_of a recs)) ≡ map (way_of r q) (entries_at r (length recs) a (tag_at w a))
  unfolding way goal_to
  ways-same a nz =
      let es : List Rec = entries_for (kind_at w a) (entries_of a recs) in
      sym (map_same (λ (x : Rec). way (rec false x)) way_for es (λ x i. way-is x))
      ∙ sym (map-map way (rec false) es)
      ∙ sym (ap (map way) (lists-are false f a nz))
      ∙ map-map way (row false r q) (entries_at r (length recs) a (tag_at w a))

  row-shown : (a : ℕ) → (tag_at w a ≡ 0 → ⊥) → by-records recs (block_at w a) ≡ shown_at w r q (length recs) a
  unfolding by-records
  row-shown a nz = rw (ways-same a nz)

  final-shown : (x : Final) → In x (pruned (finals (prepared (in_mode mode) code) recs)) → shown_of x ≡ by-records recs x.block
  unfolding by-records
  final-shown x i = rw (kept-lists f x i, type-is (entries_for x.block.kind (entries_of x.block.start recs)) x.block.kind)

  shown-same : map shown_of (pruned (finals (prepared (in_mode mode) code) recs)) ≡ map (shown_at w r q (length recs)) (kept_below w (length code) (length code + 1))
  unfolding kept_below
  shown-same =
      let all : List Final = pruned (finals (prepared (in_mode mode) code) recs) in
      let below : List ℕ = keep (kept w (length code)) (upto 0 (length code + 1)) in
      map_same shown_of (λ (x : Final). by-records recs x.block) all final-shown
      ∙ sym (map-map (by-records recs) (λ (x : Final). x.block) all) ∙ ap (map (by-records recs)) (kept-blocks f) ∙ map-map (by-records recs) (block_at w) below
      ∙ map_same (λ (a : ℕ). by-records recs (block_at w a)) (shown_at w r q (length recs)) below
      (λ a i. row-shown a (kept-some w (length code) a (in-keep (kept w (length code)) (upto 0 (length code + 1)) i).0))

  text_same : (energy choice : ℕ) → text (map_of mode code recs energy choice) ≡ map_text w r q (length code) (length recs)
  unfolding text map_text
  text_same energy choice = ap json shown-same

pub text_is : {mode : ℕ} {w r q code : List ℕ} {recs : List Rec} {n m : ℕ} → Ends w r q n m mode code recs → (energy choice : ℕ) → text (map_of mode code recs energy choice) ≡ map_text w r q n m
text_is e energy choice = rw (← e.size, ← e.count) (text_same e.finished energy choice)

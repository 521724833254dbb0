-- The text in the pieces that are put, one after the other: a way, a block up to its end, each type, and the whole. Assumes nothing.
use mathlib.Core.Path.{◌≡◌, refl, ap, ◌∙◌}
use mathlib.Core.Bool.{true, false}
use mathlib.Core.List.{List, [], ◌++◌, map, map-map, append_assoc, append-nil}
use Prim.Native.Nat.{ℕ, ◌+◌}
use Rattle.spec.specs.Lists.{gather}
use Rattle.spec.specs.Json.{Way, BlockType, Terminate, Jump, Jumpi, DynamicJump, DynamicJumpi, ascii, decimal, nullable, commas, array, way_json, type_json, block_json, json}
use Rattle.entries.specs.Rows.{kept_below}
use Rattle.json_text.specs.Rows.{lined, goal_text, shown_at, block_text, front, tail, map_text}

-- ---- a way

-- two fields of an object, the first one's value in brackets
two : (o k l v r s j n c : List ℕ) → o ++ ((k ++ (l ++ v ++ r)) ++ ((s ++ (j ++ n)) ++ [])) ++ c ≡ ((o ++ k ++ l) ++ v) ++ ((r ++ s ++ j) ++ n ++ c)
two o k l v r s j n c = simp (append_assoc, append-nil)

pub way-pieces : (w : Way) → way_json w ≡ ascii "{\"path\":[" ++ commas (map decimal w.path) ++ goal_text w.to
unfolding way_json array goal_text
way-pieces w =
    two (ascii "{") (ascii "\"path\":") (ascii "[") (commas (map decimal w.path)) (ascii "]") (ascii ",") (ascii "\"to\":") (nullable w.to) (ascii "}")

-- ---- a block

three : (o k a s j b h e t c : List ℕ)
    → o ++ ((k ++ a) ++ ((s ++ (j ++ b)) ++ ((s ++ (h ++ e)) ++ t))) ++ c ≡ ((o ++ k) ++ a) ++ ((s ++ j) ++ b) ++ ((s ++ h) ++ e) ++ (t ++ c)
three o k a s j b h e t c = simp append_assoc

-- the type's fields, to the block's end
rest : BlockType → List ℕ
rest t = gather (λ (y : List ℕ). ascii "," ++ y) (type_json t) ++ ascii "}"

-- the type, and one field or two of its data
one_field : (s t d o k v c : List ℕ) → ((s ++ t) ++ ((s ++ (d ++ (o ++ ((k ++ v) ++ []) ++ c))) ++ [])) ++ c ≡ ((s ++ t ++ s ++ d ++ o ++ k) ++ v) ++ (c ++ c)
one_field s t d o k v c = simp (append_assoc, append-nil)

two_fields : (s t d o k v j u c : List ℕ)
    → ((s ++ t) ++ ((s ++ (d ++ (o ++ ((k ++ v) ++ ((s ++ (j ++ u)) ++ [])) ++ c))) ++ [])) ++ c ≡ ((s ++ t ++ s ++ d ++ o ++ k) ++ v) ++ ((s ++ j) ++ u) ++ (c ++ c)
two_fields s t d o k v j u c = simp (append_assoc, append-nil)

-- a value in brackets
in-brackets : (x l v r y : List ℕ) → (x ++ (l ++ v ++ r)) ++ y ≡ ((x ++ l) ++ v) ++ (r ++ y)
in-brackets x l v r y = simp append_assoc

tail-pieces : (t : BlockType) → rest t ≡ tail t
unfolding rest tail array
tail-pieces (Terminate true) = refl
tail-pieces (Terminate false) = refl
tail-pieces (Jump t) = one_field (ascii ",") (ascii "\"type\":\"Jump\"") (ascii "\"data\":") (ascii "{") (ascii "\"to\":") (decimal t) (ascii "}")
tail-pieces (Jumpi t f) =
    two_fields (ascii ",") (ascii "\"type\":\"Jumpi\"") (ascii "\"data\":") (ascii "{") (ascii "\"true_to\":") (decimal t) (ascii "\"false_to\":") (decimal f) (ascii "}")
tail-pieces (DynamicJump ws) =
    one_field (ascii ",") (ascii "\"type\":\"DynamicJump\"") (ascii "\"data\":") (ascii "{") (ascii "\"to\":") (array (map way_json ws)) (ascii "}")
    ∙ in-brackets (ascii ",\"type\":\"DynamicJump\",\"data\":{\"to\":") (ascii "[") (commas (map way_json ws)) (ascii "]") (ascii "}}")
tail-pieces (DynamicJumpi ws f) =
    two_fields (ascii ",") (ascii "\"type\":\"DynamicJumpi\"") (ascii "\"data\":") (ascii "{") (ascii "\"true_to\":") (array (map way_json ws)) (ascii "\"false_to\":") (decimal f) (ascii "}")
    ∙ ap (λ (l : List ℕ). l ++ ascii "}}")
    (in-brackets (ascii ",\"type\":\"DynamicJumpi\",\"data\":{\"true_to\":") (ascii "[") (commas (map way_json ws)) (ascii "]") (ascii ",\"false_to\":" ++ decimal f))

pub block-pieces : (a end : ℕ) (t : BlockType) → block_json (record { id = a; start = a; end = end; btype = t }) ≡ front a end ++ tail t
unfolding block_json front rest
block-pieces a end t =
    three (ascii "{") (ascii "\"id\":") (decimal a) (ascii ",") (ascii "\"start\":") (decimal a) (ascii "\"end\":") (decimal end)
    (gather (λ (y : List ℕ). ascii "," ++ y) (type_json t)) (ascii "}")
    ∙ ap (λ (l : List ℕ). front a end ++ l) (tail-pieces t)

-- ---- the whole

pub map-pieces : (w r q : List ℕ) (n m : ℕ) → map_text w r q n m ≡ ascii "[" ++ lined (block_text w r q m) (kept_below w n (n + 1)) ++ ascii "]"
unfolding map_text json array lined block_text
map-pieces w r q n m = ap (λ (l : List (List ℕ)). ascii "[" ++ commas l ++ ascii "]") (map-map block_json (shown_at w r q m) (kept_below w n (n + 1)))

-- Document 01, "Lent buffers, and what comes back": the output's entries. Assumes nothing.
use Rattle.std.specs.Prelude.{ℕ, Bool, true, false, List, [], ◌∷◌, ◌++◌, map, ltb, length}
use Rattle.spec.specs.Lists.{gather, little}
use Rattle.spec.specs.Blocks.{Kind, terminate, jump, jumpi, dynamic_jump, dynamic_jumpi, Block}
use Rattle.spec.specs.Search.{Found, nowhere, found, Rec}
use Rattle.spec.specs.Ending.{Final}

-- a whole answer: the code's length, the energy used, the blocks and the record, which is written with its numbers or without
pub record Map : Type 0 where
  pub size : ℕ
  pub energy : ℕ
  pub blocks : List Final
  pub recs : List Rec
  pub numbered : Bool

-- "Output entries: length of body (4 bytes), kind (2), body; little-endian."
abbrev pub item : ℕ → List ℕ → List ℕ
item kind body = little 4 (length body) ++ little 2 kind ++ body

-- "code over 24,576 bytes writes kinds 10, 11 and 12 in place of 7, 8 and 9" (document 02, No. 10)
abbrev pub wide_code : ℕ → Bool
wide_code n = ltb 24576 n

abbrev pub way_kind : Bool → ℕ
way_kind false = 7
way_kind true = 10

abbrev pub record_kind : Bool → ℕ
record_kind false = 8
record_kind true = 11

abbrev pub numbered_kind : Bool → ℕ
numbered_kind false = 9
numbered_kind true = 12

-- "a missing destination is 0x8000"; in wide code "a missing destination is 0xFFFF"
abbrev pub absent : Bool → ℕ
absent false = 0x8000
absent true = 0xFFFF

abbrev pub destination : Bool → Found → ℕ
destination wide nowhere = absent wide
destination wide (found t s) = t

abbrev pub flag : Bool → ℕ
flag true = 1
flag false = 0

abbrev pub path_bytes : List ℕ → List ℕ
path_bytes p = little 4 (length p) ++ gather (little 2) p

-- "Kind 1 head: code length (2), block count, record count, energy."
abbrev pub head : Map → List ℕ
head m = item 1 (little 2 m.size ++ little 2 (length m.blocks) ++ little 4 (length m.recs) ++ little 4 m.energy)

-- "7 entry of the block before it: to, path length, path.", or 10
abbrev pub path_entry : Bool → Rec → List ℕ
path_entry wide r = item (way_kind wide) (little 2 (destination wide r.to) ++ path_bytes r.path)

-- "2 Terminate: start, end, success (1 byte). 3 Jump: start, end, to. 4 Jumpi: start, end, true, false. 5 DynamicJump: start, end, count.
-- 6 DynamicJumpi: start, end, false, count.", "each with its 7s"
abbrev pub shown : Bool → List ℕ → List Rec → Kind → List (List ℕ)
shown wide extent es (terminate success) = item 2 (extent ++ (flag success ∷ [])) ∷ []
shown wide extent es (jump t) = item 3 (extent ++ little 2 t) ∷ []
shown wide extent es (jumpi t f) = item 4 (extent ++ little 2 t ++ little 2 f) ∷ []
shown wide extent es dynamic_jump = item 5 (extent ++ little 4 (length es)) ∷ map (path_entry wide) es
shown wide extent es (dynamic_jumpi f) = item 6 (extent ++ little 2 f ++ little 4 (length es)) ∷ map (path_entry wide) es

abbrev pub extent : Block → List ℕ
extent b = little 2 b.start ++ little 2 b.end

abbrev pub block_entries : Map → List (List ℕ)
block_entries m = gather (λ (f : Final). shown (wide_code m.size) (extent f.block) f.entries f.block.kind) m.blocks

-- "8 record: start, to, path length, path."; numbered, "kind 9: start, to, energy, path length, path"; or 11 and 12
abbrev pub record_entry : Bool → Bool → Rec → List ℕ
record_entry wide false r = item (record_kind wide) (little 2 r.start ++ little 2 (destination wide r.to) ++ path_bytes r.path)
record_entry wide true r = item (numbered_kind wide) (little 2 r.start ++ little 2 (destination wide r.to) ++ little 4 r.energy ++ path_bytes r.path)

-- "Order: head, blocks by start each with its 7s, records as found."
unfoldable pub entries : Map → List (List ℕ)
entries m = head m ∷ block_entries m ++ map (record_entry (wide_code m.size) m.numbered) m.recs

abbrev pub joined : List (List ℕ) → List ℕ
joined = gather (λ (e : List ℕ). e)

-- the bytes that the output then begins with
unfoldable pub bytes : Map → List ℕ
bytes m = joined (entries m)

-- the part of them that the Rust's answer speaks of
unfoldable pub block_bytes : Map → List ℕ
block_bytes m = joined (block_entries m)

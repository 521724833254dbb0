-- Document 02, No. 1: the text "must name the same blocks, paths and destinations as the entries, and no other; two answers give the same text exactly when
-- their block entries agree". Assumes nothing.
use Prim.Native.Nat.{ℕ}
use mathlib.Core.Path.{◌≡◌, refl, sym, ap, ap₂, ◌∙◌}
use mathlib.Core.Logic.{◌↔◌}
use mathlib.Core.Bool.{Bool}
use mathlib.Core.List.{List, [], ◌∷◌, ◌++◌, map}
use mathlib.Core.Option.{Option, none, some}
use lib.ListN.{length, length-map}
use Rattle.spec.specs.Lists.{gather, little}
use Rattle.spec.specs.Opcodes.{Rules}
use Rattle.spec.specs.Blocks.{Kind, terminate, jump, jumpi, dynamic_jump, dynamic_jumpi}
use Rattle.spec.specs.Search.{Found, nowhere, found, Rec}
use Rattle.spec.specs.Ending.{Final}
use Rattle.spec.specs.Rooms.{Lent}
use Rattle.spec.specs.Entries.{wide_code, way_kind, Map, item, destination, flag, path_bytes, path_entry, shown, extent, joined, block_bytes, absent}
use Rattle.spec.specs.Answer.{answered, answer}
use Rattle.spec.specs.Reader.{pieces, items, finals_in, stateless, plain_rec, plain_final}
use Rattle.spec.specs.Json.{Way, BlockType, Terminate, Jump, Jumpi, DynamicJump, DynamicJumpi, Shown, dest_of, way_for, type_of, shown_of, listed, json, text}
use Rattle.theorems.proofs.Counts.{Lawful}
use Rattle.theorems.proofs.JsonReader.{blocks-in}
use Rattle.theorems.proofs.JsonRead.{text-reads}
use Rattle.theorems.proofs.ReaderRead.{blocks-written}
use Rattle.theorems.proofs.ReaderAnswered.{answered-fits}

-- ---- what the entries say, by the reader of No. 2

unfoldable pub blocks-listed : Bool → List ℕ → List Shown
blocks-listed wide b = map shown_of (finals_in (items wide (pieces b 0 0)))

ways-plain : (es : List Rec) → map way_for (map plain_rec es) ≡ map way_for es
ways-plain [] = refl
ways-plain (r ∷ es) = ap₂ {C = List Way} (λ (t : Option ℕ) (l : List Way). record { path = r.path; to = t } ∷ l) (goal r.to) (ways-plain es)
  where
    goal : (t : Found) → dest_of (stateless t) ≡ dest_of t
    goal nowhere = refl
    goal (found t s) = refl

type-plain : (es : List Rec) (k : Kind) → type_of (map plain_rec es) k ≡ type_of es k
type-plain es (terminate b) = refl
type-plain es (jump t) = refl
type-plain es (jumpi t f) = refl
type-plain es dynamic_jump = rw (ways-plain es)
type-plain es (dynamic_jumpi f) = rw (ways-plain es)

shown-plain : (fs : List Final) → map shown_of (map plain_final fs) ≡ map shown_of fs
shown-plain [] = refl
shown-plain (f ∷ fs) = rw (type-plain f.entries f.block.kind, shown-plain fs)

-- ---- what the entries are of what the text shows

module _ (wide : Bool) where
  abbrev final-entries : Final → List (List ℕ)
  final-entries f = shown wide (extent f.block) f.entries f.block.kind

  abbrev goal-number : Option ℕ → ℕ
  goal-number none = absent wide
  goal-number (some t) = t

  abbrev way-bytes : Way → List ℕ
  way-bytes w = item (way_kind wide) (little 2 (goal-number w.to) ++ path_bytes w.path)

  abbrev type-bytes : List ℕ → BlockType → List (List ℕ)
  type-bytes e (Terminate b) = item 2 (e ++ (flag b ∷ [])) ∷ []
  type-bytes e (Jump t) = item 3 (e ++ little 2 t) ∷ []
  type-bytes e (Jumpi t f) = item 4 (e ++ little 2 t ++ little 2 f) ∷ []
  type-bytes e (DynamicJump ws) = item 5 (e ++ little 4 (length ws)) ∷ map way-bytes ws
  type-bytes e (DynamicJumpi ws f) = item 6 (e ++ little 2 f ++ little 4 (length ws)) ∷ map way-bytes ws

  shown-bytes : Shown → List (List ℕ)
  shown-bytes b = type-bytes (little 2 b.start ++ little 2 b.end) b.btype

  goal-same : (to : Found) → goal-number (dest_of to) ≡ destination wide to
  goal-same nowhere = refl
  goal-same (found t s) = refl

  ways-same : (es : List Rec) → map (path_entry wide) es ≡ map way-bytes (map way_for es)
  ways-same [] = refl
  ways-same (r ∷ es) = rw (goal-same r.to, ways-same es)

  kind-same : (e : List ℕ) (es : List Rec) (k : Kind) → shown wide e es k ≡ type-bytes e (type_of es k)
  kind-same e es (terminate b) = refl
  kind-same e es (jump t) = refl
  kind-same e es (jumpi t f) = refl
  kind-same e es dynamic_jump = rw (length-map, ways-same es)
  kind-same e es (dynamic_jumpi f) = rw (length-map, ways-same es)

  all_same : (fs : List Final) → gather final-entries fs ≡ gather shown-bytes (map shown_of fs)
  unfolding shown-bytes
  all_same [] = refl
  all_same (f ∷ fs) = ap₂ {C = List (List ℕ)} (λ (x y : List (List ℕ)). x ++ y) (kind-same (extent f.block) f.entries f.block.kind) (all_same fs)

-- the block entries are those of the blocks shown
block_bytes-shown : (m : Map) → block_bytes m ≡ joined (gather (shown-bytes (wide_code m.size)) (listed m))
unfolding block_bytes
block_bytes-shown m = ap joined (all_same (wide_code m.size) m.blocks)

-- ---- the laws

-- Reading the text of any map gives exactly its blocks.
pub text-names : (m : Map) → blocks-in (text m) ≡ some (listed m)
unfolding text
text-names m = text-reads (listed m)

-- Two maps, of any codes, give the same text exactly when they show the same blocks.
pub same_blocks : (a b : Map) → (text a ≡ text b) ↔ (listed a ≡ listed b)
unfolding text
same_blocks a b = (shown, ap json)
  where
    shown : text a ≡ text b → listed a ≡ listed b
    shown q = let both : some (listed a) ≡ some (listed b) = sym (text-names a) ∙ ap blocks-in q ∙ text-names b in cc

-- of a run that is answered; where a call is, its run is: `gave-text`
module _ (rules : Rules) (ok : Lawful rules.row) (l : Lent) (limit choice : ℕ) (code : List ℕ) (a : Map) (e : answer rules l limit choice code ≡ answered a) where
  -- Reading the block entries of an answer gives exactly its blocks.
  pub entries-name : blocks-listed (wide_code a.size) (block_bytes a) ≡ listed a
  unfolding blocks-listed
  entries-name = ap (map shown_of) (blocks-written a (answered-fits rules ok l limit choice code a e)) ∙ shown-plain a.blocks

  -- The text names the same blocks, paths and destinations as the entries, and no other.
  pub same-named : blocks-in (text a) ≡ some (blocks-listed (wide_code a.size) (block_bytes a))
  same-named = text-names a ∙ ap some (sym entries-name)

-- Two answers, of any limits, choices, rooms and modes, and of any codes that are both of at most 24,576 bytes or both longer, give the same text exactly when
-- their block entries agree. (Of one of each the same blocks have the same text, by `same_blocks`, and 10 for 7.)
pub same_text : (rules others : Rules) → Lawful rules.row → Lawful others.row → (l k : Lent) (m n choice other : ℕ) (c d : List ℕ) (a b : Map)
    → answer rules l m choice c ≡ answered a → answer others k n other d ≡ answered b → wide_code a.size ≡ wide_code b.size
    → (text a ≡ text b) ↔ (block_bytes a ≡ block_bytes b)
unfolding text
same_text rules others ok fine l k m n choice other c d a b e f family = (agree, same)
  where
    agree : text a ≡ text b → block_bytes a ≡ block_bytes b
    agree q =
        block_bytes-shown a ∙ ap₂ (λ (wide : Bool) (bs : List Shown). joined (gather (shown-bytes wide) bs)) family ((same_blocks a b).0 q)
        ∙ sym (block_bytes-shown b)

    same : block_bytes a ≡ block_bytes b → text a ≡ text b
    same q =
        ap json (sym (entries-name rules ok l m choice c a e) ∙ ap₂ blocks-listed family q ∙ entries-name others fine k n other d b f)

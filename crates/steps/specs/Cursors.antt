-- The parents of a block, one after the other, as numbers: below 0x10000 a link to a direct parent, else 0x10000 and a found one's record; 0 is the end.
-- Assumes nothing.
use Rattle.std.specs.Prelude.{◌≡◌, ℕ, suc, ◌+◌, ◌-◌, ◌*◌, ◌≤◌, ◌<◌, Bool, true, ◌&&◌, ◌||◌, List, [], ◌∷◌, ◌++◌, map, eqb, ltb, leb, length, drop}
use Rattle.spec.specs.Opcodes.{in_mode}
use Rattle.spec.specs.Lists.{if, mem, last_of, keep}
use Rattle.spec.specs.Walk.{instructions}
use Rattle.spec.specs.Stacks.{Stack, run}
use Rattle.spec.specs.Search.{Parent, found, Rec, dests, found_parents}
use Rattle.spec.specs.Rooms.{or_else, longest}
use Rattle.laws.specs.Lists.{In, Rising}
use Rattle.lent.specs.Bytes.{num_at}
use Rattle.layout.specs.Fields.{first_found_at}
use Rattle.layout.specs.Records as records
use Rattle.layout.specs.Rows as rows
use Rattle.layout.specs.Parts.{ROW, row_place, list_place}
use Rattle.layout.specs.Records.{RECORD, record_place, end_of, kept_of}
use Rattle.layout.specs.Rows.{start_of}
use Rattle.state.specs.Cells.{stack_at}
use Rattle.tables.specs.Records.{path_at}
use Rattle.parents.specs.Links.{Parents, parent_of, Comes}
use Rattle.reachable.specs.Edges.{sides_at}

-- ---- the numbers

-- the number of a found parent, by the link to it, if it was there when the level opened
unfoldable pub clipped : ℕ → ℕ → ℕ
clipped opened link = if (ltb 0 link && leb link opened) (0x10000 + (link - 1)) 0

-- a link, if it is no higher than the highest
unfoldable pub up_to : ℕ → ℕ → ℕ
up_to high link = if (leb link high) link 0

unfoldable pub first_cursor : List ℕ → ℕ → ℕ → ℕ → ℕ → ℕ
first_cursor w n b opened high = or_else (up_to high (rows.first_at w b)) (clipped opened (first_found_at w n b))

unfoldable pub next_cursor : List ℕ → List ℕ → ℕ → ℕ → ℕ → ℕ → ℕ → ℕ
next_cursor w r n b opened high at =
    if (ltb at 0x10000) (or_else (up_to high (rows.next_at w b at)) (clipped opened (first_found_at w n b))) (clipped opened (records.next_at r (at - 0x10000)))

-- ---- the parent that a number stands for: its path, its last block, and its stack

unfoldable pub path_cursor : List ℕ → List ℕ → ℕ → List ℕ
path_cursor r q at = if (ltb at 0x10000) (start_of at ∷ []) (path_at r q (at - 0x10000))

unfoldable pub last_cursor : List ℕ → List ℕ → ℕ → ℕ
last_cursor r q at = if (ltb at 0x10000) (start_of at) (num_at 2 q (2 * (end_of r (suc (at - 0x10000)) - 1)))

unfoldable pub stack_cursor : ℕ → List ℕ → List ℕ → List ℕ → ℕ → ℕ → Stack
stack_cursor mode code r s room at =
    if (ltb at 0x10000) (run (in_mode mode) code (instructions code) (start_of at)).stack
    (stack_at s (9 * (room - kept_of r (suc (at - 0x10000)))) (kept_of r (suc (at - 0x10000)) - kept_of r (at - 0x10000)))

-- ---- what the functions ask

-- the rows of an address b lie in W
pub record AtBlock (w : List ℕ) (n b : ℕ) : Type 0 where
  pub short : n ≤ longest
  pub inside : b ≤ n
  pub room : list_place n ≤ length w

-- a parent of b is there: a direct one's row in W, from which a link leads further up, or a found one's in R
pub record Cursor (w r : List ℕ) (n b at : ℕ) : Type 0 where
  pub some : 1 ≤ at
  pub direct : at < 0x10000 → row_place (start_of at) + ROW ≤ length w
  pub rises : at < 0x10000 → (rows.next_at w b at ≡ 0 → ⊥) → at < rows.next_at w b at
  pub found : 0x10000 ≤ at → record_place (at - 0x10000) + RECORD ≤ length r

-- and the last address of a found one's path in Q
pub record Asks (r q : List ℕ) (at : ℕ) : Type 0 where
  pub some : 1 ≤ at
  pub row : 0x10000 ≤ at → record_place (at - 0x10000) + RECORD ≤ length r
  pub path : 0x10000 ≤ at → (1 ≤ end_of r (suc (at - 0x10000))) × (2 * end_of r (suc (at - 0x10000)) ≤ length q)

-- ---- what is left of a block's parents, with the records as they were when the level opened

-- "those then stored for its block", found ones
abbrev pub found_to : ℕ → List Rec → List Parent
found_to b recs = keep (λ (p : Parent). eqb b p.to) (found_parents recs)

-- "whose path's last block is then reached"
abbrev pub live : List ℕ → List Rec → Parent → Bool
live reached recs p = mem (last_of p.path) reached || mem (last_of p.path) (dests recs)

-- record i leads to b
pub record LeadsTo (b : ℕ) (recs : List Rec) (i : ℕ) : Type 0 where
  pub rec : Rec
  pub rest : List Rec
  pub is : drop i recs ≡ rec ∷ rest
  pub state : Stack
  pub to : rec.to ≡ found b state

-- a direct parent of b, by its start: b is one of its block's static sides
pub record DirectParent (code w : List ℕ) (n b a : ℕ) : Type 0 where
  pub comes : Comes code a
  pub inside : a ≤ n
  pub side : mem b (sides_at w a) ≡ true

-- the starts of direct parents rise, and so do the links to them: a level's loop ends
pub data Left (mode : ℕ) (code w : List ℕ) (n b : ℕ) (recs : List Rec) : ℕ → List Parent → Type 0 where
  none_left : Left mode code w n b recs 0 []
  direct_left : {link lo : ℕ} {starts : List ℕ} → 1 ≤ link → Parents w n b link starts → Rising lo starts → ((a : ℕ) → In a starts → DirectParent code w n b a)
      → Left mode code w n b recs link (map (parent_of mode code b) starts ++ found_to b recs)
  found_left : {i : ℕ} → LeadsTo b recs i → Left mode code w n b recs (0x10000 + i) (found_to b (drop i recs))

-- Document 02, No. 1: a reader of the text, total on any bytes: the blocks that it tells of, or that it is no such text. Assumes nothing.
use Prim.Native.Nat.{ℕ, zero, suc, ◌+◌, ◌*◌, ◌-◌}
use mathlib.Core.Bool.{Bool, true, false}
use mathlib.Core.List.{List, [], ◌∷◌}
use mathlib.Core.Option.{Option, none, some}
use lib.ListN.{length}
use Rattle.spec.specs.Lists.{if, within}
use Rattle.spec.specs.Json.{Way, BlockType, Terminate, Jump, Jumpi, DynamicJump, DynamicJumpi, Shown}
use Rattle.theorems.proofs.Readers.{Reader, ◌>>=◌, gives, either, skip, whole}

abbrev pub digit? : ℕ → Bool
digit? = within 0x30 0x39

-- a digit stands first
abbrev pub digit-first? : List ℕ → Bool
digit-first? [] = false
digit-first? (c ∷ s) = digit? c

-- the digits that stand first, behind the number n
abbrev pub reads_on : ℕ → Reader ℕ
reads_on n [] = some (n, [])
reads_on n (c ∷ s) = if (digit? c) (reads_on (10 * n + (c - 0x30)) s) (some (n, c ∷ s))

unfoldable pub number : Reader ℕ
number s = if (digit-first? s) (reads_on 0 s) none

unfoldable pub destination : Reader (Option ℕ)
destination =
    either
    (do
      n ← number
      gives (some n))
    (do
      _ ← skip "null"
      gives none)

abbrev pub success : Reader Bool
success =
    either
    (do
      _ ← skip "true"
      gives true)
    (do
      _ ← skip "false"
      gives false)

module _ {A : Type 0} (p : Reader A) where
  -- values with commas between, up to the bracket; the number bounds how many
  abbrev pub values : ℕ → Reader (List A)
  values zero = λ s. none
  values (suc k) = do
    x ← p
    either
        (do
          _ ← skip ","
          xs ← values k
          gives (x ∷ xs))
        (do
          _ ← skip "]"
          gives (x ∷ []))

  abbrev pub some-values : Reader (List A)
  some-values = do
    _ ← skip "["
    λ s. values (length s) s

  unfoldable pub list : Reader (List A)
  list =
      either some-values
      (do
        _ ← skip "[]"
        gives [])

unfoldable pub way : Reader Way
way = do
  _ ← skip "{\"path\":"
  path ← list number
  _ ← skip ",\"to\":"
  to ← destination
  _ ← skip "}"
  gives (record { path = path; to = to })

abbrev pub terminate-data : Reader BlockType
terminate-data = do
  _ ← skip "Terminate\",\"data\":{\"success\":"
  b ← success
  gives (Terminate b)

abbrev pub jump-data : Reader BlockType
jump-data = do
  _ ← skip "Jump\",\"data\":{\"to\":"
  t ← number
  gives (Jump t)

abbrev pub jumpi-data : Reader BlockType
jumpi-data = do
  _ ← skip "Jumpi\",\"data\":{\"true_to\":"
  t ← number
  _ ← skip ",\"false_to\":"
  f ← number
  gives (Jumpi t f)

abbrev pub dynamic_jump-data : Reader BlockType
dynamic_jump-data = do
  _ ← skip "DynamicJump\",\"data\":{\"to\":"
  ws ← list way
  gives (DynamicJump ws)

abbrev pub dynamic_jumpi-data : Reader BlockType
dynamic_jumpi-data = do
  _ ← skip "DynamicJumpi\",\"data\":{\"true_to\":"
  ws ← list way
  _ ← skip ",\"false_to\":"
  f ← number
  gives (DynamicJumpi ws f)

unfoldable pub btype : Reader BlockType
btype = do
  _ ← skip ",\"type\":\""
  either terminate-data (either jump-data (either jumpi-data (either dynamic_jump-data dynamic_jumpi-data)))

unfoldable pub block : Reader Shown
block = do
  _ ← skip "{\"id\":"
  id ← number
  _ ← skip ",\"start\":"
  start ← number
  _ ← skip ",\"end\":"
  end ← number
  b ← btype
  _ ← skip "}}"
  gives (record { id = id; start = start; end = end; btype = b })

-- what the text says
unfoldable pub blocks-in : List ℕ → Option (List Shown)
blocks-in s = whole (list block s)

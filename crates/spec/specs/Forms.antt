-- Document 01, "Output entries", read from the bytes: an entry's leading bytes, the kinds, and what each kind says of its body. Assumes nothing.
use Rattle.std.specs.Prelude.{ℕ, ◌+◌, ◌*◌, Bool, true, false, List, eqb, take, drop}
use Rattle.std.proofs.Math.Option.{Option, none, some}
use Rattle.spec.specs.Lists.{if, number}
use Rattle.spec.specs.Entries.{wide_code, way_kind, record_kind, numbered_kind, absent}

-- the number in the k bytes from `at` on
abbrev pub field : ℕ → ℕ → List ℕ → ℕ
field at k b = number (take k (drop at b))

-- "length of body (4 bytes), kind (2), body; little-endian": of the entry that bytes begin with
abbrev pub announced : List ℕ → ℕ
announced b = field 0 4 b

pub record Entry : Type 0 where
  pub kind : ℕ
  pub body : List ℕ

abbrev pub entry : List ℕ → Entry
entry b = record { kind = field 4 2 b; body = take (announced b) (drop 6 b) }

-- what stands behind it
abbrev pub behind : List ℕ → List ℕ
behind b = drop (6 + announced b) b

-- ---- the kinds

pub data Ends : Type 0 where
  TERMINATE JUMP JUMPI DYNAMIC-JUMP DYNAMIC-JUMPI : Ends

-- A WAY is the "entry of the block before it", with the number that stands for a missing destination; a RECORD with where its path length stands, and that number.
pub data Sort : Type 0 where
  HEAD UNKNOWN : Sort
  BLOCK : Ends → Sort
  WAY : ℕ → Sort
  RECORD : ℕ → ℕ → Sort

-- the table of the kinds of one family: a kind of the other is as a kind that is not known
unfoldable pub sort : Bool → ℕ → Sort
sort wide k =
    if (eqb k 1) HEAD
    (if (eqb k 2) (BLOCK TERMINATE)
    (if (eqb k 3) (BLOCK JUMP)
    (if (eqb k 4) (BLOCK JUMPI)
    (if (eqb k 5) (BLOCK DYNAMIC-JUMP)
    (if (eqb k 6) (BLOCK DYNAMIC-JUMPI)
    (if (eqb k (way_kind wide)) (WAY (absent wide))
    (if (eqb k (record_kind wide)) (RECORD 4 (absent wide))
    (if (eqb k (numbered_kind wide)) (RECORD 8 (absent wide)) UNKNOWN))))))))

-- how long the kind says that the body is; 7, 8 and 9 by the path length that it announces
abbrev pub long : Sort → List ℕ → ℕ
long HEAD body = 12
long (BLOCK TERMINATE) body = 5
long (BLOCK JUMP) body = 6
long (BLOCK JUMPI) body = 8
long (BLOCK DYNAMIC-JUMP) body = 8
long (BLOCK DYNAMIC-JUMPI) body = 10
long (WAY missing) body = 6 + 2 * field 2 4 body
long (RECORD at missing) body = at + 4 + 2 * field at 4 body
long UNKNOWN body = 0

abbrev pub dynamic : Ends → Bool
dynamic TERMINATE = false
dynamic JUMP = false
dynamic JUMPI = false
dynamic DYNAMIC-JUMP = true
dynamic DYNAMIC-JUMPI = true

-- the count of 7s of a block; none but dynamic ones have one
abbrev pub owes : Sort → List ℕ → Option ℕ
owes HEAD body = none
owes (WAY missing) body = none
owes (RECORD at missing) body = none
owes UNKNOWN body = none
owes (BLOCK TERMINATE) body = none
owes (BLOCK JUMP) body = none
owes (BLOCK JUMPI) body = none
owes (BLOCK DYNAMIC-JUMP) body = some (field 4 4 body)
owes (BLOCK DYNAMIC-JUMPI) body = some (field 6 4 body)

-- where a block starts
abbrev pub start_in : List ℕ → ℕ
start_in body = field 0 2 body

-- the family of a map's kinds, by the code length behind the 6 leading bytes of its head: "the reader refuses a map with a kind of the family that is not its
-- code length's". What does not begin with a head is bad at 0 in either.
abbrev pub wide_in : List ℕ → Bool
wide_in b = wide_code (field 6 2 b)

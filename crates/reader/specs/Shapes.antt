-- What stands at an offset of the bytes, as the code has it: read off the definitions' forms. Assumes nothing.
use Rattle.std.specs.Prelude.{ℕ, ◌+◌, ◌*◌, Bool, true, false, List, eqb, leb, length, take, drop, Option, Some, None, is_some, unwrap_or, Result, Ok, Err}
use Rattle.spec.specs.Lists.{if}
use Rattle.spec.specs.Blocks.{block, terminate, jump, jumpi, dynamic_jump, dynamic_jumpi}
use Rattle.spec.specs.Forms.{wide_in, field, announced, entry, Sort, HEAD, BLOCK, WAY, RECORD, UNKNOWN, TERMINATE, JUMP, JUMPI, DYNAMIC-JUMP, DYNAMIC-JUMPI, sort, long}
use Rattle.spec.specs.Reader.{Piece, pieces, Item, a_head, a_block, a_way, a_record, no_item, addresses}
use Rattle.reader.specs.Dests.{goes_to, found_of}
use Rattle.reader.specs.declared.lead.Lead.{Lead}
use Rattle.reader.specs.declared.entry.Entry.{Entry}
use Rattle.reader.specs.declared.entry.Entry.TheVariants.{Head, Terminate, Jump, Jumpi, DynamicJump, DynamicJumpi, Way, Record}
use Rattle.reader.specs.declared.entry.Fault.{Fault}
use Rattle.reader.specs.declared.entry.Fault.TheVariants.{Unknown, Wrong, Cut}
use Rattle.reader.specs.declared.body.Path.{Path}

-- the entries from an offset on
unfoldable pub from : List ℕ → ℕ → List Piece
from b at = pieces (drop at b) 0 at

-- the leading bytes of a whole entry
unfoldable pub lead_at : List ℕ → ℕ → Option Lead
lead_at b at = let e = drop at b in if (leb (6 + announced e) (length e)) (Some (record { kind = field 4 2 e; length = announced e })) None

-- whether they are a 7's, in a family
abbrev pub way? : Sort → Bool
way? HEAD = false
way? (BLOCK x) = false
way? (WAY missing) = true
way? (RECORD to missing) = false
way? UNKNOWN = false

abbrev pub leads_way : Bool → Option Lead → Bool
leads_way wide (Some l) = way? (sort wide l.kind)
leads_way wide None = false

unfoldable pub seven_at : List ℕ → ℕ → Bool
seven_at b at = leads_way (wide_in b) (lead_at b at)

-- where the entry behind it stands
unfoldable pub behind_at : List ℕ → ℕ → ℕ
behind_at b at = let e = drop at b in if (leb (6 + announced e) (length e)) (at + (6 + announced e)) (length b)

-- where the path of a path entry stands whose path length stands at a place of its body, and how long it is
abbrev pub path_of : ℕ → ℕ → List ℕ → Result Path Fault
path_of at place body =
    if (eqb (length body) (place + 4 + 2 * field place 4 body)) (Ok (record { at = at + (place + 4); count = field place 4 body })) (Err Wrong)

-- the number of a record, by where its path length stands: at 8 it has one
abbrev pub number_of : ℕ → List ℕ → Option ℕ
number_of to body = if (eqb to 8) (Some (field 4 4 body)) None

-- the numbers of a body that stands at an offset, by its kind
abbrev pub numbers : ℕ → Sort → List ℕ → Result Entry Fault
numbers at HEAD body = Ok (Head (field 0 2 body) (field 2 2 body) (field 4 4 body) (field 8 4 body))
numbers at (BLOCK TERMINATE) body = Ok (Terminate (field 0 2 body) (field 2 2 body) (field 4 1 body))
numbers at (BLOCK JUMP) body = Ok (Jump (field 0 2 body) (field 2 2 body) (field 4 2 body))
numbers at (BLOCK JUMPI) body = Ok (Jumpi (field 0 2 body) (field 2 2 body) (field 4 2 body) (field 6 2 body))
numbers at (BLOCK DYNAMIC-JUMP) body = Ok (DynamicJump (field 0 2 body) (field 2 2 body) (field 4 4 body))
numbers at (BLOCK DYNAMIC-JUMPI) body = Ok (DynamicJumpi (field 0 2 body) (field 2 2 body) (field 4 2 body) (field 6 4 body))
numbers at (WAY missing) body = Ok (Way (goes_to missing (field 0 2 body)) (at + 6) (field 2 4 body))
numbers at (RECORD to missing) body = Ok (Record (field 0 2 body) (goes_to missing (field 2 2 body)) (number_of to body) (at + (to + 4)) (field to 4 body))
numbers at UNKNOWN body = Err Unknown

abbrev pub known : Sort → Result Entry Fault → Result Entry Fault
known HEAD e = e
known (BLOCK x) e = e
known (WAY missing) e = e
known (RECORD to missing) e = e
known UNKNOWN e = Err Unknown

unfoldable pub shape : ℕ → Sort → List ℕ → Result Entry Fault
shape at s body = known s (if (eqb (length body) (long s body)) (numbers at s body) (Err Wrong))

-- the entry at an offset
unfoldable pub entry_at : List ℕ → ℕ → Result Entry Fault
entry_at b at = let e = drop at b in if (leb (6 + announced e) (length e)) (shape (at + 6) (sort (wide_in b) (entry e).kind) (entry e).body) (Err Cut)

-- the item of the definitions that an entry of the bytes b is
abbrev pub item_of : List ℕ → Result Entry Fault → Item
item_of b (Ok (Head size n m energy)) = a_head size n m energy
item_of b (Ok (Terminate s e ok)) = a_block (block s s e (terminate (eqb ok 1))) 0
item_of b (Ok (Jump s e to)) = a_block (block s s e (jump to)) 0
item_of b (Ok (Jumpi s e t f)) = a_block (block s s e (jumpi t f)) 0
item_of b (Ok (DynamicJump s e n)) = a_block (block s s e dynamic_jump) n
item_of b (Ok (DynamicJumpi s e f n)) = a_block (block s s e (dynamic_jumpi f)) n
item_of b (Ok (Way to path n)) = a_way (found_of to) (addresses (take (2 * n) (drop path b)))
item_of b (Ok (Record s to energy path n)) =
    a_record (is_some energy) (record { start = s; to = found_of to; path = addresses (take (2 * n) (drop path b)); energy = unwrap_or energy 0 })
item_of b (Err fault) = no_item

-- Document 02, "No. 2": what is bad in a byte string, entry by entry, with no reader in it. Assumes nothing.
use Rattle.std.specs.Prelude.{ℕ, suc, ◌+◌, ◌≤◌, ◌<◌, ◌≡◌, Bool, true, List, [], ◌∷◌, length}
use Rattle.std.proofs.Math.Option.{some}
use Rattle.spec.specs.Forms.{field, announced, Entry, entry, behind, Sort, HEAD, WAY, RECORD, UNKNOWN, BLOCK, Ends, TERMINATE, sort, long, dynamic, owes, start_in}

-- whole if all its bytes are there: the 6 leading ones, and the body that they announce
abbrev pub Whole : List ℕ → Type 0
Whole b = 6 + announced b ≤ length b

-- The bytes b begin with whole entries, the last of them first in the list; `rest` stands behind them.
pub data Begins (b : List ℕ) : List Entry → List ℕ → Type 0 where
  none_yet : Begins b [] b
  one_more : {es : List Entry} {rest : List ℕ} → Begins b es rest → Whole rest → Begins b (entry rest ∷ es) (behind rest)

-- where what stands behind them begins
abbrev pub offset : List Entry → ℕ
offset [] = 0
offset (e ∷ es) = offset es + (6 + length e.body)

-- ---- of the entries before, the last first

module _ (wide : Bool) where
  -- a record is among them
  pub data HasRecord : List Entry → Type 0 where
    right_there : {e : Entry} {es : List Entry} {at missing : ℕ} → sort wide e.kind ≡ RECORD at missing → HasRecord (e ∷ es)
    further : {e : Entry} {es : List Entry} → HasRecord es → HasRecord (e ∷ es)

  -- a record of the other kind, whose path length stands elsewhere
  pub data OtherRecord (at : ℕ) : List Entry → Type 0 where
    other-there : {e : Entry} {es : List Entry} {by missing : ℕ} → sort wide e.kind ≡ RECORD by missing → (at ≡ by → ⊥) → OtherRecord at (e ∷ es)
    other-further : {e : Entry} {es : List Entry} → OtherRecord at es → OtherRecord at (e ∷ es)

  -- the block's before it: the last of the blocks
  pub data LastBlock (p : Entry) : List Entry → Type 0 where
    it-is : {es : List Entry} {x : Ends} → sort wide p.kind ≡ BLOCK x → LastBlock p (p ∷ es)
    before-it : {e : Entry} {es : List Entry} → ((x : Ends) → sort wide e.kind ≡ BLOCK x → ⊥) → LastBlock p es → LastBlock p (e ∷ es)

  -- the last is a dynamic block, or a 7 of it
  pub data OfDynamic : List Entry → Type 0 where
    right-after : {e : Entry} {es : List Entry} {x : Ends} → sort wide e.kind ≡ BLOCK x → dynamic x ≡ true → OfDynamic (e ∷ es)
    after-another : {e : Entry} {es : List Entry} {missing : ℕ} → sort wide e.kind ≡ WAY missing → OfDynamic es → OfDynamic (e ∷ es)

  -- ---- of the bytes behind: the number of whole 7s in the run of 7s

  pub data Sevens : List ℕ → ℕ → Type 0 where
    none-there : {rest : List ℕ} → (Whole rest → (missing : ℕ) → sort wide (entry rest).kind ≡ WAY missing → ⊥) → Sevens rest 0
    one-there : {rest : List ℕ} {n missing : ℕ} → Whole rest → sort wide (entry rest).kind ≡ WAY missing → Sevens (behind rest) n → Sevens rest (suc n)

  -- ---- what is bad

  -- a whole entry e, by the entries before it and the bytes behind it
  pub data Wrong (es : List Entry) (e : Entry) (rest : List ℕ) : Type 0 where
    missing-head : es ≡ [] → (sort wide e.kind ≡ HEAD → ⊥) → Wrong es e rest
    unknown-kind : sort wide e.kind ≡ UNKNOWN → Wrong es e rest
    longer-or-shorter : (length e.body ≡ long (sort wide e.kind) e.body → ⊥) → Wrong es e rest
    success-over-1 : sort wide e.kind ≡ BLOCK TERMINATE → 1 < field 4 1 e.body → Wrong es e rest
    second_head : sort wide e.kind ≡ HEAD → (es ≡ [] → ⊥) → Wrong es e rest
    block-after-record : {x : Ends} → sort wide e.kind ≡ BLOCK x → HasRecord es → Wrong es e rest
    start-not-above : {x : Ends} {p : Entry} → sort wide e.kind ≡ BLOCK x → LastBlock p es → start_in e.body ≤ start_in p.body → Wrong es e rest
    away-from-dynamic : {missing : ℕ} → sort wide e.kind ≡ WAY missing → (OfDynamic es → ⊥) → Wrong es e rest
    -- "after one of 8 and 9 the other is a bad entry"
    after-the-other : {at missing : ℕ} → sort wide e.kind ≡ RECORD at missing → OtherRecord at es → Wrong es e rest
    count-not-met : {c n : ℕ} → owes (sort wide e.kind) e.body ≡ some c → Sevens rest n → (c ≡ n → ⊥) → Wrong es e rest

  -- a bad entry at an offset
  pub data Bad (b : List ℕ) : ℕ → Type 0 where
    no_byte : length b ≡ 0 → Bad b 0
    cut-entry : {es : List Entry} {rest : List ℕ} → Begins b es rest → 0 < length rest → (Whole rest → ⊥) → Bad b (offset es)
    bad_entry : {es : List Entry} {rest : List ℕ} → Begins b es rest → Whole rest → Wrong es (entry rest) (behind rest) → Bad b (offset es)

  -- the first
  pub record FirstBad (b : List ℕ) (o : ℕ) : Type 0 where
    pub is_bad : Bad b o
    pub lowest : (q : ℕ) → Bad b q → o ≤ q

  abbrev pub NothingBad : List ℕ → Type 0
  NothingBad b = (q : ℕ) → Bad b q → ⊥

-- ---- the head's counts, "looked at last"

abbrev pub block_in : Sort → ℕ
block_in HEAD = 0
block_in (WAY missing) = 0
block_in (RECORD at missing) = 0
block_in UNKNOWN = 0
block_in (BLOCK x) = 1

abbrev pub record_in : Sort → ℕ
record_in HEAD = 0
record_in (WAY missing) = 0
record_in (RECORD at missing) = 1
record_in UNKNOWN = 0
record_in (BLOCK x) = 0

module _ (wide : Bool) where
  abbrev pub how_many : (Sort → ℕ) → List Entry → ℕ
  how_many f [] = 0
  how_many f (e ∷ es) = how_many f es + f (sort wide e.kind)

  -- the bytes are whole entries, and the first, the head, has their counts
  pub record HeadRight (b : List ℕ) : Type 0 where
    pub all : List Entry
    pub are : Begins b all []
    pub block_count : field 2 2 (entry b).body ≡ how_many block_in all
    pub record_count : field 4 4 (entry b).body ≡ how_many record_in all

  -- what a reader is to refuse, and where
  pub data Refused (b : List ℕ) (o : ℕ) : Type 0 where
    at-first-bad : FirstBad wide b o → Refused b o
    by-its-head : NothingBad wide b → (HeadRight b → ⊥) → o ≡ 0 → Refused b o

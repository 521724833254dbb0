-- What a call gives and leaves, against document 01's answer. Assumes nothing.
use Rattle.std.specs.Prelude.{◌≡◌, Result, Ok, Err, ℕ, ◌≤◌, ◌^◌, ◌<◌, List, ltb, length, replicate}
use Rattle.spec.specs.Opcodes.{in_mode}
use Rattle.spec.specs.Lists.{if}
use Rattle.spec.specs.Rooms.{Lent, shortage, longest, work_need}
use Rattle.spec.specs.Search.{Rec}
use Rattle.spec.specs.Answer as spec
use Rattle.spec.specs.Answer.{refused, number_of, written, searched, mapped, within_out, within_rooms, answer, room_after, output_after}
use Rattle.spec.specs.JsonAnswer.{within_text, json_answer, texted, text_after}
use Rattle.layout.specs.Buffers.{Mem}
use Rattle.refusal.specs.Numbers as refusals
use Rattle.refusal.specs.declared.Refusal.{Refusal}
use Rattle.exec.specs.Modes.{mode_of}
use Rattle.exec.specs.declared.mode.Mode.{Mode}
use Rattle.initial.specs.Rows.{Listed}
use Rattle.reachable.specs.Marks.{flagged}
use Rattle.entries.specs.Promises.{map_of, Ends, Writes}
use Rattle.answer.specs.Told.{Answer, Both, Found}

-- the lengths of the lent buffers
abbrev pub lent_of : Mem → List ℕ → Lent
lent_of m out = record { w = length m.w; p = length m.p; s = length m.s; t = length m.t; r = length m.r; q = length m.q; out = length out }

-- the code is taken, and W is not short
pub record Lends (limit : ℕ) (code w : List ℕ) : Type 0 where
  pub short : length code ≤ longest
  pub limited : limit ≤ 500000
  pub lent : work_need (length code) ≤ length w

-- "1, 2, 3 are tested in that order", "13, mode neither 0 nor 1, tested after 2": the first that applies, 0 if none does
abbrev pub early_of : ℕ → ℕ → ℕ → ℕ → ℕ
early_of n limit mode w = if (ltb longest n) 1 (if (ltb 500000 limit) 2 (if (ltb 1 mode) 13 (if (ltb w (work_need n)) 3 0)))

pub record First (n limit mode w x : ℕ) : Type 0 where
  pub is : x ≡ early_of n limit mode w

-- what the tests answer: the first, or the mode
pub record Tested (n limit mode w : ℕ) (x : Result Mode Refusal) : Type 0 where
  pub refused : (e : Refusal) → x ≡ Err e → First n limit mode w (refusals.number_of e)
  pub taken : (m : Mode) → x ≡ Ok m → First n limit mode w 0 × (mode_of m ≡ mode)

-- ---- the map in the rooms

-- W, R and Q hold the map that document 01 gives
pub record Leaves (limit mode : ℕ) (code w r q : List ℕ) (m energy : ℕ) : Type 0 where
  pub recs : List Rec
  pub ends : Ends w r q (length code) m mode code recs
  pub is : (choice : ℕ) → map_of mode code recs energy choice ≡ mapped (in_mode mode) choice code (searched (in_mode mode) limit code)
  pub short : length code ≤ longest
  pub small : energy < 2 ^ 32

-- the number of the first shortage, whatever the output's length; or 0, and the map is left, with so many addresses flagged, and the list of its blocks' starts
pub record Finds (limit mode : ℕ) (code : List ℕ) (m : Mem) (w r q : List ℕ) (f : Found) : Type 0 where
  pub number : (out : List ℕ) → f.code ≡ shortage (lent_of m out) (searched (in_mode mode) limit code).needs
  pub leaves : f.code ≡ 0 → Leaves limit mode code w r q f.records f.energy
  pub flags : f.code ≡ 0 → f.flags ≡ length (flagged w (length code))
  pub listed : f.code ≡ 0 → Listed (length code) w f.blocks

-- some map is left, to be written
pub record Holds (w r q : List ℕ) (n : ℕ) (f : Found) : Type 0 where
  pub writes : Writes w r q n f.records f.energy
  pub flags : f.flags ≡ length (flagged w n)
  pub listed : Listed n w f.blocks

-- ---- the entry

-- the answer that is left once 1, 2, 13 and 3 are tested
abbrev pub rest : Lent → ℕ → ℕ → ℕ → List ℕ → spec.Answer
rest l limit choice mode code =
    within_rooms (within_out l (mapped (in_mode mode) choice code (searched (in_mode mode) limit code))) (shortage l (searched (in_mode mode) limit code).needs)

-- the number and the count are the answer's, and the output holds its bytes and then its own old ones
pub record Tells (x : spec.Answer) (out out' : List ℕ) (a : Answer) : Type 0 where
  pub number : a.number ≡ number_of x
  pub count : a.written ≡ length (written x)
  pub out_is : out' ≡ output_after x out

-- the shortage answered; or 9 tested, and the rest written, for the map that W, R and Q hold
pub record Put (w r q : List ℕ) (n : ℕ) (d : Found) (choice : ℕ) (out out' : List ℕ) (a : Answer) : Type 0 where
  pub short : (d.code ≡ 0 → ⊥) → Tells (refused d.code) out out' a
  pub answer : d.code ≡ 0 → (mode : ℕ) (code : List ℕ) (recs : List Rec) → Ends w r q n d.records mode code recs → (l : Lent) → length out ≡ l.out
      → Tells (within_out l (map_of mode code recs d.energy choice)) out out' a

abbrev pub Ran : ℕ → ℕ → ℕ → List ℕ → Mem → List ℕ → List ℕ → Answer → Type 0
Ran limit choice mode code m out out' a = Tells (rest (lent_of m out) limit choice mode code) out out' a

-- every byte of the rooms is 0
pub record Wiped (m m' : Mem) : Type 0 where
  pub w : m'.w ≡ replicate (length m.w) 0
  pub p : m'.p ≡ replicate (length m.p) 0
  pub s : m'.s ≡ replicate (length m.s) 0
  pub t : m'.t ≡ replicate (length m.t) 0
  pub r : m'.r ≡ replicate (length m.r) 0
  pub q : m'.q ≡ replicate (length m.q) 0

-- all that document 01 says of a call
pub record Mapped (limit choice mode : ℕ) (code : List ℕ) (m : Mem) (out : List ℕ) (m' : Mem) (out' : List ℕ) (a : Answer) : Type 0 where
  pub tells : Tells (answer (in_mode mode) (lent_of m out) limit choice code) out out' a
  pub w : m'.w ≡ room_after (answer (in_mode mode) (lent_of m out) limit choice code) m.w
  pub p : m'.p ≡ room_after (answer (in_mode mode) (lent_of m out) limit choice code) m.p
  pub s : m'.s ≡ room_after (answer (in_mode mode) (lent_of m out) limit choice code) m.s
  pub t : m'.t ≡ room_after (answer (in_mode mode) (lent_of m out) limit choice code) m.t
  pub r : m'.r ≡ room_after (answer (in_mode mode) (lent_of m out) limit choice code) m.r
  pub q : m'.q ≡ room_after (answer (in_mode mode) (lent_of m out) limit choice code) m.q

-- ---- with the text

-- the number and both counts are the answer's, and so are the output and the text buffer
pub record TellsBoth (x : spec.Answer) (out out' text text' : List ℕ) (a : Both) : Type 0 where
  pub number : a.number ≡ number_of x
  pub count : a.written ≡ length (written x)
  pub shows : a.texted ≡ length (texted x)
  pub out_is : out' ≡ output_after x out
  pub text_is : text' ≡ text_after x text

-- the shortage answered; or 9 and 11 tested, and the rest written
pub record PutBoth (w r q : List ℕ) (n : ℕ) (d : Found) (choice : ℕ) (out out' text text' : List ℕ) (a : Both) : Type 0 where
  pub short : (d.code ≡ 0 → ⊥) → TellsBoth (refused d.code) out out' text text' a
  pub answer : d.code ≡ 0 → (mode : ℕ) (code : List ℕ) (recs : List Rec) → Ends w r q n d.records mode code recs → (l : Lent) → length out ≡ l.out
      → TellsBoth (within_text (length text) (within_out l (map_of mode code recs d.energy choice))) out out' text text' a

abbrev pub RanBoth : ℕ → ℕ → ℕ → List ℕ → Mem → List ℕ → List ℕ → List ℕ → List ℕ → Both → Type 0
RanBoth limit choice mode code m out out' text text' a = TellsBoth (within_text (length text) (rest (lent_of m out) limit choice mode code)) out out' text text' a

-- all that documents 01 and 02 say of a call with a text buffer
pub record MappedBoth (limit choice mode : ℕ) (code : List ℕ) (m : Mem) (out text : List ℕ) (m' : Mem) (out' text' : List ℕ) (a : Both) : Type 0 where
  pub tells : TellsBoth (json_answer (in_mode mode) (lent_of m out) (length text) limit choice code) out out' text text' a
  pub w : m'.w ≡ room_after (json_answer (in_mode mode) (lent_of m out) (length text) limit choice code) m.w
  pub p : m'.p ≡ room_after (json_answer (in_mode mode) (lent_of m out) (length text) limit choice code) m.p
  pub s : m'.s ≡ room_after (json_answer (in_mode mode) (lent_of m out) (length text) limit choice code) m.s
  pub t : m'.t ≡ room_after (json_answer (in_mode mode) (lent_of m out) (length text) limit choice code) m.t
  pub r : m'.r ≡ room_after (json_answer (in_mode mode) (lent_of m out) (length text) limit choice code) m.r
  pub q : m'.q ≡ room_after (json_answer (in_mode mode) (lent_of m out) (length text) limit choice code) m.q

-- What a call of an exported function gives and leaves, against the documents' answer. Assumes nothing.
use Rattle.std.specs.Prelude.{◌≡◌, ℕ, ◌+◌, ◌*◌, ◌^◌, ◌≤◌, List, length}
use Rattle.spec.specs.Opcodes.{in_mode}
use Rattle.spec.specs.Answer.{answer, room_after, output_after, exported}
use Rattle.spec.specs.JsonAnswer.{json_answer, text_after, exported_json}
use Rattle.layout.specs.Buffers.{Mem}
use Rattle.answer.specs.Promises.{lent_of}
use Rattle.answer.specs.Told.{Answer, Both}

-- "the exported entry gives whichever isn't 0"
pub record Gives (a : Answer) (x : ℕ) : Type 0 where
  pub number : (a.number ≡ 0 → ⊥) → x ≡ a.number
  pub count : a.number ≡ 0 → x ≡ a.written

-- it; and every lent byte afterwards
pub record Exported (limit choice mode : ℕ) (code : List ℕ) (m : Mem) (out : List ℕ) (m' : Mem) (out' : List ℕ) (x : ℕ) : Type 0 where
  pub number : x ≡ exported (answer (in_mode mode) (lent_of m out) limit choice code)
  pub out_is : out' ≡ output_after (answer (in_mode mode) (lent_of m out) limit choice code) out
  pub w : m'.w ≡ room_after (answer (in_mode mode) (lent_of m out) limit choice code) m.w
  pub p : m'.p ≡ room_after (answer (in_mode mode) (lent_of m out) limit choice code) m.p
  pub s : m'.s ≡ room_after (answer (in_mode mode) (lent_of m out) limit choice code) m.s
  pub t : m'.t ≡ room_after (answer (in_mode mode) (lent_of m out) limit choice code) m.t
  pub r : m'.r ≡ room_after (answer (in_mode mode) (lent_of m out) limit choice code) m.r
  pub q : m'.q ≡ room_after (answer (in_mode mode) (lent_of m out) limit choice code) m.q

-- with the text: both counts, at most 2^30 each, as one number
pub record Few (b : Both) : Type 0 where
  pub out : b.written ≤ 2 ^ 30
  pub text : b.texted ≤ 2 ^ 30

pub record GivesBoth (b : Both) (x : ℕ) : Type 0 where
  pub number : (b.number ≡ 0 → ⊥) → x ≡ b.number
  pub counts : b.number ≡ 0 → x ≡ b.written + 2 ^ 32 * b.texted

pub record ExportedJson (limit choice mode : ℕ) (code : List ℕ) (m : Mem) (out text : List ℕ) (m' : Mem) (out' text' : List ℕ) (x : ℕ) : Type 0 where
  pub number : x ≡ exported_json (json_answer (in_mode mode) (lent_of m out) (length text) limit choice code)
  pub out_is : out' ≡ output_after (json_answer (in_mode mode) (lent_of m out) (length text) limit choice code) out
  pub text_is : text' ≡ text_after (json_answer (in_mode mode) (lent_of m out) (length text) limit choice code) text
  pub w : m'.w ≡ room_after (json_answer (in_mode mode) (lent_of m out) (length text) limit choice code) m.w
  pub p : m'.p ≡ room_after (json_answer (in_mode mode) (lent_of m out) (length text) limit choice code) m.p
  pub s : m'.s ≡ room_after (json_answer (in_mode mode) (lent_of m out) (length text) limit choice code) m.s
  pub t : m'.t ≡ room_after (json_answer (in_mode mode) (lent_of m out) (length text) limit choice code) m.t
  pub r : m'.r ≡ room_after (json_answer (in_mode mode) (lent_of m out) (length text) limit choice code) m.r
  pub q : m'.q ≡ room_after (json_answer (in_mode mode) (lent_of m out) (length text) limit choice code) m.q

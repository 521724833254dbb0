-- What each function asks and promises, a record each. Assumes nothing.
use Rattle.std.specs.Prelude.{◌≡◌, Option, Some, None, List, [], ◌∷◌, ◌++◌, ℕ, ◌+◌, ◌*◌, ◌^◌, ◌≤◌, ◌<◌, length, take, drop}
use Rattle.std.proofs.Math.Option.{none, some}
use Rattle.spec.specs.Lists.{gather}
use Rattle.spec.specs.Entries.{Map, item, joined, bytes}
use Rattle.spec.specs.Answer.{Answer, refused, answered, number_of, written}
use Rattle.spec.specs.Program.{digit, decoded, nibble, hex, line, says_refused, prints, program}
use Rattle.lent.specs.Bytes.{Stored}

-- ---- from what is typed to the code

-- what a character is worth, if it is a digit
pub record Worth (c : ℕ) (v : Option ℕ) : Type 0 where
  pub taken : (d : ℕ) → v ≡ Some d → (digit c ≡ some d) × (d ≤ 15)
  pub refused : v ≡ None → digit c ≡ none

-- the code stands in the first n bytes, and all else is as it was; or there is none, and the program refuses
pub record Decodes (text code code' : List ℕ) (size : Option ℕ) : Type 0 where
  pub taken : (n : ℕ) → size ≡ Some n → decoded text ≡ some (take n code')
  pub rest : (n : ℕ) → size ≡ Some n → drop n code' ≡ drop n code
  pub small : (n : ℕ) → size ≡ Some n → n ≤ 512
  pub refused : size ≡ None → program text ≡ says_refused 10
  pub long : length code' ≡ length code

-- ---- from the answer to what is printed

-- the character of a digit
pub record Spells (v c : ℕ) : Type 0 where
  pub is : c ≡ nibble v
  pub small : c < 256

-- n bytes to read, and room for k
pub record PutsHex (raw : List ℕ) (from n : ℕ) (out : List ℕ) (at k : ℕ) : Type 0 where
  pub reads : from + n ≤ length raw
  pub room : at + k ≤ length out

-- entries, each with its body's length before it, so that they can be cut apart again
pub data Items : List (List ℕ) → Type 0 where
  end : Items []
  more : (kind : ℕ) (body : List ℕ) {es : List (List ℕ)} → Items es → Items (item kind body ∷ es)

-- the first n bytes are these entries
pub record Cut (raw : List ℕ) (n : ℕ) (es : List (List ℕ)) : Type 0 where
  pub items : Items es
  pub size : length (joined es) ≡ n
  pub begins : raw ≡ joined es ++ drop n raw

pub record Lists (raw : List ℕ) (n : ℕ) (out : List ℕ) : Type 0 where
  pub es : List (List ℕ)
  pub cut : Cut raw n es
  pub few : n < 2 ^ 32
  pub room : 3 * n ≤ length out

abbrev pub lined : List (List ℕ) → List ℕ
lined = gather (λ (e : List ℕ). line (gather hex e))

pub record Lined (raw : List ℕ) (n : ℕ) (out out' : List ℕ) (end : ℕ) : Type 0 where
  pub stored : (es : List (List ℕ)) → Cut raw n es → Stored end out 0 (lined es) out'
  pub kept : length out' ≡ length out

-- a refusal has a number of two digits at most, and a map as many bytes as the program lends
pub data Numbered : Answer → Type 0 where
  refusal : {n : ℕ} → 0 < n → n < 100 → Numbered (refused n)
  map : {m : Map} → length (bytes m) ≤ 32768 → Numbered (answered m)

-- how an answer is handed over
pub record Told (x : Answer) (number count : ℕ) (raw : List ℕ) : Type 0 where
  pub numbered : Numbered x
  pub number_is : number ≡ number_of x
  pub count_is : count ≡ length (written x)
  pub begins : raw ≡ written x ++ drop count raw

pub record Shows (number count : ℕ) (raw out : List ℕ) : Type 0 where
  pub answer : Answer
  pub told : Told answer number count raw
  pub room : 98304 ≤ length out

pub record Prints (number count : ℕ) (raw out out' : List ℕ) (end : ℕ) : Type 0 where
  pub stored : (x : Answer) → Told x number count raw → Stored end out 0 (prints x) out'
  pub kept : length out' ≡ length out

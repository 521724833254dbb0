-- Demand 3 for any two calls in one mode and with one choice number, and No. 5 beyond it, with a text buffer, which counts among the lent ones: what they give is the documents' answers, and of these it is proved.
-- Assumes nothing.
use mathlib.Core.Path.{◌≡◌, refl, ap, ◌∙◌}
use mathlib.Core.Logic.{◌⊎◌}
use Prim.Native.Nat.{ℕ, ◌≤◌, ◌<◌}
use mathlib.Core.List.{List, ◌++◌}
use lib.Dec.{leb}
use lib.ListN.{length, drop}
use Rattle.spec.specs.Opcodes.{in_mode}
use Rattle.spec.specs.Lists.{keep}
use Rattle.spec.specs.Search.{Rec}
use Rattle.spec.specs.Entries.{Map, bytes}
use Rattle.spec.specs.Json as json
use Rattle.spec.specs.Answer as spec
use Rattle.spec.specs.Answer.{refused, answered, number_of, written, output_after}
use Rattle.spec.specs.JsonAnswer.{json_answer, texted, text_after}
use Rattle.theorems.proofs.Demand3.{Lends}
use Rattle.theorems.proofs.JsonCall.{json-begins, json-numbers, json-again}
use Rattle.layout.specs.Buffers.{Mem}
use Rattle.answer.specs.Told.{Both}
use Rattle.answer.specs.Promises.{lent_of, MappedBoth}

-- a call that gave a map: its bytes and its text are counted, and stand in output and text buffer before what was there
pub record GaveBoth (limit choice mode : ℕ) (code : List ℕ) (m : Mem) (out text out' text' : List ℕ) (a : Both) (x : Map) : Type 0 where
  pub is : json_answer (in_mode mode) (lent_of m out) (length text) limit choice code ≡ answered x
  pub number : a.number ≡ 0
  pub count : a.written ≡ length (bytes x)
  pub shows : a.texted ≡ length (json.text x)
  pub out_is : out' ≡ bytes x ++ drop (length (bytes x)) out
  pub text_is : text' ≡ json.text x ++ drop (length (json.text x)) text

module _ {limit choice mode : ℕ} {code : List ℕ} {m m' : Mem} {out text out' text' : List ℕ} {a : Both} (c : MappedBoth limit choice mode code m out text m' out' text' a) where
  pub gave-both : (x : Map) → json_answer (in_mode mode) (lent_of m out) (length text) limit choice code ≡ answered x → GaveBoth limit choice mode code m out text out' text' a x
  gave-both x e = record {
    is = e;
    number = c.tells.number ∙ ap number_of e;
    count = c.tells.count ∙ ap (λ (y : spec.Answer). length (written y)) e;
    shows = c.tells.shows ∙ ap (λ (y : spec.Answer). length (texted y)) e;
    out_is = c.tells.out_is ∙ ap (λ (y : spec.Answer). output_after y out) e;
    text_is = c.tells.text_is ∙ ap (λ (y : spec.Answer). text_after y text) e;
  }

  -- bytes were written, so there is a map
  pub wrote-both : (a.written ≡ 0 → ⊥) → (x : Map) × GaveBoth limit choice mode code m out text out' text' a x
  wrote-both n = by (json_answer (in_mode mode) (lent_of m out) (length text) limit choice code) refl
    where
      by : (y : spec.Answer) → json_answer (in_mode mode) (lent_of m out) (length text) limit choice code ≡ y → (x : Map) × GaveBoth limit choice mode code m out text out' text' a x
      by (refused k) e = absurd (n (c.tells.count ∙ ap (λ (y : spec.Answer). length (written y)) e))
      by (answered x) e = (x, gave-both x e)

module _ {low high choice mode : ℕ} (rises : low ≤ high) {code : List ℕ} {m m' k k' : Mem} {out text out' text' to note to' note' : List ℕ} {a b : Both}
    (c : MappedBoth low choice mode code m out text m' out' text' a) (d : MappedBoth high choice mode code k to note k' to' note' b) where
  -- "the first run's record of found jumps is a beginning of the second's", whatever the rooms
  pub both-begin : {x y : Map} → GaveBoth low choice mode code m out text out' text' a x → GaveBoth high choice mode code k to note to' note' b y → (new : List Rec) × (y.recs ≡ x.recs ++ new)
  both-begin {x} {y} g h = json-begins (in_mode mode) (lent_of m out) (lent_of k to) (length text) (length note) low high rises choice code x y g.is h.is

  -- "an answered run at a smaller limit has exactly those of a larger one's records whose number is at most that limit"
  pub both-number : {x y : Map} → GaveBoth low choice mode code m out text out' text' a x → GaveBoth high choice mode code k to note to' note' b y
      → x.recs ≡ keep (λ (r : Rec). leb r.energy low) y.recs
  both-number {x} {y} g h = json-numbers (in_mode mode) (lent_of m out) (lent_of k to) (length text) (length note) low high rises choice code x y g.is h.is

  -- a run that was not cut short by its limit gives the same map, and so the same text, with no smaller limit and buffers
  pub both-again : high ≤ 500000 → Lends (lent_of m out) (lent_of k to) → length text ≤ length note → {x : Map} → GaveBoth low choice mode code m out text out' text' a x
      → (low ≡ high) ⊎ (x.energy < low) → GaveBoth high choice mode code k to note to' note' b x
  both-again top h l {x} g e =
      gave-both d x (json-again (in_mode mode) (lent_of m out) (lent_of k to) h (length text) (length note) l low high rises top choice code x g.is e)

-- The contracts leave no choice: two results of one call are the same, byte for byte. Assumes nothing.
use mathlib.Core.Path.{◌≡◌, refl, sym, ap, ◌∙◌}
use mathlib.Core.List.{List}
use Prim.Native.Nat.{ℕ, ◌≤◌}
use native.Mathlib.Omega.{arith}
use lib.Dec.{eqb, leb}
use lib.ListN.{length}
use Rattle.std.specs.Prelude.{Result, Ok, Err}
use Rattle.spec.specs.Opcodes.{Rules, in_mode}
use Rattle.spec.specs.Lists.{if}
use Rattle.spec.specs.Search as search
use Rattle.spec.specs.Rooms.{Lent, units, refusal}
use Rattle.spec.specs.Json.{text}
use Rattle.spec.specs.Answer as spec
use Rattle.spec.specs.Answer.{refused, answered, answer}
use Rattle.spec.specs.JsonAnswer.{within_text, json_answer}
use Rattle.laws.proofs.Branch.{both}
use Rattle.theorems.proofs.Refusals.{Verdict, code-over, limit-over, mode-over, work-short, room_short, output-short, all-fits, verdict}
use Rattle.refusal.specs.Numbers.{number_of}
use Rattle.refusal.specs.declared.Shortage.TheVariants as short
use Rattle.refusal.specs.declared.Refusal.{Refusal}
use Rattle.refusal.specs.declared.Refusal.TheVariants.{Code, Limit, Work, Room, Output, Input, Text, Entry, Mode, Log, Counts, Total, Path, Archive}
use Rattle.layout.specs.Buffers.{Mem}
use Rattle.answer.specs.declared.both.Written.{Written}
use Rattle.answer.specs.Told.{Answer, Both, told, told_both}
use Rattle.answer.specs.Promises.{lent_of, Mapped, MappedBoth}

-- ---- what is told leaves one result, where the number is none of an entry's, beside which an offset is told

record NoEntry (n : ℕ) : Type 0 where
  pub bad : n ≡ 12 → ⊥
  pub wrong : n ≡ 17 → ⊥

refusal_at : ℕ → Refusal
refusal_at n =
    if (eqb n 1) Code
    (if (eqb n 2) Limit
    (if (eqb n 3) Work
    (if (eqb n 4) (Room short.P)
    (if (eqb n 5) (Room short.S)
    (if (eqb n 6) (Room short.T)
    (if (eqb n 7) (Room short.R)
    (if (eqb n 8) (Room short.Q)
    (if (eqb n 9) Output
    (if (eqb n 10) Input
    (if (eqb n 11) Text
    (if (eqb n 13) Mode
    (if (eqb n 14) Log
    (if (eqb n 15) Counts
    (if (eqb n 16) Total Archive))))))))))))))

numbered : (x : Refusal) → NoEntry (number_of x) → refusal_at (number_of x) ≡ x
unfolding refusal_at if
numbered Code n = refl
numbered Limit n = refl
numbered Work n = refl
numbered (Room short.P) n = refl
numbered (Room short.S) n = refl
numbered (Room short.T) n = refl
numbered (Room short.R) n = refl
numbered (Room short.Q) n = refl
numbered Output n = refl
numbered Input n = refl
numbered Text n = refl
numbered (Entry offset) n = absurd (n.bad refl)
numbered Mode n = refl
numbered Log n = refl
numbered Counts n = refl
numbered Total n = refl
numbered (Path offset) n = absurd (n.wrong refl)
numbered Archive n = refl

refusal-same : (x y : Refusal) → number_of x ≡ number_of y → NoEntry (number_of x) → x ≡ y
refusal-same x y e n = sym (numbered x n) ∙ ap refusal_at e ∙ numbered y (rw e at n)

refusal-some : (x : Refusal) → number_of x ≡ 0 → ⊥
refusal-some Code e = omega (arith, e)
refusal-some Limit e = omega (arith, e)
refusal-some Work e = omega (arith, e)
refusal-some (Room short.P) e = omega (arith, e)
refusal-some (Room short.S) e = omega (arith, e)
refusal-some (Room short.T) e = omega (arith, e)
refusal-some (Room short.R) e = omega (arith, e)
refusal-some (Room short.Q) e = omega (arith, e)
refusal-some Output e = omega (arith, e)
refusal-some Input e = omega (arith, e)
refusal-some Text e = omega (arith, e)
refusal-some (Entry offset) e = omega (arith, e)
refusal-some Mode e = omega (arith, e)
refusal-some Log e = omega (arith, e)
refusal-some Counts e = omega (arith, e)
refusal-some Total e = omega (arith, e)
refusal-some (Path offset) e = omega (arith, e)
refusal-some Archive e = omega (arith, e)

told-same : (x y : Result ℕ Refusal) → told x ≡ told y → NoEntry (told x).number → x ≡ y
told-same (Ok x) (Ok y) e n = ap Ok (ap (λ (a : Answer). a.written) e)
told-same (Ok x) (Err y) e n = absurd (refusal-some y (sym (ap (λ (a : Answer). a.number) e)))
told-same (Err x) (Ok y) e n = absurd (refusal-some x (ap (λ (a : Answer). a.number) e))
told-same (Err x) (Err y) e n = ap Err (refusal-same x y (ap (λ (a : Answer). a.number) e) n)

both-same : (x y : Result Written Refusal) → told_both x ≡ told_both y → NoEntry (told_both x).number → x ≡ y
both-same (Ok x) (Ok y) e n =
    let entries : x.entries ≡ y.entries = ap (λ (a : Both). a.written) e in
    let texts : x.text ≡ y.text = ap (λ (a : Both). a.texted) e in
    λ i. Ok (record { entries = entries i; text = texts i })
both-same (Ok x) (Err y) e n = absurd (refusal-some y (sym (ap (λ (a : Both). a.number) e)))
both-same (Err x) (Ok y) e n = absurd (refusal-some x (ap (λ (a : Both). a.number) e))
both-same (Err x) (Err y) e n = ap Err (refusal-same x y (ap (λ (a : Both). a.number) e) n)

-- ---- and the documents' answer to a call for a map is none of an entry's

room-most : (r : search.Room) → refusal r ≤ 8
room-most search.P = omega arith
room-most search.S = omega arith
room-most search.T = omega arith
room-most search.R = omega arith
room-most search.Q = omega arith

verdict-plain : {r : Rules} {l : Lent} {limit choice : ℕ} {code : List ℕ} {a : spec.Answer} → Verdict r l limit choice code a → NoEntry (spec.number_of a)
verdict-plain (code-over c) = record { bad = λ e. omega (arith, e); wrong = λ e. omega (arith, e) }
verdict-plain (limit-over c n) = record { bad = λ e. omega (arith, e); wrong = λ e. omega (arith, e) }
verdict-plain (mode-over c n m) = record { bad = λ e. omega (arith, e); wrong = λ e. omega (arith, e) }
verdict-plain (work-short c n m w) = record { bad = λ e. omega (arith, e); wrong = λ e. omega (arith, e) }
verdict-plain (room_short t f) =
    record {
      bad = λ e. omega (arith, e, f.number, room-most f.need.room);
      wrong = λ e. omega (arith, e, f.number, room-most f.need.room);
    }
verdict-plain (output-short t f h) = record { bad = λ e. omega (arith, e); wrong = λ e. omega (arith, e) }
verdict-plain (all-fits t f h) = record { bad = λ e. omega (arith, e); wrong = λ e. omega (arith, e) }

text-plain : (room : ℕ) (a : spec.Answer) → NoEntry (spec.number_of a) → NoEntry (spec.number_of (within_text room a))
text-plain room (refused n) p = p
text-plain room (answered m) p =
    both (λ (y : spec.Answer). NoEntry (spec.number_of y)) (leb (length (text m)) (units room 1)) (λ _. p)
    (λ _. record { bad = λ e. omega (arith, e); wrong = λ e. omega (arith, e) })

-- ---- the calls

pub same-rooms : {m n : Mem} → m.w ≡ n.w → m.p ≡ n.p → m.s ≡ n.s → m.t ≡ n.t → m.r ≡ n.r → m.q ≡ n.q → m ≡ n
same-rooms w p s t r q = λ i. record { w = w i; p = p i; s = s i; t = t i; r = r i; q = q i }

pub told-once : {limit choice mode : ℕ} {code out u v : List ℕ} {m m' m'' : Mem} {a e : Answer} → Mapped limit choice mode code m out m' u a → Mapped limit choice mode code m out m'' v e
    → (a ≡ e) × (m' ≡ m'') × (u ≡ v)
told-once c d =
    let number = c.tells.number ∙ sym d.tells.number in
    let count = c.tells.count ∙ sym d.tells.count in (
      (λ i. record { number = number i; written = count i }),
      same-rooms (c.w ∙ sym d.w) (c.p ∙ sym d.p) (c.s ∙ sym d.s) (c.t ∙ sym d.t) (c.r ∙ sym d.r) (c.q ∙ sym d.q),
      c.tells.out_is ∙ sym d.tells.out_is,
    )

-- `map_code` answers one result
pub one-mapped : {limit choice mode : ℕ} {code out u v : List ℕ} {m m' m'' : Mem} (a e : Result ℕ Refusal) → Mapped limit choice mode code m out m' u (told a)
    → Mapped limit choice mode code m out m'' v (told e) → (a ≡ e) × (m' ≡ m'') × (u ≡ v)
one-mapped {limit} {choice} {mode} {code} {out} {m = m} a e c d =
    let one = told-once c d in
    let plain = verdict-plain (verdict (in_mode mode) (lent_of m out) limit choice code) in
    (told-same a e one.0 (rw (c.tells.number) plain), one.1, one.2)

pub both-once : {limit choice mode : ℕ} {code out text o p t u : List ℕ} {m x y : Mem} {a b : Both} → MappedBoth limit choice mode code m out text x o t a
    → MappedBoth limit choice mode code m out text y p u b → (a ≡ b) × (x ≡ y) × (o ≡ p) × (t ≡ u)
both-once c d =
    let number = c.tells.number ∙ sym d.tells.number in
    let count = c.tells.count ∙ sym d.tells.count in
    let shows = c.tells.shows ∙ sym d.tells.shows in (
      (λ i. record { number = number i; written = count i; texted = shows i }),
      same-rooms (c.w ∙ sym d.w) (c.p ∙ sym d.p) (c.s ∙ sym d.s) (c.t ∙ sym d.t) (c.r ∙ sym d.r) (c.q ∙ sym d.q),
      c.tells.out_is ∙ sym d.tells.out_is,
      c.tells.text_is ∙ sym d.tells.text_is,
    )

-- and so does `map_json`
pub one-both : {limit choice mode : ℕ} {code out text o p t u : List ℕ} {m x y : Mem} (a b : Result Written Refusal) → MappedBoth limit choice mode code m out text x o t (told_both a)
    → MappedBoth limit choice mode code m out text y p u (told_both b) → (a ≡ b) × (x ≡ y) × (o ≡ p) × (t ≡ u)
unfolding json_answer
one-both {limit} {choice} {mode} {code} {out} {text} {m = m} a b c d =
    let one = both-once c d in
    let plain = text-plain (length text) (answer (in_mode mode) (lent_of m out) limit choice code) (verdict-plain (verdict (in_mode mode) (lent_of m out) limit choice code)) in
    (both-same a b one.0 (rw (c.tells.number) plain), one.1, one.2, one.3)

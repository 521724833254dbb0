-- The number, or the count. Assumes nothing.
use mathlib.Core.Path.{◌≡◌, refl, sym, subst, ◌∙◌}
use Prim.Native.Nat.{ℕ, ◌+◌, ◌*◌, ◌/◌, ◌^◌, ◌≤◌}
use native.Mathlib.Nat.{min-le_right}
use native.Mathlib.Omega.{arith}
use mathlib.Core.List.{List}
use lib.ListN.{length}
use Rattle.spec.specs.Opcodes.{in_mode}
use Rattle.spec.specs.Answer as spec
use Rattle.spec.specs.Answer.{refused, answered, number_of, written, exported}
use Rattle.spec.specs.JsonAnswer.{json_answer, texted, exported_json}
use Rattle.theorems.proofs.JsonCall.{gave-text}
use Rattle.layout.specs.Buffers.{Mem}
use Rattle.answer.specs.Promises.{lent_of, Mapped, MappedBoth}
use Rattle.std.specs.Prelude.{Result, Ok, Err}
use Rattle.refusal.specs.Numbers as refusal
use Rattle.refusal.specs.declared.Refusal.{Refusal}
use Rattle.answer.specs.Told.{Answer, Both, told, told_both}
use Rattle.answer.specs.declared.both.Written.{Written}
use Rattle.answer.proofs.Numbers.{by_zero}
use Rattle.aznifrem.proofs.Telling.{number-some}
use Rattle.aznifrem.specs.Promises.{Gives, Exported, Few, GivesBoth, ExportedJson}

-- ---- given

module _ {a : Result ℕ Refusal} where
  pub gives-count : {n : ℕ} → a ≡ Ok n → Gives (told a) n
  gives-count q = rw q (record { number = λ h. absurd (h refl); count = λ _. refl })

  pub gives-number : {e : Refusal} → a ≡ Err e → {n : ℕ} → n ≡ refusal.number_of e → Gives (told a) n
  gives-number {e} q k = rw (q, k) (record { number = λ _. refl; count = λ z. absurd (number-some e z) })

module _ {a : Result Written Refusal} where
  pub gives-counts : {b : Written} → a ≡ Ok b → GivesBoth (told_both a) (b.entries + 2 ^ 32 * b.text)
  gives-counts q = rw q (record { number = λ h. absurd (h refl); counts = λ _. refl })

  pub gives-refusal : {e : Refusal} → a ≡ Err e → {n : ℕ} → Gives (told (Err e)) n → GivesBoth (told_both a) n
  gives-refusal {e} q k = rw q (record { number = k.number; counts = λ z. absurd (number-some e z) })

  -- both counts fit one number
  pub few-entries : Few (told_both a) → {b : Written} → a ≡ Ok b → b.entries ≤ 2 ^ 30
  few-entries f q = let k = rw q at f in k.out

  pub few-text : Few (told_both a) → {b : Written} → a ≡ Ok b → b.text ≤ 2 ^ 30
  few-text f q = let k = rw q at f in k.text

-- a number that is not 0 is the refusal's
number-given : (x : spec.Answer) → (number_of x ≡ 0 → ⊥) → number_of x ≡ exported x
number-given (refused n) h = refl
number-given (answered m) h = absurd (h refl)

count-given : (x : spec.Answer) → number_of x ≡ 0 → length (written x) ≡ exported x
count-given (refused n) h = sym h
count-given (answered m) h = refl

exported-gives : {limit choice mode : ℕ} {code : List ℕ} {m m' : Mem} {out out' : List ℕ} {a : Answer} {x : ℕ} → Mapped limit choice mode code m out m' out' a → Gives a x
    → Exported limit choice mode code m out m' out' x
exported-gives {limit} {choice} {mode} {code} {m} {m'} {out} {out'} {a} d g =
    let y = spec.answer (in_mode mode) (lent_of m out) limit choice code in
    record {
      number = by_zero a.number (λ z. g.count z ∙ d.tells.count ∙ count-given y (sym d.tells.number ∙ z))
          (λ h. g.number h ∙ d.tells.number ∙ number-given y (λ z. h (d.tells.number ∙ z)));
      out_is = d.tells.out_is;
      w = d.w;
      p = d.p;
      s = d.s;
      t = d.t;
      r = d.r;
      q = d.q;
    }

-- the six are back
pub exported-given : {limit choice mode : ℕ} {code : List ℕ} {m m' n : Mem} {out out' : List ℕ} {a : Answer} {x : ℕ} → Mapped limit choice mode code m out m' out' a → Gives a x → m' ≡ n
    → Exported limit choice mode code m out n out' x
exported-given {limit} {choice} {mode} {code} {m} {out = out} {out'} {x = x} d g e = subst (λ (k : Mem). Exported limit choice mode code m out k out' x) e (exported-gives d g)

-- ---- with the text

number-both : (x : spec.Answer) → (number_of x ≡ 0 → ⊥) → number_of x ≡ exported_json x
number-both (refused n) h = refl
number-both (answered m) h = absurd (h refl)

counts-both : (x : spec.Answer) → number_of x ≡ 0 → length (written x) + 2 ^ 32 * length (texted x) ≡ exported_json x
counts-both (refused n) h = omega arith
counts-both (answered m) h = refl

-- both counts are at most 2^30
record Small (x : spec.Answer) : Type 0 where
  out : length (written x) ≤ 2 ^ 30
  text : length (texted x) ≤ 2 ^ 30

module _ {limit choice mode : ℕ} {code : List ℕ} {m m' : Mem} {out text out' text' : List ℕ} {a : Both} (d : MappedBoth limit choice mode code m out text m' out' text' a) where
  abbrev answers : spec.Answer
  answers = json_answer (in_mode mode) (lent_of m out) (length text) limit choice code

  small : Small answers
  small = by answers refl
    where
      by : (y : spec.Answer) → answers ≡ y → Small y
      by (refused n) e = record { out = omega arith; text = omega arith }
      by (answered x) e =
          let g = gave-text (in_mode mode) (lent_of m out) (length text) limit choice code x e in
          record { out = omega (arith, g.output, min-le_right (length out / 1) (2 ^ 30)); text = omega (arith, g.text-room, min-le_right (length text / 1) (2 ^ 30)) }

  pub json-few : Few a
  json-few = record { out = omega (arith, d.tells.count, small.out); text = omega (arith, d.tells.shows, small.text) }

  json-gives : {x : ℕ} → GivesBoth a x → ExportedJson limit choice mode code m out text m' out' text' x
  json-gives g = record {
    number = by_zero a.number (λ z. g.counts z ∙ rw (d.tells.count, d.tells.shows) (counts-both answers (sym d.tells.number ∙ z)))
        (λ h. g.number h ∙ d.tells.number ∙ number-both answers (λ z. h (d.tells.number ∙ z)));
    out_is = d.tells.out_is;
    text_is = d.tells.text_is;
    w = d.w;
    p = d.p;
    s = d.s;
    t = d.t;
    r = d.r;
    q = d.q;
  }

  pub json-given : {x : ℕ} → GivesBoth a x → {n : Mem} → m' ≡ n → ExportedJson limit choice mode code m out text n out' text' x
  json-given {x} g e = subst (λ (k : Mem). ExportedJson limit choice mode code m out text k out' text' x) e (json-gives g)

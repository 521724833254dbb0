-- The refusals that touch nothing, and the rooms wiped after all others. Assumes nothing.
use mathlib.Core.Path.{◌≡◌, refl, sym, ap, ◌∙◌, subst}
use Prim.Native.Nat.{ℕ, ◌≤◌, ◌<◌}
use native.Mathlib.Omega.{arith}
use mathlib.Core.Bool.{true, ◌||◌}
use mathlib.Core.List.{List}
use lib.Dec.{eqb, ltb}
use lib.ListN.{length, replicate}
use borrow.Author.Tests.{ltb-true, ltb-false, lt-ltb, le-ltb}
use Rattle.spec.specs.Opcodes.{in_mode}
use Rattle.spec.specs.Lists.{if, within}
use Rattle.spec.specs.Rooms.{Lent, longest, work_need}
use Rattle.spec.specs.Answer as spec
use Rattle.spec.specs.Answer.{refused, number_of, written, searched, mapped, answer, room_after, output_after}
use Rattle.layout.specs.Buffers.{Mem}
use Rattle.laws.proofs.Branch.{both, if-true, if-false}
use Rattle.std.specs.Prelude.{Result, Ok, Err}
use Rattle.refusal.specs.Numbers as refusals
use Rattle.refusal.specs.declared.Refusal.{Refusal}
use Rattle.refusal.specs.declared.Refusal.TheVariants as refusal
use Rattle.refusal.specs.declared.Refusal.TheVariants.{Code, Limit, Work, Room, Output, Input, Text, Entry, Log, Counts, Total, Path, Archive}
use Rattle.refusal.specs.declared.Shortage.TheVariants.{P, S, T, R, Q}
use Rattle.exec.specs.Modes.{mode_of}
use Rattle.exec.specs.declared.mode.Mode.{Mode}
use Rattle.exec.specs.declared.mode.Mode.TheVariants.{Plain, KnownZero}
use Rattle.answer.specs.Told.{Answer, Both, told, told_both}
use Rattle.answer.specs.Promises.{lent_of, Lends, early_of, First, Tested, rest, Ran, Wiped, Mapped, RanBoth, MappedBoth}
use Rattle.spec.specs.JsonAnswer.{within_text, json_answer, texted, text_after}
use Rattle.answer.proofs.Numbers.{Late, late-shortage, late-rest, late-text, late-apart}

-- ---- the rooms: a refusal of 1, 2, 13 or 3 leaves them, and any other answer has them wiped

stays : (x : spec.Answer) (n : ℕ) → within 1 3 n || eqb n 13 ≡ true → x ≡ refused n → (b : List ℕ) → b ≡ room_after x b
stays x n h e b = sym (if-true (within 1 3 n || eqb n 13) b (replicate (length b) 0) h) ∙ sym (ap (λ (y : spec.Answer). room_after y b) e)

wiped : (x : spec.Answer) → Late (number_of x) → (b b₁ : List ℕ) {b' : List ℕ} → length b₁ ≡ length b → b' ≡ replicate (length b₁) 0 → b' ≡ room_after x b
wiped x late b b₁ e f = f ∙ ap (λ (n : ℕ). replicate n 0) e ∙ sym (if-false (within 1 3 (number_of x) || eqb (number_of x) 13) b (replicate (length b) 0) (late-apart _ late))

-- ---- the tests in their order

mode-small : (m : Mode) {k : ℕ} → mode_of m ≡ k → k ≤ 1
mode-small Plain e = omega (arith, e)
mode-small KnownZero e = omega (arith, e)

-- a refusal is told of by its number
refuse : {n limit mode w : ℕ} (e : Refusal) → refusals.number_of e ≡ early_of n limit mode w → Tested n limit mode w (Err e)
refuse {n} {limit} {mode} {w} e h = record { refused = λ d q. let same : e ≡ d = cc in rw (← same) record { is = h }; taken = λ m q. other q }
  where
    other : {A : Type 0} {m : Mode} → Err e ≡ Ok m → A
    other q = cc

module _ (n limit mode w : ℕ) where
  pub first-long : longest < n → Tested n limit mode w (Err Code)
  first-long h = refuse Code (sym (if-true _ _ _ (lt-ltb _ _ h)))

  module _ (short : n ≤ longest) where
    pub first-over : 500000 < limit → Tested n limit mode w (Err Limit)
    first-over h = refuse Limit (sym (if-false _ _ _ (le-ltb _ _ short) ∙ if-true _ _ _ (lt-ltb _ _ h)))

    module _ (limited : limit ≤ 500000) where
      pub first-moded : {e : Refusal} → (e ≡ refusal.Mode) × (1 < mode) → Tested n limit mode w (Err e)
      first-moded h = rw h.0 (refuse refusal.Mode (sym (if-false _ _ _ (le-ltb _ _ short) ∙ if-false _ _ _ (le-ltb _ _ limited) ∙ if-true _ _ _ (lt-ltb _ _ h.1))))

      module _ (m : Mode) (is : mode_of m ≡ mode) {need : ℕ} (e : need ≡ work_need n) where
        first-room : early_of n limit mode w ≡ if (ltb w (work_need n)) 3 0
        first-room = if-false _ _ _ (le-ltb _ _ short) ∙ if-false _ _ _ (le-ltb _ _ limited) ∙ if-false _ _ _ (le-ltb _ _ (mode-small m is))

        pub first-scant : w < need → Tested n limit mode w (Err Work)
        first-scant h = refuse Work (sym (first-room ∙ if-true _ _ _ (lt-ltb w (work_need n) (omega arith))))

        pub first-none : need ≤ w → Tested n limit mode w (Ok m)
        first-none h = record {
          refused = λ d q. other q;
          taken = λ k q. let same : m ≡ k = cc in (record { is = sym (first-room ∙ if-false _ _ _ (le-ltb w (work_need n) (omega arith))) }, rw (← same) is);
        }
          where
            other : {A : Type 0} {d : Refusal} → Ok m ≡ Err d → A
            other q = cc

-- what the first that applies says
data Early (n limit mode w x : ℕ) : Type 0 where
  long : x ≡ 1 → longest < n → Early n limit mode w x
  over : x ≡ 2 → n ≤ longest → 500000 < limit → Early n limit mode w x
  moded : x ≡ 13 → n ≤ longest → limit ≤ 500000 → 1 < mode → Early n limit mode w x
  scant : x ≡ 3 → n ≤ longest → limit ≤ 500000 → mode ≤ 1 → w < work_need n → Early n limit mode w x
  taken : x ≡ 0 → n ≤ longest → limit ≤ 500000 → mode ≤ 1 → work_need n ≤ w → Early n limit mode w x

tested : (n limit mode w : ℕ) → Early n limit mode w (early_of n limit mode w)
tested n limit mode w =
    both (Early n limit mode w) (ltb longest n) (λ on. long refl (ltb-true _ _ on))
    (λ short. both (Early n limit mode w) (ltb 500000 limit) (λ on. over refl (ltb-false _ _ short) (ltb-true _ _ on))
    (λ limited. both (Early n limit mode w) (ltb 1 mode) (λ on. moded refl (ltb-false _ _ short) (ltb-false _ _ limited) (ltb-true _ _ on))
    (λ is. both (Early n limit mode w) (ltb w (work_need n)) (λ on. scant refl (ltb-false _ _ short) (ltb-false _ _ limited) (ltb-false _ _ is) (ltb-true _ _ on))
    (λ lent. taken refl (ltb-false _ _ short) (ltb-false _ _ limited) (ltb-false _ _ is) (ltb-false _ _ lent)))))

module _ (limit choice mode : ℕ) (code : List ℕ) (l : Lent) where
  -- the answer is the first of them
  refuses : {x : ℕ} → Early (length code) limit mode l.w x → (x ≡ 0 → ⊥) → (within 1 3 x || eqb x 13 ≡ true) × (answer (in_mode mode) l limit choice code ≡ refused x)
  unfolding answer
  refuses (long e h) z = rw e (refl, if-true (ltb longest (length code)) _ _ (lt-ltb _ _ h))
  refuses (over e short h) z =
      rw e (refl, if-false (ltb longest (length code)) _ _ (le-ltb _ _ short) ∙ if-true (ltb 500000 limit) _ _ (lt-ltb _ _ h))
  refuses (moded e short limited h) z =
      rw e (
        refl,
        if-false (ltb longest (length code)) _ _ (le-ltb _ _ short) ∙ if-false (ltb 500000 limit) _ _ (le-ltb _ _ limited)
            ∙ if-true (ltb 1 mode) _ _ (lt-ltb _ _ h),
      )
  refuses (scant e short limited is h) z =
      rw e (
        refl,
        if-false (ltb longest (length code)) _ _ (le-ltb _ _ short) ∙ if-false (ltb 500000 limit) _ _ (le-ltb _ _ limited) ∙ if-false (ltb 1 mode) _ _ (le-ltb _ _ is)
            ∙ if-true (ltb l.w (work_need (length code))) _ _ (lt-ltb _ _ h),
      )
  refuses (taken e short limited is lent) z = absurd (z e)

  answer-rest : length code ≤ longest → limit ≤ 500000 → mode ≤ 1 → work_need (length code) ≤ l.w → answer (in_mode mode) l limit choice code ≡ rest l limit choice mode code
  unfolding answer
  answer-rest short limited is lent =
      if-false (ltb longest (length code)) _ _ (le-ltb _ _ short) ∙ if-false (ltb 500000 limit) _ _ (le-ltb _ _ limited) ∙ if-false (ltb 1 mode) _ _ (le-ltb _ _ is)
      ∙ if-false (ltb l.w (work_need (length code))) _ _ (le-ltb _ _ lent)

-- where none applies the code is taken, and the mode is one
early-lends : {mode limit x : ℕ} {code w : List ℕ} → First (length code) limit mode (length w) x → x ≡ 0 → Lends limit code w
early-lends {mode} {limit} {x} {code} {w} f z = by (subst (Early (length code) limit mode (length w)) (sym f.is) (tested _ _ _ _)) z
  where
    by : Early (length code) limit mode (length w) x → x ≡ 0 → Lends limit code w
    by (long e h) z = absurd (omega arith)
    by (over e short h) z = absurd (omega arith)
    by (moded e short limited h) z = absurd (omega arith)
    by (scant e short limited m h) z = absurd (omega arith)
    by (taken e short limited m lent) z = record { short = short; limited = limited; lent = lent }

early-mode : {n limit mode w x : ℕ} → First n limit mode w x → x ≡ 0 → mode ≤ 1
early-mode {n} {limit} {mode} {w} {x} f z = by (subst (Early n limit mode w) (sym f.is) (tested n limit mode w)) z
  where
    by : Early n limit mode w x → x ≡ 0 → mode ≤ 1
    by (long e h) z = absurd (omega arith)
    by (over e short h) z = absurd (omega arith)
    by (moded e short limited h) z = absurd (omega arith)
    by (scant e short limited m h) z = absurd (omega arith)
    by (taken e short limited m lent) z = m

-- the mode that is taken
pub taken-lends : {mode limit : ℕ} {code w : List ℕ} {x : Result Mode Refusal} {m : Mode} → Tested (length code) limit mode (length w) x → x ≡ Ok m → Lends limit code w
taken-lends {m = m} t e = early-lends (t.taken m e).0 refl

module _ {n w mode limit : ℕ} {x : Result Mode Refusal} (m : Mode) (t : Tested n limit mode w x) (e : x ≡ Ok m) where
  pub taken-small : mode ≤ 1
  taken-small = early-mode (t.taken m e).0 refl

  pub taken-mode : mode_of m ≡ mode
  taken-mode = (t.taken m e).1

-- a refusal has a number
pub some-number : (e : Refusal) → refusals.number_of e ≡ 0 → ⊥
some-number Code z = omega (arith, z)
some-number Limit z = omega (arith, z)
some-number Work z = omega (arith, z)
some-number (Room P) z = omega (arith, z)
some-number (Room S) z = omega (arith, z)
some-number (Room T) z = omega (arith, z)
some-number (Room R) z = omega (arith, z)
some-number (Room Q) z = omega (arith, z)
some-number Output z = omega (arith, z)
some-number Input z = omega (arith, z)
some-number Text z = omega (arith, z)
some-number (Entry _) z = omega (arith, z)
some-number refusal.Mode z = omega (arith, z)
some-number Log z = omega (arith, z)
some-number Counts z = omega (arith, z)
some-number Total z = omega (arith, z)
some-number (Path _) z = omega (arith, z)
some-number Archive z = omega (arith, z)

late-all : (limit choice mode : ℕ) (code : List ℕ) (l : Lent) → Late (number_of (rest l limit choice mode code))
late-all limit choice mode code l = late-rest l (mapped (in_mode mode) choice code (searched (in_mode mode) limit code)) _ (late-shortage l (searched (in_mode mode) limit code).needs)

-- ---- the entry

module _ (limit choice mode : ℕ) (code : List ℕ) (m : Mem) (out : List ℕ) where
  -- nothing is touched
  untouched : (n : ℕ) → within 1 3 n || eqb n 13 ≡ true → answer (in_mode mode) (lent_of m out) limit choice code ≡ refused n → Mapped limit choice mode code m out m out (record { number = n; written = 0 })
  untouched n h e =
      let same : (b : List ℕ) → b ≡ room_after (answer (in_mode mode) (lent_of m out) limit choice code) b = stays (answer (in_mode mode) (lent_of m out) limit choice code) n h e in
      record {
        tells = record { number = sym (ap number_of e); count = sym (ap (λ (x : spec.Answer). length (written x)) e); out_is = sym (ap (λ (x : spec.Answer). output_after x out) e) };
        w = same m.w;
        p = same m.p;
        s = same m.s;
        t = same m.t;
        r = same m.r;
        q = same m.q;
      }

  pub mapped-early : {x : Result Mode Refusal} {e : Refusal} → Tested (length code) limit mode (length m.w) x → x ≡ Err e → Mapped limit choice mode code m out m out (told (Err e))
  mapped-early {e = e} t is =
      let k = refuses limit choice mode code (lent_of m out) (subst (Early (length code) limit mode (length m.w)) (sym (t.refused e is).is) (tested _ _ _ _)) (some-number e) in
      untouched _ k.0 k.1

  module _ (h : Lends limit code m.w) (is-mode : mode ≤ 1) {k : ℕ} (is_number : k ≡ mode) {m₁ m' : Mem} {out' : List ℕ} {a : Answer}
      (run : Ran limit choice k code m out out' a) (x : Wiped m₁ m') where
    ran : Ran limit choice mode code m out out' a
    ran = subst (λ (j : ℕ). Ran limit choice j code m out out' a) is_number run

    pub mapped-run : length m₁.w ≡ length m.w → length m₁.p ≡ length m.p → length m₁.s ≡ length m.s → length m₁.t ≡ length m.t
        → length m₁.r ≡ length m.r → length m₁.q ≡ length m.q → Mapped limit choice mode code m out m' out' a
    mapped-run ew ep es et er eq =
        let is : answer (in_mode mode) (lent_of m out) limit choice code ≡ rest (lent_of m out) limit choice mode code = answer-rest limit choice mode code (lent_of m out) h.short h.limited is-mode h.lent in
        let late : Late (number_of (answer (in_mode mode) (lent_of m out) limit choice code)) = subst (λ (y : spec.Answer). Late (number_of y)) (sym is) (late-all limit choice mode code (lent_of m out)) in
        record {
          tells = record {
            number = ran.number ∙ sym (ap number_of is);
            count = ran.count ∙ sym (ap (λ (y : spec.Answer). length (written y)) is);
            out_is = ran.out_is ∙ sym (ap (λ (y : spec.Answer). output_after y out) is);
          };
          w = wiped (answer (in_mode mode) (lent_of m out) limit choice code) late m.w m₁.w ew x.w;
          p = wiped (answer (in_mode mode) (lent_of m out) limit choice code) late m.p m₁.p ep x.p;
          s = wiped (answer (in_mode mode) (lent_of m out) limit choice code) late m.s m₁.s es x.s;
          t = wiped (answer (in_mode mode) (lent_of m out) limit choice code) late m.t m₁.t et x.t;
          r = wiped (answer (in_mode mode) (lent_of m out) limit choice code) late m.r m₁.r er x.r;
          q = wiped (answer (in_mode mode) (lent_of m out) limit choice code) late m.q m₁.q eq x.q;
        }

-- ---- with the text

module _ (limit choice mode : ℕ) (code : List ℕ) (m : Mem) (out text : List ℕ) where
  abbrev given : spec.Answer
  given = json_answer (in_mode mode) (lent_of m out) (length text) limit choice code

  given-as : {x : spec.Answer} → answer (in_mode mode) (lent_of m out) limit choice code ≡ x → given ≡ within_text (length text) x
  unfolding json_answer
  given-as e = ap (within_text (length text)) e

  untouched-both : (n : ℕ) → within 1 3 n || eqb n 13 ≡ true → given ≡ refused n → MappedBoth limit choice mode code m out text m out text (record { number = n; written = 0; texted = 0 })
  untouched-both n h e =
      let same : (b : List ℕ) → b ≡ room_after given b = stays given n h e in
      record {
        tells = record {
          number = sym (ap number_of e);
          count = sym (ap (λ (x : spec.Answer). length (written x)) e);
          shows = sym (ap (λ (x : spec.Answer). length (texted x)) e);
          out_is = sym (ap (λ (x : spec.Answer). output_after x out) e);
          text_is = sym (ap (λ (x : spec.Answer). text_after x text) e);
        };
        w = same m.w;
        p = same m.p;
        s = same m.s;
        t = same m.t;
        r = same m.r;
        q = same m.q;
      }

  pub both-early : {x : Result Mode Refusal} {e : Refusal} → Tested (length code) limit mode (length m.w) x → x ≡ Err e
      → MappedBoth limit choice mode code m out text m out text (told_both (Err e))
  both-early {e = e} t is =
      let k = refuses limit choice mode code (lent_of m out) (subst (Early (length code) limit mode (length m.w)) (sym (t.refused e is).is) (tested _ _ _ _)) (some-number e) in
      untouched-both _ k.0 (given-as k.1)

  module _ (h : Lends limit code m.w) (is-mode : mode ≤ 1) {k : ℕ} (is_number : k ≡ mode) {m₁ m' : Mem} {out' text' : List ℕ} {a : Both}
      (run : RanBoth limit choice k code m out out' text text' a) (x : Wiped m₁ m') where
    ran-both : RanBoth limit choice mode code m out out' text text' a
    ran-both = subst (λ (j : ℕ). RanBoth limit choice j code m out out' text text' a) is_number run

    pub both_run : length m₁.w ≡ length m.w → length m₁.p ≡ length m.p → length m₁.s ≡ length m.s → length m₁.t ≡ length m.t
        → length m₁.r ≡ length m.r → length m₁.q ≡ length m.q → MappedBoth limit choice mode code m out text m' out' text' a
    both_run ew ep es et er eq =
        let is : given ≡ within_text (length text) (rest (lent_of m out) limit choice mode code) = given-as (answer-rest limit choice mode code (lent_of m out) h.short h.limited is-mode h.lent) in
        let late : Late (number_of given)
        = subst (λ (y : spec.Answer). Late (number_of y)) (sym is) (late-text (length text) (rest (lent_of m out) limit choice mode code) (late-all limit choice mode code (lent_of m out))) in
        record {
          tells = record {
            number = ran-both.number ∙ sym (ap number_of is);
            count = ran-both.count ∙ sym (ap (λ (y : spec.Answer). length (written y)) is);
            shows = ran-both.shows ∙ sym (ap (λ (y : spec.Answer). length (texted y)) is);
            out_is = ran-both.out_is ∙ sym (ap (λ (y : spec.Answer). output_after y out) is);
            text_is = ran-both.text_is ∙ sym (ap (λ (y : spec.Answer). text_after y text) is);
          };
          w = wiped given late m.w m₁.w ew x.w;
          p = wiped given late m.p m₁.p ep x.p;
          s = wiped given late m.s m₁.s es x.s;
          t = wiped given late m.t m₁.t et x.t;
          r = wiped given late m.r m₁.r er x.r;
          q = wiped given late m.q m₁.q eq x.q;
        }

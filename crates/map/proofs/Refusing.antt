-- When the program refuses what is typed, and the line that says so. Assumes nothing.
use mathlib.Core.Path.{◌≡◌, refl, ◌∙◌, ap, sym, subst}
use mathlib.Core.Bool.{Bool, true, false}
use mathlib.Core.List.{List, [], ◌∷◌}
use mathlib.Core.Option.{Option, none, some}
use Prim.Native.Nat.{ℕ, suc, ◌+◌, ◌*◌, ◌/◌, ◌%◌, ◌≤◌, ◌<◌}
use native.Mathlib.Omega.{arith}
use lib.Dec.{ltb}
use lib.ListN.{length, take, length-take}
use lib.Seq.{take_all}
use borrow.Author.Tests.{ltb-true, ltb-false, lt-ltb, le-ltb}
use Rattle.spec.specs.Opcodes.{in_mode}
use Rattle.spec.specs.Lists.{little}
use Rattle.spec.specs.Answer.{answer}
use Rattle.spec.specs.Program.{digit, pair, decoded, prints, says_refused, decimal, lends, runs_on, program}
use Rattle.laws.proofs.Branch.{both, if-true, if-false}
use Rattle.refusal.specs.Numbers.{number_of}
use Rattle.refusal.specs.declared.Refusal.{Refusal}
use Rattle.refusal.specs.declared.Refusal.TheVariants.{Code, Limit, Work, Room, Output, Input, Text, Entry, Mode, Log, Counts, Total, Path, Archive}
use Rattle.refusal.specs.declared.Shortage.TheVariants.{P, S, T, R, Q}
use Rattle.lent.specs.Bytes.{Stored}
use Rattle.lent.proofs.Stored.{stored-join}

-- ---- what is refused

module _ (text : List ℕ) where
  pub refused_none : decoded text ≡ none → program text ≡ says_refused 10
  unfolding program
  refused_none e = rw e

  pub refused_over : {code : List ℕ} → decoded text ≡ some code → 512 < length code → program text ≡ says_refused 10
  unfolding program
  refused_over {code} e h = ap runs_on e ∙ if-true _ _ _ (lt-ltb 512 (length code) h)

  pub answered-some : {code : List ℕ} → decoded text ≡ some code → length code ≤ 512 → program text ≡ prints (answer (in_mode 0) lends 500000 1 code)
  unfolding program
  answered-some {code} e h = ap runs_on e ∙ if-false _ _ _ (le-ltb 512 (length code) h)

-- ---- a text of 1,026 characters or more has no code of 512 bytes or fewer

-- what is decoded, if anything, is about half as long
pub data Halves (k : ℕ) : Option (List ℕ) → Type 0 where
  nothing : Halves k none
  bytes : {bs : List ℕ} → k ≤ 2 * length bs + 1 → Halves k (some bs)

halves-pair : (a b : Option ℕ) {k : ℕ} {o : Option (List ℕ)} → Halves k o → Halves (suc (suc k)) (pair a b o)
halves-pair none b h = nothing
halves-pair (some a) none h = nothing
halves-pair (some a) (some b) nothing = nothing
halves-pair (some a) (some b) (bytes {bs} h) = bytes {bs = (16 * a + b) ∷ bs} (omega arith)

pub halves : (text : List ℕ) → Halves (length text) (decoded text)
unfolding decoded
halves [] = bytes {bs = []} (omega arith)
halves (c ∷ []) = both (Halves 1) _ (λ _. bytes {bs = []} (omega arith)) (λ _. nothing)
halves (c ∷ d ∷ cs) = halves-pair (digit c) (digit d) (halves cs)

long-refused : (text : List ℕ) (o : Option (List ℕ)) → decoded text ≡ o → Halves (length text) o → 1025 < length text → program text ≡ says_refused 10
long-refused text none e h l = refused_none text e
long-refused text (some bs) e (bytes h) l = refused_over text e (omega arith)

pub refused-long : (text : List ℕ) → 1025 < length text → program text ≡ says_refused 10
refused-long text l = long-refused text (decoded text) refl (halves text) l

-- So the first 1,026 characters decide what is printed, and the program reads no more.
pub first-decide : (text : List ℕ) → program (take 1026 text) ≡ program text
first-decide text = by_length (ltb 1025 (length text)) refl
  where
    by_length : (b : Bool) → ltb 1025 (length text) ≡ b → program (take 1026 text) ≡ program text
    by_length true e =
        let l : 1025 < length text = ltb-true _ _ e in
        refused-long (take 1026 text) (omega (arith, length-take 1026 text)) ∙ sym (refused-long text l)
    by_length false e = ap program (take_all 1026 text (let l : length text ≤ 1025 = ltb-false _ _ e in omega arith))

-- ---- the line

module _ (n : ℕ) {b b₁ b₂ : List ℕ} where
  says-one : n < 10 → Stored 8 b 0 (little 8 0x2064657375666572) b₁ → Stored 2 b₁ 8 (little 2 (0x0A30 + n)) b₂ → Stored 10 b 0 (says_refused n) b₂
  says-one h s t =
      let low : (0x0A30 + n) % 256 ≡ 0x30 + n = omega arith in
      let high : (0x0A30 + n) / 256 ≡ 0x0A = omega arith in
      let one : decimal n ≡ (0x30 + n) ∷ [] = if-true _ _ _ (lt-ltb n 10 h) in
      rw one (stored-join s (rw (low, high) at t))

  says_two : {b₃ : List ℕ} → n < 100 → 10 ≤ n → Stored 8 b 0 (little 8 0x2064657375666572) b₁
      → Stored 2 b₁ 8 (little 2 (0x3030 + n / 10 + 256 * (n % 10))) b₂ → Stored 1 b₂ 10 (little 1 0x0A) b₃ → Stored 11 b 0 (says_refused n) b₃
  says_two g h s t u =
      let low : (0x3030 + n / 10 + 256 * (n % 10)) % 256 ≡ 0x30 + n / 10 = omega arith in
      let high : (0x3030 + n / 10 + 256 * (n % 10)) / 256 ≡ 0x30 + n % 10 = omega arith in
      let byte : (0x30 + n % 10) % 256 ≡ 0x30 + n % 10 = omega arith in
      let two : decimal n ≡ (0x30 + n / 10) ∷ (0x30 + n % 10) ∷ [] = if-false _ _ _ (le-ltb n 10 h) in
      rw two (stored-join (stored-join s (rw (low, high, byte) at t)) u)

-- a refusal's number has two digits at most
number-small : (r : Refusal) → number_of r < 100
number-small Code = omega arith
number-small Limit = omega arith
number-small Work = omega arith
number-small (Room P) = omega arith
number-small (Room S) = omega arith
number-small (Room T) = omega arith
number-small (Room R) = omega arith
number-small (Room Q) = omega arith
number-small Output = omega arith
number-small Input = omega arith
number-small Text = omega arith
number-small (Entry _) = omega arith
number-small Mode = omega arith
number-small Log = omega arith
number-small Counts = omega arith
number-small Total = omega arith
number-small (Path _) = omega arith
number-small Archive = omega arith

module _ (r : Refusal) {k : ℕ} (is : k ≡ number_of r) {b b₁ b₂ : List ℕ} where
  pub refusal-one : k < 10 → Stored 8 b 0 (little 8 0x2064657375666572) b₁ → Stored 2 b₁ 8 (little 2 (0x0A30 + k)) b₂ → Stored 10 b 0 (says_refused (number_of r)) b₂
  refusal-one h s t = subst (λ (n : ℕ). Stored 10 b 0 (says_refused n) b₂) is (says-one k h s t)

  pub refusal-two : {b₃ : List ℕ} → 10 ≤ k → Stored 8 b 0 (little 8 0x2064657375666572) b₁
      → Stored 2 b₁ 8 (little 2 (0x3030 + k / 10 + 256 * (k % 10))) b₂ → Stored 1 b₂ 10 (little 1 0x0A) b₃ → Stored 11 b 0 (says_refused (number_of r)) b₃
  refusal-two {b₃} h s t u = subst (λ (n : ℕ). Stored 11 b 0 (says_refused n) b₃) is (says_two k (omega (arith, number-small r, is)) h s t u)

-- A list of texts with commas, as it grows: one more stands behind a comma, unless the list is still where it began. Assumes nothing.
use mathlib.Core.Path.{◌≡◌, refl, sym, ap, ◌∙◌}
use mathlib.Core.Bool.{Bool}
use mathlib.Core.List.{List, [], ◌∷◌, ◌++◌, map, map-append, append_assoc, append-nil}
use Prim.Native.Nat.{ℕ, ◌+◌, ◌≤◌}
use native.Mathlib.Nat.{add-zero}
use native.Mathlib.Omega.{arith}
use lib.Dec.{eqb}
use lib.ListN.{length, length-append}
use borrow.Author.Tests.{eq-eqb, ne_eqb}
use Rattle.spec.specs.Lists.{keep, gather}
use Rattle.spec.specs.Json.{ascii}
use Rattle.laws.proofs.Branch.{both, if-true, if-false}
use Rattle.laws.proofs.Members.{gather_append}
use Rattle.output.specs.declared.Output.{Output}
use Rattle.output.specs.Promises.{Puts, PutsFew}
use Rattle.output.proofs.Puts.{puts_none, puts-few}
use Rattle.json_text.specs.Rows.{lined, mark, next}

-- ---- the comma

mark-none : (begin at : ℕ) → at ≡ begin → mark begin at ≡ []
unfolding mark
mark-none begin at e = if-true (eqb at begin) [] (ascii ",") (eq-eqb at begin e)

mark-some : (begin at : ℕ) → (at ≡ begin → ⊥) → mark begin at ≡ ascii ","
unfolding mark
mark-some begin at ne = if-false (eqb at begin) [] (ascii ",") (ne_eqb at begin ne)

pub comma-none : {begin : ℕ} {o : Output} → o.end ≡ begin → PutsFew 1 o (mark begin o.end) o
comma-none {begin} {o} e = rw (mark-none begin o.end e) record { puts = puts_none o; few = omega arith }

pub comma-some : {begin : ℕ} {o o' : Output} → (o.end ≡ begin → ⊥) → Puts 1 o (ascii ",") o' → PutsFew 1 o (mark begin o.end) o'
comma-some {begin} {o} ne p = rw (mark-some begin o.end ne) (puts-few 1 p (omega arith))

-- ---- one more

module _ (f : ℕ → List ℕ) (some : (i : ℕ) → 1 ≤ length (f i)) where
  pub lined-more : (is : List ℕ) (i begin : ℕ) → lined f (is ++ i ∷ []) ≡ lined f is ++ (mark begin (begin + length (lined f is)) ++ f i)
  unfolding lined
  lined-more [] i begin = rw (add-zero, mark-none begin begin refl) (append-nil (f i))
  lined-more (j ∷ is) i begin =
      let g : List ℕ → List ℕ = λ (y : List ℕ). ascii "," ++ y in
      let rest : List ℕ = gather g (map f is) in
      let away : begin + length (f j ++ rest) ≡ begin → ⊥ = λ e. omega (arith, some j, length-append (f j) rest) in
      let last : gather g (map f (is ++ i ∷ [])) ≡ rest ++ (ascii "," ++ f i)
      = ap (gather g) (map-append f is (i ∷ [])) ∙ gather_append g (map f is) (f i ∷ []) ∙ ap (λ (l : List ℕ). rest ++ l) (append-nil (ascii "," ++ f i)) in
      ap (λ (l : List ℕ). f j ++ l) last ∙ sym (append_assoc (f j) rest (ascii "," ++ f i)) ∙ sym (ap (λ (l : List ℕ). (f j ++ rest) ++ (l ++ f i)) (mark-some begin (begin + length (f j ++ rest)) away))

  -- none more, or one
  pub lined-next : (p : ℕ → Bool) (is : List ℕ) (i begin : ℕ)
      → lined f (is ++ keep p (i ∷ [])) ≡ lined f is ++ next begin (begin + length (lined f is)) f (keep p (i ∷ []))
  unfolding next
  lined-next p is i begin =
      both (λ (l : List ℕ). lined f (is ++ l) ≡ lined f is ++ next begin (begin + length (lined f is)) f l) (p i)
      (λ _. lined-more is i begin)
      (λ _. ap (lined f) (append-nil is) ∙ sym (append-nil (lined f is)))

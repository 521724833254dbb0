-- The family of a code, by its length. Assumes nothing.
use mathlib.Core.Path.{◌≡◌, refl, sym, ◌∙◌}
use mathlib.Core.List.{List}
use mathlib.Core.Bool.{not}
use Prim.Native.Nat.{ℕ, ◌≤◌, ◌<◌}
use lib.Dec.{eqb}
use borrow.Author.Tests.{lt-ltb, le-ltb, eq-eqb, ne_eqb}
use Rattle.std.specs.Prelude.{Option, Some, None, is_some, unwrap_or}
use Rattle.spec.specs.Lists.{if}
use Rattle.laws.proofs.Branch.{both, if-true, if-false}
use Rattle.layout.specs.Edges.{goal_of}
use Rattle.entries.specs.Promises.{GoalOf}
use Rattle.spec.specs.Entries.{wide_code}
use Rattle.entries.specs.declared.family.Family.{Family}
use Rattle.layout.specs.Marks.{NOWHERE}
use Rattle.entries.specs.Families.{family_of, written_to, led_to}

abbrev kinds : ℕ → ℕ → ℕ → ℕ → Family
kinds way plain numbered missing = record { way = way; plain = plain; numbered = numbered; missing = missing }

pub family-wide : (n : ℕ) → 24576 < n → kinds 10 11 12 0xFFFF ≡ family_of (wide_code n)
family-wide n h = rw (lt-ltb 24576 n h)

pub family-narrow : (n : ℕ) → n ≤ 24576 → kinds 7 8 9 0x8000 ≡ family_of (wide_code n)
family-narrow n h = rw (le-ltb 24576 n h)

-- ---- a row's destination

pub led-none : (to : ℕ) → to ≡ NOWHERE → led_to to ≡ None
unfolding led_to
led-none to e = if-true (eqb to NOWHERE) None (Some to) (eq-eqb to NOWHERE e)

pub led-to : (to : ℕ) → (to ≡ NOWHERE → ⊥) → led_to to ≡ Some to
unfolding led_to
led-to to d = if-false (eqb to NOWHERE) None (Some to) (ne_eqb to NOWHERE d)

pub led-some : (to : ℕ) → is_some (led_to to) ≡ not (eqb to NOWHERE)
unfolding led_to
led-some to = both (λ (t : Option ℕ). is_some t ≡ not (eqb to NOWHERE)) (eqb to NOWHERE) (λ e. rw e refl) (λ e. rw e refl)

pub goal-written : (missing : ℕ) {r : List ℕ} {i x : ℕ} {t : Option ℕ} → GoalOf r i t → x ≡ unwrap_or t missing → x ≡ written_to missing (goal_of r i)
unfolding led_to written_to
goal-written missing {r} {i} g h =
    let to : ℕ = goal_of r i in
    h ∙ rw g.is (both (λ (t : Option ℕ). unwrap_or t missing ≡ if (eqb to NOWHERE) missing to) (eqb to NOWHERE) (λ e. sym (if-true (eqb to NOWHERE) missing to e)) (λ e. sym (if-false (eqb to NOWHERE) missing to e)))

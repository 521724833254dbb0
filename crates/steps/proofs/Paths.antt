-- The laws of the counts in W: what they tell of the path, what they depend on, and what stays where only they change. Assumes nothing.
use mathlib.Core.Path.{◌≡◌, refl, ◌∙◌}
use mathlib.Core.Bool.{not}
use mathlib.Core.List.{List}
use Prim.Native.Nat.{ℕ, ◌+◌, ◌≤◌}
use native.Mathlib.Omega.{arith}
use lib.Dec.{eqb}
use lib.ListN.{take}
use Rattle.spec.specs.Lists.{mem}
use Rattle.lent.proofs.Numbers.{num-prefix}
use Rattle.layout.specs.Fields.{COUNT, HIGHEST, FLAG, flag_at, count_at}
use Rattle.layout.specs.Parts.{fields_place, list_place, SameFields}
use Rattle.reachable.specs.Marks.{flagged}
use Rattle.reachable.proofs.Frames.{num-in}
use Rattle.reachable.proofs.Flags.{flagged-same}
use Rattle.steps.specs.Paths.{OnPath, CountsOnly}
use Rattle.steps.proofs.Occurs.{occurs-mem}

-- ---- what is read

module _ {n : ℕ} {w path : List ℕ} (o : OnPath n w path) where
  pub on-path : (a : ℕ) → a ≤ n → not (eqb (count_at w n a) 0) ≡ mem a path
  on-path a h = rw (o.counts a h) (occurs-mem a path)

  -- ---- what the counts depend on

  module _ {w' : List ℕ} where
    counts_same : ((a : ℕ) → a ≤ n → count_at w' n a ≡ count_at w n a) → OnPath n w' path
    counts_same e = record { counts = λ a h. e a h ∙ o.counts a h }

    pub counts-kept : SameFields 4 COUNT n w w' → OnPath n w' path
    counts-kept e =
        counts_same (λ a h. num-in w' w 4 (fields_place n a + COUNT) (e a h) 4 (fields_place n a + COUNT) (omega arith) (omega arith))

    pub counts-prefix : (k : ℕ) → list_place n ≤ k → take k w' ≡ take k w → OnPath n w' path
    counts-prefix k l e = counts_same (λ a h. num-prefix w' w k e 4 (fields_place n a + COUNT) (omega arith))

-- ---- what stays

pub only_none : {n : ℕ} {w : List ℕ} → CountsOnly n w w
only_none = record { front = refl; before = λ a h. refl; after = λ a h. refl; back = refl; long = refl }

pub only-after : {n : ℕ} {w w₁ w₂ : List ℕ} → CountsOnly n w w₁ → CountsOnly n w₁ w₂ → CountsOnly n w w₂
only-after p q = record {
  front = q.front ∙ p.front;
  before = λ a h. q.before a h ∙ p.before a h;
  after = λ a h. q.after a h ∙ p.after a h;
  back = q.back ∙ p.back;
  long = q.long ∙ p.long;
}

module _ {n : ℕ} {w w' : List ℕ} (o : CountsOnly n w w') where
  pub only-flags : (a : ℕ) → a ≤ n → flag_at w' n a ≡ flag_at w n a
  only-flags a h = num-in w' w 4 (fields_place n a + HIGHEST) (o.after a h) 1 (fields_place n a + FLAG) (omega arith) (omega arith)

  pub only-flagged : flagged w' n ≡ flagged w n
  only-flagged = flagged-same w w' n only-flags

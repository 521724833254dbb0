-- The laws of what is met in a turn, one for each way out. Assumes nothing.
use mathlib.Core.Path.{◌≡◌, refl, sym, ap, ◌∙◌}
use mathlib.Core.Bool.{Bool, true, false}
use mathlib.Core.List.{List}
use Prim.Native.Nat.{ℕ}
use native.Mathlib.Omega.{arith}
use Rattle.spec.specs.Lists.{some?}
use Rattle.reachable.proofs.Tests.{not-both}
use Rattle.tables.specs.Chains.{any}
use Rattle.tables.specs.Rows.{met_of, seen_met, equal_met, is_met}
use Rattle.tables.specs.Mets.{Memorized}
use Rattle.tables.specs.declared.Counts.{Counts}
use Rattle.tables.specs.Replies.{Reply}
use Rattle.tables.specs.declared.row.Seen.{Seen}
use Rattle.tables.proofs.Turns.{met-found, row-short}
use Rattle.steps.specs.Meets.{Meets, Met}
use Rattle.steps.specs.declared.plan.Plan.{Plan}

module _ {t s : List ℕ} {k : Plan} {c : Counts} {x : Seen} (h : Meets t s k c x) where
  -- with no room there is no row, so nothing was met
  none-met : k.rooms.t ≡ 0 → false ≡ some? (equal_met (seen_met s x)) (met_of t s c.rows)
  unfolding met_of
  none-met z =
      let none : 0 ≡ c.rows = omega (arith, h.remembers.fits_t) in
      ap (λ (m : ℕ). some? (equal_met (seen_met s x)) (met_of t s m)) none

  pub met-roomless : k.rooms.t ≡ 0 → Met t s k c x t (record { code = 6; met = false; counts = c })
  met-roomless z = record { met_is = none-met z; again = λ e. not-both e refl; new = λ e. row-short h.remembers (omega arith) }

  module _ {b : Bool} (e : b ≡ any (is_met t s (seen_met s x)) c.rows) where
    pub met-again : b ≡ true → Met t s k c x t (record { code = 0; met = true; counts = c })
    met-again z = record { met_is = sym z ∙ met-found t s x c.rows e; again = λ i. (refl, refl, refl); new = λ i. not-both refl i }

    pub met-new : {t' : List ℕ} {a : Reply} → b ≡ false → Memorized k.shelves k.rooms t s c x t' a
        → Met t s k c x t' (record { code = a.code; met = false; counts = a.counts })
    met-new z m = record { met_is = sym z ∙ met-found t s x c.rows e; again = λ i. not-both i refl; new = λ i. m }

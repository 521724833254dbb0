-- The loop over the worklist, over any edges: its start, a turn, and its end. Assumes nothing.
use mathlib.Core.Path.{◌≡◌, refl, sym, ◌∙◌}
use mathlib.Core.Logic.{◌⊎◌}
use mathlib.Core.Bool.{true}
use mathlib.Core.List.{List, [], ◌∷◌, ◌++◌}
use Prim.Native.Nat.{ℕ, zero, suc, ◌+◌, ◌-◌, ◌*◌, ◌≤◌, ◌<◌}
use native.Mathlib.Numerals.{sub-one}
use native.Mathlib.Omega.{arith}
use lib.ListN.{length}
use borrow.Author.Tests.{eq-eqb}
use Rattle.spec.specs.Lists.{mem}
use Rattle.spec.specs.Reach.{Edge, closure}
use Rattle.laws.proofs.Members.{In}
use Rattle.theorems.proofs.Reached.{Reached}
use Rattle.layout.specs.Fields.{entry_at}
use Rattle.reachable.specs.Marks.{flagged, entries}
use Rattle.reachable.specs.Promises.{Room, SidesWithin, Kept, KeptBut, Sets, Raised, Going, Took}
use Rattle.reachable.specs.Pruning.{Waits}
use Rattle.reachable.proofs.Tests.{mem-append}
use Rattle.reachable.proofs.Seeds.{closure-test, closure-members}
use Rattle.reachable.proofs.Flags.{flagged-within, flagged-few}
use Rattle.reachable.proofs.Frames.{kept-none, kept_but, but-after}
use Rattle.reachable.proofs.Rows.{within-sides, sides-kept}
use Rattle.reachable.proofs.Raising.{raised-marks, raised-flags, raised-flagged, raised-entries, raised-kept}
use Rattle.reachable.proofs.Worklist.{Work, work_start, work-turn, work-done, more-keeps}
use Rattle.reachable.proofs.Entering.{sets-none, sets-after}

-- what holds in the loop, from W as the loop begins
pub record Spreading (es : List Edge) (n when : ℕ) (w₀ w : List ℕ) (count : ℕ) : Type 0 where
  pub lent : Room n w
  pub within : SidesWithin w n
  pub few : count ≤ length (flagged w n)
  pub work : Work es (flagged w₀ n) (flagged w n) (entries w n count)
  pub sets : Sets n when w₀ w
  pub kept : KeptBut n w₀ w

-- ---- what stays with the rows

pub room-but : {n : ℕ} {w w' : List ℕ} → KeptBut n w w' → Room n w → Room n w'
room-but k r = record { short = r.short; room = omega (arith, k.long, r.room) }

pub within-but : {n : ℕ} {w w' : List ℕ} → KeptBut n w w' → SidesWithin w n → SidesWithin w' n
within-but {n} {w} {w'} k = within-sides (sides-kept w w' n k.rows)

pub room-kept : {n : ℕ} {w w' : List ℕ} → Kept n w w' → Room n w → Room n w'
room-kept k = room-but (kept_but k)

pub within-kept : {n : ℕ} {w w' : List ℕ} → Kept n w w' → SidesWithin w n → SidesWithin w' n
within-kept k = within-but (kept_but k)

-- ---- the start: seeds over a closed set

pub start : {es : List Edge} {n when count : ℕ} {ts v w : List ℕ} → Room n v → SidesWithin v n
    → ((e : Edge) → In e es → mem e.place (flagged v n) ≡ true → mem e.witness (flagged v n) ≡ true → mem e.to (flagged v n) ≡ true)
    → Took n when ts v 0 w count → Spreading es n when w w count
unfolding entries
start {n} {when} {count} {w} r s c t = record {
  lent = room-kept t.kept r;
  within = within-kept t.kept s;
  few = omega (arith, t.number);
  work = work_start c t.more;
  sets = sets-none n when w;
  kept = kept_but kept-none;
}

-- ---- a turn

pub entries-step : (w : List ℕ) (n count : ℕ) → (count ≡ 0 → ⊥) → entries w n count ≡ entry_at w n (count - 1) ∷ entries w n (count - 1)
unfolding entries
entries-step w n zero h = absurd (h refl)
entries-step w n (suc k) h = rw sub-one

-- with the highest parents raised
pub raised-spreading : {es : List Edge} {n when count a : ℕ} {ts w₀ w w₁ : List ℕ} → Spreading es n when w₀ w count → Raised n ts w a w₁ → Spreading es n when w₀ w₁ count
raised-spreading {n = n} {count = count} {w₀ = w₀} {w} {w₁} s r = record {
  lent = room-but (raised-kept r) s.lent;
  within = within-but (raised-kept r) s.within;
  few = rw (raised-flagged r) s.few;
  work = rw (raised-flagged r, raised-entries r count) s.work;
  sets = record {
    marks = λ y h. rw (raised-flagged r) (raised-marks r y h ∙ s.sets.marks y h);
    flags = λ y h. rw (raised-flagged r) (raised-flags r y h ∙ s.sets.flags y h);
  };
  kept = but-after s.kept (raised-kept r);
}

module _ {es : List Edge} {n when count : ℕ} {w₀ w : List ℕ} (s : Spreading es n when w₀ w count) where
  pub turn-few : count ≤ n + 1
  turn-few = omega (arith, s.few, flagged-few w n)

  module _ {x : ℕ} (more : count ≡ 0 → ⊥) (e : x ≡ entry_at w n (count - 1)) where
    taken : Work es (flagged w₀ n) (flagged w n) (x ∷ entries w n (count - 1))
    taken = rw (entries-step w n count more, ← e) at s.work

    pub turn-got : mem x (flagged w n) ≡ true
    turn-got = taken.known x (rw (eq-eqb x x refl))

    pub turn_inside : x ≤ n
    turn_inside = flagged-within w n x turn-got

    pub turn-going : when < 4294967296 → Going n w x when (count - 1)
    turn-going h = record { at = record { lent = s.lent; inside = turn_inside }; small = h; few = omega (arith, s.few) }

    module _ {w' ts : List ℕ} {count' : ℕ} (t : Took n when ts w (count - 1) w' count') where
      pub turn-less : 2 * (n + 1 - length (flagged w' n)) + count' < 2 * (n + 1 - length (flagged w n)) + count
      turn-less = omega (arith, t.number, t.grew, flagged-few w' n)

      pub turned : ((y : ℕ) → mem y ts ≡ true → Reached es (flagged w₀ n) y)
          → ((d : Edge) → In d es → (d.place ≡ x) ⊎ (d.witness ≡ x) → mem d.place (flagged w' n) ≡ true → mem d.witness (flagged w' n) ≡ true
          → Waits (entries w' n count') d ⊎ (mem d.to (flagged w' n) ≡ true)) → Spreading es n when w₀ w' count'
      turned f g = record {
        lent = room-kept t.kept s.lent;
        within = within-kept t.kept s.within;
        few = omega (arith, s.few, t.number);
        work = work-turn taken t.more f g;
        sets = sets-after s.work.seeded (more-keeps t.more) s.sets t.sets;
        kept = but-after s.kept (kept_but t.kept);
      }

-- ---- the end

module _ {es : List Edge} {n when count : ℕ} {seeds v w₀ w : List ℕ} (t : Took n when seeds v 0 w₀ count) (s : Spreading es n when w₀ w 0) where
  pub all_done : Work es (flagged w₀ n) (flagged w n) []
  unfolding entries
  all_done = s.work

  pub done-reached : (x : ℕ) → mem x (flagged w n) ≡ mem x (closure es (seeds ++ flagged v n))
  done-reached x =
      closure-test es (flagged w₀ n) x (work-done all_done x)
      ∙ closure-members es (flagged w₀ n) (seeds ++ flagged v n) (λ y. t.more.all y ∙ sym (mem-append y seeds (flagged v n))) x

  pub done-sets : Sets n when v w
  done-sets = sets-after (more-keeps t.more) s.work.seeded t.sets s.sets

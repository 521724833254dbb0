-- A parent of a level with the level that it opens: the counts are those of the deeper path while it is tried. Assumes nothing.
use mathlib.Core.Path.{◌≡◌, refl, ap, ◌∙◌}
use mathlib.Core.Bool.{true, false, not}
use mathlib.Core.List.{List}
use Prim.Native.Nat.{ℕ, ◌+◌, ◌*◌, ◌<◌, ◌≤◌}
use native.Mathlib.Omega.{arith}
use borrow.Author.Tests.{not-true, not-false}
use Rattle.spec.specs.Search.{Turn, level}
use Rattle.layout.specs.Parts.{list_place}
use Rattle.layout.specs.Buffers.{Mem, buffers}
use Rattle.steps.specs.Paths.{Counting, Uncounting, Counted}
use Rattle.steps.specs.Runs.{st_of, Did}
use Rattle.enter.specs.Fits.{Fits, level_of, Stands, held, Stays}
use Rattle.enter.specs.Enters.{Opening, onward, Opens, Outcome, Entering, Entered}
use Rattle.levels.specs.Levels.{Came, Opened, Leveled, deeper_by, Tried}
use Rattle.steps.specs.declared.plan.Plan.{Plan}
use Rattle.steps.specs.declared.Level.{Level}
use Rattle.steps.specs.Goings.{Gone}
use Rattle.levels.proofs.Sequence.{did-same, did_then}
use Rattle.levels.proofs.LevelByParents.{deeper-later}
use Rattle.enter.proofs.LevelKept.{stays-counts, stays_then, stays-less, path-stays, stands-stay, its-counts}
use Rattle.levels.proofs.CountsAlone.{fits-recounted, stands-count, stands-uncount}

module _ {code : List ℕ} {k : Plan} {start : ℕ} {l : Level} {at : ℕ} {m : Mem} {o : Gone} (pre : Entering code k start l at m o)
    {w₁ p₁ s₁ t₁ r₁ q₁ : List ℕ} {e : Opening} (entered : Entered code k start l at m o (buffers w₁ p₁ s₁ t₁ r₁ q₁) e) where
  -- what came of the parent, in a turn; and in the one that there is
  abbrev After : (t : Turn) (since b : ℕ) → Type 0
  After t since b =
      Outcome code k t since start (λ deeper. onward t deeper l.left (level_of m l) (held code k m b at)) l m o (buffers w₁ p₁ s₁ t₁ r₁ q₁) e

  out : After pre.turn pre.since 0
  out = entered pre.turn pre.since 0 pre.fits

  pub parent-shut : not e.opens ≡ true → Tried code k start l at m o (buffers w₁ p₁ s₁ t₁ r₁ q₁) e.run
  parent-shut h = record {
    came = λ t since b f.
        let x = entered t since b f in
        record { did = x.shut (not-true e.opens h) (deeper_by k.limit t l.left) (deeper-later k.limit t l.left); fits = x.fits; stays = x.stays; counts = x.counts };
    energy = λ _. omega (arith, out.energy, pre.energy);
  }

  module _ (h : not e.opens ≡ false) where
    opens : Opens k (λ deeper. onward pre.turn deeper l.left (level_of m l) (held code k m 0 at)) l m o (buffers w₁ p₁ s₁ t₁ r₁ q₁) e
    opens = out.opened (not-false e.opens h)

    fits : Fits code k pre.turn pre.since start (buffers w₁ p₁ s₁ t₁ r₁ q₁) e.run.counts
    fits = out.fits opens.code

    -- the counts stand before W's part for runs
    counts-low : list_place k.size ≤ k.end
    counts-low = omega (arith, fits.planned.scratch)

    -- a level with less weight left
    pub opens-lighter : 2 * e.level.left + 1 < 2 * l.left
    opens-lighter = omega (arith, opens.lighter)

    pub parent-counts : Counting k.size w₁ p₁ l.np e.level.np
    parent-counts = stands-count fits opens.stands opens.longer (its-counts l (out.stays opens.code) (out.counts opens.code))

    module _ {w₂ : List ℕ} (c : Counted k.size w₁ p₁ e.level.np w₂) where
      stands : Stands k (buffers w₂ p₁ s₁ t₁ r₁ q₁) e.run.counts e.level
      stands =
          stands-stay e.level (stays-counts counts-low c.only) opens.stands
          (omega (arith, fits.tables.within.fits_s, fits.tables.within.lent_s))

      pub parent-opens : Opened code k start e.level (buffers w₂ p₁ s₁ t₁ r₁ q₁) e.run
      parent-opens = record {
        turn = pre.turn;
        since = pre.since;
        fits = fits-recounted fits c.only;
        stands = stands;
        on_its = c.counts;
        energy = omega (arith, out.energy, pre.energy);
        unrefused = opens.code;
      }

      module _ {w₃ p₃ s₃ t₃ r₃ q₃ : List ℕ} {d : Gone}
          (leveled : Leveled code k start e.level (buffers w₂ p₁ s₁ t₁ r₁ q₁) e.run (buffers w₃ p₃ s₃ t₃ r₃ q₃) d) where
        -- the level, in a turn
        tried : (t : Turn) (since b : ℕ) → After t since b
            → Came code k t since start (level k.limit t e.level.left (level_of (buffers w₂ p₁ s₁ t₁ r₁ q₁) e.level)) e.level
            (buffers w₂ p₁ s₁ t₁ r₁ q₁) e.run (buffers w₃ p₃ s₃ t₃ r₃ q₃) d
        tried t since b x = leveled.came t since (fits-recounted (x.fits opens.code) c.only)

        did : (t : Turn) (since b : ℕ) → After t since b
            → Did k.rooms (onward t (deeper_by k.limit t l.left) l.left (level_of m l) (held code k m b at)) (st_of k m o) d.code
            (st_of k (buffers w₃ p₃ s₃ t₃ r₃ q₃) d)
        did t since b x =
            let y = x.opened (not-false e.opens h) in
            did-same _ _
            (λ mid i. y.is (deeper_by k.limit t l.left) mid i
            ∙ ap (λ (n : ℕ). deeper_by k.limit t n (level_of (buffers w₁ p₁ s₁ t₁ r₁ q₁) e.level) (y.next mid)) y.lighter)
            (did_then _ _ (record { short = y.short; made = λ mid i z. y.clears mid i }) refl (tried t since b x).did)

        pub parent-refused : (d.code ≡ 0 → ⊥) → Tried code k start l at m o (buffers w₃ p₃ s₃ t₃ r₃ q₃) d
        parent-refused bad = record {
          came = λ t since b f. record {
            did = did t since b (entered t since b f);
            fits = λ z. absurd (bad z);
            stays = λ z. absurd (bad z);
            counts = λ z. absurd (bad z);
          };
          energy = λ z. absurd (bad z);
        }

        module _ (z : d.code ≡ 0) where
          pub parent-uncounts : Uncounting k.size w₃ p₃ l.np e.level.np
          parent-uncounts =
              let x = tried pre.turn pre.since 0 out in
              let f = x.fits z in
              stands-uncount f
              (stands-stay e.level (x.stays z) stands (omega (arith, f.tables.within.fits_s, f.tables.within.lent_s)))
              opens.longer (its-counts e.level (x.stays z) (x.counts z))

          module _ {w₄ : List ℕ} (u : Counted k.size w₃ p₃ l.np w₄) where
            stays : (t : Turn) (since b : ℕ) → After t since b → Stays k l.np m o.counts (buffers w₄ p₃ s₃ t₃ r₃ q₃) d.counts
            stays t since b x =
                stays_then (x.stays opens.code)
                (stays_then (stays-counts counts-low c.only) (stays_then (stays-less opens.longer ((tried t since b x).stays z)) (stays-counts counts-low u.only)))

            pub parent-done : Tried code k start l at m o (buffers w₄ p₃ s₃ t₃ r₃ q₃) d
            parent-done = record {
              came = λ t since b f.
                  let x = entered t since b f in
                  let y = stays t since b x in record {
                    did = did t since b x;
                    fits = λ _. fits-recounted ((tried t since b x).fits z) u.only;
                    stays = λ _. y;
                    counts = λ _. rw (path-stays l y) at u.counts;
                  };
              energy = λ _. omega (arith, leveled.energy z, opens.lighter);
            }

-- Where W changes in the counts of the path alone, all that holds in a turn still does. Assumes nothing.
use mathlib.Core.Path.{refl, sym}
use mathlib.Core.List.{List}
use Prim.Native.Nat.{ℕ, ◌≤◌}
use native.Mathlib.Omega.{arith}
use Rattle.spec.specs.Search.{Turn}
use Rattle.layout.specs.Parts.{list_place}
use Rattle.layout.specs.Buffers.{buffers}
use Rattle.parents.proofs.Knows.{known-prefix}
use Rattle.tables.specs.Addrs.{addrs}
use Rattle.tables.specs.declared.Counts.{Counts}
use Rattle.tables.proofs.Uses.{tables-kept}
use Rattle.steps.specs.Paths.{CountsOnly, Counting, Uncounting, OnPath}
use Rattle.enter.specs.Fits.{Fits, Stands}
use Rattle.steps.specs.declared.plan.Plan.{Plan}
use Rattle.steps.specs.declared.Level.{Level}
use Rattle.steps.proofs.Helds.{helds-past}
use Rattle.levels.proofs.WorkKept.{alike-counts, alike-marks}

module _ {code w p s t r q : List ℕ} {k : Plan} {turn : Turn} {since start : ℕ} {c : Counts} (f : Fits code k turn since start (buffers w p s t r q) c) where
  pub fits-recounted : {w' : List ℕ} → CountsOnly k.size w w' → Fits code k turn since start (buffers w' p s t r q) c
  fits-recounted {w'} o =
      let g = f.planned in
      record {
        planned = record {
          is = g.is;
          limit = g.limit;
          moded = g.moded;
          lent_w = record { short = g.lent_w.short; room = omega (arith, g.lent_w.room, o.long) };
          ends = omega (arith, g.ends, o.long);
          scratch = g.scratch;
          helds = helds-past (list_place k.size) (omega arith) o.back o.long g.helds;
          lent_p = g.lent_p;
          most_p = g.most_p;
          shelves = g.shelves;
        };
        stored = f.stored;
        started = f.started;
        starts = f.starts;
        tables = tables-kept f.tables w' s (alike-counts o k.buckets).links refl refl c.used c.rows f.tables.within.fits_s;
        remembers = f.remembers;
        packs = f.packs;
        known = known-prefix w' (rw g.is at (sym o.front)) f.known;
        began = f.began;
        marks = alike-marks (alike-counts o k.buckets) f.marks;
        sound = f.sound;
      }

  -- ---- what counting asks, for a level that stands

  module _ {from : ℕ} {l : Level} (stands : Stands k (buffers w p s t r q) c l) (order : from ≤ l.np) where
    pub stands-count : OnPath k.size w (addrs p 0 from) → Counting k.size w p from l.np
    stands-count o = record {
      lent = f.planned.lent_w;
      in_p = omega (arith, f.planned.lent_p, stands.room);
      most = omega (arith, f.planned.most_p, stands.room);
      order = order;
      inside = stands.inside;
      counts = o;
    }

    pub stands-uncount : OnPath k.size w (addrs p 0 l.np) → Uncounting k.size w p from l.np
    stands-uncount o = record {
      lent = f.planned.lent_w;
      in_p = omega (arith, f.planned.lent_p, stands.room);
      most = omega (arith, f.planned.most_p, stands.room);
      order = order;
      inside = stands.inside;
      counts = o;
    }

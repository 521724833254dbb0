-- How a turn begins: with its first level in place all fits, and document 01's state is the same. Assumes nothing.
use mathlib.Core.Path.{◌≡◌, refl, sym, ap, subst, ◌∙◌}
use mathlib.Core.List.{List, [], ◌∷◌}
use Prim.Native.Nat.{ℕ, ◌+◌, ◌-◌, ◌*◌, ◌^◌, ◌≤◌, ◌<◌}
use native.Mathlib.Omega.{arith}
use lib.ListN.{drop}
use Rattle.spec.specs.Opcodes.{in_mode}
use Rattle.spec.specs.Lists.{total}
use Rattle.spec.specs.Walk.{instructions}
use Rattle.spec.specs.Stacks.{cells, Ran, run}
use Rattle.spec.specs.Search.{Taker, Rec, Met, kept, St, Turn, turn_for, direct, in_use}
use Rattle.theorems.proofs.Older.{clear}
use Rattle.lent.proofs.Numbers.{num-prefix}
use Rattle.lent.proofs.Stored.{kept-drop}
use Rattle.layout.specs.Parts.{row_place, rows_end, list_place}
use Rattle.layout.specs.Rows.{POSITION}
use Rattle.layout.specs.Buffers.{Mem, buffers}
use Rattle.state.specs.Cells.{Lies}
use Rattle.state.proofs.States.{lies-copied, lies-count, own-walked}
use Rattle.tables.specs.Rows.{met_of, used_of}
use Rattle.tables.proofs.Counted.{recs-kept-cells}
use Rattle.tables.proofs.Uses.{tables-kept, recs-stay}
use Rattle.steps.specs.Runs.{recs_in, st_of}
use Rattle.steps.specs.Plans.{mode_in}
use Rattle.steps.specs.declared.plan.Plan.{Plan}
use Rattle.steps.specs.Helds.{OwnAsks, Gave}
use Rattle.steps.specs.declared.Level.{Level}
use Rattle.steps.specs.declared.own.StateAt.{StateAt}
use Rattle.steps.proofs.Helds.{BehindBuckets, Given, given, helds-past}
use Rattle.steps.specs.Goings.{Gone}
use Rattle.enter.specs.Fits.{Fits, level_of, Stands, prepared_in}
use Rattle.resolver.specs.Turns.{Idle, begun_with, Places, Placed}
use Rattle.levels.proofs.WorkKept.{Alike, alike_then, alike-counts, alike-run, counts-run, alike-marks, alike-known, alike-room}
use Rattle.resolver.proofs.TakerRow.{Taking}
use Rattle.resolver.proofs.PathOfOne.{path-one, inside_one}

module _ {code : List ℕ} {k : Plan} {reached : List ℕ} {since : ℕ} {m : Mem} {o : Gone} (idle : Idle code k reached since m o) where
  -- the cells in use, with a first state and nothing met yet
  pub begun-uses : (t : Turn) (mid : St) → clear mid ≡ st_of k m o → in_use t mid ≡ o.counts.kept + cells t.first
  unfolding met_of
  begun-uses t mid e =
      let a = idle.tables in
      let none : met_of m.t m.s o.counts.rows ≡ [] = rw idle.rowless in
      let kept-cells =
      ap (λ (s : St). total (λ (x : Rec). kept x.to) s.recs) e ∙ recs-kept-cells m.r m.q m.s k.rooms.s a.few a.goes ∙ a.kept in
      let met-cells = ap (λ (s : St). total (λ (x : Met). cells x.stack) s.met) e ∙ ap (total (λ (x : Met). cells x.stack)) none in
      omega (arith, kept-cells, met-cells)

  module _ {start : ℕ} {x : Taker} (taking : Taking (mode_in k) code m.w k.size start x) where
    pub taker-small : start < 2 ^ 16
    taker-small = omega (arith, taking.inside, idle.planned.lent_w.short)

    pub own-asks : OwnAsks k code m.w start
    own-asks =
        let g = idle.planned in
        record {
          runs = record { runs = record { short = omega (arith, g.is, g.lent_w.short); inside = g.ends; room = omega (arith, g.scratch) }; moded = g.moded };
          helds = g.helds;
          is = g.is;
          inside = taking.inside;
        }

    module _ {w₁ : List ℕ} {own : StateAt} (gave : Gave k code start m.w w₁ own) where
      gives : Given k code start m.w w₁ own
      gives = given own-asks gave

      pub gave-beyond : BehindBuckets k code m.w w₁
      gave-beyond = gives.beyond

      pub own-few : own.n ≤ k.size + 17
      own-few = gives.few

      own-lies : Lies w₁ own.at own.n (run (in_mode (mode_in k)) code (instructions code) start).stack
      own-lies = subst (λ (r : Ran). Lies w₁ own.at own.n r.stack) (own-walked (mode_in k) code start taking.comes) gives.lies

      pub own-cells : own.n ≡ cells x.first
      own-cells = lies-count own-lies ∙ ap cells (sym taking.first)

      ran : Alike k.size k.buckets m.w w₁
      ran = alike-run k.size k.buckets m.w w₁ gave-beyond.front gave-beyond.long

      -- its state and its start have room
      pub place-asks : (k.rooms.p ≡ 0 → ⊥) → o.counts.kept + own.n ≤ k.rooms.s → Places w₁ m.p m.s k start own
      place-asks some room =
          record {
            lent = alike-room ran idle.planned.lent_w;
            inside = taking.inside;
            counts = counts-run k.size k.buckets m.w w₁ gave-beyond.front gave-beyond.long idle.counts;
            lent_p = omega (arith, idle.planned.lent_p, some);
            lent_s = omega (arith, room, idle.tables.within.lent_s);
            lent_w = gives.lies.state.fits;
          }

      module _ {p₁ s₁ w₂ : List ℕ} {l : Level} (room : o.counts.kept + own.n ≤ k.rooms.s) (placed : Placed w₁ m.p m.s k start own w₂ p₁ s₁ l) where
        abbrev now : Mem
        now = buffers w₂ p₁ s₁ m.t m.r m.q

        pub begun-alike : Alike k.size k.buckets m.w w₂
        begun-alike = alike_then ran (alike-counts placed.counted.only k.buckets)

        lies : Lies s₁ 0 own.n (run (in_mode (mode_in k)) code (instructions code) start).stack
        lies = lies-copied placed.copied own-lies

        top : drop (9 * (k.rooms.s - o.counts.kept)) s₁ ≡ drop (9 * (k.rooms.s - o.counts.kept)) m.s
        top = kept-drop placed.copied (9 * (k.rooms.s - o.counts.kept)) (omega (arith, room))

        pub begun-recs : recs_in k now (begun_with o own.n).counts ≡ recs_in k m o.counts
        begun-recs = recs-stay idle.tables w₂ s₁ begun-alike.links top placed.copied.kept

        -- document 01's state is the same
        pub begun-state : st_of k now (begun_with o own.n) ≡ st_of k m o
        unfolding met_of
        begun-state =
            let none : [] ≡ met_of m.t m.s o.counts.rows = rw idle.rowless in
            λ i. record { recs = begun-recs i; energy = o.energy; met = none i; needs = [] }

        pub begun-fits : x.start ≡ start → Fits code k (turn_for (direct (prepared_in k code)) reached x) since start now (begun_with o own.n).counts
        unfolding used_of
        begun-fits is =
            let g = idle.planned in
            let r = idle.remembers in
            record {
              planned = record {
                is = g.is;
                limit = g.limit;
                moded = g.moded;
                lent_w = alike-room begun-alike g.lent_w;
                ends = omega (arith, g.ends, begun-alike.links.long);
                scratch = g.scratch;
                helds = helds-past (list_place k.size) (omega arith) placed.counted.only.back placed.counted.only.long gave-beyond.helds;
                lent_p = omega (arith, g.lent_p, placed.put.kept);
                most_p = g.most_p;
                shelves = g.shelves;
              };
              stored = refl;
              started = is;
              starts = taking.inside;
              tables = tables-kept idle.tables w₂ s₁ begun-alike.links top placed.copied.kept own.n 0 room;
              remembers = record {
                rows = λ i h. absurd (omega (arith, h));
                inside = λ i h. absurd (omega (arith, h));
                shelves = rw idle.rowless at r.shelves;
                fits_t = omega arith;
                lent_t = r.lent_t;
                most_t = r.most_t;
                fits_s = omega (arith, placed.copied.fits, placed.copied.kept);
                most_s = omega (arith, room, idle.tables.within.most_s);
              };
              packs = record { is = sym own-cells };
              known = alike-known begun-alike g.is idle.known;
              began = idle.began;
              marks = rw begun-recs (alike-marks begun-alike idle.marks);
              sound = rw begun-recs idle.sound;
            }

        abbrev first : Level
        first = record { np = 1; position = l.position; from = 0; cells = own.n; left = 255 }

        position-is : l.position ≡ x.position
        position-is =
            placed.reads.is ∙ num-prefix w₂ m.w (rows_end k.size) begun-alike.rows 4 (row_place start + POSITION) (omega (arith, taking.inside)) ∙ sym taking.position

        pub begun-stands : (k.rooms.p ≡ 0 → ⊥) → Stands k now (begun_with o own.n).counts first
        begun-stands some =
            record {
              some = omega arith;
              room = omega (arith, some);
              inside = inside_one placed.put taker-small taking.inside;
              state = lies.state;
              low = omega arith;
              sound = rw lies.is taking.sound;
              near = omega (arith, position-is, taking.near, idle.planned.lent_w.short);
              left = omega arith;
            }

        -- and its level is the turn's first
        pub begun-level : x.start ≡ start → level_of now first ≡ record { path = x.start ∷ []; position = x.position; state = x.first }
        begun-level is =
            let path = path-one placed.put taker-small ∙ ap (λ (a : ℕ). a ∷ []) (sym is) in
            let state = lies.is ∙ sym taking.first in
            λ i. record { path = path i; position = position-is i; state = state i }

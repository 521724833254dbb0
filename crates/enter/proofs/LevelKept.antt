-- What stays while a level is tried: it composes, and keeps the level's path and state, and the counts of its path. Assumes nothing.
use mathlib.Core.Path.{◌≡◌, refl, sym, ap, ap₂, ◌∙◌}
use mathlib.Core.List.{List}
use Prim.Native.Nat.{ℕ, ◌*◌, ◌≤◌}
use native.Mathlib.Omega.{arith}
use lib.ListN.{length, take}
use lib.Seq.{take_all, take-take}
use Rattle.spec.specs.Stacks.{Stack}
use Rattle.spec.specs.Search as search
use Rattle.spec.specs.Search.{Rec}
use Rattle.lent.proofs.Parts.{take_less, drop_more, part-prefix}
use Rattle.layout.specs.Parts.{list_place}
use Rattle.layout.specs.Buffers.{Mem, buffers}
use Rattle.state.specs.Cells.{stack_at, Lies}
use Rattle.state.proofs.States.{state-lies, lies_within}
use Rattle.tables.specs.Addrs.{addrs}
use Rattle.tables.specs.declared.Counts.{Counts}
use Rattle.tables.proofs.Addrs.{addrs-prefix}
use Rattle.tables.proofs.Counted.{recs-length}
use Rattle.steps.proofs.Paths.{only-flagged}
use Rattle.steps.specs.Paths.{OnPath, CountsOnly}
use Rattle.steps.specs.Runs.{recs_in}
use Rattle.enter.specs.Fits.{level_of, Stands, OnIts, Stays}
use Rattle.steps.specs.declared.plan.Plan.{Plan}
use Rattle.steps.specs.declared.Level.{Level}

-- ---- it composes

module _ (k : Plan) where
  recs-all : (m : Mem) (c : Counts) → take c.records (recs_in k m c) ≡ recs_in k m c
  recs-all m c = take_all c.records (recs_in k m c) (omega (arith, recs-length m.r m.q m.s k.rooms.s c.records))

module _ {k : Plan} {np : ℕ} where
  pub stays-none : {m : Mem} {c : Counts} → Stays k np m c m c
  stays-none {m} {c} = record {
    path = refl;
    bottom = refl;
    rows = refl;
    flags = refl;
    beyond = refl;
    uses = omega arith;
    more = omega arith;
    older = recs-all k m c;
  }

  -- where W changes in the counts alone
  pub stays-counts : {w w' p s t r q : List ℕ} {c : Counts} → list_place k.size ≤ k.end → CountsOnly k.size w w' → Stays k np (buffers w p s t r q) c (buffers w' p s t r q) c
  stays-counts {w} {w'} {p} {s} {t} {r} {q} {c} h o = record {
    path = refl;
    bottom = refl;
    rows = o.front;
    flags = only-flagged o;
    beyond = drop_more w' w (list_place k.size) o.back k.end h;
    uses = omega arith;
    more = omega arith;
    older = recs-all k (buffers w' p s t r q) c;
  }

  pub stays_then : {m m₁ m₂ : Mem} {c c₁ c₂ : Counts} → Stays k np m c m₁ c₁ → Stays k np m₁ c₁ m₂ c₂ → Stays k np m c m₂ c₂
  stays_then {m} {m₁} {m₂} {c} {c₁} {c₂} x y = record {
    path = y.path ∙ x.path;
    bottom = take_less m₂.s m₁.s (9 * c₁.used) y.bottom (9 * c.used) (omega (arith, x.uses)) ∙ x.bottom;
    rows = y.rows ∙ x.rows;
    flags = y.flags ∙ x.flags;
    beyond = y.beyond ∙ x.beyond;
    uses = omega (arith, x.uses, y.uses);
    more = omega (arith, x.more, y.more);
    older =
        sym (take-take c.records c₁.records (recs_in k m₂ c₂) x.more)
        ∙ ap (λ (rs : List Rec). take c.records rs) y.older ∙ x.older;
  }

  -- for a level with a shorter path
  pub stays-less : {longer : ℕ} {m m₁ : Mem} {c c₁ : Counts} → np ≤ longer → Stays k longer m c m₁ c₁ → Stays k np m c m₁ c₁
  stays-less {longer} {m} {m₁} h x = record {
    path = take_less m₁.p m.p (2 * longer) x.path (2 * np) (omega arith);
    bottom = x.bottom;
    rows = x.rows;
    flags = x.flags;
    beyond = x.beyond;
    uses = x.uses;
    more = x.more;
    older = x.older;
  }

-- ---- the path

module _ {k : Plan} (l : Level) {m m' : Mem} {c c' : Counts} (x : Stays k l.np m c m' c') where
  pub path-stays : addrs m'.p 0 l.np ≡ addrs m.p 0 l.np
  path-stays = addrs-prefix m'.p m.p l.np 0 l.np x.path (omega arith)

  -- ---- the state

  module _ (stands : Stands k m c l) (lent : 9 * c'.used ≤ length m'.s) where
    lies : Lies m'.s (9 * l.from) l.cells (stack_at m.s (9 * l.from) l.cells)
    lies =
        lies_within
        (sym (part-prefix m'.s m.s (9 * c.used) x.bottom (9 * l.cells) (9 * l.from) (omega (arith, stands.low))))
        (omega (arith, stands.low, x.uses)) (state-lies m.s (9 * l.from) l.cells stands.state)

    pub level-stays : level_of m' l ≡ level_of m l
    level-stays =
        ap₂ {C = search.Level} (λ (p : List ℕ) (s : Stack). record { path = p; position = l.position; state = s }) path-stays lies.is

    pub stands-stay : Stands k m' c' l
    stands-stay = record {
      some = stands.some;
      room = stands.room;
      inside = rw path-stays stands.inside;
      state = lies.state;
      low = omega (arith, stands.low, x.uses);
      sound = rw lies.is stands.sound;
      near = stands.near;
      left = stands.left;
    }

  -- ---- the counts

  pub its-counts : OnPath k.size m'.w (addrs m.p 0 l.np) → OnIts k m' l
  its-counts o = rw path-stays o

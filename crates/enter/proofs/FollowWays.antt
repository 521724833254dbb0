-- What `follow` asks on its way, and the ways in which it ends. Assumes nothing.
use mathlib.Core.Path.{◌≡◌, refl, sym, ap, ◌∙◌}
use Prim.Native.Nat.{ℕ, ◌*◌}
use native.Mathlib.Omega.{arith}
use mathlib.Core.Bool.{true, false}
use mathlib.Core.List.{List}
use Rattle.spec.specs.Lists.{last_of}
use Rattle.spec.specs.Stacks.{Sym, before, constant, jumpdest, other}
use Rattle.spec.specs.Search.{Found, nowhere, found, Turn, follow}
use Rattle.layout.specs.Buffers.{Mem, buffers}
use Rattle.state.specs.Symbols.{sym_of}
use Rattle.state.specs.Cells.{stack_at}
use Rattle.tables.specs.Addrs.{addrs}
use Rattle.tables.specs.Tables as tables
use Rattle.tables.specs.Tables.{mem, enters_nowhere}
use Rattle.tables.specs.declared.Counts.{Counts}
use Rattle.tables.specs.declared.row.Seen.{Seen}
use Rattle.tables.proofs.Turns.{remembers-kept}
use Rattle.steps.specs.Cursors.{stack_cursor}
use Rattle.steps.specs.States.{Took}
use Rattle.steps.specs.Meets as meets
use Rattle.steps.specs.Meets.{Meeting, Meets}
use Rattle.enter.specs.Fits.{level_of, held}
use Rattle.enter.specs.Enters.{Opening, after_with, refused_with, shut_with, Ends, at_jumpdest, at_constant, at_other, Arriving, Arrived, Outcome, Saw, Following, Followed}
use Rattle.steps.specs.Plans.{mode_in}
use Rattle.steps.specs.declared.plan.Plan.{Plan}
use Rattle.steps.specs.declared.Level.{Level}
use Rattle.steps.specs.Goings.{Gone}
use Rattle.steps.specs.declared.state_of.Taken.{Taken}
use Rattle.steps.specs.declared.state_of.Untaken.{Untaken}
use Rattle.std.specs.Prelude.{Ok, Err}
use Rattle.refusal.specs.Numbers.{short_number}
use Rattle.steps.proofs.Sound.{sound-read}
use Rattle.enter.proofs.TurnKept.{fits-within, fits-taken, fits-met}
use Rattle.enter.proofs.StepsFourToSix.{last-of, follow-short, follow-met, follow-full, follow-opens, follow-ends}

module _ {code : List ℕ} {k : Plan} {start : ℕ} {l : Level} {at np : ℕ} {w p s t r q : List ℕ} {o : Gone} (h : Following code k start l at np (buffers w p s t r q) o) where
  abbrev Comes-to : Turn → ℕ → ℕ → Mem → Opening → Type 0
  Comes-to turn since b m' e =
      Outcome code k turn since start (λ deeper. follow turn deeper (level_of (buffers w p s t r q) l) (held code k (buffers w p s t r q) b at) (addrs p 0 np)) l
      (buffers w p s t r q) o m' e

  -- S is short
  pub followed-short : {w' s' : List ℕ} {e : Untaken} → Took code w s k o.counts l (stack_cursor (mode_in k) code r s k.rooms.s at) w' s' (Err e)
      → Followed code k start l at np (buffers w p s t r q) o (buffers w' p s' t r q) (shut_with (refused_with o (short_number e.short)) l)
  followed-short a turn since b fits = follow-short h a turn since b fits refl

  module _ {w' s' : List ℕ} {x : Taken} (a : Took code w s k o.counts l (stack_cursor (mode_in k) code r s k.rooms.s at) w' s' (Ok x)) {y : Seen} (saw : Saw p np x o.counts.used y) where
    last-is : y.last ≡ last_of (addrs p 0 np)
    last-is = saw.last.is ∙ sym (last-of p np (omega (arith, h.is, h.some)))

    abbrev m : Seen
    m = record { last = y.last; symbol = x.symbol; from = o.counts.used; cells = x.cells }

    pub follow-meets : Meets t s' k o.counts y
    follow-meets =
        let f = h.entering.fits in
        rw saw.is (record {
          remembers = remembers-kept f.remembers s' a.bottom (omega (arith, a.long_s));
          fresh = record { state = a.lies.state; next = refl; last = omega (arith, saw.last.small); most = omega (arith, a.fits, f.tables.within.most_s) };
          some = f.planned.shelves;
        })

    module _ {t' : List ℕ} {g : Meeting} (gives : meets.Met t s' k o.counts y t' g) where
      met : meets.Met t s' k o.counts m t' g
      met = rw saw.is at gives

      -- it was met before
      pub followed-met : g.met ≡ true → Followed code k start l at np (buffers w p s t r q) o (buffers w' p s' t' r q) (shut_with o l)
      followed-met again turn since b fits = follow-met h a turn since b fits refl last-is met again h.entering.unrefused

      -- T is short
      pub followed-full : g.met ≡ false → (g.code ≡ 0 → ⊥)
          → Followed code k start l at np (buffers w p s t r q) o (buffers w' p s' t' r q) (shut_with (after_with o g.code g.counts) l)
      followed-full unmet n turn since b fits = follow-full h a turn since b fits refl last-is met unmet n

      module _ (unmet : g.met ≡ false) (g0 : g.code ≡ 0) where
        pub follow-arriving : Arriving p np k (mem w' r q s') start l y (after_with o g.code g.counts)
        follow-arriving =
            let f = h.entering.fits in
            let v = fits-met (fits-taken f a) (met.new unmet) g0 (a.fits) in
            rw saw.is (record {
              lent = v.planned.lent_w;
              within = fits-within v;
              ready = record {
                tables = v.tables;
                path = record { fits = omega (arith, h.room, f.planned.lent_p) };
                most = omega (arith, h.room, f.planned.most_p);
                start = omega (arith, f.starts, f.planned.lent_w.short);
                energy = omega (arith, h.entering.energy, f.planned.limit);
                entry = enters_nowhere refl refl;
                inside = omega arith;
              };
              state = a.lies.state;
              inside = omega (arith, ap (λ (c : Counts). c.used) ((met.new unmet).counts g0));
              lands = λ to e. sound-read h.entering.parental.sound l.position (sym a.symbol_is ∙ e);
              left = h.left;
            })

        -- the symbol decides
        pub followed-arrived : {w₂ r₂ q₂ s₂ : List ℕ} {e : Opening} → Arrived p np k (mem w' r q s') start l y (after_with o g.code g.counts) (mem w₂ r₂ q₂ s₂) e
            → Followed code k start l at np (buffers w p s t r q) o (buffers w₂ p s₂ t' r₂ q₂) e
        followed-arrived {w₂} {r₂} {q₂} {s₂} {e} arrived turn since b fits = by (sym_of x.symbol) refl
          where
            c : Arrived p np k (mem w' r q s') start l m (after_with o g.code g.counts) (mem w₂ r₂ q₂ s₂) e
            c = rw saw.is at arrived

            ended : {y : Found} → Ends (stack_at s' (9 * o.counts.used) x.cells) (sym_of x.symbol) y → Comes-to turn since b (buffers w₂ p s₂ t' r₂ q₂) e
            ended {y} i =
                let d = c.ends y i in
                rw d.is (follow-ends h a turn since b fits refl last-is met unmet g0 (rw (← a.symbol_is, ← a.lies.is) i) d.noted d.energy)

            by : (y : Sym) → sym_of x.symbol ≡ y → Comes-to turn since b (buffers w₂ p s₂ t' r₂ q₂) e
            by (before n) g =
                let d = c.opens n g in
                let z = d.1 in
                rw (d.0, ap (λ (u : tables.Mem). u.w) z, ap (λ (u : tables.Mem). u.r) z, ap (λ (u : tables.Mem). u.q) z, ap (λ (u : tables.Mem). u.s) z)
                (follow-opens h a turn since b fits refl last-is met unmet g0 n g)
            by (jumpdest y) g = ended {y = found y (stack_at s' (9 * o.counts.used) x.cells)} (rw g at_jumpdest)
            by (constant v) g = ended {y = nowhere} (rw g at_constant)
            by (other v) g = ended {y = nowhere} (rw g at_other)

-- Steps 4 to 6 of a parent, once its path stands behind the level's. Assumes nothing.
use mathlib.Core.Path.{◌≡◌, refl, sym, ap, ◌∙◌}
use Prim.Native.Nat.{ℕ, suc, ◌+◌, ◌-◌, ◌*◌, ◌^◌, ◌≤◌, ◌<◌}
use native.Mathlib.Omega.{arith}
use mathlib.Core.Bool.{true, false}
use mathlib.Core.List.{List, [], ◌∷◌, ◌++◌}
use lib.ListN.{length, length-append}
use Rattle.spec.specs.Lists.{last_of, some?}
use Rattle.spec.specs.Stacks.{Sym, before, Stack, cells, read, compose}
use Rattle.spec.specs.Search as search
use Rattle.spec.specs.Search.{Found, nowhere, found, S, T, St, need, remember, Met, met?, in_use, Turn, arrive, follow}
use Rattle.spec.specs.Rooms.{Lent, or_else, shortage}
use Rattle.laws.proofs.Branch.{both, if-true, if-false}
use Rattle.theorems.proofs.Older.{clear}
use Rattle.theorems.proofs.Growth.{Later, later}
use Rattle.theorems.proofs.Carried.{carry-arrive}
use Rattle.lent.specs.Bytes.{num_at}
use Rattle.layout.specs.Marks.{NOWHERE}
use Rattle.layout.specs.Parts.{bucket_place}
use Rattle.layout.specs.Records.{to_at, kept_of}
use Rattle.layout.specs.Buffers.{Mem, buffers}
use Rattle.state.specs.Symbols.{sym_of}
use Rattle.state.specs.Cells.{stack_at, State, Lies}
use Rattle.tables.specs.Addrs.{addrs}
use Rattle.tables.specs.Rows.{met_of, seen_met, equal_met}
use Rattle.tables.specs.Tables.{mem, Goes, leads, leads_nowhere}
use Rattle.tables.specs.Mets as mets
use Rattle.tables.specs.Recording.{Lends, short_of, noted, Holding}
use Rattle.tables.specs.declared.Counts.{Counts}
use Rattle.tables.specs.declared.row.Seen.{Seen}
use Rattle.tables.proofs.Addrs.{addrs-length}
use Rattle.tables.proofs.Frames.{kept-grow}
use Rattle.tables.proofs.Uses.{cells-in-use}
use Rattle.steps.specs.Cursors.{path_cursor, stack_cursor}
use Rattle.steps.specs.Paths.{Inside, OnPath}
use Rattle.steps.specs.Sound.{SoundStack, SoundRec}
use Rattle.steps.specs.States.{Composing, named_in, Took}
use Rattle.steps.specs.Meets as meets
use Rattle.steps.specs.Lands.{Noted}
use Rattle.steps.specs.Runs.{recs_in, st_of, Did}
use Rattle.enter.specs.Fits.{Fits, level_of, Stands, held, Stays}
use Rattle.enter.specs.Enters.{refused_with, shut_with, open_with, Ends, at_jumpdest, at_constant, at_other, Outcome, Following}
use Rattle.steps.specs.Plans.{mode_in}
use Rattle.steps.specs.declared.plan.Plan.{Plan}
use Rattle.steps.specs.declared.Level.{Level}
use Rattle.steps.specs.Goings.{Gone}
use Rattle.steps.specs.declared.state_of.Taken.{Taken}
use Rattle.steps.specs.declared.state_of.Untaken.{Untaken}
use Rattle.steps.specs.Meets.{Meeting}
use Rattle.std.specs.Prelude.{Result, Ok, Err}
use Rattle.refusal.specs.Numbers.{short_number}
use Rattle.tables.specs.Replies.{code_of}
use Rattle.tables.proofs.Shorts.{short-some}
use Rattle.steps.proofs.Splits.{inside-append}
use Rattle.steps.proofs.Paths.{counts-prefix, counts-kept}
use Rattle.steps.proofs.Nexts.{last-addrs}
use Rattle.steps.proofs.Sound.{sound-compose, sound-before}
use Rattle.enter.proofs.FirstShortage.{short-later, short-need, not-true, Laters, outcome-refused}
use Rattle.enter.proofs.TurnKept.{mets-length, fits-taken, stays-taken, taken-recs, taken-mets, state-taken, fits-met, stays_met, fits-noted, stays-noted, noted-mets}
use Rattle.enter.proofs.LevelKept.{stays_then, stays-less}

-- ---- what is asked of a parent's state

kept-leads : {n room : ℕ} {r s : List ℕ} {i : ℕ} → n < NOWHERE → to_at r i ≤ n → Goes n room r s i → State s (9 * (room - kept_of r (suc i))) (kept_of r (suc i) - kept_of r i)
kept-leads few h (leads_nowhere e f) = absurd (omega arith)
kept-leads few h (leads e f) = f

pub last-of : (p : List ℕ) (np : ℕ) → 1 ≤ np → last_of (addrs p 0 np) ≡ num_at 2 p (2 * (np - 1))
last-of p np h =
    let e : np ≡ suc (np - 1) = omega arith in
    ap (λ (n : ℕ). last_of (addrs p 0 n)) e ∙ last-addrs p 0 (np - 1) ∙ ap (λ (n : ℕ). num_at 2 p (2 * n)) (omega arith)

-- a path that ends is noted
arrive-ends : (turn : Turn) (deeper : search.Level → St → St) (path : List ℕ) (st : St) {new : Stack} {c : Sym} {y : Found} → Ends new c y
    → arrive turn deeper path new c st ≡ noted turn y path st
unfolding arrive
arrive-ends turn deeper path st at_jumpdest = refl
arrive-ends turn deeper path st at_constant = refl
arrive-ends turn deeper path st at_other = refl

module _ {code : List ℕ} {k : Plan} {start : ℕ} {l : Level} {at np : ℕ} {w p s t r q : List ℕ} {o : Gone} (h : Following code k start l at np (buffers w p s t r q) o) where
  abbrev M : Mem
  M = buffers w p s t r q

  abbrev par : Stack
  par = stack_cursor (mode_in k) code r s k.rooms.s at

  abbrev child : Stack
  child = stack_at s (9 * l.from) l.cells

  -- the parent's path is what is new of the path in hand
  more-is : length (path_cursor r q at) ≡ h.more
  more-is =
      let e : length (addrs p 0 np) ≡ length (addrs p 0 l.np ++ path_cursor r q at) = ap length (h.path 0) in
      omega (arith, e, addrs-length p 0 np, addrs-length p 0 l.np, length-append (addrs p 0 l.np) (path_cursor r q at), h.is)

  few-more : h.more ≤ 2 ^ 30
  few-more = omega (arith, h.is, h.room, h.entering.fits.planned.most_p)

  pub follow-composing : Composing code w s r k o.counts l at
  follow-composing =
      let f = h.entering.fits in
      let y = h.entering.parental in
      let z = h.entering.stands in
      record {
        some = y.some;
        is = f.planned.is;
        runs = record { runs = record { short = omega (arith, f.planned.is, f.planned.lent_w.short); inside = f.planned.ends; room = omega (arith, f.planned.scratch) }; moded = f.planned.moded };
        helds = f.planned.helds;
        child = z.state;
        low = z.low;
        fits = f.tables.within.fits_s;
        lent_s = f.tables.within.lent_s;
        most_s = f.tables.within.most_s;
        direct = y.comes;
        inside = y.near;
        row = λ i. (f.tables.rows (at - 0x10000) (y.there i)).in_r;
        kept = λ i. omega (arith, kept-grow f.tables.goes o.counts.records (suc (at - 0x10000)) (y.there i) (omega arith), f.tables.kept);
        parent = λ i. kept-leads f.tables.few (y.leads i) (f.tables.goes (at - 0x10000) (y.there i));
        deep = omega (arith, z.sound.deep, z.room, f.planned.most_p);
        deeper = omega (arith, y.sound.deep, more-is, few-more);
        near = omega (arith, z.near, z.room, f.planned.most_p);
      }

  module _ {w' s' : List ℕ} {z : Result Taken Untaken} (a : Took code w s k o.counts l (stack_cursor (mode_in k) code r s k.rooms.s at) w' s' z) where
    abbrev new : Stack
    new = compose child par

    -- the counts on the path stand before W's buckets
    follow-counts : OnPath k.size w' (addrs p 0 l.np)
    follow-counts = counts-prefix h.entering.on_its (bucket_place k.size k.buckets) (omega arith) a.front

    module _ (turn : Turn) (since b : ℕ) (f : Fits code k turn since start (buffers w p s t r q) o.counts) where
      abbrev F : (search.Level → St → St) → St → St
      F deeper = follow turn deeper (level_of (buffers w p s t r q) l) (held code k (buffers w p s t r q) b at) (addrs p 0 np)

      abbrev formed : St → St
      formed mid = need S (in_use turn mid + cells new) mid

      abbrev seen : Met
      seen = record { last = last_of (addrs p 0 np); stack = new; symbol = read par l.position }

      abbrev noted-down : St → St
      noted-down mid = remember seen (need T (suc (length mid.met)) (formed mid))

      -- the cells in use, as the counts have them
      in-use-is : (mid : St) → clear mid ≡ st_of k (buffers w p s t r q) o → in_use turn mid + cells new ≡ o.counts.kept + o.counts.used + cells new
      in-use-is mid e =
          omega (arith, cells-in-use turn mid f.tables f.remembers f.packs (ap (λ (y : St). y.recs) e) (ap (λ (y : St). y.met) e) refl)

      form-short : (y : Lent) → Lends y k.rooms → (mid : St) → clear mid ≡ st_of k (buffers w p s t r q) o → shortage y mid.needs ≡ 0
          → shortage y (formed mid).needs ≡ code_of (named_in z)
      form-short y d mid e i =
          short-need d S (in_use turn mid + cells new) mid i
          ∙ ap (λ (u : ℕ). short_of k.rooms (record { room = S; units = u } ∷ [])) (in-use-is mid e ∙ ap (λ (n : ℕ). o.counts.kept + o.counts.used + n) (sym a.cells_are))
          ∙ sym a.code_is

      follow-later : (deeper : search.Level → St → St) → Laters deeper → (mid : St) → Later (formed mid) (F deeper mid)
      unfolding follow
      follow-later deeper g mid =
          both (Later (formed mid)) _ (λ _. later.keeps _)
          (λ _. later.joins _ _ _ (later.needs T _ _) (later.joins _ _ _ (later.remembers _ _) (carry-arrive Later later turn deeper g _ _ _ _)))

      -- ---- S is short

      pub follow-short : {e : Untaken} → z ≡ Err e
          → Outcome code k turn since start F l (buffers w p s t r q) o (buffers w' p s' t r q) (shut_with (refused_with o (short_number e.short)) l)
      follow-short {e} is = outcome-refused (short-some e.short) refl (λ deeper g y d mid i j.
          let u = form-short y d mid i j ∙ ap (λ (x : Result Taken Untaken). code_of (named_in x)) is in
          short-later y (formed mid) (F deeper mid) (follow-later deeper g mid) (λ v. short-some e.short (sym u ∙ v)) ∙ u)

      module _ {x : Taken} (formed-is : z ≡ Ok x) where
        ok : Took code w s k o.counts l (stack_cursor (mode_in k) code r s k.rooms.s at) w' s' (Ok x)
        ok = rw formed-is at a

        x0 : code_of (named_in z) ≡ 0
        x0 = ap (λ (x : Result Taken Untaken). code_of (named_in x)) formed-is

        -- what is seen, as the buffers have it
        module _ {last : ℕ} (el : last ≡ last_of (addrs p 0 np)) where
          abbrev m : Seen
          m = record { last = last; symbol = x.symbol; from = o.counts.used; cells = x.cells }

          seen-is : seen_met s' m ≡ seen
          seen-is = rw (el, ok.symbol_is, ok.lies.is)

          met-same : (mid : St) → clear mid ≡ st_of k (buffers w p s t r q) o → met? seen mid ≡ some? (equal_met (seen_met s' m)) (met_of t s' o.counts.rows)
          met-same mid e = rw (seen-is, taken-mets f a, ← ap (λ (y : St). y.met) e)

          -- ---- it was met before

          pub follow-met : {t' : List ℕ} {g : Meeting} → meets.Met t s' k o.counts m t' g → g.met ≡ true → o.code ≡ 0
              → Outcome code k turn since start F l (buffers w p s t r q) o (buffers w' p s' t' r q) (shut_with o l)
          unfolding follow
          follow-met {t'} {g} met y o0 =
              let t-is : t' ≡ t = (met.again y).1 in
              let is : (deeper : search.Level → St → St) (mid : St) → clear mid ≡ st_of k (buffers w p s t r q) o → F deeper mid ≡ formed mid =
              λ deeper mid e. if-true (met? seen mid) _ _ (met-same mid e ∙ sym met.met_is ∙ y) in
              rw t-is (record {
                shut = λ _ deeper _. record {
                  short = λ v d mid e z. ap (λ (u : St). shortage v u.needs) (is deeper mid e) ∙ form-short v d mid e z ∙ x0 ∙ sym o0;
                  made = λ mid e _. ap clear (is deeper mid e) ∙ e ∙ sym (state-taken f a o refl);
                };
                unopened = λ _. refl;
                opened = λ e. not-true e;
                fits = λ _. fits-taken f a;
                stays = λ _. stays-taken f a l.np;
                counts = λ _. follow-counts;
                energy = refl;
              })

          module _ {t' : List ℕ} {g : Meeting} (met : meets.Met t s' k o.counts m t' g) (unmet : g.met ≡ false) where
            follow-on : (deeper : search.Level → St → St) (mid : St) → clear mid ≡ st_of k (buffers w p s t r q) o
                → F deeper mid ≡ arrive turn deeper (addrs p 0 np) new (read par l.position) (noted-down mid)
            unfolding follow
            follow-on deeper mid e = if-false (met? seen mid) _ _ (met-same mid e ∙ sym met.met_is ∙ unmet)

            rows_are : (mid : St) → clear mid ≡ st_of k (buffers w p s t r q) o → suc (length mid.met) ≡ o.counts.rows + 1
            rows_are mid e = omega (arith, ap (λ (y : St). length y.met) e, mets-length t s o.counts.rows)

            row-short : (y : Lent) → Lends y k.rooms → (mid : St) → clear mid ≡ st_of k (buffers w p s t r q) o → shortage y mid.needs ≡ 0
                → shortage y (noted-down mid).needs ≡ g.code
            row-short y d mid e z =
                short-need d T (suc (length mid.met)) (formed mid) (form-short y d mid e z ∙ x0)
                ∙ ap (λ (u : ℕ). short_of k.rooms (record { room = T; units = u } ∷ [])) (rows_are mid e)
                ∙ sym (met.new unmet).code

            -- ---- T is short

            pub follow-full : (g.code ≡ 0 → ⊥) → Outcome code k turn since start F l (buffers w p s t r q) o (buffers w' p s' t' r q) (shut_with (record { code = g.code; energy = o.energy; counts = g.counts }) l)
            follow-full n = outcome-refused n refl (λ deeper i y d mid e z.
                let u = row-short y d mid e z in
                ap (λ (v : St). shortage y v.needs) (follow-on deeper mid e)
                ∙ short-later y (noted-down mid) _ (carry-arrive Later later turn deeper i _ _ _ _) (λ v. n (sym u ∙ v)) ∙ u)

            module _ (g0 : g.code ≡ 0) where
              abbrev here : Gone
              here = record { code = g.code; energy = o.energy; counts = g.counts }

              room_for : o.counts.kept + o.counts.used + m.cells ≤ k.rooms.s
              room_for = omega (arith, ok.fits)

              fits-here : Fits code k turn since start (buffers w' p s' t' r q) g.counts
              fits-here = fits-met (fits-taken f a) (met.new unmet) g0 room_for

              stays_here : Stays k l.np (buffers w p s t r q) o.counts (buffers w' p s' t' r q) g.counts
              stays_here = stays_then (stays-taken f a l.np) (stays_met (fits-taken f a) (met.new unmet) g0 room_for l.np)

              counts-here : g.counts ≡ mets.remembering o.counts m
              counts-here = (met.new unmet).counts g0

              -- the state of document 01 that the buffers hold now
              noted-clear : (mid : St) → clear mid ≡ st_of k (buffers w p s t r q) o → clear (noted-down mid) ≡ st_of k (buffers w' p s' t' r q) here
              noted-clear mid e =
                  let was : (seen ∷ mid.met) ≡ met_of t' s' g.counts.rows =
                  ap (λ (ms : List Met). seen ∷ ms) (ap (λ (y : St). y.met) e ∙ sym (taken-mets f a)) ∙ ap (λ (y : Met). y ∷ met_of t s' o.counts.rows) (sym seen-is) ∙ sym ((met.new unmet).made g0) in
                  let held-recs : mid.recs ≡ recs_in k (buffers w' p s' t' r q) g.counts = ap (λ (y : St). y.recs) e ∙ sym (taken-recs f a) ∙ rw counts-here in
                  rw (was, held-recs, ap (λ (y : St). y.energy) e)

              follow-state : Lies s' (9 * o.counts.used) x.cells new
              follow-state = ok.lies

              inside-here : Inside k.size (addrs p 0 np)
              inside-here = rw (h.path b) (inside-append h.entering.stands.inside h.entering.parental.inside)

              sound-here : SoundStack k.size np new
              sound-here =
                  let e : np ≡ l.np + length (path_cursor r q at) = omega (arith, h.is, more-is) in
                  rw e (sound-compose h.entering.stands.sound h.entering.parental.sound)

              -- ---- a level opens

              opened-stands : (n : ℕ) → read par l.position ≡ before n → Stands k (buffers w' p s' t' r q) g.counts (open_with here np n m l).level
              opened-stands n e = record {
                some = omega (arith, h.is, h.some);
                room = h.room;
                inside = inside-here;
                state = follow-state.state;
                low = omega (arith, ap (λ (c : Counts). c.used) counts-here);
                sound = rw follow-state.is sound-here;
                near = omega (arith, sound-before h.entering.parental.sound l.position l.np e h.entering.stands.near, more-is, h.is);
                left = omega (arith, h.entering.stands.left);
              }

              pub follow-opens : (n : ℕ) → sym_of x.symbol ≡ before n → Outcome code k turn since start F l (buffers w p s t r q) o (buffers w' p s' t' r q) (open_with here np n m l)
              unfolding arrive
              follow-opens n e =
                  let symbol : read par l.position ≡ before n = sym ok.symbol_is ∙ e in
                  record {
                    shut = λ c. not-true (sym c);
                    unopened = λ c. not-true (sym c);
                    opened = λ _. record {
                      code = g0;
                      stands = opened-stands n symbol;
                      lighter = omega (arith, h.left);
                      longer = omega (arith, h.is);
                      fresh = refl;
                      next = noted-down;
                      is = λ deeper mid c. follow-on deeper mid c ∙ rw (symbol, follow-state.is);
                      clears = noted-clear;
                      short = λ y d mid c z. row-short y d mid c z ∙ g0;
                    };
                    fits = λ _. fits-here;
                    stays = λ _. stays_here;
                    counts = λ _. follow-counts;
                    energy = refl;
                  }

              -- ---- the path ends

              new-sound : (y : Found) → Ends new (read par l.position) y → (u : ℕ) (v : Stack) → y ≡ found u v → SoundStack k.size (length (addrs p 0 np)) v
              new-sound y i u v e = rw (addrs-length p 0 np) (ends-sound i e)
                where
                  same-state : {u u' : ℕ} {v v' : Stack} → found u v ≡ found u' v' → v ≡ v'
                  same-state c = ap (λ (z : Found). state-of z) c
                    where
                      state-of : Found → Stack
                      state-of nowhere = new
                      state-of (found u v) = v

                  ends-sound : {c : Sym} {y : Found} {u : ℕ} {v : Stack} → Ends new c y → y ≡ found u v → SoundStack k.size np v
                  ends-sound at_jumpdest d = rw (← same-state d) sound-here
                  ends-sound at_constant d = absurd (let z : ◌≡◌ {A = ℕ} 0 1 = cc in omega arith)
                  ends-sound at_other d = absurd (let z : ◌≡◌ {A = ℕ} 0 1 = cc in omega arith)

              module _ {y : Found} (i : Ends new (read par l.position) y) {w₂ r₂ q₂ s₂ : List ℕ} {d : Gone} (n : Noted p np k (mem w' r q s') g.counts start o.energy y (mem w₂ r₂ q₂ s₂) (record { code = d.code; counts = d.counts }))
                  (same : d.energy ≡ o.energy) where
                follow-note : (deeper : search.Level → St → St) (mid : St) → clear mid ≡ st_of k (buffers w p s t r q) o → F deeper mid ≡ noted turn y (addrs p 0 np) (noted-down mid)
                follow-note deeper mid e = follow-on deeper mid e ∙ arrive-ends turn deeper (addrs p 0 np) (noted-down mid) i

                holds-here : (mid : St) → clear mid ≡ st_of k (buffers w p s t r q) o → Holding k.rooms (mem w' r q s') g.counts start o.energy turn (noted-down mid)
                holds-here mid e =
                    let c = noted-clear mid e in
                    record {
                      recs = ap (λ (z : St). z.recs) c;
                      cells = cells-in-use turn (noted-down mid) fits-here.tables fits-here.remembers fits-here.packs (ap (λ (z : St). z.recs) c) (ap (λ (z : St). z.met) c) refl;
                      turn = f.started;
                      counted = ap (λ (z : St). z.energy) c;
                    }

                did-note : (deeper : search.Level → St → St) → Did k.rooms (F deeper) (st_of k (buffers w p s t r q) o) d.code (st_of k (buffers w₂ p s₂ t' r₂ q₂) d)
                did-note deeper = record {
                  short = λ v b' mid e z.
                      ap (λ (u : St). shortage v u.needs) (follow-note deeper mid e) ∙ n.code turn (noted-down mid) (holds-here mid e) v b'
                      ∙ ap (λ (u : ℕ). or_else u d.code) (row-short v b' mid e z ∙ g0);
                  made = λ mid e z.
                      let mets-are : (noted-down mid).met ≡ met_of t' s₂ d.counts.rows =
                      ap (λ (u : St). u.met) (noted-clear mid e) ∙ sym (noted-mets fits-here n) ∙ ap (met_of t' s₂) (sym n.rows) in
                      ap clear (follow-note deeper mid e) ∙ n.made turn (noted-down mid) (holds-here mid e) z ∙ rw (mets-are, same, ap (λ (u : St). u.energy) e);
                }

                new-rec : SoundRec k.size (record { start = start; to = y; path = addrs p 0 np; energy = o.energy })
                new-rec = record {
                  long = omega (arith, addrs-length p 0 np, h.is, h.some, h.entering.stands.some);
                  inside = inside-here;
                  state = new-sound y i;
                }

                pub follow-ends : Outcome code k turn since start F l (buffers w p s t r q) o (buffers w₂ p s₂ t' r₂ q₂) (shut_with d l)
                follow-ends = record {
                  shut = λ _ deeper _. did-note deeper;
                  unopened = λ _. refl;
                  opened = λ e. not-true e;
                  fits = λ _. fits-noted fits-here n new-rec;
                  stays = λ _. stays_then stays_here (stays-less (omega (arith, h.is)) (stays-noted fits-here n));
                  counts = λ _. counts-kept follow-counts n.around.rests;
                  energy = same;
                }

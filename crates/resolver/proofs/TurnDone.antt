-- What a turn does and leaves. Assumes nothing.
use mathlib.Core.Path.{◌≡◌, refl, sym, ap, subst, ◌∙◌}
use mathlib.Core.Bool.{true}
use mathlib.Core.List.{List, [], ◌∷◌}
use Prim.Native.Nat.{ℕ, ◌+◌, ◌≤◌, ◌<◌}
use native.Mathlib.Omega.{arith}
use lib.ListN.{take, drop}
use lib.Seq.{take-take}
use Rattle.spec.specs.Lists.{mem}
use Rattle.spec.specs.Search as search
use Rattle.spec.specs.Search.{Taker, takers, direct, P, S, Rec, dests, St, need, forget, Turn, turn_for, in_use, level, turn}
use Rattle.laws.proofs.Members.{In}
use Rattle.theorems.proofs.Carried.{carry-level}
use Rattle.theorems.proofs.Growth.{Later, later}
use Rattle.theorems.proofs.Older.{clear}
use Rattle.lent.proofs.Parts.{drop_more}
use Rattle.layout.specs.Parts.{list_place, SameRows}
use Rattle.layout.specs.Buffers.{Mem, buffers}
use Rattle.tables.specs.Addrs.{addrs}
use Rattle.tables.specs.Rows.{met_of, Shelves}
use Rattle.tables.specs.Mets.{Emptied}
use Rattle.tables.specs.declared.Rooms.{Rooms}
use Rattle.tables.proofs.Addrs.{addrs-prefix}
use Rattle.tables.proofs.Uses.{tables-kept}
use Rattle.reachable.specs.Marks.{flagged}
use Rattle.reachable.proofs.Rows.{within-sides, closed-sides, sides-kept}
use Rattle.steps.specs.Paths.{Counted, Uncounting}
use Rattle.steps.specs.Runs.{recs_in, st_of, Did}
use Rattle.steps.specs.Plans.{mode_in}
use Rattle.steps.specs.declared.plan.Plan.{Plan}
use Rattle.steps.specs.Helds.{OwnAsks, Gave}
use Rattle.steps.specs.declared.own.StateAt.{StateAt}
use Rattle.steps.proofs.Helds.{helds-past}
use Rattle.steps.specs.declared.Level.{Level}
use Rattle.steps.specs.Goings.{Gone}
use Rattle.enter.specs.Fits.{Fits, level_of, prepared_in}
use Rattle.levels.specs.Levels.{Came, Opened, Leveled}
use Rattle.enter.specs.Enters.{refused_with}
use Rattle.resolver.specs.Turns.{Idle, Passed, begun_with, ended_with, Places, Placed, TurnAsks, Turned}
use Rattle.levels.proofs.Sequence.{did_then, did-stops, did-same, did-from, did-need, did-short}
use Rattle.levels.proofs.WorkKept.{Alike, alike-counts, alike-marks, alike-known, alike-room}
use Rattle.resolver.proofs.TakerRow.{Taking, taking}
use Rattle.resolver.proofs.TurnBegins as begins
use Rattle.resolver.proofs.PathOfOne.{inside_one}
use Rattle.resolver.proofs.PassedRefused.{passed-refused}

-- ---- a turn in three parts: its needs, its first level, and the end

module _ (limit : ℕ) (t : Turn) (position : ℕ) where
  abbrev first-level : search.Level
  first-level = record { path = t.start ∷ []; position = position; state = t.first }

  abbrev asks-s : St → St
  asks-s s = need S (in_use t s) s

  abbrev levels-on : St → St
  levels-on s = forget (level limit t 255 first-level s)

  turn_is : (s : St) → turn limit t position s ≡ levels-on (asks-s (need P 1 s))
  unfolding turn
  turn_is s = refl

  levels-later : (s : St) → Later s (levels-on s)
  levels-later s = later.joins s (level limit t 255 first-level s) (levels-on s) (carry-level Later later limit t 255 first-level s) (later.forgets _)

  asks-later : (s : St) → Later s (levels-on (asks-s s))
  asks-later s = later.joins s (asks-s s) (levels-on (asks-s s)) (later.needs S (in_use t s) s) (levels-later (asks-s s))

  did-turn : {k : Rooms} {a b : St} {x : ℕ} → Did k (λ s. levels-on (asks-s (need P 1 s))) a x b → Did k (turn limit t position) a x b
  did-turn = did-same (λ s. levels-on (asks-s (need P 1 s))) (turn limit t position) (λ mid _. turn_is mid)

  -- no address in P
  short-p : {k : Rooms} {a b : St} → k.p ≡ 0 → Did k (turn limit t position) a 4 b
  short-p e =
      did-turn (did-stops (need P 1) (λ s. levels-on (asks-s s)) asks-later (did-short P (λ s. 1) 1 (λ mid _. refl) (omega (arith, e))) (λ z. omega (arith, z)))

  module _ {k : Rooms} {a : St} {v : ℕ} (uses : (mid : St) → clear mid ≡ a → in_use t mid ≡ v) where
    module _ (some : 1 ≤ k.p) where
      asks-p : {b : St} {x : ℕ} → Did k (λ s. levels-on (asks-s s)) a x b → Did k (turn limit t position) a x b
      asks-p d = did-turn (did_then (need P 1) (λ s. levels-on (asks-s s)) (did-need P (λ s. 1) 1 (λ mid _. refl) some) refl d)

      -- no room for its state in S
      short-s : {b : St} → k.s < v → Did k (turn limit t position) a 5 b
      short-s h = asks-p (did-stops asks-s levels-on levels-later (did-short S (λ s. in_use t s) v uses h) (λ z. omega (arith, z)))

      -- a level that is refused, or done
      asks_both : v ≤ k.s → {b : St} {x : ℕ} → Did k levels-on a x b → Did k (turn limit t position) a x b
      asks_both h d = asks-p (did_then asks-s levels-on (did-need S (λ s. in_use t s) v uses h) refl d)

did-forget : {k : Rooms} {a b : St} → b.recs ≡ a.recs → b.energy ≡ a.energy → b.met ≡ [] → b.needs ≡ [] → Did k forget a 0 b
did-forget {a = a} {b} r e n z =
    record {
      short = λ l h mid m n. n;
      made = λ mid m _.
          let p = ap (λ (s : St). s.recs) m ∙ sym r in
          let q = ap (λ (s : St). s.energy) m ∙ sym e in
          λ i. record { recs = p i; energy = q i; met = sym n i; needs = sym z i };
    }

-- ---- what a turn asks

pub asks-taking : {code : List ℕ} {k : Plan} {start : ℕ} {m : Mem} {o : Gone} (a : TurnAsks code k start m o) → Taking (mode_in k) code m.w k.size start a.taker
asks-taking {code} {k} a =
    let g = a.idle.planned in
    taking (mode_in k) code g.is g.lent_w.short a.idle.known a.takes a.is

pub turn-runs : {code : List ℕ} {k : Plan} {start : ℕ} {m : Mem} {o : Gone} → TurnAsks code k start m o → OwnAsks k code m.w start
turn-runs a = begins.own-asks a.idle (asks-taking a)

pub turn-few : {code w w₁ p s t r q : List ℕ} {k : Plan} {start : ℕ} {o : Gone} {own : StateAt} → TurnAsks code k start (buffers w p s t r q) o → Gave k code start w w₁ own
    → own.n ≤ k.size + 17
turn-few a gave = begins.own-few a.idle (asks-taking a) gave

pub turn-places : {code w w₁ p s t r q : List ℕ} {k : Plan} {start : ℕ} {o : Gone} {own : StateAt} → TurnAsks code k start (buffers w p s t r q) o
    → (k.rooms.p ≡ 0 → ⊥) → Gave k code start w w₁ own → o.counts.kept + own.n ≤ k.rooms.s → Places w₁ p s k start own
turn-places a some owned room = begins.place-asks a.idle (asks-taking a) owned some room

pub turn-opens : {code w w₁ w₂ p p₁ s s₁ t r q : List ℕ} {k : Plan} {start : ℕ} {o b : Gone} {own : StateAt} {l : Level} → TurnAsks code k start (buffers w p s t r q) o
    → (k.rooms.p ≡ 0 → ⊥) → Gave k code start w w₁ own → o.counts.kept + own.n ≤ k.rooms.s → Placed w₁ p s k start own w₂ p₁ s₁ l
    → b ≡ begun_with o own.n → Opened code k start l (buffers w₂ p₁ s₁ t r q) b
turn-opens {code} {k = k} {start} a some owned room placed e =
    let x = asks-taking a in
    rw (placed.is, e)
    (record {
      turn = turn_for (direct (prepared_in k code)) a.reached a.taker;
      since = a.since;
      fits = begins.begun-fits a.idle x owned room placed a.is;
      stands = begins.begun-stands a.idle x owned room placed some;
      on_its = placed.counted.counts;
      energy = omega (arith, a.energy);
      unrefused = a.idle.unrefused;
    })

-- ---- a turn that is refused

pub turn-short-p : {code : List ℕ} {k : Plan} {start : ℕ} {m : Mem} {o d : Gone} → k.rooms.p ≡ 0 → d ≡ refused_with o 4 → Turned code k start m o m d
turn-short-p {code} {k} {start} {m} {o} z e reached since idle x takes is =
    rw e (passed-refused (λ n. omega (arith, n)) (short-p k.limit (turn_for (direct (prepared_in k code)) reached x) x.position z))

pub turn-short-s : {code w w₁ p s t r q : List ℕ} {k : Plan} {start : ℕ} {o d : Gone} {own : StateAt} → (k.rooms.p ≡ 0 → ⊥) → Gave k code start w w₁ own
    → k.rooms.s < o.counts.kept + own.n → d ≡ refused_with o 5 → Turned code k start (buffers w p s t r q) o (buffers w₁ p s t r q) d
turn-short-s {code} {k = k} some owned short e reached since idle x takes is =
    let g = idle.planned in
    let y = taking (mode_in k) code g.is g.lent_w.short idle.known takes is in
    let t : Turn = turn_for (direct (prepared_in k code)) reached x in
    rw e
    (passed-refused (λ n. omega (arith, n))
    (short-s k.limit t x.position (begins.begun-uses idle t) (omega (arith, some)) (omega (arith, short, begins.own-cells idle y owned))))

-- ---- a turn whose first level was tried

-- how it came to that: the run, the first level in place, and what it did
pub record Leveling (code : List ℕ) (k : Plan) (start : ℕ) (m : Mem) (o : Gone) (m' : Mem) (d : Gone) : Type 0 where
  pub w₁ : List ℕ
  pub own : StateAt
  pub s₁ : List ℕ
  pub p₁ : List ℕ
  pub w₂ : List ℕ
  pub l : Level
  pub some : k.rooms.p ≡ 0 → ⊥
  pub owned : Gave k code start m.w w₁ own
  pub room : o.counts.kept + own.n ≤ k.rooms.s
  pub placed : Placed w₁ m.p m.s k start own w₂ p₁ s₁ l
  pub leveled : Leveled code k start (record { np = 1; position = l.position; from = 0; cells = own.n; left = 255 }) (buffers w₂ p₁ s₁ m.t m.r m.q)
      (begun_with o own.n) m' d

pub leveling : {code w w₁ w₂ p p₁ s s₁ t r q : List ℕ} {k : Plan} {start : ℕ} {m' : Mem} {o b c d : Gone} {own : StateAt} {l : Level} → (k.rooms.p ≡ 0 → ⊥)
    → Gave k code start w w₁ own → o.counts.kept + own.n ≤ k.rooms.s → Placed w₁ p s k start own w₂ p₁ s₁ l → b ≡ begun_with o own.n
    → Leveled code k start l (buffers w₂ p₁ s₁ t r q) b m' c → d ≡ c → Leveling code k start (buffers w p s t r q) o m' d
leveling {w₁ = w₁} {w₂} {p₁ = p₁} {s₁ = s₁} {own = own} {l} some owned room placed e leveled f =
    rw f (record { w₁ = w₁; own = own; s₁ = s₁; p₁ = p₁; w₂ = w₂; l = l; some = some; owned = owned; room = room; placed = placed; leveled = rw (placed.is, e) at leveled })

module _ {code : List ℕ} {k : Plan} {start : ℕ} {m m' : Mem} {o d : Gone} (h : Leveling code k start m o m' d) where
  abbrev opened : Mem
  opened = buffers h.w₂ h.p₁ h.s₁ m.t m.r m.q

  abbrev first : Level
  first = record { np = 1; position = h.l.position; from = 0; cells = h.own.n; left = 255 }

  module _ {reached : List ℕ} {since : ℕ} (idle : Idle code k reached since m o) {x : Taker} (takes : In x (takers (prepared_in k code))) (is : x.start ≡ start) where
    abbrev its : Turn
    its = turn_for (direct (prepared_in k code)) reached x

    takes-it : Taking (mode_in k) code m.w k.size start x
    takes-it = let g = idle.planned in taking (mode_in k) code g.is g.lent_w.short idle.known takes is

    alike : Alike k.size k.buckets m.w h.w₂
    alike = begins.begun-alike idle takes-it h.owned h.room h.placed

    came : Came code k its since start (level k.limit its 255 (level_of opened first)) first opened (begun_with o h.own.n) m' d
    came = h.leveled.came its since (begins.begun-fits idle takes-it h.owned h.room h.placed is)

    did-level : Did k.rooms (level k.limit its 255 (first-level k.limit its x.position)) (st_of k m o) d.code (st_of k m' d)
    did-level =
        did-from (sym (begins.begun-state idle takes-it h.owned h.room h.placed))
        (subst (λ (l : search.Level). Did k.rooms (level k.limit its 255 l) (st_of k opened (begun_with o h.own.n)) d.code (st_of k m' d))
        (begins.begun-level idle takes-it h.owned h.room h.placed is) came.did)

    did-all : {c : St} {y : ℕ} → Did k.rooms (levels-on k.limit its x.position) (st_of k m o) y c → Did k.rooms (turn k.limit its x.position) (st_of k m o) y c
    did-all =
        asks_both k.limit its x.position (begins.begun-uses idle its) (omega (arith, h.some)) (omega (arith, h.room, begins.own-cells idle takes-it h.owned))

    refused : (d.code ≡ 0 → ⊥) → Passed code k reached since (turn k.limit its x.position) m o m' d
    refused n =
        passed-refused n (did-all (did-stops (level k.limit its 255 (first-level k.limit its x.position)) forget (λ s. later.forgets s) did-level n))

    module _ (z : d.code ≡ 0) where
      fits : Fits code k its since start m' d.counts
      fits = came.fits z

      -- the path is still there
      path : addrs m'.p 0 1 ≡ addrs h.p₁ 0 1
      path = addrs-prefix m'.p h.p₁ 1 0 1 (came.stays z).path (omega arith)

      uncounting : Uncounting k.size m'.w m'.p 0 1
      uncounting =
          let g = fits.planned in
          record {
            lent = g.lent_w;
            in_p = omega (arith, g.lent_p, h.some);
            most = omega arith;
            order = omega arith;
            inside = rw path (inside_one h.placed.put (begins.taker-small idle takes-it) takes-it.inside);
            counts = rw path (came.counts z);
          }

      module _ {w₄ t₄ : List ℕ} (uncounted : Counted k.size m'.w m'.p 0 w₄) (emptied : Emptied k.shelves m'.t t₄) where
        abbrev after : Mem
        after = buffers w₄ m'.p m'.s t₄ m'.r m'.q

        off : Alike k.size k.buckets m'.w w₄
        off = alike-counts uncounted.only k.buckets

        rows : SameRows k.size m.w w₄
        rows = off.rows ∙ (came.stays z).rows ∙ alike.rows

        beyond : drop k.end w₄ ≡ drop k.end m.w
        beyond =
            let low : list_place k.size ≤ k.end = omega (arith, idle.planned.scratch) in
            drop_more w₄ m'.w (list_place k.size) uncounted.only.back k.end low ∙ (came.stays z).beyond
            ∙ drop_more h.w₂ h.w₁ (list_place k.size) h.placed.counted.only.back k.end low ∙ (begins.gave-beyond idle takes-it h.owned).back

        flags : flagged w₄ k.size ≡ flagged m.w k.size
        flags = off.flags ∙ (came.stays z).flags ∙ alike.flags

        older : take o.counts.records (recs_in k after (ended_with d).counts) ≡ recs_in k m o.counts
        older = (came.stays z).older ∙ begins.begun-recs idle takes-it h.owned h.room h.placed

        energy-left : d.energy ≤ k.limit + 256
        energy-left = h.leveled.energy z

        idle-again : Idle code k reached since after (ended_with d)
        unfolding addrs
        idle-again =
            let g = fits.planned in
            let f = fits.remembers in
            record {
              planned = record {
                is = g.is;
                limit = g.limit;
                moded = g.moded;
                lent_w = alike-room off g.lent_w;
                ends = omega (arith, g.ends, off.links.long);
                scratch = g.scratch;
                helds = helds-past (list_place k.size) (omega arith) uncounted.only.back uncounted.only.long g.helds;
                lent_p = g.lent_p;
                most_p = g.most_p;
                shelves = g.shelves;
              };
              tables = tables-kept fits.tables w₄ m'.s off.links refl refl 0 0 (omega (arith, fits.tables.within.fits_s));
              remembers = record {
                rows = λ i l. absurd (omega (arith, l));
                inside = λ i l. absurd (omega (arith, l));
                shelves = emptied.shelves;
                fits_t = omega arith;
                lent_t = omega (arith, f.lent_t, emptied.heads.long);
                most_t = f.most_t;
                fits_s = omega arith;
                most_s = omega arith;
              };
              known = alike-known off g.is fits.known;
              began = fits.began;
              marks = alike-marks off fits.marks;
              sound = fits.sound;
              counts = uncounted.counts;
              unused = refl;
              rowless = refl;
              within = within-sides (sides-kept m.w w₄ k.size rows) idle.within;
              closed = closed-sides (sides-kept m.w w₄ k.size rows) flags idle.closed;
              unrefused = z;
              energy = energy-left;
              dests_in = λ a i.
                  let same : take since (recs_in k after (ended_with d).counts) ≡ take since (recs_in k m o.counts) =
                  sym (take-take since o.counts.records (recs_in k after (ended_with d).counts) idle.began) ∙ ap (take since) older in
                  idle.dests_in a (subst (λ (rs : List Rec). mem a (dests rs) ≡ true) same i);
            }

        done : Passed code k reached since (turn k.limit its x.position) m o after (ended_with d)
        unfolding met_of
        done =
            let end : Did k.rooms forget (st_of k m' d) 0 (st_of k after (ended_with d)) = did-forget refl refl refl refl in
            let did = did-all (did_then (level k.limit its 255 (first-level k.limit its x.position)) forget did-level z end) in
            record { did = rw z did; idle = λ _. idle-again; flags = λ _. flags; rows = λ _. rows; beyond = λ _. beyond; older = λ _. older }

  -- what it leaves, where its level is refused
  pub turn-refused : (d.code ≡ 0 → ⊥) → Turned code k start m o m' d
  turn-refused n reached since idle x takes is = refused idle takes is n

  pub turn-uncounts : TurnAsks code k start m o → d.code ≡ 0 → Uncounting k.size m'.w m'.p 0 1
  turn-uncounts a z = uncounting a.idle a.takes a.is z

  pub turn-forgets : TurnAsks code k start m o → d.code ≡ 0 → Shelves k.shelves m'.t d.counts.rows
  turn-forgets a z = (fits a.idle a.takes a.is z).remembers.shelves

  -- and where it is done
  pub turn-done : {w₄ t₄ : List ℕ} {e : Gone} → d.code ≡ 0 → Counted k.size m'.w m'.p 0 w₄ → Emptied k.shelves m'.t t₄ → e ≡ ended_with d
      → Turned code k start m o (buffers w₄ m'.p m'.s t₄ m'.r m'.q) e
  turn-done z uncounted emptied e reached since idle x takes is = rw e (done idle takes is z uncounted emptied)

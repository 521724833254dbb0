-- What holds halfway through a level, at a cursor and in a turn, and what comes of the parent there. Assumes nothing.
use mathlib.Core.Path.{◌≡◌, refl, sym, ap, ◌∙◌}
use mathlib.Core.Bool.{Bool, true, false}
use mathlib.Core.List.{List, ◌∷◌}
use Prim.Native.Nat.{ℕ, ◌+◌, ◌≤◌, ◌<◌}
use native.Mathlib.Decide.{ℕ_discrete}
use native.Mathlib.Omega.{arith}
use native.Mathlib.Numerals.{add-one}
use lib.ListN.{length}
use lib.Seq.{take_all}
use Rattle.spec.specs.Lists.{keep}
use Rattle.spec.specs.Search.{St, Turn, Rec, Parent, spend, level}
use Rattle.theorems.proofs.Older.{clear}
use Rattle.layout.specs.Parts.{SameRows}
use Rattle.layout.specs.Buffers.{Mem}
use Rattle.layout.specs.Fields.{mark_at, high_at}
use Rattle.reachable.specs.Marks.{marked_by}
use Rattle.parents.specs.Links.{parent_of}
use Rattle.parents.proofs.Chains.{parents-prefix}
use Rattle.tables.specs.Addrs.{addrs}
use Rattle.tables.proofs.Counted.{recs-length}
use Rattle.steps.specs.Cursors.{next_cursor, last_cursor, live, DirectParent, Left, none_left, direct_left, found_left}
use Rattle.steps.specs.Paths.{OnPath}
use Rattle.steps.specs.Runs.{recs_in, st_of, Did}
use Rattle.enter.specs.Fits.{Fits, level_of, Stands, held, Stays}
use Rattle.levels.specs.Levels.{spent_with, Came, Tried}
use Rattle.steps.specs.Plans.{mode_in}
use Rattle.steps.specs.declared.plan.Plan.{Plan}
use Rattle.steps.specs.declared.Level.{Level}
use Rattle.steps.specs.Goings.{Gone}
use Rattle.steps.proofs.Cursors.{direct-rows}
use Rattle.steps.proofs.Nexts.{NextLeft, next-left}
use Rattle.levels.proofs.Sequence.{did-same, did_then, did-stops}
use Rattle.levels.proofs.LevelByParents.{trying, onto, trying-passes, trying-next, trying-later, keep-this, keep-not}
use Rattle.enter.proofs.LevelKept.{stays_then, path-stays, level-stays}

-- ---- what document 01's level does, for the level l at its opening

abbrev pub whole : Plan → Turn → Level → Mem → St → St
whole k t l m = level k.limit t l.left (level_of m l)

-- with some parents, and with one
abbrev pub those : Plan → Turn → Level → Mem → List Parent → St → St
those k t l m = trying k.limit t l.left (level_of m l)

abbrev pub one : Plan → Turn → Level → Mem → Parent → St → St
one k t l m = onto k.limit t l.left (level_of m l)

-- "whose path's last block is then reached"
abbrev pub tried? : Plan → Turn → Mem → Gone → Parent → Bool
tried? k t m o = live t.reached (recs_in k m o.counts)

-- ---- what holds at the cursor, in a turn: with the parents that are left, what was done so far ends where the whole level ends

pub record Halfway (code : List ℕ) (k : Plan) (t : Turn) (since start : ℕ) (l : Level) (m₀ : Mem) (o : Gone) (b : ℕ) (m : Mem) (cur : Gone) (at : ℕ) : Type 0 where
  pub fits : Fits code k t since start m cur.counts
  pub stays : Stays k l.np m₀ o.counts m cur.counts
  pub counts : OnPath k.size m.w (addrs m₀.p 0 l.np)
  pub rest : List Parent
  pub left : Left (mode_in k) code m₀.w k.size b (recs_in k m₀ o.counts) at rest
  pub so_far : St → St
  pub did : Did k.rooms so_far (st_of k m₀ o) 0 (st_of k m cur)
  pub same : (mid : St) → clear mid ≡ st_of k m₀ o
      → whole k t l m₀ mid ≡ those k t l m₀ (keep (tried? k t m₀ o) rest) (so_far mid)

-- ---- what is left depends on W's rows alone

left-rows : {mode : ℕ} {code w w' : List ℕ} {n b at : ℕ} {rs : List Rec} {ps : List Parent} → SameRows n w' w → Left mode code w n b rs at ps
    → Left mode code w' n b rs at ps
left-rows e none_left = none_left
left-rows {w = w} {w'} {n} e (direct_left some p h c) = direct_left some (parents-prefix w w' n e p) h (λ a i. direct-rows (sym e) (c a i))
left-rows e (found_left h) = found_left h

-- ---- a direct parent past the highest that is marked was not reached when the level opened

pub unreached : {code : List ℕ} {k : Plan} {t : Turn} {since start : ℕ} {m : Mem} (o : Gone) {b high : ℕ} → Fits code k t since start m o.counts
    → high ≡ high_at m.w k.size b → b ≤ k.size → (a : ℕ) → high ≤ a → DirectParent code m.w k.size b a → tried? k t m o (parent_of (mode_in k) code b a) ≡ false
unreached {k = k} {t} {m = m} o {b} f top inside a past p =
    rw (take_all o.counts.records (recs_in k m o.counts) (omega (arith, long)))
    at (sym (f.marks.by o.counts.records f.began (omega (arith, long)) a p.inside)) ∙ rw unmarked
  where
    long : length (recs_in k m o.counts) ≡ o.counts.records
    long = recs-length m.r m.q m.s k.rooms.s o.counts.records

    unmarked : mark_at m.w k.size a ≡ 0
    unmarked = go (ℕ_discrete (mark_at m.w k.size a) 0)
      where
        go : Dec (mark_at m.w k.size a ≡ 0) → mark_at m.w k.size a ≡ 0
        go (yes e) = e
        go (no ne) = absurd (omega (arith, f.marks.high.above a b p.inside inside ne p.side))

-- ---- a unit of energy

did-spend : (k : Plan) (m : Mem) (cur : Gone) → Did k.rooms spend (st_of k m cur) 0 (st_of k m (spent_with cur))
did-spend k m cur = record { short = λ l h mid e z. z; made = λ mid e z. rw add-one (ap spend e) }

-- ---- a turn at the cursor

module _ {code : List ℕ} {k : Plan} {t : Turn} {since start : ℕ} {l : Level} {m₀ : Mem} {o : Gone} {b : ℕ} {m : Mem} {cur : Gone} {at : ℕ}
    {high : ℕ} (f : Fits code k t since start m₀ o.counts) (stands : Stands k m₀ o.counts l) (inside : b ≤ k.size) (top : high ≡ high_at m₀.w k.size b)
    (h : Halfway code k t since start l m₀ o b m cur at) (d : at ≡ 0 → ⊥) where
  pub half-next : NextLeft (mode_in k) code m.w m.r m.q m.s k.size b o.counts.records high k.rooms.s cur.counts.records (recs_in k m₀ o.counts) at h.rest
  half-next =
      next-left o.counts.records high h.fits.planned.lent_w.short inside (omega (arith, h.fits.planned.lent_w.room)) h.fits.tables h.stays.rows
      (sym h.stays.older) h.stays.more f.sound h.left d

  half-left : Left (mode_in k) code m₀.w k.size b (recs_in k m₀ o.counts) (next_cursor m.w m.r k.size b o.counts.records high at) half-next.next.rest
  half-left = left-rows h.stays.rows half-next.next.left

  -- direct parents past the highest that is marked are not tried
  half-past : keep (tried? k t m₀ o) half-next.rest ≡ keep (tried? k t m₀ o) half-next.next.rest
  half-past = half-next.next.passes (tried? k t m₀ o) (λ a l p. unreached o f top inside a l (direct-rows (sym h.stays.rows) p))

  -- of the parents left the one at the cursor is the first
  half-same : {ps : List Parent} → keep (tried? k t m₀ o) (held code k m b at ∷ half-next.rest) ≡ ps → (mid : St) → clear mid ≡ st_of k m₀ o
      → whole k t l m₀ mid ≡ those k t l m₀ ps (h.so_far mid)
  half-same e mid i =
      h.same mid i ∙ ap (λ (qs : List Parent). those k t l m₀ qs (h.so_far mid)) (ap (keep (tried? k t m₀ o)) half-next.is ∙ e)

  -- the mark tells whether the parent is tried
  pub half-live : marked_by m.w k.size (last_cursor m.r m.q at) (o.counts.records + 1) ≡ tried? k t m₀ o (held code k m b at)
  half-live =
      let x = half-next in
      h.fits.marks.by o.counts.records f.began
      (omega (arith, h.stays.more, recs-length m.r m.q m.s k.rooms.s cur.counts.records)) (last_cursor m.r m.q at) x.last_inside
      ∙ rw (h.stays.older, x.last)

  -- it is not: what is left is the same
  pub half-skips : {next : ℕ} → next ≡ next_cursor m.w m.r k.size b o.counts.records high at
      → tried? k t m₀ o (held code k m b at) ≡ false → Halfway code k t since start l m₀ o b m cur next
  half-skips e dead =
      let x = half-next in
      record {
        fits = h.fits;
        stays = h.stays;
        counts = h.counts;
        rest = x.next.rest;
        left = rw e half-left;
        so_far = h.so_far;
        did = h.did;
        same = half-same (keep-not (tried? k t m₀ o) (held code k m b at) x.rest dead ∙ half-past);
      }

  -- it is
  module _ (alive : tried? k t m₀ o (held code k m b at) ≡ true) where
    abbrev later : List Parent
    later = keep (tried? k t m₀ o) half-next.next.rest

    half-tries : (mid : St) → clear mid ≡ st_of k m₀ o → whole k t l m₀ mid ≡ those k t l m₀ (held code k m b at ∷ later) (h.so_far mid)
    half-tries = half-same (keep-this (tried? k t m₀ o) (held code k m b at) half-next.rest alive ∙ ap {B = List Parent} (λ (ps : List Parent). held code k m b at ∷ ps) half-past)

    half-energy : (mid : St) → clear mid ≡ st_of k m₀ o → (h.so_far mid).energy ≡ cur.energy
    half-energy mid i = ap (λ (s : St). s.energy) (h.did.made mid i refl)

    half-spends : Did k.rooms (λ (s : St). spend (h.so_far s)) (st_of k m₀ o) 0 (st_of k m (spent_with cur))
    half-spends = did_then _ _ h.did refl (did-spend k m cur)

    -- the limit is passed
    pub half-passes : k.limit < cur.energy + 1 → cur.code ≡ 0 → Came code k t since start (whole k t l m₀) l m₀ o m (spent_with cur)
    half-passes p e = record {
      did =
          rw e
          (did-same _ _ (λ mid i. half-tries mid i
          ∙ trying-passes k.limit t l.left (level_of m₀ l) (held code k m b at) later (h.so_far mid) (omega (arith, half-energy mid i))) half-spends);
      fits = λ _. h.fits;
      stays = λ _. h.stays;
      counts = λ _. h.counts;
    }

    -- it is not, and the parent is tried
    module _ (p : cur.energy + 1 ≤ k.limit) {m' : Mem} {r : Gone} (tried : Tried code k start l at m (spent_with cur) m' r) where
      came : Came code k t since start (one k t l m₀ (held code k m b at)) l m (spent_with cur) m' r
      came = rw (level-stays l h.stays stands (omega (arith, h.fits.tables.within.fits_s, h.fits.tables.within.lent_s))) at (tried.came t since b h.fits)

      half-goes : (mid : St) → clear mid ≡ st_of k m₀ o
          → whole k t l m₀ mid ≡ those k t l m₀ later (one k t l m₀ (held code k m b at) (spend (h.so_far mid)))
      half-goes mid i =
          half-tries mid i
          ∙ trying-next k.limit t l.left (level_of m₀ l) (held code k m b at) later (h.so_far mid) (omega (arith, half-energy mid i))

      pub half-refused : (r.code ≡ 0 → ⊥) → Came code k t since start (whole k t l m₀) l m₀ o m' r
      half-refused bad = record {
        did = did-same _ _ half-goes (did-stops _ _ (trying-later k.limit t l.left (level_of m₀ l) later) (did_then _ _ half-spends refl came.did) bad);
        fits = λ e. absurd (bad e);
        stays = λ e. absurd (bad e);
        counts = λ e. absurd (bad e);
      }

      pub half-tried : {next : ℕ} → next ≡ next_cursor m.w m.r k.size b o.counts.records high at → r.code ≡ 0 → Halfway code k t since start l m₀ o b m' r next
      half-tried e z = record {
        fits = came.fits z;
        stays = stays_then h.stays (came.stays z);
        counts = rw (path-stays l h.stays) at (came.counts z);
        rest = half-next.next.rest;
        left = rw e half-left;
        so_far = λ s. one k t l m₀ (held code k m b at) (spend (h.so_far s));
        did = rw z at (did_then _ _ half-spends refl came.did);
        same = half-goes;
      }

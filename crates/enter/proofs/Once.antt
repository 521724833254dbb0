-- The contract of `enter` leaves no choice but in what docs/PROOFS.md lists: two results of one call have the same number and energy, and open the same level
-- or none; where the number is 0 they have the same counts, and the same bytes where the records, their links, W's rows and the path in hand stand. What is
-- said of two memories that hold one state of document 01 serves the level too. Assumes nothing.
use mathlib.Core.Path.{◌≡◌, refl, sym, ap, ◌∙◌}
use mathlib.Core.Logic.{◌⊎◌, inl, inr}
use mathlib.Core.Bool.{Bool, true, false, ◌||◌, true≢false}
use mathlib.Core.List.{List, [], ◌∷◌}
use Prim.Native.Nat.{ℕ, suc, ◌+◌, ◌*◌, ◌≤◌}
use native.Mathlib.Omega.{arith}
use lib.Dec.{ltb}
use lib.ListN.{length, take, drop}
use borrow.Author.Tests.{ltb-true, lt-ltb, le-leb}
use Rattle.spec.specs.Lists.{mem, total}
use Rattle.spec.specs.Stacks.{before, cells}
use Rattle.spec.specs.Search as search
use Rattle.spec.specs.Search.{Room, P, S, T, R, Q, Rec, Met, nowhere, kept, dests, St, spend, Turn}
use Rattle.spec.specs.Rooms.{Lent, room, shortage}
use Rattle.laws.proofs.Members.{and_both, and-true}
use Rattle.theorems.specs.Needs.{clear, Later}
use Rattle.lent.proofs.Once.{Bytes, Same, same-num}
use Rattle.layout.specs.Buffers.{Mem}
use Rattle.layout.specs.Fields.{COUNT, HIGHEST, mark_at, high_at}
use Rattle.layout.specs.Parts.{fields_place, SameRows}
use Rattle.state.specs.Cells.{stack_at}
use Rattle.state.proofs.States.{state-lies, lies-count}
use Rattle.state.proofs.Once.{one_lies}
use Rattle.tables.specs.Addrs.{addrs}
use Rattle.tables.specs.Recording.{Lends, room_of}
use Rattle.tables.specs.Rows.{met_of}
use Rattle.tables.specs.declared.Rooms.{Rooms}
use Rattle.tables.specs.declared.Counts.{Counts}
use Rattle.tables.proofs.Addrs.{addrs-length}
use Rattle.tables.proofs.Alike.{AllBytes, AllLong, OneTables, one-tables, addrs-same}
use Rattle.tables.proofs.Chains.{keyed}
use Rattle.tables.proofs.Counted.{recs-length, recs-addresses, recs-kept-cells}
use Rattle.tables.proofs.Turns.{mets-cells}
use Rattle.reachable.specs.Marks.{flagged, marked_by}
use Rattle.reachable.proofs.Raising.{highest-once}
use Rattle.steps.specs.Paths.{OnPath}
use Rattle.steps.specs.Runs.{tabled, recs_in, st_of, Did}
use Rattle.steps.specs.declared.plan.Plan.{Plan}
use Rattle.steps.specs.declared.Level.{Level}
use Rattle.std.specs.Prelude.{Option, Some, None, Result, Ok, Err}
use Rattle.refusal.specs.declared.Shortage.{Shortage}
use Rattle.tables.proofs.Shorts.{short-some}
use Rattle.steps.specs.Goings.{Gone}
use Rattle.steps.specs.declared.Run.{Run}
use Rattle.steps.proofs.Once.{short-same}
use Rattle.enter.specs.Fits.{Fits, level_of, held, Stays}
use Rattle.enter.specs.Enters.{Opening, opening_of, onward, Opens, Outcome, Entered}
use Rattle.enter.proofs.TurnKept.{mets-length}

-- ---- what is done from one state has one number, and where that is 0 one state

-- as much lent as a plan counts with
abbrev pub lent_for : Rooms → Lent
lent_for k = record { w = 0; p = 2 * k.p; s = 9 * k.s; t = 32 * k.t; r = 32 * k.r; q = 2 * k.q; out = 0 }

pub fits-lends : {code : List ℕ} {k : Plan} {t : Turn} {since start : ℕ} {m : Mem} {c : Counts} → Fits code k t since start m c → Lends (lent_for k.rooms) k.rooms
fits-lends {k = k} f = record { is = is }
  where
    is : (x : Room) → room (lent_for k.rooms) x ≡ room_of k.rooms x
    is P = omega (arith, f.planned.most_p)
    is S = omega (arith, f.tables.within.most_s)
    is T = omega (arith, f.remembers.most_t)
    is R = omega (arith, f.tables.within.most_r)
    is Q = omega (arith, f.tables.within.most_q)

none-short : (l : Lent) → shortage l [] ≡ 0
unfolding shortage
none-short l = refl

-- from a state with no needs
module _ {k : Rooms} {l : Lent} (lends : Lends l k) {f : St → St} {a : St} {x : ℕ} {b : St} (clean : clear a ≡ a) (p : Did k f a x b) where
  pub did-number : shortage l (f a).needs ≡ x
  did-number = p.short l lends a clean (ap (λ (s : St). shortage l s.needs) (sym clean) ∙ none-short l)

  module _ {y : ℕ} {c : St} (q : Did k f a y c) where
    pub did-once : x ≡ y
    did-once = sym did-number ∙ q.short l lends a clean (ap (λ (s : St). shortage l s.needs) (sym clean) ∙ none-short l)

    pub made-once : x ≡ 0 → b ≡ c
    made-once z = sym (p.made a clean z) ∙ q.made a clean (sym did-once ∙ z)

-- ---- two memories that hold one state

-- what two results of one call share, of a level with a path of np addresses, `used` cells in use before, in a round that began with `since` records
pub record OneKept (k : Plan) (np used since : ℕ) (m' m'' : Mem) (c : Counts) : Type 0 where
  pub recs : recs_in k m' c ≡ recs_in k m'' c
  pub met : met_of m'.t m'.s c.rows ≡ met_of m''.t m''.s c.rows
  pub tables : OneTables k.size k.buckets k.rooms c (tabled m') (tabled m'')
  pub path : take (2 * np) m'.p ≡ take (2 * np) m''.p
  pub bottom : take (9 * used) m'.s ≡ take (9 * used) m''.s
  pub rows : SameRows k.size m''.w m'.w
  pub counts : (a : ℕ) → a ≤ k.size → Same m'.w m''.w (fields_place k.size a + COUNT) 4
  pub highest : (a : ℕ) → a ≤ k.size → Same m'.w m''.w (fields_place k.size a + HIGHEST) 2
  pub flags : flagged m'.w k.size ≡ flagged m''.w k.size
  pub beyond : drop k.end m'.w ≡ drop k.end m''.w
  pub marks : (j : ℕ) → since ≤ j → j ≤ c.records → (a : ℕ) → a ≤ k.size → marked_by m'.w k.size a (j + 1) ≡ marked_by m''.w k.size a (j + 1)

-- an address has a mark that is no later, or none
pub marked-too : (w v : List ℕ) (n a records : ℕ) → mark_at w n a ≤ records + 1 → marked_by w n a (records + 1) ≡ marked_by v n a (records + 1) → (mark_at w n a ≡ 0 → ⊥) → mark_at v n a ≡ 0 → ⊥
marked-too w v n a records l e ne z =
    let on : marked_by w n a (records + 1) ≡ true = and-true (ltb 0 (mark_at w n a)) _ (lt-ltb 0 (mark_at w n a) (omega arith)) (le-leb (mark_at w n a) (records + 1) l) in
    omega (arith, ltb-true 0 (mark_at v n a) (and_both (ltb 0 (mark_at v n a)) _ (sym e ∙ on)).0)

module _ {code : List ℕ} {k : Plan} {t : Turn} {since start : ℕ} {m' m'' : Mem} (d e : Gone) (f : Fits code k t since start m' d.counts)
    (g : Fits code k t since start m'' e.counts) (one : st_of k m' d ≡ st_of k m'' e) where
  found-recs : recs_in k m' d.counts ≡ recs_in k m'' e.counts
  found-recs = ap (λ (s : St). s.recs) one

  found-met : met_of m'.t m'.s d.counts.rows ≡ met_of m''.t m''.s e.counts.rows
  found-met = ap (λ (s : St). s.met) one

  pub counts-once : d.counts ≡ e.counts
  counts-once =
      let at = k.rooms.s in
      let p = f.tables in
      let q = g.tables in
      let records : d.counts.records ≡ e.counts.records =
      sym (recs-length m'.r m'.q m'.s at d.counts.records) ∙ ap length found-recs ∙ recs-length m''.r m''.q m''.s at e.counts.records in
      let addresses : d.counts.addresses ≡ e.counts.addresses =
      sym (recs-addresses m'.r m'.q m'.s at p.rows ∙ p.ends) ∙ ap (total (λ (x : Rec). length x.path)) found-recs
      ∙ recs-addresses m''.r m''.q m''.s at q.rows ∙ q.ends in
      let kept-cells : d.counts.kept ≡ e.counts.kept =
      sym (recs-kept-cells m'.r m'.q m'.s at p.few p.goes ∙ p.kept) ∙ ap (total (λ (x : Rec). kept x.to)) found-recs
      ∙ recs-kept-cells m''.r m''.q m''.s at q.few q.goes ∙ q.kept in
      let used : d.counts.used ≡ e.counts.used =
      sym (mets-cells f.remembers (cells t.first) f.packs) ∙ ap (λ (xs : List Met). cells t.first + total (λ (x : Met). cells x.stack) xs) found-met
      ∙ mets-cells g.remembers (cells t.first) g.packs in
      let rows : d.counts.rows ≡ e.counts.rows =
      sym (mets-length m'.t m'.s d.counts.rows) ∙ ap length found-met ∙ mets-length m''.t m''.s e.counts.rows in
      λ i. record { records = records i; addresses = addresses i; kept = kept-cells i; used = used i; rows = rows i }

  same-recs : recs_in k m' d.counts ≡ recs_in k m'' d.counts
  same-recs = found-recs ∙ ap (recs_in k m'') (sym counts-once)

  same-marks : (j : ℕ) → since ≤ j → j ≤ d.counts.records → (a : ℕ) → a ≤ k.size → marked_by m'.w k.size a (j + 1) ≡ marked_by m''.w k.size a (j + 1)
  same-marks j l h a i =
      let at = k.rooms.s in
      f.marks.by j l (omega (arith, recs-length m'.r m'.q m'.s at d.counts.records)) a i
      ∙ ap (λ (rs : List Rec). mem a t.reached || mem a (dests (take j rs))) found-recs
      ∙ sym (g.marks.by j l (omega (arith, ap (λ (c : Counts). c.records) counts-once, recs-length m''.r m''.q m''.s at e.counts.records)) a i)

  same-high : SameRows k.size m''.w m'.w → (a : ℕ) → a ≤ k.size → high_at m'.w k.size a ≡ high_at m''.w k.size a
  same-high rows =
      let at = k.rooms.s in
      let all = same-marks d.counts.records f.began (omega arith) in
      highest-once rows
      (λ x h. marked-too m'.w m''.w k.size x d.counts.records (omega (arith, f.marks.most x h, recs-length m'.r m'.q m'.s at d.counts.records)) (all x h))
      (λ x h. marked-too m''.w m'.w k.size x d.counts.records
      (omega (arith, ap (λ (c : Counts). c.records) counts-once, g.marks.most x h, recs-length m''.r m''.q m''.s at e.counts.records)) (sym (all x h)))
      f.marks.high g.marks.high

  -- a slice keeps its length, and holds bytes
  pub kept-once : {np : ℕ} {path : List ℕ} {m : Mem} {c : Counts} → Stays k np m c m' d.counts → Stays k np m c m'' e.counts → OnPath k.size m'.w path
      → OnPath k.size m''.w path → AllBytes (tabled m') → AllBytes (tabled m'') → AllLong (tabled m') (tabled m'') → OneKept k np c.used since m' m'' d.counts
  kept-once x y on on' b b' long =
      let rows : SameRows k.size m''.w m'.w = x.rows ∙ sym y.rows in
      record {
        recs = same-recs;
        met = found-met ∙ ap (λ (c : Counts). met_of m''.t m''.s c.rows) (sym counts-once);
        tables = one-tables b b' long f.tables (rw (sym counts-once) at g.tables) same-recs;
        path = x.path ∙ sym y.path;
        bottom = x.bottom ∙ sym y.bottom;
        rows = rows;
        counts = λ a h. same-num b.w b'.w long.w 4 (fields_place k.size a + COUNT) (on.counts a h ∙ sym (on'.counts a h));
        highest = λ a h. same-num b.w b'.w long.w 2 (fields_place k.size a + HIGHEST) (same-high rows a h);
        flags = x.flags ∙ sym y.flags;
        beyond = x.beyond ∙ sym y.beyond;
        marks = same-marks;
      }

-- ---- a parent that is entered

-- what two results share where the number is 0: all that they say, and the state and the path of a level that opens
pub record OneEntered (k : Plan) (l : Level) (since : ℕ) (o : Gone) (m' m'' : Mem) (d e : Opening) : Type 0 where
  pub opening : d ≡ e
  pub kept : OneKept k l.np o.counts.used since m' m'' d.run.counts
  pub path : d.opens ≡ true → Same m'.p m''.p 0 (2 * d.level.np)
  pub state : d.opens ≡ true → Same m'.s m''.s (9 * d.level.from) (9 * d.level.cells)

-- a level, told by what is done with it
abbrev head : {A : Type 0} → A → List A → A
head x [] = x
head x (y ∷ ys) = y

abbrev told : search.Level → St → St
told x s = record {
  recs = record { start = 0; to = nowhere; path = x.path; energy = 0 } ∷ [];
  energy = x.position;
  met = record { last = 0; stack = x.state; symbol = before 0 } ∷ [];
  needs = [];
}

abbrev tells : search.Level → St → search.Level
tells x s = record {
  path = (head (record { start = 0; to = nowhere; path = []; energy = 0 }) s.recs).path;
  position = s.energy;
  state = (head (record { last = 0; stack = x.state; symbol = before 0 }) s.met).stack;
}

module _ {code : List ℕ} {k : Plan} {start : ℕ} (at : ℕ) {l : Level} {m m' m'' : Mem} {o : Gone} {d e : Opening} (f : Entered code k start l at m o m' d) (g : Entered code k start l at m o m'' e)
    {t : Turn} {since : ℕ} (fits : Fits code k t since start m o.counts) where
  abbrev F : (search.Level → St → St) → St → St
  F deeper = onward t deeper l.left (level_of m l) (held code k m 0 at)

  left : Outcome code k t since start F l m o m' d
  left = f t since 0 fits

  right : Outcome code k t since start F l m o m'' e
  right = g t since 0 fits

  -- what opens a level and does nothing, or spends a unit
  abbrev idle : search.Level → St → St
  idle x s = s

  idles : (x : search.Level) (s : St) → Later s (idle x s)
  idles x s = record { more = []; is = refl }

  spends : (x : search.Level) (s : St) → Later s (spend s)
  spends x s = record { more = []; is = refl }

  -- a level that opens goes on otherwise by the one than by the other, and what is shut does not
  never : {n : Mem} {x : Opening} {y : ℕ} {b : St} → Opens k F l m o n x
      → ((deeper : search.Level → St → St) → ((v : search.Level) (s : St) → Later s (deeper v s)) → Did k.rooms (F deeper) (st_of k m o) y b) → ⊥
  never {y = y} opens shut = go (keyed y 0)
    where
      go : (y ≡ 0) ⊎ (y ≡ 0 → ⊥) → ⊥
      go (inl z) =
          let same : (F idle (st_of k m o)).energy ≡ (F (λ v s. spend s) (st_of k m o)).energy =
          ap (λ (s : St). s.energy) ((shut idle idles).made (st_of k m o) refl z ∙ sym ((shut (λ v s. spend s) spends).made (st_of k m o) refl z)) in
          let one : (F idle (st_of k m o)).energy ≡ (opens.next (st_of k m o)).energy = ap (λ (s : St). s.energy) (opens.is idle (st_of k m o) refl) in
          let more : (F (λ v s. spend s) (st_of k m o)).energy ≡ suc (opens.next (st_of k m o)).energy = ap (λ (s : St). s.energy) (opens.is (λ v s. spend s) (st_of k m o) refl) in
          omega (arith, same, one, more)
      go (inr z) =
          let lent = lent_for k.rooms in
          let some : shortage lent (F idle (st_of k m o)).needs ≡ y = (shut idle idles).short lent (fits-lends fits) (st_of k m o) refl (none-short lent) in
          let none : shortage lent (opens.next (st_of k m o)).needs ≡ 0 = opens.short lent (fits-lends fits) (st_of k m o) refl (none-short lent) in
          z (sym some ∙ ap (λ (s : St). shortage lent s.needs) (opens.is idle (st_of k m o) refl) ∙ none)

  pub one-opens : d.opens ≡ e.opens
  one-opens = go d.opens e.opens refl refl
    where
      go : (x y : Bool) → d.opens ≡ x → e.opens ≡ y → d.opens ≡ e.opens
      go true true p q = p ∙ sym q
      go true false p q = absurd (never (left.opened p) (right.shut q))
      go false true p q = absurd (never (right.opened q) (left.shut p))
      go false false p q = p ∙ sym q

  pub one_code : d.run.code ≡ e.run.code
  one_code = go d.opens refl
    where
      go : (x : Bool) → d.opens ≡ x → d.run.code ≡ e.run.code
      go true p = (left.opened p).code ∙ sym (right.opened (sym one-opens ∙ p)).code
      go false p = did-once (fits-lends fits) refl (left.shut p idle idles) (right.shut (sym one-opens ∙ p) idle idles)

  pub one-energy : d.run.energy ≡ e.run.energy
  one-energy = left.energy ∙ sym right.energy

  -- the level, as document 01 has it
  level-told : (p : d.opens ≡ true) → level_of m' d.level ≡ level_of m'' e.level
  level-told p =
      let one = left.opened p in
      let other = right.opened (sym one-opens ∙ p) in
      ap (tells (level_of m' d.level)) (sym (one.is told (st_of k m o) refl) ∙ other.is told (st_of k m o) refl)

  pub one-level : d.level ≡ e.level
  one-level = go d.opens refl
    where
      go : (x : Bool) → d.opens ≡ x → d.level ≡ e.level
      go false p = left.unopened p ∙ sym (right.unopened (sym one-opens ∙ p))
      go true p =
          let one = left.opened p in
          let other = right.opened (sym one-opens ∙ p) in
          let told = level-told p in
          let np : d.level.np ≡ e.level.np =
          sym (addrs-length m'.p 0 d.level.np) ∙ ap (λ (x : search.Level). length x.path) told ∙ addrs-length m''.p 0 e.level.np in
          let position : d.level.position ≡ e.level.position = ap (λ (x : search.Level). x.position) told in
          let from : d.level.from ≡ e.level.from = one.fresh ∙ sym other.fresh in
          let many : d.level.cells ≡ e.level.cells =
          lies-count (state-lies m'.s (9 * d.level.from) d.level.cells one.stands.state) ∙ ap (λ (x : search.Level). cells x.state) told
          ∙ sym (lies-count (state-lies m''.s (9 * e.level.from) e.level.cells other.stands.state)) in
          let weight : d.level.left ≡ e.level.left = omega (arith, one.lighter, other.lighter) in
          λ i. record { np = np i; position = position i; from = from i; cells = many i; left = weight i }

  module _ (z : d.run.code ≡ 0) where
    other-code : e.run.code ≡ 0
    other-code = sym one_code ∙ z

    one_state : st_of k m' d.run ≡ st_of k m'' e.run
    one_state = go d.opens refl
      where
        go : (x : Bool) → d.opens ≡ x → st_of k m' d.run ≡ st_of k m'' e.run
        go false p = made-once (fits-lends fits) refl (left.shut p idle idles) (right.shut (sym one-opens ∙ p) idle idles) z
        go true p =
            let one = left.opened p in
            let other = right.opened (sym one-opens ∙ p) in
            sym (one.clears (st_of k m o) refl) ∙ ap clear (sym (one.is idle (st_of k m o) refl) ∙ other.is idle (st_of k m o) refl) ∙ other.clears (st_of k m o) refl

    one-run : d.run ≡ e.run
    one-run =
        let counts = counts-once d.run e.run (left.fits z) (right.fits other-code) one_state in
        λ i. record { code = one_code i; energy = one-energy i; counts = counts i }

    pub one-entered : AllBytes (tabled m') → AllBytes (tabled m'') → AllLong (tabled m') (tabled m'') → Bytes m'.p → Bytes m''.p → length m'.p ≡ length m''.p
        → OneEntered k l since o m' m'' d e
    one-entered b b' long c c' longer =
        record {
          opening = λ i. record { opens = one-opens i; run = one-run i; level = one-level i };
          kept = kept-once d.run e.run (left.fits z) (right.fits other-code) one_state (left.stays z) (right.stays other-code) (left.counts z) (right.counts other-code) b b' long;
          path = λ p.
              let same : addrs m'.p 0 d.level.np ≡ addrs m''.p 0 d.level.np = rw (sym one-level) at (ap (λ (x : search.Level). x.path) (level-told p)) in
              addrs-same c c' longer 0 d.level.np same;
          state = λ p.
              let here = state-lies m'.s (9 * d.level.from) d.level.cells (left.opened p).stands.state in
              let there = state-lies m''.s (9 * e.level.from) e.level.cells (right.opened (sym one-opens ∙ p)).stands.state in
              let same : stack_at m'.s (9 * d.level.from) d.level.cells ≡ stack_at m''.s (9 * d.level.from) d.level.cells =
              rw (sym one-level) at (ap (λ (x : search.Level). x.state) (level-told p)) in
              one_lies here (rw (sym one-level, sym same) at there);
        }

-- ---- what `enter` answers: of its result `opening_of` tells whether a level opens, the level, and the number of a shortage

opening-same : (o u : Run) (l : Level) (x y : Result (Option Level) Shortage) → (opening_of o l x).opens ≡ (opening_of u l y).opens
    → (opening_of o l x).run.code ≡ (opening_of u l y).run.code → (opening_of o l x).level ≡ (opening_of u l y).level → x ≡ y
opening-same o u l (Ok None) (Ok None) p q r = refl
opening-same o u l (Ok None) (Ok (Some y)) p q r = absurd (true≢false (sym p))
opening-same o u l (Ok (Some x)) (Ok None) p q r = absurd (true≢false p)
opening-same o u l (Ok (Some x)) (Ok (Some y)) p q r = ap (λ (l : Level). Ok (Some l)) r
opening-same o u l (Ok None) (Err y) p q r = absurd (short-some y (sym q))
opening-same o u l (Ok (Some x)) (Err y) p q r = absurd (short-some y (sym q))
opening-same o u l (Err x) (Ok None) p q r = absurd (short-some x q)
opening-same o u l (Err x) (Ok (Some y)) p q r = absurd (short-some x q)
opening-same o u l (Err x) (Err y) p q r = ap Err (short-same x y q)

module _ {code : List ℕ} {k : Plan} {start : ℕ} {l : Level} (at : ℕ) {m m' m'' : Mem} {o : Gone} (run u : Run) (x y : Result (Option Level) Shortage) where
  pub one-opening : Entered code k start l at m o m' (opening_of run l x) → Entered code k start l at m o m'' (opening_of u l y)
      → {t : Turn} {since : ℕ} → Fits code k t since start m o.counts → x ≡ y
  one-opening f g fits = opening-same run u l x y (one-opens at f g fits) (one_code at f g fits) (one-level at f g fits)

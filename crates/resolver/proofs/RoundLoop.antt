-- The round's loop: the blocks that are left of those that take turns, and what is done with each. Assumes nothing.
use mathlib.Core.Path.{◌≡◌, refl, sym, ap, subst, ◌∙◌}
use mathlib.Core.Bool.{Bool, true, false, ◌&&◌, ◌||◌}
use mathlib.Core.List.{List, [], ◌∷◌, map}
use mathlib.Core.Logic.{◌⊎◌, inl, inr}
use Prim.Native.Nat.{ℕ, ◌+◌, ◌-◌, ◌≤◌, ◌<◌}
use native.Mathlib.Omega.{arith}
use lib.Dec.{ltb}
use lib.ListN.{length, take, drop}
use lib.Seq.{take_all, take-take}
use borrow.Author.Tests.{lt-ltb, le-ltb}
use Rattle.spec.specs.Lists.{if, mem}
use Rattle.spec.specs.Search.{Taker, takers, Parent, direct, dests, St, turn_for, turn, round}
use Rattle.laws.proofs.Branch.{if-true, if-false, and-false}
use Rattle.laws.proofs.Members.{In, here, there, and-true}
use Rattle.theorems.proofs.Carried.{carry-round}
use Rattle.theorems.proofs.Growth.{Later, later}
use Rattle.theorems.proofs.Older.{clear}
use Rattle.layout.specs.Parts.{ROW, row_place, SameRows}
use Rattle.layout.specs.Rows.{taker_at}
use Rattle.layout.specs.Buffers.{Mem}
use Rattle.tables.proofs.Counted.{recs-length}
use Rattle.tables.specs.declared.Rooms.{Rooms}
use Rattle.parents.specs.Links as links
use Rattle.parents.specs.Links.{turn_of, Takers}
use Rattle.parents.specs.Promises.{Number}
use Rattle.parents.proofs.Chains.{walk-takers, end-takers, takers-prefix}
use Rattle.reachable.specs.Marks.{flagged, marked_by}
use Rattle.reachable.specs.Promises.{Address}
use Rattle.steps.specs.Runs.{recs_in, st_of, Did}
use Rattle.steps.specs.declared.plan.Plan.{Plan}
use Rattle.steps.specs.Goings.{Gone}
use Rattle.enter.specs.Fits.{prepared_in}
use Rattle.resolver.specs.Turns.{Idle, Passed, TurnAsks, Turned, RoundAsks, Rounded}
use Rattle.levels.proofs.Sequence.{did_then, did-stops, did-same}
use Rattle.resolver.proofs.PassedRefused.{passed-refused}

-- ---- document 01's round, one block at a time

module _ (limit : ℕ) (stored : List Parent) (reached : List ℕ) where
  did_none : {k : Rooms} {a : St} → Did k (round limit stored reached []) a 0 a
  unfolding round
  did_none = record { short = λ l h mid m n. n; made = λ mid m z. m }

  module _ (x : Taker) (xs : List Taker) where
    abbrev test : St → Bool
    test s = mem x.start reached && ltb s.energy limit

    abbrev its : St → St
    its = turn limit (turn_for stored reached x) x.position

    one : (s : St) → round limit stored reached (x ∷ xs) s ≡ round limit stored reached xs (if (test s) (its s) s)
    unfolding round
    one s = refl

    module _ {k : Rooms} {a : St} where
      -- a block that takes none
      did-skip : {b : St} {y : ℕ} → ((mid : St) → clear mid ≡ a → test mid ≡ false) → Did k (round limit stored reached xs) a y b
          → Did k (round limit stored reached (x ∷ xs)) a y b
      did-skip h =
          did-same (round limit stored reached xs) (round limit stored reached (x ∷ xs))
          (λ mid m. one mid ∙ ap (round limit stored reached xs) (if-false (test mid) (its mid) mid (h mid m)))

      module _ (h : (mid : St) → clear mid ≡ a → test mid ≡ true) where
        taken : {b : St} {y : ℕ} → Did k (λ s. round limit stored reached xs (its s)) a y b → Did k (round limit stored reached (x ∷ xs)) a y b
        taken =
            did-same (λ s. round limit stored reached xs (its s)) (round limit stored reached (x ∷ xs))
            (λ mid m. one mid ∙ ap (round limit stored reached xs) (if-true (test mid) (its mid) mid (h mid m)))

        -- one whose turn is done, or refused
        did-take : {b c : St} {z y : ℕ} → Did k its a z c → z ≡ 0 → Did k (round limit stored reached xs) c y b → Did k (round limit stored reached (x ∷ xs)) a y b
        did-take d e r = taken (did_then its (round limit stored reached xs) d e r)

        did-refused : {b c : St} {y : ℕ} → Did k its a y c → (y ≡ 0 → ⊥) → Did k (round limit stored reached (x ∷ xs)) a y b
        did-refused d n = taken (did-stops its (round limit stored reached xs) (carry-round Later later limit stored reached xs) d n)

-- ---- "the starts reached when it began" are those marked

marked-is : {code : List ℕ} {k : Plan} {reached : List ℕ} {since a : ℕ} {m : Mem} {o : Gone} → Idle code k reached since m o → a ≤ k.size
    → marked_by m.w k.size a (since + 1) ≡ mem a reached
marked-is {k = k} {reached} {since} {a} {m} {o} idle h =
    let long = recs-length m.r m.q m.s k.rooms.s o.counts.records in
    idle.marks.by since (omega arith) (omega (arith, long, idle.began)) a h ∙ absorbed (mem a reached) (mem a (dests (take since (recs_in k m o.counts)))) (idle.dests_in a)
  where
    absorbed : (x y : Bool) → (y ≡ true → x ≡ true) → x || y ≡ x
    absorbed true y h = refl
    absorbed false true h = sym (h refl)
    absorbed false false h = refl

-- ---- the loop

-- what the blocks that are left do from here ends where the whole round ends
pub record Went (code : List ℕ) (k : Plan) (reached : List ℕ) (ahead : List Taker) (m₀ : Mem) (o₀ : Gone) (m : Mem) (o : Gone) : Type 0 where
  pub idle : Idle code k reached o₀.counts.records m o
  pub rest : (y : ℕ) (b : St) → Did k.rooms (round k.limit (direct (prepared_in k code)) reached ahead) (st_of k m o) y b
      → Did k.rooms (round k.limit (direct (prepared_in k code)) reached (takers (prepared_in k code))) (st_of k m₀ o₀) y b
  pub flags : flagged m.w k.size ≡ flagged m₀.w k.size
  pub rows : SameRows k.size m₀.w m.w
  pub beyond : drop k.end m.w ≡ drop k.end m₀.w
  pub older : take o₀.counts.records (recs_in k m o.counts) ≡ recs_in k m₀ o₀.counts

pub record Going (code : List ℕ) (k : Plan) (m₀ : Mem) (o₀ : Gone) (by : ℕ) (m : Mem) (o : Gone) (left : ℕ) : Type 0 where
  pub ahead : List Taker
  pub entries : Takers m.w (length code) left (map turn_of ahead)
  pub among : (x : Taker) → In x ahead → In x (takers (prepared_in k code))
  pub by_is : by ≡ o₀.counts.records + 1
  pub went : (reached : List ℕ) → Idle code k reached o₀.counts.records m₀ o₀ → Went code k reached ahead m₀ o₀ m o

pub round-begins : {code : List ℕ} {k : Plan} {m : Mem} {o : Gone} {by : ℕ} → RoundAsks code k m o → by ≡ o.counts.records + 1 → Going code k m o by m o k.takers
round-begins {code} {k} {m} {o} a e =
    record {
      ahead = takers (prepared_in k code);
      entries = a.idle.known.takers;
      among = λ x i. i;
      by_is = e;
      went = λ reached idle. record {
        idle = idle;
        rest = λ y b d. d;
        flags = refl;
        rows = refl;
        beyond = refl;
        older = take_all o.counts.records (recs_in k m o.counts) (omega (arith, recs-length m.r m.q m.s k.rooms.s o.counts.records));
      };
    }

-- the next block of those that are left
record Split (ahead : List Taker) (a : links.Turn) (rest : List links.Turn) : Type 0 where
  x : Taker
  xs : List Taker
  is : ahead ≡ x ∷ xs
  first : turn_of x ≡ a
  others : map turn_of xs ≡ rest

split : (ahead : List Taker) {a : links.Turn} {rest : List links.Turn} → map turn_of ahead ≡ a ∷ rest → Split ahead a rest
split [] e = let z : ◌≡◌ {A = ℕ} 0 1 = cc in absurd (omega arith)
split (x ∷ xs) e = record { x = x; xs = xs; is = refl; first = cc; others = cc }

record Next (code w : List ℕ) (ahead : List Taker) (left : ℕ) : Type 0 where
  x : Taker
  xs : List Taker
  is : ahead ≡ x ∷ xs
  start : x.start ≡ taker_at w (left - 1)
  row : left - 1 ≤ length code
  inside : taker_at w (left - 1) ≤ length code
  entries : Takers w (length code) (left - 1) (map turn_of xs)

next : {code w : List ℕ} (ahead : List Taker) {left : ℕ} → Takers w (length code) left (map turn_of ahead) → (left ≡ 0 → ⊥) → Next code w ahead left
next ahead c n =
    let g = walk-takers c n in
    let s = split ahead g.is in
    record {
      x = s.x;
      xs = s.xs;
      is = s.is;
      start = ap (λ (t : links.Turn). t.start) s.first;
      row = g.row;
      inside = g.inside;
      entries = rw s.others g.later;
    }

-- ---- a turn of the loop

module _ {code : List ℕ} {k : Plan} {m₀ m : Mem} {o₀ o : Gone} {by left : ℕ} (g : Going code k m₀ o₀ by m o left) (some : left ≡ 0 → ⊥) where
  this : Next code m.w g.ahead left
  this = next g.ahead g.entries some

  took : In this.x (takers (prepared_in k code))
  took = g.among this.x (subst (λ (l : List Taker). In this.x l) (sym this.is) here)

  others : (x : Taker) → In x this.xs → In x (takers (prepared_in k code))
  others x i = g.among x (subst (λ (l : List Taker). In x l) (sym this.is) (there i))

  -- what is asked

  pub round-row : RoundAsks code k m₀ o₀ → row_place (left - 1) + ROW ≤ length m.w
  round-row a = let p = (g.went a.reached a.idle).idle.planned in omega (arith, this.row, p.is, p.lent_w.room)

  module _ {start : ℕ} (at : Number start (taker_at m.w (left - 1)) 2) where
    pub round-address : RoundAsks code k m₀ o₀ → Address k.size m.w start
    round-address a =
        let p = (g.went a.reached a.idle).idle.planned in
        record { lent = p.lent_w; inside = omega (arith, this.inside, p.is, at.is) }

    start_is : this.x.start ≡ start
    start_is = this.start ∙ sym at.is

    pub round-turns : RoundAsks code k m₀ o₀ → o.energy < k.limit → TurnAsks code k start m o
    round-turns a h =
        record {
          reached = a.reached;
          since = o₀.counts.records;
          idle = (g.went a.reached a.idle).idle;
          taker = this.x;
          takes = took;
          is = start_is;
          energy = h;
        }

  -- what is marked

  module _ {reached : List ℕ} (idle : Idle code k reached o₀.counts.records m₀ o₀) where
    w : Went code k reached (this.x ∷ this.xs) m₀ o₀ m o
    w = subst (λ (l : List Taker). Went code k reached l m₀ o₀ m o) this.is (g.went reached idle)

    reached-is : {start : ℕ} → Number start (taker_at m.w (left - 1)) 2 → marked_by m.w k.size start by ≡ mem this.x.start reached
    reached-is {start} at =
        let p = w.idle.planned in
        ap (marked_by m.w k.size start) g.by_is ∙ marked-is w.idle (omega (arith, this.inside, p.is, at.is))
        ∙ ap (λ (a : ℕ). mem a reached) (sym (start_is at))

    spent : (mid : St) → clear mid ≡ st_of k m o → mid.energy ≡ o.energy
    spent mid e = ap (λ (s : St). s.energy) e

    skips : {b : St} {y : ℕ} → (mem this.x.start reached ≡ false) ⊎ (k.limit ≤ o.energy)
        → Did k.rooms (round k.limit (direct (prepared_in k code)) reached this.xs) (st_of k m o) y b
        → Did k.rooms (round k.limit (direct (prepared_in k code)) reached (this.x ∷ this.xs)) (st_of k m o) y b
    skips (inl f) = did-skip k.limit (direct (prepared_in k code)) reached this.x this.xs (λ mid e. rw f)
    skips (inr h) =
        did-skip k.limit (direct (prepared_in k code)) reached this.x this.xs
        (λ mid e. and-false (mem this.x.start reached) (le-ltb mid.energy k.limit (omega (arith, spent mid e, h))))

    taking-it : mem this.x.start reached ≡ true → o.energy < k.limit → (mid : St) → clear mid ≡ st_of k m o
        → mem this.x.start reached && ltb mid.energy k.limit ≡ true
    taking-it f h mid e = and-true _ _ f (lt-ltb mid.energy k.limit (omega (arith, spent mid e, h)))

  -- where it takes no turn

  passes : ((reached : List ℕ) → Idle code k reached o₀.counts.records m₀ o₀ → (mem this.x.start reached ≡ false) ⊎ (k.limit ≤ o.energy))
      → Going code k m₀ o₀ by m o (left - 1)
  passes h =
      record {
        ahead = this.xs;
        entries = this.entries;
        among = others;
        by_is = g.by_is;
        went = λ reached idle.
            let v = w idle in
            record { idle = v.idle; rest = λ y b d. v.rest y b (skips idle (h reached idle) d); flags = v.flags; rows = v.rows; beyond = v.beyond; older = v.older };
      }

  pub round-skips : {start : ℕ} {b : Bool} → Number start (taker_at m.w (left - 1)) 2 → b ≡ marked_by m.w k.size start by → b ≡ false
      → Going code k m₀ o₀ by m o (left - 1)
  round-skips at f z = passes (λ reached idle. inl (sym (reached-is idle at) ∙ sym f ∙ z))

  pub round-over : k.limit ≤ o.energy → Going code k m₀ o₀ by m o (left - 1)
  round-over h = passes (λ reached idle. inr h)

  -- where it does

  module _ {start : ℕ} {b : Bool} {m' : Mem} {d : Gone} (at : Number start (taker_at m.w (left - 1)) 2) (f : b ≡ marked_by m.w k.size start by) (marked : b ≡ true)
      (low : o.energy < k.limit) (turned : Turned code k start m o m' d) where
    came : {reached : List ℕ} → Idle code k reached o₀.counts.records m₀ o₀
        → Passed code k reached o₀.counts.records (turn k.limit (turn_for (direct (prepared_in k code)) reached this.x) this.x.position) m o m' d
    came {reached} idle = turned reached o₀.counts.records (w idle).idle this.x took (start_is at)

    takes-it : {reached : List ℕ} (idle : Idle code k reached o₀.counts.records m₀ o₀) (mid : St) → clear mid ≡ st_of k m o
        → mem this.x.start reached && ltb mid.energy k.limit ≡ true
    takes-it idle = taking-it idle (sym (reached-is idle at) ∙ sym f ∙ marked) low

    pub round-refused : (d.code ≡ 0 → ⊥) → Rounded code k m₀ o₀ m' d
    round-refused n reached idle =
        passed-refused n
        ((w idle).rest d.code (st_of k m' d) (did-refused k.limit (direct (prepared_in k code)) reached this.x this.xs (takes-it idle) (came idle).did n))

    module _ (z : d.code ≡ 0) where
      went_on : {reached : List ℕ} → Idle code k reached o₀.counts.records m₀ o₀ → Went code k reached this.xs m₀ o₀ m' d
      went_on {reached} idle =
          let v = w idle in
          let c = came idle in
          record {
            idle = c.idle z;
            rest = λ y b r. v.rest y b
                (did-take k.limit (direct (prepared_in k code)) reached this.x this.xs (takes-it idle) c.did z r);
            flags = c.flags z ∙ v.flags;
            rows = c.rows z ∙ v.rows;
            beyond = c.beyond z ∙ v.beyond;
            older = sym (take-take o₀.counts.records o.counts.records (recs_in k m' d.counts) v.idle.began) ∙ ap (take o₀.counts.records) (c.older z) ∙ v.older;
          }

      pub round-goes-on : RoundAsks code k m₀ o₀ → Going code k m₀ o₀ by m' d (left - 1)
      round-goes-on a =
          let c = came a.idle in
          let is = (c.idle z).planned.is in
          let same : SameRows (length code) m'.w m.w = sym (rw is at (c.rows z)) in
          record {
            ahead = this.xs;
            entries = takers-prefix m.w m'.w (length code) same this.entries;
            among = others;
            by_is = g.by_is;
            went = λ reached idle. went_on idle;
          }

-- no block is left

pub round-done : {code : List ℕ} {k : Plan} {m₀ m : Mem} {o₀ o : Gone} {by left : ℕ} → Going code k m₀ o₀ by m o left → left ≡ 0 → Rounded code k m₀ o₀ m o
round-done {code} {k} {m₀} {m} {o₀} {o} g z reached idle =
    let v = subst (λ (l : List Taker). Went code k reached l m₀ o₀ m o) (none g.ahead (end-takers g.entries z)) (g.went reached idle) in
    let all = v.rest 0 (st_of k m o) (did_none k.limit (direct (prepared_in k code)) reached) in
    record { did = rw v.idle.unrefused all; idle = λ _. v.idle; flags = λ _. v.flags; rows = λ _. v.rows; beyond = λ _. v.beyond; older = λ _. v.older }
  where
    none : (ahead : List Taker) → map turn_of ahead ≡ [] → ahead ≡ []
    none [] e = refl
    none (x ∷ xs) e = let c : ◌≡◌ {A = ℕ} 0 1 = cc in absurd (omega arith)

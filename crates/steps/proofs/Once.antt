-- The contracts leave no choice: two results of one call are the same; of `own_state`, all but what a run leaves in its part of W, and of `take_state`, all but
-- what W holds behind its buckets in use. Assumes nothing.
use mathlib.Core.Path.{◌≡◌, refl, sym, ap, ◌∙◌}
use mathlib.Core.Logic.{◌⊎◌, inl, inr}
use mathlib.Core.Bool.{Bool, true, false, ◌&&◌, true≢false}
use mathlib.Core.List.{List, [], ◌∷◌}
use Rattle.std.specs.Prelude.{Option, Some, None, Result, Ok, Err}
use Rattle.refusal.specs.declared.Shortage.{Shortage}
use Rattle.refusal.specs.Numbers.{short_number}
use Prim.Native.Nat.{ℕ, ◌+◌, ◌-◌, ◌*◌, ◌≤◌}
use native.Mathlib.Omega.{arith}
use lib.Dec.{eqb, ltb}
use lib.ListN.{length, take, drop}
use Rattle.spec.specs.Lists.{if, mem, little}
use Rattle.spec.specs.Stacks.{Stack}
use Rattle.spec.specs.Search.{S, Found, kept, dest}
use Rattle.laws.proofs.Branch.{if-false}
use Rattle.lent.specs.Bytes.{Stored, patch}
use Rattle.lent.proofs.Numbers.{num-prefix}
use Rattle.lent.proofs.Patch.{take-patch-past}
use Rattle.lent.proofs.Stored.{kept-drop, kept-part}
use Rattle.lent.proofs.Once.{Bytes, Same, Outside, same-num, same-both, same-as, same_then, same_whole, same-outside}
use Rattle.layout.specs.Fields.{COUNT, HIGHEST, FLAG, mark_at, high_at}
use Rattle.layout.specs.Parts.{ROW, fields_place, list_place, bucket_place, link_place, filled_place}
use Rattle.layout.proofs.Once.{same-to-list}
use Rattle.state.proofs.Once.{one_symbol, one_lies}
use Rattle.tables.specs.Addrs.{addrs}
use Rattle.tables.specs.Tables as tables
use Rattle.tables.specs.Tables.{recs, counted}
use Rattle.tables.specs.Recording.{short_of, recorded?}
use Rattle.tables.specs.declared.Counts.{Counts}
use Rattle.tables.specs.Replies.{Reply, code_of, reply_of}
use Rattle.tables.proofs.Shorts.{short-some}
use Rattle.refusal.specs.declared.Shortage.TheVariants as short
use Rattle.tables.specs.declared.row.Seen.{Seen}
use Rattle.tables.proofs.Chains.{keyed}
use Rattle.tables.proofs.Alike.{AllBytes, AllLong, one-tables, one_more, addrs-same}
use Rattle.tables.proofs.Once.{one_answer, one-memorized}
use Rattle.steps.specs.Lands.{remarked, heightened, Noted}
use Rattle.steps.specs.Meets.{Meeting, meeting_of, Met}
use Rattle.steps.specs.Paths.{Grown, Counted}
use Rattle.steps.specs.States.{told_of, named_in, Took}
use Rattle.exec.specs.Owns.{runs_room, Owned, Runs}
use Rattle.exec.specs.declared.run.Own.{Own}
use Rattle.exec.proofs.Once.{OneRun, one-owned}
use Rattle.steps.specs.Plans.{mode_in}
use Rattle.steps.specs.declared.plan.Plan.{Plan}
use Rattle.steps.specs.Helds.{link_of, filled_of, cell_of, count_of, HoldAsks, HeldRoom, HeldPut, HoldDone, HeldIs, OwnAsks, RanNow, Gave}
use Rattle.steps.specs.declared.own.StateAt.{StateAt}
use Rattle.steps.proofs.Helds.{own-holds}
use Rattle.steps.specs.declared.Level.{Level}
use Rattle.steps.specs.declared.state_of.Taken.{Taken}
use Rattle.steps.specs.declared.state_of.Untaken.{Untaken}

-- ---- the answers are as their numbers

shortage_of : ℕ → Shortage
shortage_of n = if (eqb n 4) short.P (if (eqb n 5) short.S (if (eqb n 6) short.T (if (eqb n 7) short.R short.Q)))

numbered : (x : Shortage) → shortage_of (short_number x) ≡ x
unfolding shortage_of if
numbered short.P = refl
numbered short.S = refl
numbered short.T = refl
numbered short.R = refl
numbered short.Q = refl

pub short-same : (x y : Shortage) → short_number x ≡ short_number y → x ≡ y
short-same x y e = sym (numbered x) ∙ ap shortage_of e ∙ numbered y

meeting-same : (c : Counts) (x y : Result (Option Counts) Shortage) → meeting_of c x ≡ meeting_of c y → x ≡ y
meeting-same c (Err x) (Err y) e = ap Err (short-same x y (ap (λ (m : Meeting). m.code) e))
meeting-same c (Err x) (Ok None) e = absurd (short-some x (ap (λ (m : Meeting). m.code) e))
meeting-same c (Err x) (Ok (Some _)) e = absurd (short-some x (ap (λ (m : Meeting). m.code) e))
meeting-same c (Ok None) (Err y) e = absurd (short-some y (sym (ap (λ (m : Meeting). m.code) e)))
meeting-same c (Ok (Some _)) (Err y) e = absurd (short-some y (sym (ap (λ (m : Meeting). m.code) e)))
meeting-same c (Ok None) (Ok None) e = refl
meeting-same c (Ok None) (Ok (Some y)) e = absurd (true≢false (ap (λ (m : Meeting). m.met) e))
meeting-same c (Ok (Some x)) (Ok None) e = absurd (true≢false (sym (ap (λ (m : Meeting). m.met) e)))
meeting-same c (Ok (Some x)) (Ok (Some y)) e = ap (λ (d : Counts). Ok (Some d)) (ap (λ (m : Meeting). m.counts) e)

pub reply-same : (c : Counts) (x y : Result Counts Shortage) → reply_of c x ≡ reply_of c y → x ≡ y
reply-same c (Err x) (Err y) e = ap Err (short-same x y (ap (λ (m : Reply). m.code) e))
reply-same c (Err x) (Ok _) e = absurd (short-some x (ap (λ (m : Reply). m.code) e))
reply-same c (Ok _) (Err y) e = absurd (short-some y (sym (ap (λ (m : Reply). m.code) e)))
reply-same c (Ok x) (Ok y) e = ap Ok (ap (λ (m : Reply). m.counts) e)

-- ---- what is found

pub one-noted : {p : List ℕ} {np start energy : ℕ} {k : Plan} {m m' m'' : tables.Mem} {c : Counts} {x : Found} {a e : Reply} → AllBytes m' → AllBytes m''
    → Noted p np k m c start energy x m' a → Noted p np k m c start energy x m'' e → (a ≡ e) × (m' ≡ m'')
one-noted {p} {np} {start} {energy} {k} {m} {m'} {m''} {c} {x} {a} {e} b d f g = go (keyed a.code 0) (recorded? x (addrs p 0 np) (recs k.rooms m c)) refl
  where
    code : a.code ≡ e.code
    code = f.tells ∙ sym g.tells

    marks : a.counts ≡ e.counts → (y : ℕ) → y ≤ k.size → mark_at m'.w k.size y ≡ mark_at m''.w k.size y
    marks z y h =
        f.marked y h ∙ ap (λ (o : Counts). remarked (ltb c.records o.records && mem y (dest x)) c.records (mark_at m.w k.size y)) z ∙ sym (g.marked y h)

    heights : a.counts ≡ e.counts → (y : ℕ) → y ≤ k.size → high_at m'.w k.size y ≡ high_at m''.w k.size y
    heights z y h =
        f.heights y h ∙ ap (λ (o : Counts). heightened m.w (ltb c.records o.records) x y (high_at m.w k.size y)) z ∙ sym (g.heights y h)

    -- the count, the highest parent and the flag of an address
    rests : a.counts ≡ e.counts → length m'.w ≡ length m''.w → (y : ℕ) → y ≤ k.size → Same m'.w m''.w (fields_place k.size y + COUNT) 8
    rests z long y h =
        let place = fields_place k.size y in
        same_then
        (same_then (same-both (place + COUNT) 4 (f.around.rests y h) (g.around.rests y h)) (same-num b.w d.w long 2 (place + HIGHEST) (heights z y h)) (omega arith))
        (same-both (place + FLAG) 2 (f.around.flags y h) (g.around.flags y h)) (omega arith)

    go : (a.code ≡ 0) ⊎ (a.code ≡ 0 → ⊥) → (o : Bool) → recorded? x (addrs p 0 np) (recs k.rooms m c) ≡ o → (a ≡ e) × (m' ≡ m'')
    go (inl z) true o =
        let y : e.code ≡ 0 = sym code ∙ z in
        (one_answer code (f.counts z ∙ sym (g.counts y)), f.known o ∙ sym (g.known o))
    go (inl z) false o =
        let y : e.code ≡ 0 = sym code ∙ z in
        let counts : a.counts ≡ e.counts = f.counts z ∙ sym (g.counts y) in
        let made : a.counts ≡ counted c np (kept x) = f.counts z ∙ if-false _ _ _ o in
        let long : AllLong m' m'' =
        record {
          w = f.around.long_w ∙ sym g.around.long_w;
          r = f.around.stays.long_r ∙ sym g.around.stays.long_r;
          q = f.around.stays.long_q ∙ sym g.around.stays.long_q;
          s = f.around.stays.long_s ∙ sym g.around.stays.long_s;
        } in
        let one = one-tables b d long f.tables (rw (sym counts) at g.tables) (f.holds z ∙ sym (rw (sym counts) at (g.holds y))) in (
          one_answer code counts,
          one_more (ap (λ (o : Counts). o.records) made) (omega (arith, f.tables.within.fits_s)) one f.around.stays (rw (sym counts) at g.around.stays)
              (f.around.front ∙ sym g.around.front)
              (λ a h. same-as (same-num b.w d.w long.w 4 (fields_place k.size a) (marks counts a h)) (omega arith) refl)
              (rests counts long.w)
              (same-both (list_place k.size) (2 * (k.size + 1)) f.around.work g.around.work)
              (f.around.back ∙ sym g.around.back) b d,
        )
    go (inr z) o h =
        let y : e.code ≡ 0 → ⊥ = λ h. z (code ∙ h) in
        (one_answer code ((f.refused z).1 ∙ sym (g.refused y).1), (f.refused z).0 ∙ sym (g.refused y).0)

-- `land` answers one result
pub one-landed : {p : List ℕ} {np start energy : ℕ} {k : Plan} {m m' m'' : tables.Mem} {c : Counts} {x : Found} (a e : Result Counts Shortage) → AllBytes m' → AllBytes m''
    → Noted p np k m c start energy x m' (reply_of c a) → Noted p np k m c start energy x m'' (reply_of c e) → (a ≡ e) × (m' ≡ m'')
one-landed {c = c} a e b d f g = let one = one-noted b d f g in (reply-same c a e one.0, one.1)

-- ---- what is met

pub one-met : {t s u v : List ℕ} {k : Plan} {c : Counts} {x : Seen} {a e : Meeting} → Bytes u → Bytes v → Met t s k c x u a → Met t s k c x v e → (a ≡ e) × (u ≡ v)
one-met {u = u} {v = v} {a = a} {e = e} b d p q = go a.met refl
  where
    met : a.met ≡ e.met
    met = p.met_is ∙ sym q.met_is

    one : a.code ≡ e.code → a.counts ≡ e.counts → a ≡ e
    one code counts = λ i. record { code = code i; met = met i; counts = counts i }

    go : (o : Bool) → a.met ≡ o → (a ≡ e) × (u ≡ v)
    go true o =
        let f = p.again o in
        let g = q.again (sym met ∙ o) in
        (one (f.0 ∙ sym g.0) (f.2 ∙ sym g.2), f.1 ∙ sym g.1)
    go false o =
        let f = one-memorized b d (p.new o) (q.new (sym met ∙ o)) in
        (one (ap (λ (y : Reply). y.code) f.0) (ap (λ (y : Reply). y.counts) f.0), f.1)

-- so the answers are the same
pub one-meeting : {t s u v : List ℕ} {k : Plan} {c : Counts} {x : Seen} (a e : Result (Option Counts) Shortage) → Bytes u → Bytes v → Met t s k c x u (meeting_of c a)
    → Met t s k c x v (meeting_of c e) → (a ≡ e) × (u ≡ v)
one-meeting {c = c} a e b d p q = let one = one-met b d p q in (meeting-same c a e one.0, one.1)

-- ---- the path in hand

pub one-grown : {p more u v : List ℕ} {np room : ℕ} {x y : Result ℕ Shortage} → Bytes u → Bytes v → Grown p np room more u x → Grown p np room more v y
    → (x ≡ y) × (u ≡ v)
one-grown {p} {more} {u} {v} {np} {room} {x} {y} b d f g = go x y f g
  where
    go : (x y : Result ℕ Shortage) → Grown p np room more u x → Grown p np room more v y → (x ≡ y) × (u ≡ v)
    go (Err x) (Err y) f g = (ap Err (f.short.0 ∙ sym g.short.0), f.short.1 ∙ sym g.short.1)
    go (Err x) (Ok y) f g = absurd (omega (arith, f.short.2, g.fits))
    go (Ok x) (Err y) f g = absurd (omega (arith, f.fits, g.short.2))
    go (Ok x) (Ok y) f g =
        let same : x ≡ y = f.is ∙ sym g.is in
        let path : addrs u 0 x ≡ addrs v 0 x = f.path ∙ sym (rw (sym same) at g.path) in
        let front : Same u v 0 (2 * (np + length more)) = same-as (addrs-same b d (f.long ∙ sym g.long) 0 x path) refl (omega (arith, f.is)) in
        (ap Ok same, same_whole (2 * (np + length more)) front (f.back ∙ sym g.back))

pub one-counted : {n np : ℕ} {w p u v : List ℕ} → Bytes u → Bytes v → Counted n w p np u → Counted n w p np v → u ≡ v
one-counted {n} {np} {w} {p} {u} {v} b d f g =
    let long : length u ≡ length v = f.only.long ∙ sym g.only.long in
    let address : (a : ℕ) → a ≤ n → Same u v (fields_place n a) ROW =
    λ a h.
    let before : Same u v (fields_place n a) COUNT = same-both (fields_place n a) COUNT (f.only.before a h) (g.only.before a h) in
    let count : Same u v (fields_place n a + COUNT) 4 = same-num b d long 4 (fields_place n a + COUNT) (f.counts.counts a h ∙ sym (g.counts.counts a h)) in
    let after : Same u v (fields_place n a + HIGHEST) 4 = same-both (fields_place n a + HIGHEST) 4 (f.only.after a h) (g.only.after a h) in
    same_then (same_then before count refl) after refl in
    same_whole (list_place n) (same-to-list (f.only.front ∙ sym g.only.front) address) (f.only.back ∙ sym g.only.back)

-- ---- a parent's state

module _ {code w s w' w'' s' s'' : List ℕ} {k : Plan} {c : Counts} {l : Level} {parent : Stack} where
  took-taken : (x y : Result Taken Untaken) → Took code w s k c l parent w' s' x → Took code w s k c l parent w'' s'' y → told_of x ≡ told_of y
  took-taken x y f g =
      let count : (told_of x).cells ≡ (told_of y).cells = f.cells_are ∙ sym g.cells_are in
      let symbol : (told_of x).symbol ≡ (told_of y).symbol = one_symbol f.symbol_is g.symbol_is in
      λ i. record { cells = count i; symbol = symbol i }

  took-code : (x y : Result Taken Untaken) → Took code w s k c l parent w' s' x → Took code w s k c l parent w'' s'' y → code_of (named_in x) ≡ code_of (named_in y)
  took-code x y f g =
      f.code_is ∙ ap (λ (z : Taken). short_of k.rooms (record { room = S; units = c.kept + c.used + z.cells } ∷ [])) (took-taken x y f g) ∙ sym g.code_is

  took-alike : (x y : Result Taken Untaken) → Took code w s k c l parent w' s' x → Took code w s k c l parent w'' s'' y → (x ≡ y) × (s' ≡ s'')
  took-alike (Err x) (Err y) f g =
      let short : x.short ≡ y.short = f.refused.0 ∙ sym g.refused.0 in
      let taken : x.taken ≡ y.taken = took-taken (Err x) (Err y) f g in
      ((λ i. Err (record { short = short i; taken = taken i })), f.refused.1 ∙ sym g.refused.1)
  took-alike (Err x) (Ok y) f g = absurd (omega (arith, ap short_number f.refused.0, took-code (Err x) (Ok y) f g))
  took-alike (Ok x) (Err y) f g = absurd (omega (arith, ap short_number g.refused.0, took-code (Ok x) (Err y) f g))
  took-alike (Ok x) (Ok y) f g =
      let taken : x ≡ y = took-taken (Ok x) (Ok y) f g in
      let count : x.cells ≡ y.cells = ap (λ (z : Taken). z.cells) taken in
      let bottom : Same s' s'' 0 (9 * c.used) = record { is = f.bottom ∙ sym g.bottom } in
      let state : Same s' s'' (9 * c.used) (9 * x.cells) = one_lies f.lies (rw (sym count) at g.lies) in (
        ap Ok taken,
        same_whole (9 * (c.used + x.cells)) (same-as (same_then bottom state (omega arith)) refl (omega arith)) (f.after ∙ sym (rw (sym count) at g.after)),
      )

  -- but for the states that W holds behind its buckets in use, and the part for runs
  pub one-took : {x y : Result Taken Untaken} → Took code w s k c l parent w' s' x → Took code w s k c l parent w'' s'' y → bucket_place k.size k.buckets ≤ k.end
      → (x ≡ y) × (s' ≡ s'') × Outside (bucket_place k.size k.buckets) (k.end - bucket_place k.size k.buckets) w' w''
  one-took {x} {y} f g room =
      let one = took-alike x y f g in
      let front : Same w' w'' 0 (bucket_place k.size k.buckets) = record { is = f.front ∙ sym g.front } in
      (one.0, one.1, same-outside k.end front (f.back ∙ sym g.back) (omega arith) (f.long_w ∙ sym g.long_w))

-- ---- the run of a block

pub one-run-block : (k : Plan) {code w v u : List ℕ} {start : ℕ} {r s : Own} → Runs code w k.end → Owned (mode_in k) code start w k.end v r
    → Owned (mode_in k) code start w k.end u s → OneRun code k.end v u r s
one-run-block k a p q = one-owned a p q

-- ---- the own state of a block

-- the same bytes, stored before what may differ
outside-stored : {i j n at : ℕ} {l m l' m' bs : List ℕ} → Outside i j l m → Stored n l at bs l' → Stored n m at bs m' → at + n ≤ i → Outside i j l' m'
outside-stored {i} {j} {n} {at} {l} {m} {l'} {m'} {bs} o p q h =
    record {
      before = front l p.is p.long (omega (arith, p.fits, p.long)) ∙ ap (λ (b : List ℕ). patch b at bs) o.before ∙ sym (front m q.is q.long (omega (arith, q.fits, q.long)));
      after = kept-drop p (i + j) (omega arith) ∙ o.after ∙ sym (kept-drop q (i + j) (omega arith));
      long = p.kept ∙ o.long ∙ sym q.kept;
    }
  where
    front : (b : List ℕ) {b' : List ℕ} → b' ≡ patch b at bs → length bs ≡ n → at + length bs ≤ length b → take i b' ≡ patch (take i b) at bs
    front b e f g = ap (take i) e ∙ take-patch-past b at bs g i (omega arith)

module _ {k : Plan} {w v : List ℕ} {start at cells : ℕ} (a : HoldAsks k w start at cells) (o : Outside (k.end - runs_room k.size) (runs_room k.size) w v) (c : Same w v at (9 * cells)) where
  filled-same : filled_of k v ≡ filled_of k w
  filled-same = sym (num-prefix w v (k.end - runs_room k.size) o.before 4 (filled_place k.size k.buckets) (omega (arith, a.room)))

  both-put : {w' v' : List ℕ} → HeldRoom k w cells → HeldPut k w start at cells w' → HeldPut k v start at cells v' → Outside (k.end - runs_room k.size) (runs_room k.size) w' v'
  both-put room p q =
      let q₁ : Stored 2 v (cell_of k (filled_of k w)) (little 2 cells) q.w₁ = rw filled-same at q.head in
      let bytes : take (9 * cells) (drop at q.w₁) ≡ take (9 * cells) (drop at p.w₁) =
      kept-part q₁ (9 * cells) at (λ h. absurd (omega (arith, room.1, a.low))) ∙ sym c.is ∙ sym (kept-part p.head (9 * cells) at (λ h. absurd (omega (arith, room.1, a.low)))) in
      let q₂ : Stored (9 * cells) q.w₁ (cell_of k (filled_of k w + 1)) (take (9 * cells) (drop at p.w₁)) q.w₂ = rw (filled-same, bytes) at q.state in
      let q₃ : Stored 2 q.w₂ (link_place k.size k.buckets start) (little 2 (filled_of k w + 1)) q.w₃ = rw filled-same at q.link in
      let q₄ = rw filled-same at q.total in
      outside-stored (outside-stored (outside-stored (outside-stored o p.head q₁ (omega (arith, room.1))) p.state q₂ (omega (arith, room.1))) p.link q₃ (omega (arith, room.1, a.inside)))
      p.total q₄ (omega (arith, room.1))

  pub one-hold : {w' v' : List ℕ} → HoldDone k w start at cells w' → HoldDone k v start at cells v' → Outside (k.end - runs_room k.size) (runs_room k.size) w' v'
  one-hold {w'} {v'} f g = go f.is g.is
    where
      go : (HeldRoom k w cells × HeldPut k w start at cells w') ⊎ ((HeldRoom k w cells → ⊥) × (w' ≡ w)) → (HeldRoom k v cells × HeldPut k v start at cells v') ⊎ ((HeldRoom k v cells → ⊥) × (v' ≡ v))
          → Outside (k.end - runs_room k.size) (runs_room k.size) w' v'
      go (inl x) (inl y) = both-put x.0 x.1 y.1
      go (inl x) (inr y) = absurd (y.0 (rw filled-same x.0))
      go (inr x) (inl y) = absurd (x.0 (rw filled-same at y.0))
      go (inr x) (inr y) = rw (x.1, y.1) o

pub one-held-state : {k : Plan} {w : List ℕ} {start : ℕ} {x y : Option StateAt} → HeldIs k w start x → HeldIs k w start y → x ≡ y
one-held-state {k} {w} {start} {x} {y} f g = go f.is g.is
  where
    go : ((link_of k w start ≡ 0) × (x ≡ None))
        ⊎ ((link_of k w start ≡ 0 → ⊥) × (x ≡ Some (record { at = cell_of k (link_of k w start); n = count_of k w (link_of k w start - 1) })))
        → ((link_of k w start ≡ 0) × (y ≡ None))
        ⊎ ((link_of k w start ≡ 0 → ⊥) × (y ≡ Some (record { at = cell_of k (link_of k w start); n = count_of k w (link_of k w start - 1) })))
        → x ≡ y
    go (inl p) (inl q) = p.1 ∙ sym q.1
    go (inl p) (inr q) = absurd (q.0 p.0)
    go (inr p) (inl q) = absurd (p.0 q.0)
    go (inr p) (inr q) = p.1 ∙ sym q.1

pub one-ran : {k : Plan} {code w w' v' : List ℕ} {start : ℕ} {x y : StateAt} → OwnAsks k code w start → RanNow k code start w w' x → RanNow k code start w v' y
    → (x ≡ y) × Outside (k.end - runs_room k.size) (runs_room k.size) w' v'
one-ran a r s =
    let one = one-owned a.runs.runs r.owned s.owned in
    let same : r.own ≡ s.own = one.result in
    let held = rw (← same) at s.held in
    (r.is ∙ ap (λ (z : Own). record { at = z.at; n = z.n }) same ∙ sym s.is, one-hold (own-holds a r.owned) (rw a.is one.others) one.cells r.held held)

pub one-gave : {k : Plan} {code w w' v' : List ℕ} {start : ℕ} {x y : StateAt} → OwnAsks k code w start → Gave k code start w w' x → Gave k code start w v' y
    → (x ≡ y) × Outside (k.end - runs_room k.size) (runs_room k.size) w' v'
one-gave {k} {code} {w} {w'} {v'} {start} {x} {y} a f g = go f.is g.is
  where
    go : ((link_of k w start ≡ 0 → ⊥) × (w' ≡ w) × (x ≡ record { at = cell_of k (link_of k w start); n = count_of k w (link_of k w start - 1) }))
        ⊎ ((link_of k w start ≡ 0) × RanNow k code start w w' x)
        → ((link_of k w start ≡ 0 → ⊥) × (v' ≡ w) × (y ≡ record { at = cell_of k (link_of k w start); n = count_of k w (link_of k w start - 1) }))
        ⊎ ((link_of k w start ≡ 0) × RanNow k code start w v' y)
        → (x ≡ y) × Outside (k.end - runs_room k.size) (runs_room k.size) w' v'
    go (inl p) (inl q) = (p.2 ∙ sym q.2, rw (p.1, q.1) (record { before = refl; after = refl; long = refl }))
    go (inl p) (inr q) = absurd (p.0 q.0)
    go (inr p) (inl q) = absurd (q.0 p.0)
    go (inr p) (inr q) = one-ran a p.1 q.1

-- ---- a search goes on, or ends by a shortage

pub ended-same : (x y : Result Unit Shortage) → code_of x ≡ code_of y → x ≡ y
ended-same (Ok x) (Ok y) e = refl
ended-same (Ok x) (Err y) e = absurd (short-some y (sym e))
ended-same (Err x) (Ok y) e = absurd (short-some x e)
ended-same (Err x) (Err y) e = ap Err (short-same x y e)

-- The contracts leave no choice: two results of one call are the same, byte for byte. Assumes nothing.
use Rattle.std.proofs.Common.{◌≡◌, ℕ, suc, ◌+◌, ◌*◌, ◌<◌, Bool, true, false, ◌⊎◌, List, length, sym, refl, ap, ◌∙◌, inl, inr, arith, Result, Ok, Err, eqb}
use native.Mathlib.Decide.{dec_lt}
use Rattle.spec.specs.Lists.{if}
use Rattle.spec.specs.Search.{Found, kept}
use Rattle.laws.proofs.Branch.{if-false}
use Rattle.lent.specs.Bytes.{num_at}
use Rattle.lent.proofs.Once.{Bytes, Same, same-num, same-both, same-as, same_then, same_rows, same-all}
use Rattle.layout.specs.Fields.{COUNT}
use Rattle.layout.specs.Parts.{fields_place, list_place}
use Rattle.layout.specs.Seens.{SEEN, seen_place, T-MARK, T-FROM, T-CELLS, T-SUM, T-LINK, T-HEAD, top_at}
use Rattle.refusal.specs.Numbers.{short_number}
use Rattle.refusal.specs.declared.Shortage.{Shortage}
use Rattle.refusal.specs.declared.Shortage.TheVariants as short
use Rattle.tables.specs.Sums.{bucket_of}
use Rattle.tables.specs.Addrs.{addrs}
use Rattle.tables.specs.Chains.{newest}
use Rattle.tables.specs.Tables.{Mem, recs, counted}
use Rattle.tables.specs.Recording.{recorded?, Recorded}
use Rattle.tables.specs.Rows.{shelf_at, Stamped, Pushed}
use Rattle.tables.specs.Mets.{Memorized, Emptied}
use Rattle.tables.specs.declared.Rooms.{Rooms}
use Rattle.tables.specs.declared.Counts.{Counts}
use Rattle.tables.specs.Replies.{Reply, reply_of}
use Rattle.tables.specs.declared.row.Seen.{Seen}
use Rattle.tables.proofs.Chains.{keyed, newest-same}
use Rattle.tables.proofs.Shelves.{tells-stamp, shelf-same}
use Rattle.tables.proofs.Shorts.{short-some}
use Rattle.tables.proofs.Alike.{AllBytes, AllLong, one-tables, one_more}

pub one_answer : {a b : Reply} → a.code ≡ b.code → a.counts ≡ b.counts → a ≡ b
one_answer p q = λ i. record { code = p i; counts = q i }

-- a number is one room's
room : ℕ → Shortage
room n = if (eqb n 4) short.P (if (eqb n 5) short.S (if (eqb n 6) short.T (if (eqb n 7) short.R short.Q)))

room-is : (x : Shortage) → room (short_number x) ≡ x
unfolding if room
room-is short.P = refl
room-is short.S = refl
room-is short.T = refl
room-is short.R = refl
room-is short.Q = refl

pub one-short : (x y : Shortage) → short_number x ≡ short_number y → x ≡ y
one-short x y e = sym (room-is x) ∙ ap room e ∙ room-is y

-- and so a code and counts are one answer's
pub one-result : (c : Counts) (x y : Result Counts Shortage) → reply_of c x ≡ reply_of c y → x ≡ y
one-result c (Ok a) (Ok b) e = ap Ok (ap (λ (r : Reply). r.counts) e)
one-result c (Ok a) (Err y) e = absurd (short-some y (sym (ap (λ (r : Reply). r.code) e)))
one-result c (Err x) (Ok b) e = absurd (short-some x (ap (λ (r : Reply). r.code) e))
one-result c (Err x) (Err y) e = ap Err (one-short x y (ap (λ (r : Reply). r.code) e))

pub one-stamped : {s : List ℕ} {x : Seen} {a b : ℕ} → Stamped s x a → Stamped s x b → a ≡ b
one-stamped p q = p.is ∙ sym q.is

-- what holds below z and at z holds below z + 1
each : (f g : ℕ → ℕ) (z : ℕ) → ((i : ℕ) → i < z → f i ≡ g i) → f z ≡ g z → (i : ℕ) → i < z + 1 → f i ≡ g i
each f g z h e i l = go (dec_lt i z)
  where
    go : Dec (i < z) → f i ≡ g i
    go (yes k) = h i k
    go (no k) = let w : i ≡ z = omega arith in rw w e

-- ---- T: the rows, each with the head of a shelf in its last four bytes

module _ {u v : List ℕ} (p : Bytes u) (q : Bytes v) (long : length u ≡ length v) where
  by_rows : ((i : ℕ) → Same u v (seen_place i) T-HEAD) → ((h : ℕ) → top_at u h ≡ top_at v h) → u ≡ v
  by_rows rows tops =
      same-all (seen_place (length u)) (omega arith) long
      (same_rows 0 SEEN (length u) (λ i h. same-as (same_then (rows i) (same-num p q long 4 (seen_place i + T-HEAD) (tops i)) refl) (omega arith) refl))

pub one-emptied : {buckets : ℕ} {t u v : List ℕ} → Bytes u → Bytes v → Emptied buckets t u → Emptied buckets t v → u ≡ v
unfolding newest
one-emptied {buckets} {t} {u} {v} b d p q =
    by_rows b d (p.heads.long ∙ sym q.heads.long)
    (λ i. same-as (same-both (seen_place i + 0) T-HEAD (p.heads.parts T-HEAD i 0 (omega arith)) (q.heads.parts T-HEAD i 0 (omega arith))) (omega arith) refl)
    (λ h. go h (dec_lt h buckets))
  where
    go : (h : ℕ) → Dec (h < buckets) → top_at u h ≡ top_at v h
    go h (yes l) = p.shelves.chained.heads h l ∙ sym (q.shelves.chained.heads h l)
    go h (no l) = p.heads.tops h (omega arith) ∙ sym (q.heads.tops h (omega arith))

module _ {buckets m sum : ℕ} {t u v : List ℕ} {x : Seen} (b : Bytes u) (d : Bytes v) (p : Pushed buckets t m x sum u) (q : Pushed buckets t m x sum v) where
  push-long : length u ≡ length v
  push-long = p.long ∙ sym q.long

  push-shelves : (i : ℕ) → i < m + 1 → shelf_at buckets u i ≡ shelf_at buckets v i
  unfolding shelf_at
  push-shelves =
      each (λ (i : ℕ). shelf_at buckets u i) (λ (i : ℕ). shelf_at buckets v i) m
      (λ i l. shelf-same buckets (p.rows i l) ∙ sym (shelf-same buckets (q.rows i l)))
      (ap (bucket_of buckets) (tells-stamp p.tells ∙ sym (tells-stamp q.tells)))

  push-chain : num_at 4 u (seen_place m + T-LINK) ≡ num_at 4 v (seen_place m + T-LINK)
  push-chain =
      p.shelves.chained.links m (omega arith)
      ∙ newest-same (shelf_at buckets v) (shelf_at buckets u) (shelf_at buckets u m) m (λ i l. push-shelves i (omega arith))
      ∙ ap (λ (y : ℕ). newest (shelf_at buckets v) y m) (push-shelves m (omega arith))
      ∙ sym (q.shelves.chained.links m (omega arith))

  push-new : Same u v (seen_place m) T-HEAD
  push-new =
      let at : (o : ℕ) → num_at 4 u (seen_place m + o) ≡ num_at 4 v (seen_place m + o) → Same u v (seen_place m + o) 4 = λ o e. same-num b d push-long 4 (seen_place m + o) e in
      let front : Same u v (seen_place m) T-FROM = same_then (same-both (seen_place m) T-MARK p.seen q.seen) (same-both (seen_place m + T-MARK) 1 p.mark q.mark) refl in
      let places : Same u v (seen_place m) T-SUM =
      same_then (same_then front (at T-FROM (p.tells.place ∙ sym q.tells.place)) refl) (at T-CELLS (p.tells.cells ∙ sym q.tells.cells)) refl in
      same_then (same_then places (at T-SUM (p.tells.summed ∙ sym q.tells.summed)) refl) (at T-LINK push-chain) refl

  push-rows : (i : ℕ) → Same u v (seen_place i) T-HEAD
  push-rows i = go (dec_lt i m) (dec_lt m i)
    where
      go : Dec (i < m) → Dec (m < i) → Same u v (seen_place i) T-HEAD
      go (yes l) h = same-both (seen_place i) T-HEAD (p.older i l) (q.older i l)
      go (no l) (yes h) = same-both (seen_place i) T-HEAD (p.later i h) (q.later i h)
      go (no l) (no h) = let e : i ≡ m = omega arith in rw e push-new

  push-tops : (h : ℕ) → top_at u h ≡ top_at v h
  push-tops h = go (dec_lt h buckets)
    where
      go : Dec (h < buckets) → top_at u h ≡ top_at v h
      go (yes l) =
          p.shelves.chained.heads h l ∙ newest-same (shelf_at buckets v) (shelf_at buckets u) h (suc m) (λ i l. push-shelves i (omega arith))
          ∙ sym (q.shelves.chained.heads h l)
      go (no l) = p.tops h (omega arith) ∙ sym (q.tops h (omega arith))

  one-pushed : u ≡ v
  one-pushed = by_rows b d push-long push-rows push-tops

pub one-memorized : {buckets : ℕ} {k : Rooms} {t s u v : List ℕ} {c : Counts} {x : Seen} {a e : Reply} → Bytes u → Bytes v
    → Memorized buckets k t s c x u a → Memorized buckets k t s c x v e → (a ≡ e) × (u ≡ v)
one-memorized {u} {v} {a} {e} b d p q = go (keyed a.code 0)
  where
    code : a.code ≡ e.code
    code = p.code ∙ sym q.code

    go : (a.code ≡ 0) ⊎ (a.code ≡ 0 → ⊥) → (a ≡ e) × (u ≡ v)
    go (inl z) = let y : e.code ≡ 0 = sym code ∙ z in (one_answer code (p.counts z ∙ sym (q.counts y)), one-pushed b d (p.pushed z) (q.pushed y))
    go (inr z) =
        let y : e.code ≡ 0 → ⊥ = λ h. z (code ∙ h) in
        (one_answer code ((p.refused z).1 ∙ sym (q.refused y).1), (p.refused z).0 ∙ sym (q.refused y).0)

-- ---- recording

pub one-recorded : {p : List ℕ} {np n buckets start energy : ℕ} {k : Rooms} {m m' m'' : Mem} {c : Counts} {x : Found} {a e : Reply} → AllBytes m' → AllBytes m''
    → Recorded p np n buckets k m c start energy x m' a → Recorded p np n buckets k m c start energy x m'' e → (a ≡ e) × (m' ≡ m'')
one-recorded {p} {np} {n} {buckets} {start} {energy} {k} {m} {m'} {m''} {c} {x} {a} {e} b d f g = go (keyed a.code 0) (recorded? x (addrs p 0 np) (recs k m c)) refl
  where
    code : a.code ≡ e.code
    code = f.tells ∙ sym g.tells

    go : (a.code ≡ 0) ⊎ (a.code ≡ 0 → ⊥) → (o : Bool) → recorded? x (addrs p 0 np) (recs k m c) ≡ o → (a ≡ e) × (m' ≡ m'')
    go (inl z) true o =
        let y : e.code ≡ 0 = sym code ∙ z in
        (one_answer code (f.counts z ∙ sym (g.counts y)), f.known o ∙ sym (g.known o))
    go (inl z) false o =
        let y : e.code ≡ 0 = sym code ∙ z in
        let counts : a.counts ≡ e.counts = f.counts z ∙ sym (g.counts y) in
        let made : a.counts ≡ counted c np (kept x) = f.counts z ∙ if-false _ _ _ o in
        let long : AllLong m' m'' =
        record {
          w = f.beyond.apart.long ∙ sym g.beyond.apart.long;
          r = f.stays.long_r ∙ sym g.stays.long_r;
          q = f.stays.long_q ∙ sym g.stays.long_q;
          s = f.stays.long_s ∙ sym g.stays.long_s;
        } in
        let one = one-tables b d long f.tables (rw (sym counts) at g.tables) (f.holds z ∙ sym (rw (sym counts) at (g.holds y))) in (
          one_answer code counts,
          one_more (ap (λ (o : Counts). o.records) made) (omega (arith, f.tables.within.fits_s)) one f.stays (rw (sym counts) at g.stays)
              (f.beyond.apart.front ∙ sym g.beyond.apart.front)
              (λ a h. same-both (fields_place n a) 4 (f.beyond.apart.marks a h) (g.beyond.apart.marks a h))
              (λ a h. same-both (fields_place n a + COUNT) 8 (f.beyond.apart.rests a h) (g.beyond.apart.rests a h))
              (same-both (list_place n) (2 * (n + 1)) f.beyond.work g.beyond.work)
              (f.beyond.back ∙ sym g.beyond.back) b d,
        )
    go (inr z) o h =
        let y : e.code ≡ 0 → ⊥ = λ h. z (code ∙ h) in
        (one_answer code ((f.refused z).1 ∙ sym (g.refused y).1), (f.refused z).0 ∙ sym (g.refused y).0)

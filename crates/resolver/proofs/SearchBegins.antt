-- The start of a search: what is reached by static sides alone is flagged and marked, and nothing is recorded, linked or remembered. Assumes nothing.
use mathlib.Core.Path.{◌≡◌, refl, sym, ap, ◌∙◌}
use mathlib.Core.Bool.{Bool, true, false, ◌&&◌, ◌||◌, or-false}
use mathlib.Core.List.{List, []}
use Prim.Native.Nat.{ℕ, ◌+◌, ◌*◌, ◌≤◌, min}
use native.Mathlib.Omega.{arith}
use lib.Dec.{ltb, leb}
use lib.ListN.{length, take, drop, replicate, length-replicate}
use lib.Seq.{take_all}
use Rattle.spec.specs.Opcodes.{in_mode}
use Rattle.spec.specs.Lists.{if, mem}
use Rattle.spec.specs.Search as search
use Rattle.spec.specs.Search.{dests, reached_by, begin, St, Room, P, S, T, R, Q}
use Rattle.spec.specs.Rooms.{Lent, units, shortage, room}
use Rattle.spec.specs.Answer.{prepared}
use Rattle.laws.proofs.Branch.{both}
use Rattle.theorems.proofs.Older.{clear}
use Rattle.theorems.proofs.Energy.{search-energy}
use Rattle.lent.specs.Bytes.{Stored, num_at}
use Rattle.lent.proofs.Parts.{drop_more}
use Rattle.lent.proofs.Numbers.{num-zeros}
use Rattle.lent.proofs.Stored.{stored, kept-take, kept-drop, kept-num, read-num}
use Rattle.layout.specs.Fields.{FIRST-FOUND, LAST-FOUND, HIGHEST, FLAG, mark_at}
use Rattle.layout.specs.Parts.{rows_end, fields_place, buckets_place, bucket_place, link_place, filled_place, starts_place, SameRows}
use Rattle.layout.specs.Buffers.{Mem, buffers}
use Rattle.exec.specs.Modes.{mode_of}
use Rattle.exec.specs.declared.mode.Mode.{Mode}
use Rattle.exec.specs.declared.mode.Mode.TheVariants.{Plain, KnownZero}
use Rattle.tables.specs.Records.{recs_of}
use Rattle.tables.specs.Rows.{met_of}
use Rattle.tables.specs.Tables.{NoLinks}
use Rattle.tables.specs.Mets.{Begins, Emptied}
use Rattle.tables.specs.Recording.{Lends, room_of}
use Rattle.tables.specs.declared.Rooms.{Rooms}
use Rattle.tables.proofs.Counted.{recs-length}
use Rattle.tables.proofs.Uses.{tables-none}
use Rattle.parents.proofs.Knows.{known-prefix}
use Rattle.reachable.specs.Marks.{flagged, marked_by, wiped}
use Rattle.reachable.specs.Promises.{Begun, Reaches}
use Rattle.reachable.proofs.Tests.{not-both}
use Rattle.reachable.proofs.Flags.{flagged-same}
use Rattle.reachable.proofs.Frames.{num-in}
use Rattle.reachable.proofs.Marks.{begun-num, begun-rows}
use Rattle.reachable.proofs.Raising.{highest-kept}
use Rattle.reachable.proofs.Rows.{within-sides, closed-sides, sides-kept, node-edges}
use Rattle.steps.specs.Paths.{occurs}
use Rattle.steps.specs.Runs.{recs_in, st_of}
use Rattle.enter.specs.Fits.{prepared_in}
use Rattle.resolver.specs.Turns.{Idle, Between, last_since, Reached, Rounds, SearchAsks, Searched, rooms_of, plan_of, plan, begun_run, buckets_for, outcome_of}
use Rattle.steps.specs.declared.plan.Plan.{Plan}
use Rattle.steps.specs.Helds.{filled_of, Helds}
use Rattle.std.specs.Prelude.{Err}
use Rattle.refusal.specs.declared.Shortage.{Shortage}
use Rattle.tables.proofs.Shorts.{short-some}
use Rattle.steps.specs.declared.Run.{Run}
use Rattle.steps.specs.Goings.{Gone, gone}
pub use Rattle.enter.proofs.TurnKept.{known-within}

few-modes : (mode : Mode) → mode_of mode ≤ 1
few-modes Plain = omega arith
few-modes KnownZero = omega arith

-- ---- a mark of 1, or none

fresh-mark : (b : Bool) → ltb 0 (if b 1 0) && leb (if b 1 0) 1 ≡ b
unfolding if
fresh-mark true = refl
fresh-mark false = refl

-- ---- after the last round

-- the marks say what is reached, once all records are counted
pub between-marked : {code : List ℕ} {k : Plan} {m : Mem} {cur : Gone} {since : ℕ} → Between code k since m cur
    → Reached (prepared_in k code) k.size m.w since cur.counts.records (recs_in k m cur.counts)
between-marked {k = k} {m = m} {cur = cur} b a h =
    let i = b.idle in
    let long = recs-length m.r m.q m.s k.rooms.s cur.counts.records in
    rw (take_all cur.counts.records (recs_in k m cur.counts) (omega (arith, long))) at (i.marks.by cur.counts.records i.began (omega (arith, long)) a h)

-- ---- W once the heads of the buckets are wiped, and behind them the links of the own states and how many cells are in use

abbrev heads_of : ℕ → ℕ → ℕ
heads_of n buckets = 4 * buckets + 2 * (n + 1) + 4

module _ {mode : Mode} {code w w₁ w₂ : List ℕ} {limit many : ℕ} (a : SearchAsks mode code w limit many) (r : Reaches (length code) w w₁)
    (r' : List ℕ) (s : Stored (heads_of (length code) (buckets_for (length code) (units (length r') 32))) w₁ (buckets_place (length code))
    (replicate (heads_of (length code) (buckets_for (length code) (units (length r') 32))) 0) w₂) where
  abbrev n : ℕ
  n = length code

  abbrev buckets : ℕ
  buckets = buckets_for n (units (length r') 32)

  begun : Begun n w (wiped n w)
  begun = record { wipes = stored (rows_end n) w (rows_end n) (replicate (rows_end n) 0) (wiped n w) refl (length-replicate (rows_end n) 0) (omega (arith, a.lent)) }

  begin-long : length w₂ ≡ length w
  begin-long = s.kept ∙ r.kept.long ∙ begun.wipes.kept

  begin-rows : SameRows n w w₂
  begin-rows = kept-take s (rows_end n) (omega arith) ∙ r.kept.rows ∙ begun-rows begun

  begin-beyond : drop (starts_place n) w₂ ≡ drop (starts_place n) w
  begin-beyond =
      kept-drop s (starts_place n) (omega arith) ∙ drop_more w₁ (wiped n w) (buckets_place n) r.kept.beyond (starts_place n) (omega arith)
      ∙ kept-drop begun.wipes (starts_place n) (omega arith)

  -- what is before the heads stays
  stays : (k i : ℕ) → i + k ≤ buckets_place n → num_at k w₂ i ≡ num_at k w₁ i
  stays k i h = kept-num s k i (λ _. h)

  -- the fields of others are 0
  zero-fields : (k x o : ℕ) → x ≤ n → FIRST-FOUND ≤ o → o + k ≤ HIGHEST → num_at k w₂ (fields_place n x + o) ≡ 0
  zero-fields k x o h l m =
      stays k (fields_place n x + o) (omega arith)
      ∙ num-in w₁ (wiped n w) 12 (fields_place n x + FIRST-FOUND) (r.kept.fields x h) k (fields_place n x + o) (omega arith) (omega arith)
      ∙ begun-num begun k (fields_place n x + o) (omega arith) (omega arith)

  no-links : NoLinks n buckets w₂
  no-links = record {
    some = omega arith;
    in_w = omega (arith, a.lent, begin-long);
    firsts = λ x h. zero-fields 4 x FIRST-FOUND h (omega arith) (omega arith);
    lasts = λ x h. zero-fields 4 x LAST-FOUND h (omega arith) (omega arith);
    heads = λ h l. read-num s 4 (4 * h) (omega arith) ∙ num-zeros 4 (heads_of n buckets) (4 * h);
  }

  -- no own state is held
  zero-behind : (k o i : ℕ) → i ≡ buckets_place n + o → o + k ≤ heads_of n buckets → num_at k w₂ i ≡ 0
  zero-behind k o i e h = ap (num_at k w₂) e ∙ read-num s k o h ∙ num-zeros k (heads_of n buckets) o

  same-flagged : flagged w₂ n ≡ flagged w₁ n
  same-flagged = flagged-same w₁ w₂ n (λ x h. stays 1 (fields_place n x + FLAG) (omega arith))

  begin-flags : (x : ℕ) → mem x (flagged w₂ n) ≡ mem x (reached_by (prepared (in_mode (mode_of mode)) code) [])
  begin-flags x = rw same-flagged (r.reached x ∙ rw (node-edges w n (prepared (in_mode (mode_of mode)) code) a.known.blocks))

  begin-marks : (x : ℕ) → x ≤ n → mark_at w₂ n x ≡ if (mem x (flagged w₂ n)) 1 0
  begin-marks x h = stays 4 (fields_place n x) (omega arith) ∙ rw same-flagged (r.fresh.marks x h)

  -- ---- what `rounds` asks

  module _ (p q s' t t₁ : List ℕ) (e : Emptied (plan mode code limit many (buffers w p s' t r' q)).shelves t t₁) where
    abbrev k : Plan
    k = plan mode code limit many (buffers w p s' t r' q)

    begin-helds : Helds k code w₂
    begin-helds =
        let filled : filled_of k w₂ ≡ 0 = zero-behind 4 (4 * buckets + 2 * (n + 1)) (filled_place n buckets) (omega arith) (omega arith) in
        record {
          room = omega (arith, filled);
          each = λ x h ne. absurd (ne (zero-behind 2 (4 * buckets + 2 * x) (link_place n buckets x) (omega arith) (omega arith)));
        }

    begin-idle : Idle code k (reached_by (prepared (in_mode (mode_of mode)) code) []) 0 (buffers w₂ p s' t₁ r' q) begun_run
    unfolding recs_of occurs
    begin-idle = record {
      planned = record {
        is = refl;
        limit = a.limited;
        moded = few-modes mode;
        lent_w = record { short = a.short; room = omega (arith, a.lent, begin-long) };
        ends = omega (arith, a.lent, begin-long);
        scratch = omega arith;
        helds = begin-helds;
        lent_p = omega arith;
        most_p = omega arith;
        shelves = λ h. omega arith;
      };
      tables = tables-none (omega (arith, a.short)) (record {
        fits_r = omega arith;
        fits_q = omega arith;
        fits_s = omega arith;
        lent_r = omega arith;
        lent_q = omega arith;
        lent_s = omega arith;
        most_r = omega arith;
        most_q = omega arith;
        most_s = omega arith;
      }) no-links refl refl refl;
      remembers = record {
        rows = λ i l. absurd (omega arith);
        inside = λ i l. absurd (omega arith);
        shelves = e.shelves;
        fits_t = omega arith;
        lent_t = omega (arith, e.heads.long);
        most_t = omega arith;
        fits_s = omega arith;
        most_s = omega arith;
      };
      known = known-prefix w₂ (sym begin-rows) a.known;
      began = omega arith;
      marks = record {
        by = λ j l m x h. by j m x h;
        most = λ x h. rw (begin-marks x h) (both (λ (v : ℕ). v ≤ 1) (mem x (flagged w₂ n)) (λ _. omega arith) (λ _. omega arith));
        high = highest-kept (kept-take s (rows_end n) (omega arith)) (λ x h. stays 4 (fields_place n x) (omega arith)) (λ x h. stays 2 (fields_place n x + HIGHEST) (omega arith)) r.high;
      };
      sound = record { each = λ x i. elim i [ ] };
      counts = record { counts = λ x h. zero-fields 4 x 12 h (omega arith) (omega arith) };
      unused = refl;
      rowless = refl;
      within = within-sides (sides-kept w w₂ n begin-rows) (known-within a.known);
      closed = closed-sides (sides-kept w₁ w₂ n (kept-take s (rows_end n) (omega arith))) same-flagged r.closed;
      unrefused = refl;
      energy = omega arith;
      dests_in = λ x h. not-both h refl;
    }
      where
        by : (j : ℕ) → j ≤ 0 → (x : ℕ) → x ≤ n → marked_by w₂ n x (j + 1) ≡ mem x (reached_by (prepared (in_mode (mode_of mode)) code) []) || mem x (dests (take j []))
        by j m x h =
            let z : j ≡ 0 = omega arith in
            rw (z, begin-marks x h) (fresh-mark (mem x (flagged w₂ n)) ∙ begin-flags x ∙ sym (or-false (mem x (reached_by (prepared (in_mode (mode_of mode)) code) []))))

    begin-between : Between code k 0 (buffers w₂ p s' t₁ r' q) begun_run
    begin-between = record { idle = begin-idle; flags = begin-flags }

    -- ---- what it gives

    lends : (l : Lent) → l.p ≡ length p → l.s ≡ length s' → l.t ≡ length t → l.r ≡ length r' → l.q ≡ length q → Lends l k.rooms
    lends l ep es et er eq = record { is = is }
      where
        is : (x : Room) → room l x ≡ room_of k.rooms x
        is P = ap (λ (v : ℕ). units v 2) ep
        is S = ap (λ (v : ℕ). units v 9) es
        is T = ap (λ (v : ℕ). units v 32) et
        is R = ap (λ (v : ℕ). units v 32) er
        is Q = ap (λ (v : ℕ). units v 2) eq

    begins : clear begin ≡ st_of k (buffers w₂ p s' t₁ r' q) begun_run
    unfolding recs_of met_of
    begins = refl

    module _ {m' : Mem} {d : Gone} (f : Rounds code k (buffers w₂ p s' t₁ r' q) begun_run m' d) where
      made : d.code ≡ 0 → clear (search.search limit (prepared (in_mode (mode_of mode)) code)) ≡ st_of k m' d
      unfolding search.search
      made = f.did.made begin begins

      short : (l : Lent) → Lends l k.rooms → shortage l (search.search limit (prepared (in_mode (mode_of mode)) code)).needs ≡ d.code
      unfolding search.search shortage
      short l h = f.did.short l h begin begins refl

      energy : d.code ≡ 0 → d.energy ≡ (search.search limit (prepared (in_mode (mode_of mode)) code)).energy
      energy z = sym (ap (λ (x : St). x.energy) (made z))

      between : d.code ≡ 0 → Between code k (last_since 128 limit (prepared (in_mode (mode_of mode)) code) 0 begin) m' d
      between z = rw begins (f.between z)

      begin-searched : Searched mode code limit many (buffers w p s' t r' q) m' d
      begin-searched = record {
        short = λ l ep es et er eq. sym (short l (lends l ep es et er eq));
        recs = λ z. sym (ap (λ (x : St). x.recs) (made z));
        energy = energy;
        energy_most = λ z. omega (arith, energy z, search-energy limit (prepared (in_mode (mode_of mode)) code));
        between = between;
        rows = λ z. f.rows z ∙ begin-rows;
        beyond = λ z. f.beyond z ∙ begin-beyond;
        reached = λ z. between-marked (between z);
      }

-- ---- the same, by the values that the functions give

pub search-heads : {mode : Mode} {code w : List ℕ} {limit many : ℕ} {rooms : Rooms} {k : Plan} → k ≡ plan_of mode (length code) limit many rooms → SearchAsks mode code w limit many
    → (bucket_place (length code) k.buckets + 2 * (length code + 1) + 4 ≤ length w) × (4 * k.buckets ≤ 1000000)
search-heads ek a = let is = ap (λ (x : Plan). x.buckets) ek in (omega (arith, a.lent, is), omega (arith, a.short, is))

pub search-begins : {shelves rows : ℕ} (t : List ℕ) → shelves ≡ min rows 0x10000 → rows ≡ units (length t) 32 → Begins shelves t
search-begins t es e = record { in_t = omega (arith, es, e) }

module _ {mode : Mode} {code w p s t r q : List ℕ} {limit many : ℕ} {rooms : Rooms} {k : Plan} (er : rooms ≡ rooms_of p s t r q) (ek : k ≡ plan_of mode (length code) limit many rooms) where
  module _ {w₁ w₂ t₁ : List ℕ} {o : Gone} (a : SearchAsks mode code w limit many) (e : Reaches (length code) w w₁)
      (h : Stored (heads_of (length code) k.buckets) w₁ (buckets_place (length code)) (replicate (heads_of (length code) k.buckets) 0) w₂) (f : Emptied k.shelves t t₁) (eo : o ≡ begun_run) where
    pub search-asks : Between code k 0 (buffers w₂ p s t₁ r q) o
    search-asks =
        let is : k ≡ plan mode code limit many (buffers w p s t r q) = ek ∙ ap (plan_of mode (length code) limit many) er in
        rw (is, eo) (begin-between a e r (rw is at h) p q s t t₁ (rw is at f))

    pub search-done : {m' : Mem} {d : Gone} → Rounds code k (buffers w₂ p s t₁ r q) o m' d → Searched mode code limit many (buffers w p s t r q) m' d
    search-done g =
        let is : k ≡ plan mode code limit many (buffers w p s t r q) = ek ∙ ap (plan_of mode (length code) limit many) er in
        begin-searched a e r (rw is at h) p q s t t₁ (rw is at f) (rw (is, eo) at g)

-- of a refusal nothing is told but its number
pub search-refused : {mode : Mode} {code : List ℕ} {limit many : ℕ} {m m' : Mem} (run : Run) (e : Shortage) → Searched mode code limit many m m' (gone {A = Unit {0}} run (Err e))
    → Searched mode code limit many m m' (outcome_of (Err e))
search-refused run e s = record {
  short = s.short;
  recs = λ z. absurd (short-some e z);
  energy = λ z. absurd (short-some e z);
  energy_most = λ z. absurd (short-some e z);
  between = λ z. absurd (short-some e z);
  rows = λ z. absurd (short-some e z);
  beyond = λ z. absurd (short-some e z);
  reached = λ z. absurd (short-some e z);
}

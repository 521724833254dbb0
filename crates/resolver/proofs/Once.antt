-- The contract of `search` leaves no choice but in what docs/PROOFS.md lists: two results of one call have the same number, and where it is 0 the same
-- energy and counts, and the same bytes where the records, their links and W's rows stand. Assumes nothing.
use mathlib.Core.Path.{◌≡◌, refl, sym, ap, ◌∙◌}
use mathlib.Core.Bool.{◌||◌}
use mathlib.Core.List.{List}
use Prim.Native.Nat.{ℕ, ◌+◌, ◌≤◌}
use native.Mathlib.Omega.{arith}
use lib.ListN.{length, take, drop}
use Rattle.spec.specs.Opcodes.{in_mode}
use Rattle.spec.specs.Lists.{mem, total}
use Rattle.spec.specs.Search.{Rec, kept, begin, dests, reached_by}
use Rattle.spec.specs.Answer.{prepared}
use Rattle.spec.specs.Rooms.{Lent}
use Rattle.lent.proofs.Once.{Same, same-num}
use Rattle.layout.specs.Buffers.{Mem}
use Rattle.layout.specs.Fields.{COUNT, HIGHEST, mark_at, high_at, count_at}
use Rattle.layout.specs.Parts.{fields_place, starts_place, SameRows}
use Rattle.exec.specs.Modes.{mode_of}
use Rattle.exec.specs.declared.mode.Mode.{Mode}
use Rattle.tables.specs.declared.Counts.{Counts}
use Rattle.tables.proofs.Counted.{recs-length, recs-addresses, recs-kept-cells}
use Rattle.tables.proofs.Alike.{AllBytes, AllLong, OneTables, one-tables}
use Rattle.reachable.specs.Marks.{flagged, marked_by}
use Rattle.reachable.proofs.Raising.{highest-once}
use Rattle.steps.specs.Runs.{tabled, recs_in}
use Rattle.std.specs.Prelude.{Result, Ok, Err}
use Rattle.refusal.specs.declared.Shortage.{Shortage}
use Rattle.tables.proofs.Shorts.{short-some}
use Rattle.steps.specs.Goings.{Gone, under_way}
use Rattle.steps.specs.declared.Run.{Run}
use Rattle.steps.proofs.Once.{short-same}
use Rattle.enter.proofs.Once.{marked-too}
use Rattle.resolver.specs.Turns.{last_since, plan, outcome_of, Searched}

-- what two results share where the number is 0
pub record OneSearch (mode : Mode) (code : List ℕ) (limit many : ℕ) (m m' m'' : Mem) (d e : Gone) : Type 0 where
  pub run : d ≡ e
  pub recs : recs_in (plan mode code limit many m) m' d.counts ≡ recs_in (plan mode code limit many m) m'' d.counts
  pub tables : OneTables (length code) (plan mode code limit many m).buckets (plan mode code limit many m).rooms d.counts (tabled m') (tabled m'')
  pub rows : SameRows (length code) m''.w m'.w
  pub counts : (a : ℕ) → a ≤ length code → Same m'.w m''.w (fields_place (length code) a + COUNT) 4
  pub highest : (a : ℕ) → a ≤ length code → Same m'.w m''.w (fields_place (length code) a + HIGHEST) 2
  pub beyond : drop (starts_place (length code)) m'.w ≡ drop (starts_place (length code)) m''.w
  pub flags : (x : ℕ) → mem x (flagged m'.w (length code)) ≡ mem x (flagged m''.w (length code))
  pub reached : (a : ℕ) → a ≤ length code → marked_by m'.w (length code) a (d.counts.records + 1) ≡ marked_by m''.w (length code) a (d.counts.records + 1)

module _ {mode : Mode} {code : List ℕ} {limit many : ℕ} {m m' m'' : Mem} {d e : Gone} (f : Searched mode code limit many m m' d) (g : Searched mode code limit many m m'' e) where
  pub one_code : d.code ≡ e.code
  one_code =
      let l : Lent = record { w = 0; p = length m.p; s = length m.s; t = length m.t; r = length m.r; q = length m.q; out = 0 } in
      f.short l refl refl refl refl refl ∙ sym (g.short l refl refl refl refl refl)

  module _ (z : d.code ≡ 0) where
    other : e.code ≡ 0
    other = sym one_code ∙ z

    found-recs : recs_in (plan mode code limit many m) m' d.counts ≡ recs_in (plan mode code limit many m) m'' e.counts
    found-recs = f.recs z ∙ sym (g.recs other)

    one-counts : d.counts ≡ e.counts
    one-counts =
        let p = (f.between z).idle in
        let q = (g.between other).idle in
        let room = (plan mode code limit many m).rooms.s in
        let records : d.counts.records ≡ e.counts.records =
        sym (recs-length m'.r m'.q m'.s room d.counts.records) ∙ ap length found-recs ∙ recs-length m''.r m''.q m''.s room e.counts.records in
        let addresses : d.counts.addresses ≡ e.counts.addresses =
        sym (recs-addresses m'.r m'.q m'.s room p.tables.rows ∙ p.tables.ends) ∙ ap (total (λ (x : Rec). length x.path)) found-recs
        ∙ recs-addresses m''.r m''.q m''.s room q.tables.rows ∙ q.tables.ends in
        let cells : d.counts.kept ≡ e.counts.kept =
        sym (recs-kept-cells m'.r m'.q m'.s room p.tables.few p.tables.goes ∙ p.tables.kept) ∙ ap (total (λ (x : Rec). kept x.to)) found-recs
        ∙ recs-kept-cells m''.r m''.q m''.s room q.tables.few q.tables.goes ∙ q.tables.kept in
        let used = p.unused ∙ sym q.unused in
        let rows = p.rowless ∙ sym q.rowless in
        λ i. record { records = records i; addresses = addresses i; kept = cells i; used = used i; rows = rows i }

    same-recs : recs_in (plan mode code limit many m) m' d.counts ≡ recs_in (plan mode code limit many m) m'' d.counts
    same-recs = found-recs ∙ ap (recs_in (plan mode code limit many m) m'') (sym one-counts)

    pub one-run : d ≡ e
    one-run =
        let energy = f.energy z ∙ sym (g.energy other) in
        λ i. record { code = one_code i; energy = energy i; counts = one-counts i }

    none-on-path : (a : ℕ) → a ≤ length code → count_at m'.w (length code) a ≡ count_at m''.w (length code) a
    none-on-path a h = (f.between z).idle.counts.counts a h ∙ sym ((g.between other).idle.counts.counts a h)

    one-flags : (x : ℕ) → mem x (flagged m'.w (length code)) ≡ mem x (flagged m''.w (length code))
    one-flags x =
        (f.between z).flags x
        ∙ ap (λ (rs : List Rec). mem x (reached_by (prepared (in_mode (mode_of mode)) code) (take (last_since 128 limit (prepared (in_mode (mode_of mode)) code) 0 begin) rs))) found-recs
        ∙ sym ((g.between other).flags x)

    one-reached : (a : ℕ) → a ≤ length code → marked_by m'.w (length code) a (d.counts.records + 1) ≡ marked_by m''.w (length code) a (d.counts.records + 1)
    one-reached a h =
        f.reached z a h
        ∙ ap (λ (rs : List Rec). mem a (reached_by (prepared (in_mode (mode_of mode)) code) (take (last_since 128 limit (prepared (in_mode (mode_of mode)) code) 0 begin) rs)) || mem a (dests rs)) found-recs
        ∙ sym (g.reached other a h)
        ∙ ap (λ (c : Counts). marked_by m''.w (length code) a (c.records + 1)) (sym one-counts)

    -- so the same addresses are marked, and the highest parents are the same
    few : (a : ℕ) → a ≤ length code → mark_at m'.w (length code) a ≤ d.counts.records + 1
    few a h = omega (arith, (f.between z).idle.marks.most a h, recs-length m'.r m'.q m'.s (plan mode code limit many m).rooms.s d.counts.records)

    few-other : (a : ℕ) → a ≤ length code → mark_at m''.w (length code) a ≤ d.counts.records + 1
    few-other a h =
        omega (arith, ap (λ (c : Counts). c.records) one-counts, (g.between other).idle.marks.most a h, recs-length m''.r m''.q m''.s (plan mode code limit many m).rooms.s e.counts.records)

    one-highest : (a : ℕ) → a ≤ length code → high_at m'.w (length code) a ≡ high_at m''.w (length code) a
    one-highest =
        highest-once (f.rows z ∙ sym (g.rows other)) (λ x h. marked-too m'.w m''.w (length code) x d.counts.records (few x h) (one-reached x h))
        (λ x h. marked-too m''.w m'.w (length code) x d.counts.records (few-other x h) (sym (one-reached x h)))
        (f.between z).idle.marks.high (g.between other).idle.marks.high

    -- a slice keeps its length, and holds bytes
    pub one-searched : AllBytes (tabled m') → AllBytes (tabled m'') → AllLong (tabled m') (tabled m'') → OneSearch mode code limit many m m' m'' d e
    one-searched a b long =
        record {
          run = one-run;
          recs = same-recs;
          tables = one-tables a b long (f.between z).idle.tables (rw (sym one-counts) at (g.between other).idle.tables) same-recs;
          rows = f.rows z ∙ sym (g.rows other);
          counts = λ x h. same-num a.w b.w long.w 4 (fields_place (length code) x + COUNT) (none-on-path x h);
          highest = λ x h. same-num a.w b.w long.w 2 (fields_place (length code) x + HIGHEST) (one-highest x h);
          beyond = f.beyond z ∙ sym (g.beyond other);
          flags = one-flags;
          reached = one-reached;
        }

-- ---- the result of `search`, of which `outcome_of` tells the number, the energy and the counts

outcome-same : (x y : Result Run Shortage) → (outcome_of x).code ≡ (outcome_of y).code → ((outcome_of x).code ≡ 0 → outcome_of x ≡ outcome_of y) → x ≡ y
outcome-same (Ok x) (Ok y) e same =
    let one : under_way x ≡ under_way y = same refl in
    λ i. Ok (record { energy = (one i).energy; counts = (one i).counts })
outcome-same (Ok x) (Err y) e same = absurd (short-some y (sym e))
outcome-same (Err x) (Ok y) e same = absurd (short-some x e)
outcome-same (Err x) (Err y) e same = ap Err (short-same x y e)

module _ {mode : Mode} {code : List ℕ} {limit many : ℕ} {m m' m'' : Mem} (x y : Result Run Shortage) where
  pub one-outcome : Searched mode code limit many m m' (outcome_of x) → Searched mode code limit many m m'' (outcome_of y) → x ≡ y
  one-outcome f g = outcome-same x y (one_code f g) (one-run f g)

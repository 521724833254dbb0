-- The one pass over a stored map: what is counted so far and what is still to come are the totals of all its entries, and the reader's scan judges them. Assumes nothing.
use mathlib.Core.Path.{◌≡◌, refl, sym, ap, ap₂, ◌∙◌}
use mathlib.Core.List.{List, [], ◌∷◌}
use Prim.Native.Nat.{ℕ, zero, suc, ◌+◌, ◌*◌, ◌-◌, ◌^◌, ◌≤◌, ◌<◌}
use native.Mathlib.Omega.{arith}
use native.Mathlib.Decide.{dec_le}
use Rattle.std.specs.Prelude.{Option, Some, None, Result, Ok, Err}
use lib.ListN.{length, take, drop}
use Rattle.spec.specs.Entries.{Map}
use Rattle.spec.specs.Forms.{wide_in, announced}
use Rattle.spec.specs.Reader.{Reading as Said, holds, bad, Piece, Item, a_head, items, addresses, read}
use Rattle.spec.specs.BadEntries.{Whole as WholeEntry}
use Rattle.spec.specs.Report.{Totals, totals_of, nothing_yet, join}
use Rattle.theorems.proofs.ReaderPlaces.{never}
use Rattle.theorems.proofs.ReaderItems.{items_of}
use Rattle.theorems.proofs.ReportLaws.{join-assoc, join-comm, join-neutral}
use Rattle.lent.proofs.Parts.{length_part}
use Rattle.reader.specs.Dests.{found_of}
use Rattle.reader.specs.Shapes.{from, behind_at, entry_at, item_of}
use Rattle.reader.specs.Classes.{class_of, step_of, block_inside, record_inside}
use Rattle.reader.specs.Scanning.{Within, begin, turn_to, turn_of, last_of, rest_of, reading_of}
use Rattle.reader.specs.Walks.{items_from}
use Rattle.reader.specs.declared.entry.Entry.{Entry}
use Rattle.reader.specs.declared.entry.Entry.TheVariants.{Head, Terminate, Jump, Jumpi, DynamicJump, DynamicJumpi, Way, Record}
use Rattle.reader.specs.declared.entry.Fault.{Fault}
use Rattle.reader.specs.declared.class.Class.{Class}
use Rattle.reader.specs.declared.class.Class.TheVariants.{Head as HeadOf}
use Rattle.reader.specs.declared.class.Order.{Order}
use Rattle.reader.specs.declared.scan.Scan.{Scan}
use Rattle.reader.specs.declared.scan.BadEntry.{BadEntry}
use Rattle.reader.proofs.Onward.{from_end}
use Rattle.reader.proofs.Judging.{entry-cut, behind-whole, items-on}
use Rattle.reader.proofs.Turning.{behind-in}
use Rattle.reader.proofs.Resting.{Scans, scan-start, scan-on, scan-less, scan-bad, scan-last, read_head}
use Rattle.reader.proofs.Walked.{begins}
use Rattle.reader.proofs.Paths.{way-inside, record-inside}
use Rattle.report.specs.Counts.{totals_from, counts_of, none_counted, at_place, shut_of, record_of, adds_of, seen_by, opened_by, Shut, Counted, RoomToShut, Roomy}
use Rattle.report.specs.Scanning.{Headed, close, closed_of, pass_of}
use Rattle.report.specs.declared.count.Counts.{Counts}
use Rattle.report.specs.declared.count.Open.{Open}
use Rattle.report.specs.declared.count.Open.TheVariants.{Static, NoneYet, Only, Several}
use Rattle.report.proofs.Items.{record-totals, seen, scan, tail_of, scan-is}

-- ---- an entry as an item

addresses-long : (n : ℕ) (l : List ℕ) → length l ≡ 2 * n → length (addresses l) ≡ n
unfolding addresses
addresses-long zero [] e = refl
addresses-long (suc n) [] e = absurd (omega arith)
addresses-long n (x ∷ []) e = absurd (omega arith)
addresses-long zero (x ∷ y ∷ l) e = absurd (omega arith)
addresses-long (suc n) (x ∷ y ∷ l) e = ap suc (addresses-long n l (omega arith))

seen-found : (to : Option ℕ) (o : Open) → seen (found_of to) o ≡ seen_by to o
seen-found None o = refl
seen-found (Some t) o = refl

record_found : (to : Option ℕ) (n : ℕ) → record-totals n (found_of to) ≡ record_of to n
record_found None n = refl
record_found (Some t) n = refl

-- a block ends the block at hand, in either order
reordered : (t s k : Totals) → join (join t s) k ≡ join t (join k s)
reordered t s k = join-assoc t s k ∙ ap (join t) (join-comm s k)

module _ (b : List ℕ) (at : ℕ) (is : List Item) (t : Totals) (o : Open) where
  path-long : (path n : ℕ) → path + 2 * n ≤ length b → length (addresses (take (2 * n) (drop path b))) ≡ n
  path-long path n f = addresses-long n (take (2 * n) (drop path b)) (length_part (2 * n) path b f)

  scan-entry : (e : Entry) → Ok e ≡ entry_at b at → scan (item_of b (Ok e) ∷ is) t o ≡ scan is (join t (adds_of e o)) (opened_by e o)
  unfolding scan
  scan-entry (Head s n m y) q = ap (λ (u : Totals). scan is u o) (sym (join-neutral t))
  scan-entry (Terminate s e k) q = ap (λ (u : Totals). scan is u Static) (reordered t (shut_of o) (at_place 1 1))
  scan-entry (Jump s e k) q = ap (λ (u : Totals). scan is u Static) (reordered t (shut_of o) (at_place 2 1))
  scan-entry (Jumpi s e x y) q = ap (λ (u : Totals). scan is u Static) (reordered t (shut_of o) (at_place 3 1))
  scan-entry (DynamicJump s e n) q = ap (λ (u : Totals). scan is u NoneYet) (reordered t (shut_of o) (at_place 4 1))
  scan-entry (DynamicJumpi s e f n) q = ap (λ (u : Totals). scan is u NoneYet) (reordered t (shut_of o) (at_place 5 1))
  scan-entry (Way to path n) q =
      ap₂ (λ (k : ℕ) (p : Open). scan is (join t (at_place 11 k)) p) (path-long path n (way-inside b at q refl)) (seen-found to o)
  scan-entry (Record s to energy path n) q =
      ap (λ (k : ℕ). scan is (join t (record-totals k (found_of to))) o) (path-long path n (record-inside b at q refl))
      ∙ ap (λ (u : Totals). scan is (join t u) o) (record_found to n)

-- ---- each count is below the offset

pub record Small (c : Counts) (n : ℕ) : Type 0 where
  pub terminate : c.terminate < n
  pub jump : c.jump < n
  pub jumpi : c.jumpi < n
  pub dynamic_jump : c.dynamic_jump < n
  pub dynamic_jumpi : c.dynamic_jumpi < n
  pub unresolved : c.unresolved < n
  pub one : c.one < n
  pub several : c.several < n
  pub found : c.found < n
  pub nowhere : c.nowhere < n

-- at most one more at each place
abbrev One : Totals → Type 0
One t =
    (t.kind_2 ≤ 1) × (t.kind_3 ≤ 1) × (t.kind_4 ≤ 1) × (t.kind_5 ≤ 1) × (t.kind_6 ≤ 1) × (t.unresolved ≤ 1) × (t.with_one ≤ 1) × (t.with_several ≤ 1)
    × (t.records_to ≤ 1) × (t.records_nowhere ≤ 1)

-- a block at hand adds to no kind
abbrev NoKind : Totals → Type 0
NoKind t =
    (t.kind_2 ≡ 0) × (t.kind_3 ≡ 0) × (t.kind_4 ≡ 0) × (t.kind_5 ≡ 0) × (t.kind_6 ≡ 0) × (t.unresolved ≤ 1) × (t.with_one ≤ 1) × (t.with_several ≤ 1)
    × (t.records_to ≡ 0) × (t.records_nowhere ≡ 0)

no_kind : (o : Open) → NoKind (shut_of o)
no_kind Static = omega arith
no_kind NoneYet = omega arith
no_kind (Only t) = omega arith
no_kind Several = omega arith

one_more : (e : Entry) (o : Open) → One (adds_of e o)
unfolding join
one_more (Head s n m y) o = omega arith
one_more (Terminate s e k) o = omega (arith, no_kind o)
one_more (Jump s e k) o = omega (arith, no_kind o)
one_more (Jumpi s e x y) o = omega (arith, no_kind o)
one_more (DynamicJump s e n) o = omega (arith, no_kind o)
one_more (DynamicJumpi s e f n) o = omega (arith, no_kind o)
one_more (Way to path n) o = omega arith
one_more (Record s None energy path n) o = omega arith
one_more (Record s (Some t) energy path n) o = omega arith

small-on : {c r : Counts} {o : Open} {e : Entry} {at to : ℕ} → Small c at → Counted c o e r → at < to → Small r to
unfolding join
small-on {c} {r} {o} {e} {at} {to} s k h =
    let q = k.is in
    let m = one_more e o in
    record {
      terminate = omega (arith, ap (λ (t : Totals). t.kind_2) q);
      jump = omega (arith, ap (λ (t : Totals). t.kind_3) q);
      jumpi = omega (arith, ap (λ (t : Totals). t.kind_4) q);
      dynamic_jump = omega (arith, ap (λ (t : Totals). t.kind_5) q);
      dynamic_jumpi = omega (arith, ap (λ (t : Totals). t.kind_6) q);
      unresolved = omega (arith, ap (λ (t : Totals). t.unresolved) q);
      one = omega (arith, ap (λ (t : Totals). t.with_one) q);
      several = omega (arith, ap (λ (t : Totals). t.with_several) q);
      found = omega (arith, ap (λ (t : Totals). t.records_to) q);
      nowhere = omega (arith, ap (λ (t : Totals). t.records_nowhere) q);
    }

-- ---- one turn

-- a scan that goes on stands behind the entry, which is right by itself
module _ (b : List ℕ) (s u : Scan) (e : turn_of b s ≡ Ok u) where
  abbrev kind-of : Option Class
  kind-of = class_of (entry_at b s.at)

  turned_by : turn_to b s kind-of (step_of kind-of s.place s.at) ≡ Ok u
  unfolding turn_of
  turned_by = e

  turned-at : u.at ≡ behind_at b s.at
  turned-at = by-step (step_of kind-of s.place s.at) turned_by
    where
      by-step : (st : Option Order) → turn_to b s kind-of st ≡ Ok u → u.at ≡ behind_at b s.at
      by-step (Some p) q =
          let z : record { at = behind_at b s.at; place = p; blocks = s.blocks + block_inside kind-of; records = s.records + record_inside kind-of } ≡ u = cc in
          sym (ap (λ (x : Scan). x.at) z)
      by-step None q = never (cc)

  turned_right : kind-of ≡ None → ⊥
  turned_right z = let y : turn_to b s None None ≡ Ok u = sym (ap (λ (x : Option Class). turn_to b s x (step_of x s.place s.at)) z) ∙ turned_by in never (cc)

-- ---- a head, and what bytes that hold a map have behind it

module _ (b : List ℕ) {size n k energy : ℕ} (h : entry_at b 0 ≡ Ok (Head size n k energy)) where
  head-right : class_of (entry_at b 0) ≡ None → ⊥
  head-right z = let y : Some HeadOf ≡ None = sym (ap class_of h) ∙ z in never (cc)

  behind-some : 0 < behind_at b 0
  behind-some = by_whole (dec_le (6 + announced (drop 0 b)) (length (drop 0 b)))
    where
      by_whole : Dec (WholeEntry (drop 0 b)) → 0 < behind_at b 0
      by_whole (yes w) = omega (arith, behind-whole b 0 w)
      by_whole (no v) = absurd (head-right (ap class_of (entry-cut b 0 v)))

  module _ {m : Map} (r : read b ≡ holds m) where
    all-items : a_head size n k energy ∷ items_from b (behind_at b 0) ≡ items_of m
    unfolding items_from
    all-items = sym (items-on b 0 head-right ∙ ap {B = List Item} (λ (e : Result Entry Fault). item_of b e ∷ items (wide_in b) (from b (behind_at b 0))) h) ∙ (begins b m r).all

    rest_is : items_from b (behind_at b 0) ≡ tail_of m
    rest_is = let z = all-items in cc

    pub energy-is : energy ≡ m.energy
    energy-is = let z = all-items in cc

-- ---- the loop

refused : (x : Said) {i : BadEntry} → Err i ≡ reading_of x → Err i ≡ pass_of x
refused (holds v) e = never (cc)
refused (bad j) e = let g : _ ≡ record { offset = j } = cc in ap Err g

pub record Passes (b : List ℕ) (start : ℕ) (s : Scan) (c : Counts) (o : Open) : Type 0 where
  pub scans : Scans b start s
  pub same : scan (items_from b start) nothing_yet Static ≡ scan (items_from b s.at) (totals_from c) o
  pub small : Small c s.at

-- the counts that `default` gives
pub none-is : (c : Counts) → (c.terminate ≡ 0) × ((c.jump ≡ 0) × ((c.jumpi ≡ 0) × ((c.dynamic_jump ≡ 0) × ((c.dynamic_jumpi ≡ 0) × ((c.unresolved ≡ 0) × ((c.one ≡ 0) × ((c.several ≡ 0) × ((c.found ≡ 0) × ((c.nowhere ≡ 0) × (c.longest ≡ 0)))))))))) → c ≡ none_counted
none-is c z i = record { terminate = z.0 i; jump = z.1.0 i; jumpi = z.1.1.0 i; dynamic_jump = z.1.1.1.0 i; dynamic_jumpi = z.1.1.1.1.0 i; unresolved = z.1.1.1.1.1.0 i; one = z.1.1.1.1.1.1.0 i; several = z.1.1.1.1.1.1.1.0 i; found = z.1.1.1.1.1.1.1.1.0 i; nowhere = z.1.1.1.1.1.1.1.1.1.0 i; longest = z.1.1.1.1.1.1.1.1.1.1 i }

module _ {b : List ℕ} {to n m : ℕ} (h : Headed b to n m) where
  pub pass-start : {s : Scan} → s ≡ begin to → {c : Counts} → c ≡ none_counted → Passes b to s c Static
  pass-start {s} q e =
      let p : 0 < to = rw h.behind (behind-some b h.head) in
      rw e (record {
        scans = scan-start b to (rw h.behind (behind-in b 0)) q;
        same = ap (λ (x : Scan). scan (items_from b x.at) nothing_yet Static) (sym q);
        small = let l : 0 < s.at = rw q p in record { terminate = l; jump = l; jumpi = l; dynamic_jump = l; dynamic_jumpi = l; unresolved = l; one = l; several = l; found = l; nowhere = l };
      })

  module _ {s : Scan} {c : Counts} {o : Open} (z : Passes b to s c o) where
    pub pass-within : Within b s
    pass-within = z.scans.within

    pub pass-shuts : length b < 2 ^ 64 → RoomToShut c
    pass-shuts f =
        let w = z.scans.within.inside in
        record { unresolved = omega (arith, z.small.unresolved); one = omega (arith, z.small.one); several = omega (arith, z.small.several) }

    pub pass-roomy : length b < 2 ^ 64 → Roomy c
    pass-roomy f =
        let w = z.scans.within.inside in
        record {
          terminate = omega (arith, z.small.terminate);
          jump = omega (arith, z.small.jump);
          jumpi = omega (arith, z.small.jumpi);
          dynamic_jump = omega (arith, z.small.dynamic_jump);
          dynamic_jumpi = omega (arith, z.small.dynamic_jumpi);
          found = omega (arith, z.small.found);
          nowhere = omega (arith, z.small.nowhere);
          to_shut = pass-shuts f;
        }

    reads : {r : Result Unit BadEntry} → r ≡ rest_of b to n m → r ≡ reading_of (read b)
    reads e = read_head b h.head h.behind e

    -- an entry is counted as it is turned; what was counted is dropped where the scan stops
    module _ (l : s.at < length b) {r : Result Scan BadEntry} (t : r ≡ turn_of b s) where
      pub pass-less : {u : Scan} → r ≡ Ok u → length b - u.at < length b - s.at
      pass-less q = scan-less z.scans l t q

      -- an entry that was passed has no fault
      pub pass-sound : {u : Scan} → r ≡ Ok u → {x : Result Entry Fault} → x ≡ entry_at b s.at → ((e : Entry) → x ≡ Ok e → ⊥) → ⊥
      pass-sound {u} q {x} k f = by x k f
        where
          by : (x : Result Entry Fault) → x ≡ entry_at b s.at → ((e : Entry) → x ≡ Ok e → ⊥) → ⊥
          by (Ok e) k f = f e refl
          by (Err e) k f = turned_right b s u (sym t ∙ q) (sym (ap class_of k))

      pub pass_on : {u : Scan} {x : Result Entry Fault} {e : Entry} {c' : Counts} {o' : Open} → r ≡ Ok u → x ≡ entry_at b s.at → x ≡ Ok e → Counted c o e c' → o' ≡ opened_by e o → Passes b to u c' o'
      unfolding items_from
      pass_on {u} {x} {e} {c'} {o'} q k y d p =
          let g = turned-at b s u (sym t ∙ q) in
          let far : s.at < u.at = omega (arith, pass-less q) in
          let there : Ok e ≡ entry_at b s.at = sym y ∙ k in
          let item : items_from b s.at ≡ item_of b (Ok e) ∷ items_from b u.at = items-on b s.at (turned_right b s u (sym t ∙ q)) ∙ ap₂ {C = List Item} (λ (a : Result Entry Fault) (i : ℕ). item_of b a ∷ items_from b i) (sym there) (sym g) in
          record {
            scans = scan-on z.scans l t q;
            same =
                z.same ∙ ap (λ (is : List Item). scan is (totals_from c) o) item ∙ scan-entry b s.at (items_from b u.at) (totals_from c) o e there
                ∙ sym (ap₂ (λ (v : Totals) (w : Open). scan (items_from b u.at) v w) d.is p);
            small = small-on z.small d far;
          }

      pub pass-bad : {i : BadEntry} → r ≡ Err i → Err i ≡ pass_of (read b)
      pass-bad {i} q = refused (read b) (reads (scan-bad z.scans l t n m q))

    -- at the end they are the map's
    module _ (l : length b ≤ s.at) where
      counted-all : {v : Map} → read b ≡ holds v → counts_of (join (totals_from c) (shut_of o)) ≡ counts_of (totals_of v)
      unfolding scan items_from items
      counted-all {v} e =
          ap counts_of (sym (z.same ∙ ap (λ (ps : List Piece). scan (items (wide_in b) ps) (totals_from c) o) (from_end b s.at l))
          ∙ ap (λ (i : ℕ). scan (items_from b i) nothing_yet Static) h.behind ∙ ap (λ (is : List Item). scan is nothing_yet Static) (rest_is b h.head e) ∙ scan-is v)

      pub pass-end : {x : Result Counts BadEntry} → x ≡ closed_of s n m c o → x ≡ pass_of (read b)
      pass-end {x} q = q ∙ by_said (read b) refl (last_of s n m) (reads (scan-last z.scans l n m refl))
        where
          by_said : (y : Said) → read b ≡ y → (r : Result Unit BadEntry) → r ≡ reading_of y → close r c o ≡ pass_of y
          by_said (holds v) e r k = ap (λ (a : Result Unit BadEntry). close a c o) k ∙ ap Ok (counted-all e)
          by_said (bad j) e r k = ap (λ (a : Result Unit BadEntry). close a c o) k

-- ---- closed

module _ (s : Scan) (n m : ℕ) (c : Counts) (o : Open) {r : Result Unit BadEntry} (e : r ≡ last_of s n m) where
  pub closed-bad : {x : BadEntry} → r ≡ Err x → Err x ≡ closed_of s n m c o
  closed-bad q = ap (λ (a : Result Unit BadEntry). close a c o) (sym q ∙ e)

  pub closed-whole : {u : Unit} → r ≡ Ok u → {d : Counts} → Shut c o d → Ok d ≡ closed_of s n m c o
  closed-whole q k = ap (λ (t : Totals). Ok (counts_of t)) k.is ∙ ap (λ (a : Result Unit BadEntry). close a c o) (sym q ∙ e)

-- Document 02, "No. 11": joining reports, and feeding folders. Assumes nothing.
use Prim.Native.Nat.{ℕ, zero, suc, ◌+◌, ◌^◌, ◌≤◌, ◌<◌}
use native.Mathlib.Omega.{arith}
use mathlib.Core.Path.{◌≡◌, refl, sym, ap, ap₂, ◌∙◌}
use mathlib.Core.Bool.{Bool, true, false, ◌&&◌}
use mathlib.Core.List.{List, [], ◌∷◌, ◌++◌, append_assoc}
use mathlib.Core.Option.{Option, none, some}
use lib.Dec.{eqb, leb, ltb}
use lib.ListN.{length, replicate}
use borrow.Author.Tests.{leb-true, leb-false, le-leb, ne_eqb}
use Rattle.spec.specs.Blocks.{Kind, terminate, jump, jumpi, dynamic_jump, dynamic_jumpi}
use Rattle.spec.specs.Search.{dests}
use Rattle.spec.specs.Ending.{Final}
use Rattle.spec.specs.Entries.{Map, flag}
use Rattle.spec.specs.Reader.{Reading, holds, bad, read}
use Rattle.spec.specs.Lists.{if, number}
use Rattle.spec.specs.Eights.{as_eights, over}
use Rattle.spec.specs.Counting.{count, distinct}
use Rattle.spec.specs.Report.{Totals, kind_number, of_kind, dynamic_with, totals_of, nothing_yet, join, totals_all, lowest, dynamic_blocks, share, sums, report_bytes, new_report, listed, totals_in, ReportOutcome, reported, bad_map, no_fit, fits, renewed, added, report_add, report_join, reports_as, report_after, feed_on, feed}
use Rattle.laws.proofs.Branch.{both, if-true, if-false}
use Rattle.laws.proofs.Members.{In, here, there, and_both}
use Rattle.theorems.proofs.EightsBack.{eights-back, Below, below-fit, each_fits, one-large}
use Rattle.theorems.proofs.Lowest.{Lowest, lowest-is}

-- ---- joining totals

-- the same 13 numbers
abbrev pub Same : Totals → Totals → Type 0
Same a b =
    (a.maps ≡ b.maps) × (a.kind_2 ≡ b.kind_2) × (a.kind_3 ≡ b.kind_3) × (a.kind_4 ≡ b.kind_4) × (a.kind_5 ≡ b.kind_5) × (a.kind_6 ≡ b.kind_6)
    × (a.unresolved ≡ b.unresolved) × (a.with_one ≡ b.with_one) × (a.with_several ≡ b.with_several) × (a.records_to ≡ b.records_to) × (a.records_nowhere ≡ b.records_nowhere) × (a.longest ≡ b.longest) × (a.energy ≡ b.energy)

pub same-totals : (a b : Totals) → Same a b → a ≡ b
same-totals a b h i = record {
  maps = h.0 i;
  kind_2 = h.1 i;
  kind_3 = h.2 i;
  kind_4 = h.3 i;
  kind_5 = h.4 i;
  kind_6 = h.5 i;
  unresolved = h.6 i;
  with_one = h.7 i;
  with_several = h.8 i;
  records_to = h.9 i;
  records_nowhere = h.10 i;
  longest = h.11 i;
  energy = h.12 i;
}

pub join-assoc : (a b c : Totals) → join (join a b) c ≡ join a (join b c)
unfolding join
join-assoc a b c = same-totals (join (join a b) c) (join a (join b c)) (omega arith)

pub join-comm : (a b : Totals) → join a b ≡ join b a
unfolding join
join-comm a b = same-totals (join a b) (join b a) (omega arith)

pub join-neutral : (a : Totals) → join a nothing_yet ≡ a
unfolding join
join-neutral a = same-totals (join a nothing_yet) a (omega arith)

pub neutral-join : (a : Totals) → join nothing_yet a ≡ a
neutral-join a = join-comm nothing_yet a ∙ join-neutral a

-- one list of maps and then another
pub totals-append : (ms ns : List Map) → totals_all (ms ++ ns) ≡ join (totals_all ms) (totals_all ns)
unfolding totals_all
totals-append [] ns = sym (neutral-join (totals_all ns))
totals-append (m ∷ ms) ns = ap (join (totals_of m)) (totals-append ms ns) ∙ sym (join-assoc (totals_of m) (totals_all ms) (totals_all ns))

-- a part's totals fit where the whole's do
pub part-fits : (a b : Totals) → fits (join a b) ≡ true → fits a ≡ true
unfolding join sums
part-fits a b e =
    let ns = dynamic_blocks a ∷ sums a in
    let ms = dynamic_blocks (join a b) ∷ sums (join a b) in
    let low : Below ns ms = omega arith in
    below-fit ns ms low e

not-whole : (a b : Totals) → fits a ≡ false → fits (join a b) ≡ false
not-whole a b e = by-test (fits (join a b)) refl
  where
    by-test : (x : Bool) → fits (join a b) ≡ x → x ≡ false
    by-test false q = refl
    by-test true q = let p = part-fits a b q in cc

-- ---- a report's bytes

-- what is written is read again, whatever stands behind it
pub totals-back : (t : Totals) (rest : List ℕ) → fits t ≡ true → totals_in (report_bytes t ++ rest) ≡ t
unfolding totals_in report_bytes sums
totals-back t rest e =
    ap listed (eights-back (sums t) (as_eights ((share t).part ∷ (share t).whole ∷ []) ++ rest) (and_both (ltb (dynamic_blocks t) (2 ^ 64)) _ e).1)

report-long : (t : Totals) (rest : List ℕ) → 120 ≤ length (report_bytes t ++ rest)
unfolding report_bytes sums
report-long t rest = omega arith

-- new totals in a report
renewed-is : (u t : Totals) (rest : List ℕ) → renewed (report_bytes u ++ rest) t ≡ if (fits t) (reported (report_bytes t ++ rest)) no_fit
unfolding renewed report_bytes sums
renewed-is u t rest =
    ap (λ (b : Bool). if (b && fits t) (reported (report_bytes t ++ rest)) no_fit) (le-leb 120 (length (report_bytes u ++ rest)) (report-long u rest))

-- "sums added, the longer path, the share from the sums": 16 exactly if a total would not fit
pub join-renewed : (a b : Totals) (rest other : List ℕ) → fits a ≡ true → fits b ≡ true
    → report_join (report_bytes a ++ rest) (report_bytes b ++ other) ≡ if (fits (join a b)) (reported (report_bytes (join a b) ++ rest)) no_fit
join-renewed a b rest other p q =
    if-true _ _ _ (le-leb 120 _ (report-long b other))
    ∙ ap₂ (λ (x y : Totals). renewed (report_bytes a ++ rest) (join x y)) (totals-back a rest p) (totals-back b other q) ∙ renewed-is a (join a b) rest

-- ---- "fed one after another"

abbrev held_in : Reading → List Map
held_in (holds m) = m ∷ []
held_in (bad at) = []

-- the maps that a folder's files hold
abbrev pub maps-in : List (List ℕ) → List Map
maps-in [] = []
maps-in (b ∷ bs) = held_in (read b) ++ maps-in bs

-- the report after totals, if they fit
abbrev pub told-as : Totals → List ℕ → Option (List ℕ)
told-as t rest = if (fits t) (some (report_bytes t ++ rest)) none

pub feed-is : (bs : List (List ℕ)) (t : Totals) (rest : List ℕ) → fits t ≡ true → feed (report_bytes t ++ rest) bs ≡ told-as (join t (totals_all (maps-in bs))) rest
unfolding feed totals_all
feed-is [] t rest e = sym (ap (λ (u : Totals). told-as u rest) (join-neutral t) ∙ if-true (fits t) _ _ e)
feed-is (b ∷ bs) t rest e = by-reading (read b) (λ u. feed-is bs u rest)
  where
    by-reading : (r : Reading) → ((u : Totals) → fits u ≡ true → feed (report_bytes u ++ rest) bs ≡ told-as (join u (totals_all (maps-in bs))) rest)
        → feed_on (λ (s : List ℕ). feed s bs) (report_bytes t ++ rest) (added (report_bytes t ++ rest) r) ≡ told-as (join t (totals_all (held_in r ++ maps-in bs))) rest
    by-reading (bad at) ih = ih t e
    by-reading (holds m) ih =
        let more = totals_all (maps-in bs) in
        let u = join t (totals_of m) in
        let on : ReportOutcome → Option (List ℕ) = feed_on (λ (s : List ℕ). feed s bs) (report_bytes t ++ rest) in
        ap (λ (x : Totals). on (renewed (report_bytes t ++ rest) (join x (totals_of m)))) (totals-back t rest e) ∙ ap on (renewed-is t u rest)
        ∙ both (λ (o : ReportOutcome). on o ≡ told-as (join u more) rest) (fits u)
        (λ yes. ih u yes)
        (λ off. sym (if-false (fits (join u more)) _ _ (not-whole u more off)))
        ∙ ap (λ (x : Totals). told-as x rest) (join-assoc t (totals_of m) more)

-- ---- feeding a new report, and joining

-- A folder's report: 16 exactly if a total would not fit; a file that holds no map leaves the report as it was.
pub feed-new : (bs : List (List ℕ)) → feed new_report bs ≡ told-as (totals_all (maps-in bs)) []
unfolding report_bytes sums
feed-new bs = feed-is bs nothing_yet [] refl ∙ ap (λ (t : Totals). told-as t []) (neutral-join (totals_all (maps-in bs)))

maps-append : (xs ys : List (List ℕ)) → maps-in (xs ++ ys) ≡ maps-in xs ++ maps-in ys
maps-append [] ys = refl
maps-append (b ∷ xs) ys = ap (λ (l : List Map). held_in (read b) ++ l) (maps-append xs ys) ∙ sym (append_assoc (held_in (read b)) (maps-in xs) (maps-in ys))

-- two reports, one joined to the other
abbrev pub then-join : Option (List ℕ) → Option (List ℕ) → ReportOutcome
then-join none b = no_fit
then-join (some a) none = no_fit
then-join (some a) (some b) = report_join a b

abbrev as-outcome : Option (List ℕ) → ReportOutcome
as-outcome none = no_fit
as-outcome (some b) = reported b

outcome-if : (x : Bool) (b : List ℕ) → if x (reported b) no_fit ≡ as-outcome (if x (some b) none)
unfolding if
outcome-if true b = refl
outcome-if false b = refl

told-join : (a b : Totals) → then-join (told-as a []) (told-as b []) ≡ as-outcome (told-as (join a b) [])
unfolding if
told-join a b = by_tests (fits a) refl (fits b) refl
  where
    out : Bool → Bool → ReportOutcome
    out x y = then-join (if x (some (report_bytes a ++ [])) none) (if y (some (report_bytes b ++ [])) none)

    not-both : fits (join a b) ≡ false → no_fit ≡ as-outcome (told-as (join a b) [])
    not-both e = ap (λ (z : Bool). as-outcome (if z (some (report_bytes (join a b) ++ [])) none)) (sym e)

    by_tests : (x : Bool) → fits a ≡ x → (y : Bool) → fits b ≡ y → out x y ≡ as-outcome (told-as (join a b) [])
    by_tests false p y q = not-both (not-whole a b p)
    by_tests true p false q = not-both (ap fits (join-comm a b) ∙ not-whole b a q)
    by_tests true p true q = join-renewed a b [] [] p q ∙ outcome-if (fits (join a b)) (report_bytes (join a b) ++ [])

-- "Feeding two folders and joining their reports ... gives the report of both together, if no total is refused": and if one is, so is one here.
pub both-together : (xs ys : List (List ℕ)) → then-join (feed new_report xs) (feed new_report ys) ≡ as-outcome (feed new_report (xs ++ ys))
both-together xs ys =
    ap₂ then-join (feed-new xs) (feed-new ys) ∙ told-join (totals_all (maps-in xs)) (totals_all (maps-in ys))
    ∙ ap (λ (t : Totals). as-outcome (told-as t [])) (sym (totals-append (maps-in xs) (maps-in ys)) ∙ ap totals_all (sym (maps-append xs ys)))
    ∙ ap as-outcome (sym (feed-new (xs ++ ys)))

-- ---- the calls on reports: whichever way they are joined, the same bytes or the same refusal

-- what an outcome's report is then joined with
abbrev pub and_then : ReportOutcome → (List ℕ → ReportOutcome) → ReportOutcome
and_then (reported b) f = f b
and_then (bad_map at) f = bad_map at
and_then no_fit f = no_fit

abbrev pub report-out : Totals → ReportOutcome
report-out t = if (fits t) (reported (report_bytes t)) no_fit

module _ (a b : Totals) (p : fits a ≡ true) (q : fits b ≡ true) where
  pub joins : report_join (report_bytes a) (report_bytes b) ≡ report-out (join a b)
  unfolding report_bytes sums
  joins = join-renewed a b [] [] p q

  -- joined to, or with, a third
  joins-on : (f : List ℕ → ReportOutcome) (t : Totals) → (fits (join a b) ≡ true → f (report_bytes (join a b)) ≡ report-out t) → (fits (join a b) ≡ false → fits t ≡ false)
      → and_then (report_join (report_bytes a) (report_bytes b)) f ≡ report-out t
  joins-on f t on off-too =
      ap (λ (o : ReportOutcome). and_then o f) joins
      ∙ both (λ (o : ReportOutcome). and_then o f ≡ report-out t) (fits (join a b)) on (λ off. sym (if-false (fits t) _ _ (off-too off)))

pub joins-comm : (a b : Totals) → fits a ≡ true → fits b ≡ true → report_join (report_bytes a) (report_bytes b) ≡ report_join (report_bytes b) (report_bytes a)
joins-comm a b p q = joins a b p q ∙ ap report-out (join-comm a b) ∙ sym (joins b a q p)

pub joins-assoc : (a b c : Totals) → fits a ≡ true → fits b ≡ true → fits c ≡ true
    → and_then (report_join (report_bytes a) (report_bytes b)) (λ r. report_join r (report_bytes c))
    ≡ and_then (report_join (report_bytes b) (report_bytes c)) (λ r. report_join (report_bytes a) r)
joins-assoc a b c p q r =
    joins-on a b p q (λ s. report_join s (report_bytes c)) (join (join a b) c) (λ yes. joins (join a b) c yes r) (λ off. not-whole (join a b) c off)
    ∙ ap report-out (join-assoc a b c)
    ∙ sym (joins-on b c q r (λ s. report_join (report_bytes a) s) (join a (join b c)) (λ yes. joins a (join b c) p yes)
    (λ off. ap fits (join-comm a (join b c)) ∙ not-whole (join b c) a off))

pub joins-neutral : (a : Totals) → fits a ≡ true → report_join (report_bytes a) new_report ≡ reported (report_bytes a)
unfolding sums
joins-neutral a p = joins a nothing_yet p refl ∙ ap report-out (join-neutral a) ∙ if-true (fits a) _ _ p

-- 120 zero bytes are taken as a new report
pub zeros-new : (b : List ℕ) → b ≡ replicate 120 0 → totals_in b ≡ nothing_yet
unfolding totals_in number
zeros-new b e = rw e

-- ---- the refusals exactly: 12, then 16

-- what a report would then hold, and the numbers of it that have to fit
abbrev pub then-holds : List ℕ → Map → Totals
then-holds report m = join (totals_in report) (totals_of m)

abbrev pub tested : Totals → List ℕ
tested t = dynamic_blocks t ∷ sums t

-- what the call says of a report and a file, and what is then in the report
pub data AddSays (report file : List ℕ) : ReportOutcome → Type 0 where
  file_bad : {at : ℕ} → read file ≡ bad at → AddSays report file (bad_map at)
  report_short : {m : Map} → read file ≡ holds m → length report < 120 → AddSays report file no_fit
  total_large : {m : Map} {n : ℕ} → read file ≡ holds m → In n (tested (then-holds report m)) → 2 ^ 64 ≤ n → AddSays report file no_fit
  all_counted : {m : Map} → read file ≡ holds m → 120 ≤ length report → ((n : ℕ) → In n (tested (then-holds report m)) → n < 2 ^ 64)
      → AddSays report file (reported (over (report_bytes (then-holds report m)) report))

pub add-says : (report file : List ℕ) → AddSays report file (report_add report file)
unfolding renewed if
add-says report file = by-reading (read file) refl
  where
    by_tests : (m : Map) → read file ≡ holds m → (x : Bool) → leb 120 (length report) ≡ x → (y : Bool) → fits (then-holds report m) ≡ y
        → AddSays report file (if (x && y) (reported (over (report_bytes (then-holds report m)) report)) no_fit)
    by_tests m e false p y q = report_short e (leb-false _ _ p)
    by_tests m e true p false q = let k = one-large (tested (then-holds report m)) q in total_large e k.1 k.2
    by_tests m e true p true q = all_counted e (leb-true _ _ p) (each_fits (tested (then-holds report m)) q)

    by-reading : (r : Reading) → read file ≡ r → AddSays report file (added report r)
    by-reading (bad at) e = file_bad e
    by-reading (holds m) e = by_tests m e (leb 120 (length report)) refl (fits (then-holds report m)) refl

-- "either leaves the report as before that map"
pub add-leaves : (report : List ℕ) (o : ReportOutcome) → (reports_as o ≡ 0 → ⊥) → report_after report o ≡ report
add-leaves report (reported b) n = absurd (n refl)
add-leaves report (bad_map at) n = refl
add-leaves report no_fit n = refl

-- ---- the share, and the dynamic blocks

-- "in lowest terms", of the sums
pub share-lowest : (t : Totals) → 0 < dynamic_blocks t → Lowest t.unresolved (dynamic_blocks t) (share t)
share-lowest t h = lowest-is t.unresolved (dynamic_blocks t) h

-- it fits where the totals do
pub share-fits : (t : Totals) → fits t ≡ true → ((share t).part < 2 ^ 64) × ((share t).whole < 2 ^ 64)
unfolding sums
share-fits t e = by_blocks (dynamic_blocks t) (each_fits (tested t) e _ here) (each_fits (tested t) e t.unresolved (there (there (there (there (there (there (there here))))))))
  where
    by_blocks : (d : ℕ) → d < 2 ^ 64 → t.unresolved < 2 ^ 64 → ((lowest t.unresolved d).part < 2 ^ 64) × ((lowest t.unresolved d).whole < 2 ^ 64)
    by_blocks zero h k = omega arith
    by_blocks (suc d) h k = let l = lowest-is t.unresolved (suc d) (omega arith) in (omega (arith, l.part_low), omega (arith, l.whole_low))

one_of : (n : ℕ) → flag (eqb 0 n) + flag (eqb 1 n) + flag (leb 2 n) ≡ 1
one_of zero = refl
one_of (suc zero) = refl
one_of (suc (suc n)) = rw (ne_eqb 0 (suc (suc n)) (λ e. omega arith), ne_eqb 1 (suc (suc n)) (λ e. omega arith), le-leb 2 (suc (suc n)) (omega arith))

-- each dynamic block of a map has no destination, one, or several
dynamic-each : (fs : List Final) → count (dynamic_with (eqb 0)) fs + count (dynamic_with (eqb 1)) fs + count (dynamic_with (leb 2)) fs ≡ count (of_kind 5) fs + count (of_kind 6) fs
dynamic-each [] = refl
dynamic-each (f ∷ fs) = by_kind f.block.kind (dynamic-each fs)
  where
    n : ℕ
    n = length (distinct (dests f.entries))

    of : (ℕ → Bool) → Kind → ℕ
    of g k = flag (leb 5 (kind_number k) && g n)

    by_kind : (k : Kind) → count (dynamic_with (eqb 0)) fs + count (dynamic_with (eqb 1)) fs + count (dynamic_with (leb 2)) fs ≡ count (of_kind 5) fs + count (of_kind 6) fs
        → of (eqb 0) k + count (dynamic_with (eqb 0)) fs + (of (eqb 1) k + count (dynamic_with (eqb 1)) fs) + (of (leb 2) k + count (dynamic_with (leb 2)) fs)
        ≡ flag (eqb 5 (kind_number k)) + count (of_kind 5) fs + (flag (eqb 6 (kind_number k)) + count (of_kind 6) fs)
    by_kind (terminate success) e = omega arith
    by_kind (jump t) e = omega arith
    by_kind (jumpi t u) e = omega arith
    by_kind dynamic_jump e = omega (arith, one_of n)
    by_kind (dynamic_jumpi u) e = omega (arith, one_of n)

pub dynamic-counted : (m : Map) → dynamic_blocks (totals_of m) ≡ (totals_of m).kind_5 + (totals_of m).kind_6
unfolding totals_of
dynamic-counted m = dynamic-each m.blocks

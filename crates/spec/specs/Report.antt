-- Document 02, "No. 11. A release in numbers". Assumes nothing.
use Rattle.std.specs.Prelude.{ℕ, zero, suc, ◌+◌, ◌/◌, ◌%◌, max, Bool, not, ◌&&◌, List, [], ◌∷◌, ◌++◌, eqb, leb, length, get_or}
use Rattle.std.proofs.Math.Option.{Option, none, some}
use Rattle.spec.specs.Lists.{if, gather}
use Rattle.spec.specs.Blocks.{Kind, terminate, jump, jumpi, dynamic_jump, dynamic_jumpi}
use Rattle.spec.specs.Search.{Rec, is_nowhere, dests}
use Rattle.spec.specs.Ending.{Final}
use Rattle.spec.specs.Entries.{Map}
use Rattle.spec.specs.Reader.{Reading, holds, bad, read, told}
use Rattle.spec.specs.Eights.{eights, as_eights, all_fit, over}
use Rattle.spec.specs.Counting.{count, distinct}

-- "maps, blocks of each kind, dynamic blocks with no destination (unresolved), one, or several distinct ones, records with and without destination,
-- longest path, total energy"
pub record Totals : Type 0 where
  pub maps : ℕ
  pub kind_2 : ℕ
  pub kind_3 : ℕ
  pub kind_4 : ℕ
  pub kind_5 : ℕ
  pub kind_6 : ℕ
  pub unresolved : ℕ
  pub with_one : ℕ
  pub with_several : ℕ
  pub records_to : ℕ
  pub records_nowhere : ℕ
  pub longest : ℕ
  pub energy : ℕ

-- in this order, as numbers, and from numbers; one that is missing is 0
unfoldable pub sums : Totals → List ℕ
sums t =
    t.maps ∷ t.kind_2 ∷ t.kind_3 ∷ t.kind_4 ∷ t.kind_5 ∷ t.kind_6 ∷ t.unresolved ∷ t.with_one ∷ t.with_several ∷ t.records_to
    ∷ t.records_nowhere ∷ t.longest ∷ t.energy ∷ []

abbrev pub listed : List ℕ → Totals
listed ns = record {
  maps = get_or ns 0 0;
  kind_2 = get_or ns 1 0;
  kind_3 = get_or ns 2 0;
  kind_4 = get_or ns 3 0;
  kind_5 = get_or ns 4 0;
  kind_6 = get_or ns 5 0;
  unresolved = get_or ns 6 0;
  with_one = get_or ns 7 0;
  with_several = get_or ns 8 0;
  records_to = get_or ns 9 0;
  records_nowhere = get_or ns 10 0;
  longest = get_or ns 11 0;
  energy = get_or ns 12 0;
}

-- ---- what one map says

abbrev pub kind_number : Kind → ℕ
kind_number (terminate success) = 2
kind_number (jump t) = 3
kind_number (jumpi t f) = 4
kind_number dynamic_jump = 5
kind_number (dynamic_jumpi f) = 6

abbrev pub of_kind : ℕ → Final → Bool
of_kind k f = eqb k (kind_number f.block.kind)

-- a dynamic block, the number of whose distinct destinations passes a test
abbrev pub dynamic_with : (ℕ → Bool) → Final → Bool
dynamic_with f b = leb 5 (kind_number b.block.kind) && f (length (distinct (dests b.entries)))

abbrev pub longest_of : List Rec → ℕ
longest_of [] = 0
longest_of (r ∷ rs) = max (length r.path) (longest_of rs)

unfoldable pub totals_of : Map → Totals
totals_of m = record {
  maps = 1;
  kind_2 = count (of_kind 2) m.blocks;
  kind_3 = count (of_kind 3) m.blocks;
  kind_4 = count (of_kind 4) m.blocks;
  kind_5 = count (of_kind 5) m.blocks;
  kind_6 = count (of_kind 6) m.blocks;
  unresolved = count (dynamic_with (eqb 0)) m.blocks;
  with_one = count (dynamic_with (eqb 1)) m.blocks;
  with_several = count (dynamic_with (leb 2)) m.blocks;
  records_to = count (λ (r : Rec). not (is_nowhere r.to)) m.recs;
  records_nowhere = count (λ (r : Rec). is_nowhere r.to) m.recs;
  longest = longest_of (gather (λ (f : Final). f.entries) m.blocks ++ m.recs);
  energy = m.energy;
}

-- ---- joining: "sums added, the longer path"

abbrev pub nothing_yet : Totals
nothing_yet = listed []

unfoldable pub join : Totals → Totals → Totals
join a b = record {
  maps = a.maps + b.maps;
  kind_2 = a.kind_2 + b.kind_2;
  kind_3 = a.kind_3 + b.kind_3;
  kind_4 = a.kind_4 + b.kind_4;
  kind_5 = a.kind_5 + b.kind_5;
  kind_6 = a.kind_6 + b.kind_6;
  unresolved = a.unresolved + b.unresolved;
  with_one = a.with_one + b.with_one;
  with_several = a.with_several + b.with_several;
  records_to = a.records_to + b.records_to;
  records_nowhere = a.records_nowhere + b.records_nowhere;
  longest = max a.longest b.longest;
  energy = a.energy + b.energy;
}

-- a list of maps
unfoldable pub totals_all : List Map → Totals
totals_all [] = nothing_yet
totals_all (m ∷ ms) = join (totals_of m) (totals_all ms)

-- ---- "the share of unresolved dynamic blocks as two whole numbers in lowest terms, 0 over 1 if there are none"

-- the greatest common divisor of a and b, in at most so many steps; b of them are enough (`gcd-greatest`)
unfoldable pub gcd_in : ℕ → ℕ → ℕ → ℕ
gcd_in zero a b = a
gcd_in (suc n) a zero = a
gcd_in (suc n) a (suc b) = gcd_in n (suc b) (a % suc b)

abbrev pub gcd : ℕ → ℕ → ℕ
gcd a b = gcd_in b a b

pub record Share : Type 0 where
  pub part : ℕ
  pub whole : ℕ

abbrev pub lowest : ℕ → ℕ → Share
lowest n zero = record { part = 0; whole = 1 }
lowest n (suc d) = record { part = n / gcd n (suc d); whole = suc d / gcd n (suc d) }

abbrev pub dynamic_blocks : Totals → ℕ
dynamic_blocks t = t.unresolved + t.with_one + t.with_several

abbrev pub share : Totals → Share
share t = lowest t.unresolved (dynamic_blocks t)

-- ---- a report: 15 numbers of 8 bytes

unfoldable pub report_bytes : Totals → List ℕ
report_bytes t = as_eights (sums t ++ (share t).part ∷ (share t).whole ∷ [])

abbrev pub new_report : List ℕ
new_report = report_bytes nothing_yet

-- the totals that a report's bytes have; the share is worked out anew, and what stands there is not read
unfoldable pub totals_in : List ℕ → Totals
totals_in b = listed (eights 13 b)

-- ---- the calls: "12 as in No. 2, then 16, a total would not fit"

pub data ReportOutcome : Type 0 where
  reported : List ℕ → ReportOutcome
  bad_map : ℕ → ReportOutcome
  no_fit : ReportOutcome

-- every total is of 64 bits, and so are the dynamic blocks together
abbrev pub fits : Totals → Bool
fits t = all_fit (dynamic_blocks t ∷ sums t)

-- the report with new totals, if it has room for them and they fit
unfoldable pub renewed : List ℕ → Totals → ReportOutcome
renewed report t = let new = over (report_bytes t) report in if (leb 120 (length report) && fits t) (reported new) no_fit

abbrev pub added : List ℕ → Reading → ReportOutcome
added report (bad at) = bad_map at
added report (holds m) = renewed report (join (totals_in report) (totals_of m))

abbrev pub report_add : List ℕ → List ℕ → ReportOutcome
report_add report map = added report (read map)

abbrev pub report_join : List ℕ → List ℕ → ReportOutcome
report_join report other = if (leb 120 (length other)) (renewed report (join (totals_in report) (totals_in other))) no_fit

-- the exported number
abbrev pub reports_as : ReportOutcome → ℕ
reports_as (reported b) = 0
reports_as (bad_map at) = told 12 at
reports_as no_fit = 16

-- "either leaves the report as before that map"
abbrev pub report_after : List ℕ → ReportOutcome → List ℕ
report_after report (reported b) = b
report_after report (bad_map at) = report
report_after report no_fit = report

-- ---- "a folder of stored maps, fed one after another": the report after them, or none if a total is refused

abbrev pub feed_on : (List ℕ → Option (List ℕ)) → List ℕ → ReportOutcome → Option (List ℕ)
feed_on on report (reported b) = on b
feed_on on report (bad_map at) = on report
feed_on on report no_fit = none

unfoldable pub feed : List ℕ → List (List ℕ) → Option (List ℕ)
feed report [] = some report
feed report (b ∷ bs) = feed_on (λ (r : List ℕ). feed r bs) report (report_add report b)

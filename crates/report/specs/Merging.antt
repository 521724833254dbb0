-- What a report's bytes and a call's answer are, by the outcome. Assumes nothing.
use Rattle.std.specs.Prelude.{ℕ, ◌≡◌, Bool, true, false, List, length, Result, Ok, Err}
use Rattle.spec.specs.Eights.{all_fit}
use Rattle.spec.specs.Report.{Totals, ReportOutcome, reported, bad_map, no_fit, report_after, join, listed, sums, totals_in}
use Rattle.refusal.specs.declared.Refusal.{Refusal}
use Rattle.refusal.specs.declared.Refusal.TheVariants.{Entry, Total}

-- the answer to an outcome: "12 as in No. 2", "16, a total would not fit"
abbrev pub said_of : ReportOutcome → Result Unit Refusal
said_of (reported b) = Ok tt
said_of (bad_map at) = Err (Entry at)
said_of no_fit = Err Total

-- the answer to an outcome, and the report afterwards
pub record Told (report : List ℕ) (o : ReportOutcome) (report' : List ℕ) (r : Result Unit Refusal) : Type 0 where
  pub said : r ≡ said_of o
  pub bytes : report' ≡ report_after report o

-- the totals of a report and of numbers together
abbrev pub together : List ℕ → List ℕ → Totals
together report ns = join (totals_in report) (listed ns)

-- where each fits, or not
abbrev pub fitting : Bool → Result Unit Refusal
fitting true = Ok tt
fitting false = Err Total

-- whether each of them fits; and if so they are the first of the numbers afterwards
pub record Summed (report ns ns' : List ℕ) (r : Result Unit Refusal) : Type 0 where
  pub fit : r ≡ fitting (all_fit (sums (together report ns)))
  pub totals : r ≡ Ok tt → listed ns' ≡ together report ns
  pub long : length ns' ≡ 15

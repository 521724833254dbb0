-- What a call of the exported salvage gives and leaves, against document 02's. Assumes nothing.
use Rattle.std.specs.Prelude.{◌≡◌, ℕ, List}
use Rattle.spec.specs.Salvage.{salvages_as, out_after, printed_after}

-- 0 or 18; and every lent byte afterwards
pub record ExportedSalvage (archive out report out' report' : List ℕ) (x : ℕ) : Type 0 where
  pub number : x ≡ salvages_as archive out report
  pub out_is : out' ≡ out_after archive out report
  pub report_is : report' ≡ printed_after archive out report

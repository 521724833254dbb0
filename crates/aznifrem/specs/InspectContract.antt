-- What calls of aznifrem_inspect and aznifrem_inspect_from give and leave, against document 02's No. 12. Assumes nothing.
use Rattle.std.specs.Prelude.{◌≡◌, ℕ, List, length}
use Rattle.spec.specs.Opcodes.{in_mode}
use Rattle.spec.specs.Reader.{read}
use Rattle.spec.specs.Inspector.{wrong_from, inspect_from, inspect, exported, place_after, rows_after, work_after}

-- the number and value as one; and every lent byte afterwards
pub record ExportedInspect (mode : ℕ) (code map w place w' place' : List ℕ) (x : ℕ) : Type 0 where
  pub number : x ≡ exported (inspect (in_mode mode) code map (length w))
  pub w_is : w' ≡ work_after (inspect (in_mode mode) code map (length w)) w
  pub place_is : place' ≡ place_after (inspect (in_mode mode) code map (length w)) place

pub record ExportedInspectFrom (mode : ℕ) (code map : List ℕ) (from : ℕ) (w rs w' rs' : List ℕ) (x : ℕ) : Type 0 where
  pub number : x ≡ exported (inspect_from (in_mode mode) code map from (length w))
  pub w_is : w' ≡ work_after (inspect_from (in_mode mode) code map from (length w)) w
  pub rows_are : rs' ≡ rows_after (inspect_from (in_mode mode) code map from (length w)) (wrong_from (in_mode mode) code map from (read map)) rs

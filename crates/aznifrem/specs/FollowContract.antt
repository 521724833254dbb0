-- What a call of aznifrem_follow gives and leaves, against document 02's No. 8. Assumes nothing.
use Rattle.std.specs.Prelude.{◌≡◌, ℕ, List}
use Rattle.spec.specs.Follow.{follow_call, follows_as, counts_after, work_after}

-- the number and value as one; and every lent byte afterwards
pub record ExportedFollow (map code log work counts work' counts' : List ℕ) (x : ℕ) : Type 0 where
  pub number : x ≡ follows_as (follow_call map code log counts)
  pub counts_are : counts' ≡ counts_after counts (follow_call map code log counts)
  pub work_is : work' ≡ work_after work (follow_call map code log counts)

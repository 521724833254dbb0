-- What aznifrem_follow gives. Assumes nothing.
use mathlib.Core.Path.{◌≡◌, refl, ap, ◌∙◌}
use Prim.Native.Nat.{ℕ}
use mathlib.Core.List.{List}
use Rattle.std.specs.Prelude.{Result}
use Rattle.spec.specs.Follow.{FollowOutcome, follows, bad_map, uneven_log, no_count_room, follow_call, follows_as}
use Rattle.refusal.specs.declared.Refusal.{Refusal}
use Rattle.follow.specs.Following.{result_of, FollowedAs}
use Rattle.aznifrem.specs.FollowContract.{ExportedFollow}
use Rattle.aznifrem.specs.Told.{told_place}
use Rattle.aznifrem.proofs.Telling.{told_none}

-- an answer as one number
joined : (o : FollowOutcome) → told_place (result_of o) ≡ follows_as o
joined (follows f) = refl
joined (bad_map at) = refl
joined uneven_log = told_none 14
joined no_count_room = told_none 15

pub follow-given : {map code log work counts work' counts' : List ℕ} {r : Result ℕ Refusal} {x : ℕ} → FollowedAs map code log work counts work' counts' r → x ≡ told_place r
    → ExportedFollow map code log work counts work' counts' x
follow-given {map} {code} {log} {counts = counts} d k =
    record { number = k ∙ ap told_place d.result ∙ joined (follow_call map code log counts); counts_are = d.counts_are; work_is = d.work_is }

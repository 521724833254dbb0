-- Document 02, "No. 8": the follower's call. Assumes nothing.
use Prim.Native.Nat.{ℕ, suc, ◌+◌, ◌%◌, ◌≤◌, ◌<◌}
use native.Mathlib.Omega.{arith}
use mathlib.Core.Path.{◌≡◌, refl, ap, ap₂, ◌∙◌}
use mathlib.Core.Bool.{Bool, true, false}
use mathlib.Core.List.{List, [], ◌∷◌, ◌++◌, map}
use lib.Dec.{eqb, leb}
use lib.ListN.{length, replicate, replicate-append-replicate}
use borrow.Author.Tests.{eqb-true, eqb-false, ne_eqb, leb-true, leb-false}
use Rattle.spec.specs.Lists.{if, total}
use Rattle.spec.specs.Ending.{Final}
use Rattle.spec.specs.Entries.{Map}
use Rattle.spec.specs.Reader.{Reading, holds, bad, read}
use Rattle.spec.specs.Counting.{count}
use Rattle.spec.specs.Follow.{Move, Followed, outgoing, outside, move, Way, Counts, none_taken, onward, follow_from, follow, numbers, count_bytes, FollowOutcome, follows, bad_map, uneven_log, no_count_room, steps, followed_as, follow_call, follows_as, counts_after, work_after}
use Rattle.laws.proofs.Branch.{if-false}
use Rattle.theorems.proofs.ReaderAccepted.{read-rises}
use Rattle.theorems.proofs.FollowTrace.{Walked, walked}
use Rattle.theorems.proofs.FollowCounts.{enters, counts_of, follow-is, entries_are, walked_once}

-- ---- the refusals exactly, in their order

pub data FollowSays (stored code log counts : List ℕ) : FollowOutcome → Type 0 where
  map_bad : {at : ℕ} → read stored ≡ bad at → FollowSays stored code log counts (bad_map at)
  log_uneven : {m : Map} → read stored ≡ holds m → (length log % 8 ≡ 0 → ⊥) → FollowSays stored code log counts uneven_log
  room_short : {m : Map} → read stored ≡ holds m → length log % 8 ≡ 0 → length counts < count_bytes m → FollowSays stored code log counts no_count_room
  all_followed : {m : Map} → read stored ≡ holds m → length log % 8 ≡ 0 → count_bytes m ≤ length counts → FollowSays stored code log counts (follows (follow m code (steps log)))

pub follow-says : (stored code log counts : List ℕ) → FollowSays stored code log counts (follow_call stored code log counts)
unfolding if
follow-says stored code log counts = by-reading (read stored) refl
  where
    by_tests : (m : Map) → read stored ≡ holds m → (x : Bool) → eqb (length log % 8) 0 ≡ x → (y : Bool) → leb (count_bytes m) (length counts) ≡ y
        → FollowSays stored code log counts (if x (if y (follows (follow m code (steps log))) no_count_room) uneven_log)
    by_tests m e false p y q = log_uneven e (eqb-false _ _ p)
    by_tests m e true p false q = room_short e (eqb-true _ _ p) (leb-false _ _ q)
    by_tests m e true p true q = all_followed e (eqb-true _ _ p) (leb-true _ _ q)

    by-reading : (r : Reading) → read stored ≡ r → FollowSays stored code log counts (followed_as code log counts r)
    by-reading (bad at) e = map_bad e
    by-reading (holds m) e = by_tests m e (eqb (length log % 8) 0) refl (leb (count_bytes m) (length counts)) refl

-- "the counts untouched", and the work buffer too
pub record Untouched (work counts : List ℕ) (o : FollowOutcome) : Type 0 where
  pub counts_stay : counts_after counts o ≡ counts
  pub work_stays : work_after work o ≡ work

pub refusal-leaves : (work counts : List ℕ) (o : FollowOutcome) → (follows_as o % 256 ≡ 0 → ⊥) → Untouched work counts o
refusal-leaves work counts (follows f) n = absurd (n (omega arith))
refusal-leaves work counts (bad_map at) n = record { counts_stay = refl; work_stays = refl }
refusal-leaves work counts uneven_log n = record { counts_stay = refl; work_stays = refl }
refusal-leaves work counts no_count_room n = record { counts_stay = refl; work_stays = refl }

-- ---- of a stored map

-- What the follower says of a log, by the log's walk through the map, however that is found: the place is the number of its steps, each block's count how often it
-- enters the block, each edge's how often it goes that way; and the block counts come to the number of its entries.
pub record Counted (m : Map) (code log : List ℕ) (vs : List Move) : Type 0 where
  pub place_is : (follow m code log).place ≡ length vs
  pub counts_are : (follow m code log).counts ≡ map (counts_of vs) m.blocks
  pub entries_are_all : total (λ (c : Counts). c.entered) (follow m code log).counts ≡ count enters vs

pub stored-follow : (stored : List ℕ) (m : Map) → read stored ≡ holds m → (code log : List ℕ) (vs : List Move) → Walked m code outside log vs → Counted m code log vs
stored-follow stored m e code log vs w =
    let rising = read-rises stored m e in
    let same = walked_once m code rising (walked m code log outside) w in
    let is = follow-is m code log in
    record {
      place_is = ap (λ (f : Followed). f.place) is ∙ ap length same;
      counts_are = ap (λ (f : Followed). f.counts) is ∙ ap (λ (l : List Move). map (counts_of l) m.blocks) same;
      entries_are_all = entries_are m code rising log ∙ ap (count enters) same;
    }

-- ---- "A log not starting at 0 stops at its first step; an empty log reports zeros."

pub not-from-0 : (m : Map) (code log : List ℕ) (q : ℕ) → (q ≡ 0 → ⊥) → follow m code (q ∷ log) ≡ record { place = 0; counts = map none_taken m.blocks }
unfolding follow_from move
not-from-0 m code log q n = ap (onward 0 (map none_taken m.blocks) (λ s p ds. follow_from m code log s p ds) q) (if-false (eqb q 0) _ _ (ne_eqb q 0 n))

pub of-no-step : (m : Map) (code : List ℕ) → follow m code [] ≡ record { place = 0; counts = map none_taken m.blocks }
unfolding follow_from
of-no-step m code = refl

times_zero : (ts : List ℕ) → map (λ (w : Way). w.times) (map (λ (t : ℕ). record { to = t; times = 0 }) ts) ≡ replicate (length ts) 0
times_zero [] = refl
times_zero (t ∷ ts) = ap {B = List ℕ} (λ (l : List ℕ). 0 ∷ l) (times_zero ts)

pub zeros : (fs : List Final) → numbers (map none_taken fs) ≡ replicate (total (λ (f : Final). suc (length (outgoing f))) fs) 0
zeros [] = refl
zeros (f ∷ fs) =
    let n = length (outgoing f) in
    let k = total (λ (g : Final). suc (length (outgoing g))) fs in
    ap {B = List ℕ} (λ (l : List ℕ). 0 ∷ l) (ap₂ (λ (x y : List ℕ). x ++ y) (times_zero (outgoing f)) (zeros fs) ∙ replicate-append-replicate n k 0)
    ∙ ap (λ (i : ℕ). replicate i 0) (suc-sum n k)
  where
    suc-sum : (n k : ℕ) → suc (n + k) ≡ suc n + k
    suc-sum n k = omega arith

-- Document 02, No. 12, at the call: the bytes of an answered run's map, "shown with that run's edges before pruning", are accepted: no refusal, no bad entry, and
-- every path entry with a destination is right. Assumes nothing.
use Prim.Native.Nat.{ℕ, ◌≤◌}
use mathlib.Core.Path.{◌≡◌, sym, ap, subst, ◌∙◌}
use mathlib.Core.Logic.{◌⊎◌, inl, inr}
use mathlib.Core.List.{List, map}
use lib.ListN.{length}
use Rattle.spec.specs.Lists.{gather}
use Rattle.spec.specs.Opcodes.{Rules}
use Rattle.spec.specs.Stacks.{Stack}
use Rattle.spec.specs.Search.{Found, nowhere, found, Rec}
use Rattle.spec.specs.Ending.{Final}
use Rattle.spec.specs.Rooms.{work_need, Lent}
use Rattle.spec.specs.Entries.{Map, bytes}
use Rattle.spec.specs.Answer.{answered, searched, answer}
use Rattle.spec.specs.Reader.{stateless, plain_rec, plain_record, plain_final, plain}
use Rattle.spec.specs.Inspector.{accepted, inspect, unpruned}
use Rattle.laws.proofs.Members.{In, in-cases, in-gather, in_map}
use Rattle.theorems.proofs.Demand3.{gave}
use Rattle.theorems.proofs.Bounds.{final-entry, unpruned-bounded}
use Rattle.theorems.proofs.ReaderPlaces.{never}
use Rattle.theorems.proofs.ReaderRead.{read-written}
use Rattle.theorems.proofs.ReaderAnswered.{bounded-fits}
use Rattle.theorems.proofs.InspectorRight.{Right}
use Rattle.theorems.proofs.InspectorPaths.{right-more, plain-edge, shown, record-right}
use Rattle.theorems.proofs.InspectorCall.{paths-of, RightEntry, right-accepted}
use Rattle.theorems.proofs.Counts.{Lawful}

module _ (rules : Rules) (ok : Lawful rules.row) (l : Lent) (limit choice : ℕ) (code : List ℕ) (a : Map) (e : answer rules l limit choice code ≡ answered a) where
  abbrev the-map : Map
  the-map = shown rules ok limit choice code

  -- ---- its path entries are records

  record Recorded (r : Rec) : Type 0 where
    kept : Rec
    member : In kept (searched rules limit code).recs
    number : ℕ
    is : r ≡ record { start = kept.start; to = stateless kept.to; path = kept.path; energy = number }

  paths-recorded : (r : Rec) → In r (paths-of (plain the-map)) → Recorded r
  unfolding unpruned
  paths-recorded r i = by_part (in-cases (gather (λ (f : Final). f.entries) (plain the-map).blocks) i)
    where
      by_part : In r (gather (λ (f : Final). f.entries) (plain the-map).blocks) ⊎ In r (map (plain_record the-map.numbered) the-map.recs) → Recorded r
      by_part (inl j) =
          let g = in-gather (λ (f : Final). f.entries) (plain the-map).blocks j in
          let f = in_map plain_final the-map.blocks g.1 in
          let q = in_map plain_rec f.0.entries (subst (λ (h : Final). In r h.entries) f.2 g.2) in
          record { kept = q.0; member = final-entry rules ok l limit choice code a e f.0 f.1 q.0 q.1; number = 0; is = q.2 }
      by_part (inr j) = let q = in_map (plain_record the-map.numbered) the-map.recs j in record { kept = q.0; member = q.1; number = _; is = q.2 }

  kept-to : {t : ℕ} {s : Stack} (x : Found) → stateless x ≡ found t s → (z : Stack) × (x ≡ found t z)
  kept-to nowhere q = never (cc)
  kept-to (found u z) q = (z, cc)

  path-right : (r : Rec) → In r (paths-of (plain the-map)) → RightEntry rules ok code (plain the-map) r
  path-right r i = record { right = right-to }
    where
      k : Recorded r
      k = paths-recorded r i

      right-to : (t : ℕ) (s : Stack) → r.to ≡ found t s → Right rules ok code (plain the-map) r.start r.path t
      right-to t s q =
          let f = kept-to k.kept.to (sym (ap (λ (x : Rec). x.to) k.is) ∙ q) in
          let right = record-right rules ok limit choice code k.member f.1 in
          subst (λ (x : Rec). Right rules ok code (plain the-map) x.start x.path t) (sym k.is)
          (right-more rules ok code the-map k.kept.start k.kept.path t (plain the-map) (plain-edge rules ok the-map) right)

  -- The inspector accepts it, W being long enough.
  pub shown-accepted : (work : ℕ) → work_need (length code) ≤ work → inspect rules code (bytes the-map) work ≡ accepted
  shown-accepted work h =
      let t = (gave rules l limit choice code a e).taken in
      right-accepted rules ok code (bytes the-map) work (plain the-map) (record { code_fits = t.code_fits; mode-fits = t.mode-fits; work-fits = h })
      (read-written the-map (bounded-fits _ the-map (unpruned-bounded rules ok l limit choice code a e))) path-right

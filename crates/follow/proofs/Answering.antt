-- The follower's answers and refusals. Assumes nothing.
use Rattle.std.proofs.Common.{◌≡◌, ℕ, suc, true, false, ◌+◌, ◌*◌, ◌/◌, ◌%◌, ◌^◌, ◌<◌, ◌≤◌, eqb, leb, List, ◌++◌, length, drop, replicate, sym, refl, ap, ◌∙◌, subst, arith, drop_at, eq-eqb, ne_eqb, le-leb, Option as Maybe, Result, Ok, Err, IsErr, IsErrAnd}
use lib.ListN.{length-replicate}
use borrow.Author.Tests.{lt-leb}
use Rattle.spec.specs.Lists.{total}
use Rattle.spec.specs.Ending.{Final}
use Rattle.spec.specs.Entries.{Map}
use Rattle.spec.specs.Reader.{Reading as Said, holds, bad, read}
use Rattle.spec.specs.Eights.{as_eights, over}
use Rattle.spec.specs.Follow as spec
use Rattle.spec.specs.Follow.{follow, numbers, steps, count_bytes, FollowOutcome, follows, bad_map, uneven_log, no_count_room, followed_as, follow_call, counts_after, work_after}
use Rattle.laws.proofs.Branch.{if-true, if-false}
use Rattle.theorems.proofs.ReaderPlaces.{never}
use Rattle.theorems.proofs.FollowCounts.{counts-room}
use Rattle.lent.specs.Bytes.{patch, Stored}
use Rattle.reader.specs.Scanning.{reading_of}
use Rattle.reader.specs.Walks.{Walking}
use Rattle.reader.specs.declared.scan.BadEntry.{BadEntry}
use Rattle.reader.proofs.Walked.{begun}
use Rattle.follow.specs.Blocks.{finals_at}
use Rattle.follow.specs.Finding.{slots_of, Fitting, room_in, Ready, Filled}
use Rattle.follow.specs.Walking.{Zeroed, Walked}
use Rattle.follow.specs.Following.{Answered, result_of, FollowedAs}
use Rattle.refusal.specs.declared.Refusal.{Refusal}
use Rattle.refusal.specs.declared.Refusal.TheVariants.{Entry, Log}
use Rattle.follow.proofs.Following.{held-blocks}

-- ---- answer

module _ (b c : List ℕ) {c₁ : List ℕ} (n : ℕ) (e : n ≡ slots_of (finals_at b 0)) (l : 8 * n ≤ length c) (s : Stored (8 * n) c 0 (replicate (8 * n) 0) c₁) where
  front : c₁ ≡ over (replicate (8 * n) 0) c
  unfolding patch
  front = s.is ∙ ap (λ (k : ℕ). replicate (8 * n) 0 ++ drop k c) (zero_more (length (replicate (8 * n) 0)))
    where
      zero_more : (k : ℕ) → 0 + k ≡ k
      zero_more k = omega arith

  rest-same : (k : ℕ) → k ≡ 8 * n → drop k c₁ ≡ drop k c
  rest-same k q =
      ap (drop k) front ∙ drop_at (replicate (8 * n) 0) (drop (length (replicate (8 * n) 0)) c) k (length-replicate (8 * n) 0 ∙ sym q)
      ∙ ap (λ (j : ℕ). drop j c) (length-replicate (8 * n) 0 ∙ sym q)

  pub answer-zeroed : Zeroed b c₁
  answer-zeroed =
      record {
        fits = omega (arith, s.kept);
        zeros = front ∙ ap (λ (k : List ℕ). replicate (8 * n) 0 ++ k) (sym (rest-same (length (replicate (8 * n) 0)) (length-replicate (8 * n) 0)))
            ∙ ap (λ (k : ℕ). over (replicate (8 * k) 0) c₁) e;
      }

  module _ {code log work work₁ work₂ work₃ c₂ : List ℕ} {rows : Maybe ℕ} {r : ℕ} (w : work₁ ≡ replicate (length work) 0) (f : Filled b work₁ work₂ rows)
      (k : Walked b code log c₁ c₂ r) (v : work₃ ≡ replicate (length work₂) 0) where
    pub answer-is : Answered b code log work c work₃ c₂ r
    unfolding slots_of
    answer-is =
        record {
          place = k.place;
          counts_are = λ m g. k.counts m g ∙ ap (λ (x : List ℕ). as_eights (numbers (follow m code (steps log)).counts) ++ x)
              (rest-same (length (as_eights (numbers (follow m code (steps log)).counts)))
              (counts-room m code (steps log) ∙ ap (λ (fs : List Final). 8 * total (λ (f : Final). suc (length (spec.outgoing f))) fs) (held-blocks b m g) ∙ ap (λ (j : ℕ). 8 * j) (sym e)));
          work_is = v ∙ ap (λ (j : ℕ). replicate j 0) (f.kept ∙ ap length w ∙ length-replicate (length work) 0);
        }

-- ---- follow

-- what `?` passes on
pub passed-on : {A : Type 0} {r : Result A Refusal} {e : Refusal} → IsErr r × IsErrAnd r (λ (x : Refusal). x ≡ e) → r ≡ Err e
passed-on {r = Ok x} h = let z : false ≡ true = h.0 in never (cc)
passed-on {r = Err x} h = ap (λ (y : Refusal). Err y) h.1

module _ (b code log work counts : List ℕ) where
  abbrev outcome : FollowOutcome
  outcome = follow_call b code log counts

  -- by what the call comes to
  by-outcome : {work' counts' : List ℕ} {r : Result ℕ Refusal} (o : FollowOutcome) → outcome ≡ o → r ≡ result_of o → counts' ≡ counts_after counts o → work' ≡ work_after work o → FollowedAs b code log work counts work' counts' r
  by-outcome {work'} {counts'} {r} o e x y z =
      record {
        result = x ∙ ap result_of (sym e);
        counts_are = y ∙ ap (counts_after counts) (sym e);
        work_is = z ∙ ap (work_after work) (sym e);
      }

  module _ {r : Result Unit BadEntry} (h : r ≡ reading_of (read b)) where
    pub follow-bad : {o : BadEntry} → r ≡ Err o → FollowedAs b code log work counts work counts (Err (Entry o.offset))
    follow-bad {o} z = by_said (read b) refl
      where
        by_said : (s : Said) → read b ≡ s → FollowedAs b code log work counts work counts (Err (Entry o.offset))
        by_said (holds m) e = let k : Ok tt ≡ Err o = sym (h ∙ ap reading_of e) ∙ z in never (cc)
        by_said (bad at) e =
            let k : Err o ≡ Err (record { offset = at }) = sym z ∙ h ∙ ap reading_of e in
            let same : o ≡ record { offset = at } = cc in
            by-outcome (bad_map at) (ap (followed_as code log counts) e) (ap (λ (x : BadEntry). Err (Entry x.offset)) same) refl refl

    module _ {u : Unit} (z : r ≡ Ok u) where
      abbrev its : Map
      its = (begun b h z).0

      held : read b ≡ holds its
      held = (begun b h z).1.held

      pub follow-walking : Walking b 0
      follow-walking = (begun b h z).1.walking

      pub follow-uneven : (length log % 8 ≡ 0 → ⊥) → FollowedAs b code log work counts work counts (Err Log)
      follow-uneven n =
          by-outcome uneven_log (ap (followed_as code log counts) held ∙ if-false (eqb (length log % 8) 0) _ _ (ne_eqb (length log % 8) 0 n)) refl refl refl

      bytes_are : count_bytes its ≡ 8 * slots_of (finals_at b 0)
      unfolding slots_of
      bytes_are = ap (λ (fs : List Final). 8 * total (λ (f : Final). suc (length (spec.outgoing f))) fs) (held-blocks b its held)

      module _ (even : length log % 8 ≡ 0) {x : Result ℕ Refusal} (g : room_in (length counts / 8) (slots_of (finals_at b 0)) x) where
        pub follow-short : {o : Refusal} → x ≡ Err o → FollowedAs b code log work counts work counts (Err o)
        follow-short {o} q =
            let l = subst (room_in (length counts / 8) (slots_of (finals_at b 0))) q g in
            by-outcome no_count_room
            (ap (followed_as code log counts) held ∙ if-true (eqb (length log % 8) 0) _ _ (eq-eqb (length log % 8) 0 even)
            ∙ if-false (leb (count_bytes its) (length counts)) _ _ (lt-leb (count_bytes its) (length counts) (omega (arith, bytes_are, l.1)))) (ap (λ (k : Refusal). Err k) l.0) refl refl

        module _ {n : ℕ} (q : x ≡ Ok n) where
          fitting : Fitting (length counts / 8) (slots_of (finals_at b 0)) n
          fitting = subst (room_in (length counts / 8) (slots_of (finals_at b 0))) q g

          pub follow-count : n ≡ slots_of (finals_at b 0)
          follow-count = fitting.is

          pub follow-room : 8 * n ≤ length counts
          follow-room = omega (arith, fitting.fits)

          pub follow-ready : length counts < 2 ^ 64 → Ready b
          follow-ready small = record { map = its; held = held; few = omega (arith, fitting.fits, fitting.is) }

          pub follow-answer : {work' counts' : List ℕ} {p : ℕ} → Answered b code log work counts work' counts' p → FollowedAs b code log work counts work' counts' (Ok p)
          follow-answer a =
              by-outcome (follows (follow its code (steps log)))
              (ap (followed_as code log counts) held ∙ if-true (eqb (length log % 8) 0) _ _ (eq-eqb (length log % 8) 0 even)
              ∙ if-true (leb (count_bytes its) (length counts)) _ _ (le-leb (count_bytes its) (length counts) (omega (arith, bytes_are, fitting.fits, fitting.is))))
              (ap (λ (k : ℕ). Ok k) (a.place its held)) (a.counts_are its held) a.work_is

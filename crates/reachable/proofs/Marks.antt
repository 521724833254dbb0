-- The laws of marks and flags: what is read, what `mark` leaves, and what a wiped W holds. Assumes nothing.
use mathlib.Core.Path.{◌≡◌, refl, sym, ap, ◌∙◌}
use mathlib.Core.Bool.{not}
use mathlib.Core.List.{List, [], ◌∷◌}
use Prim.Native.Nat.{ℕ, zero, suc, ◌+◌, ◌-◌, ◌≤◌, ◌<◌}
use native.Mathlib.Decide.{ℕ_discrete}
use native.Mathlib.Omega.{arith}
use lib.Dec.{eqb}
use lib.ListN.{take, drop, replicate}
use borrow.Author.Tests.{eq-eqb, ne_eqb}
use Rattle.spec.specs.Lists.{if, mem, little}
use Rattle.laws.proofs.Branch.{if-true, if-false}
use Rattle.lent.specs.Bytes.{Holds, Stored, num_at}
use Rattle.lent.proofs.Numbers.{length-little, num-zeros}
use Rattle.lent.proofs.Stored.{stored, kept-take, read_back, read-num, read-part}
use Rattle.layout.specs.Fields.{HIGHEST, FLAG, mark_at, high_at, flag_at, entry_at}
use Rattle.layout.specs.Parts.{rows_end, fields_place, list_place, SameRows}
use Rattle.reachable.specs.Marks.{flagged}
use Rattle.reachable.specs.Promises.{Address, Kept, Begun, Marked}
use Rattle.reachable.proofs.Flags.{flagged-test, flagged-none}
use Rattle.reachable.proofs.Frames.{kept-none, mark-kept, mark-others, mark-flags, mark-entries}

-- ---- what is read

pub is-flagged : {n a f : ℕ} {w : List ℕ} → Address n w a → Holds 1 w (fields_place n a + FLAG) f → not (eqb f 0) ≡ mem a (flagged w n)
is-flagged {n} {a} {w} at h = rw (flagged-test w n a at.inside, ← h.is)

-- ---- what `mark` leaves

pub mark-stays : {n a m : ℕ} {w : List ℕ} (when : ℕ) → Holds 4 w (fields_place n a) m → (m ≡ 0 → ⊥) → Marked n w a when w
mark-stays {n} {a} {m} {w} when h ne =
    record { is = sym (if-false (eqb (mark_at w n a) 0) _ w (rw (← h.is) (ne_eqb m 0 ne))); long = refl }

pub mark-sets : {n a m when : ℕ} {w w' : List ℕ} → Holds 4 w (fields_place n a) m → m ≡ 0 → Stored 4 w (fields_place n a) (little 4 when) w' → Marked n w a when w'
mark-sets {n} {a} {m} {w} h e s =
    record { is = s.is ∙ sym (if-true (eqb (mark_at w n a) 0) _ w (rw (← h.is) (eq-eqb m 0 e))); long = s.kept }

module _ {n a when : ℕ} {w w' : List ℕ} (at : Address n w a) (m : Marked n w a when w') where
  -- there was no mark and one is stored, or all stays
  pub by-mark : {F : Type 0} → (mark_at w n a ≡ 0 → Stored 4 w (fields_place n a) (little 4 when) w' → F) → ((mark_at w n a ≡ 0 → ⊥) → w' ≡ w → F) → F
  by-mark {F} f g = split (ℕ_discrete (mark_at w n a) 0)
    where
      split : Dec (mark_at w n a ≡ 0) → F
      split (yes e) =
          f e (stored 4 w (fields_place n a) (little 4 when) w' (m.is ∙ if-true (eqb (mark_at w n a) 0) _ w (eq-eqb _ 0 e)) (length-little 4 when)
          (omega (arith, at.inside, at.lent.room)))
      split (no ne) = g ne (m.is ∙ if-false (eqb (mark_at w n a) 0) _ w (ne_eqb _ 0 ne))

  pub marked-kept : Kept n w w'
  marked-kept = by-mark (λ _ s. mark-kept at.inside s) (λ _ e. rw e kept-none)

  pub marked-flags : (y : ℕ) → flag_at w' n y ≡ flag_at w n y
  marked-flags y = by-mark (λ _ s. mark-flags at.inside s y) (λ _ e. rw e)

  pub marked-entries : (i : ℕ) → entry_at w' n i ≡ entry_at w n i
  marked-entries i = by-mark (λ _ s. mark-entries at.inside s i) (λ _ e. rw e)

  pub marked-others : (y : ℕ) → (y ≡ a → ⊥) → mark_at w' n y ≡ mark_at w n y
  marked-others y ne = by-mark (λ _ s. mark-others at.inside s y ne) (λ _ e. rw e)

  pub marked-one : when < 4294967296 → mark_at w' n a ≡ if (eqb (mark_at w n a) 0) when (mark_at w n a)
  marked-one h =
      by-mark (λ z s. read_back s h ∙ sym (if-true (eqb (mark_at w n a) 0) when _ (eq-eqb _ 0 z)))
      (λ z e. ap (λ (l : List ℕ). mark_at l n a) e ∙ sym (if-false (eqb (mark_at w n a) 0) when _ (ne_eqb _ 0 z)))

-- ---- a wiped W

part-zeros : (k o n : ℕ) → o + k ≤ n → take {A = ℕ} k (drop o (replicate n 0)) ≡ replicate k 0
part-zeros zero o n h = refl
part-zeros (suc k) zero zero h = absurd (omega arith)
part-zeros (suc k) zero (suc n) h = ap (λ (l : List ℕ). 0 ∷ l) (part-zeros k zero n (omega arith))
part-zeros (suc k) (suc o) zero h = absurd (omega arith)
part-zeros (suc k) (suc o) (suc n) h = part-zeros (suc k) o n (omega arith)

module _ {n : ℕ} {w w' : List ℕ} (b : Begun n w w') where
  -- anything of what was wiped
  pub begun-num : (k i : ℕ) → rows_end n ≤ i → i + k ≤ list_place n → num_at k w' i ≡ 0
  begun-num k i h g =
      let e : rows_end n + (i - rows_end n) ≡ i = omega arith in
      rw e at (read-num b.wipes k (i - rows_end n) (omega arith)) ∙ num-zeros k (rows_end n) (i - rows_end n)

  pub begun-part : (k i : ℕ) → rows_end n ≤ i → i + k ≤ list_place n → take k (drop i w') ≡ replicate k 0
  begun-part k i h g =
      let e : rows_end n + (i - rows_end n) ≡ i = omega arith in
      rw e at (read-part b.wipes k (i - rows_end n) (omega arith)) ∙ part-zeros k (i - rows_end n) (rows_end n) (omega arith)

  pub begun-marks : (x : ℕ) → x ≤ n → mark_at w' n x ≡ 0
  begun-marks x h = begun-num 4 (fields_place n x) (omega arith) (omega arith)

  pub begun-highs : (x : ℕ) → x ≤ n → high_at w' n x ≡ 0
  begun-highs x h = begun-num 2 (fields_place n x + HIGHEST) (omega arith) (omega arith)

  pub begun-flags : (x : ℕ) → x ≤ n → flag_at w' n x ≡ 0
  begun-flags x h = begun-num 1 (fields_place n x + FLAG) (omega arith) (omega arith)

  pub begun-flagged : flagged w' n ≡ []
  begun-flagged = flagged-none w' n begun-flags

  pub begun-rows : SameRows n w w'
  begun-rows = kept-take b.wipes (rows_end n) (omega arith)

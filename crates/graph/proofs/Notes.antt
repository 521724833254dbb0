-- The laws of the notes: a destination is joined to one, a record is noted, and then all records. Assumes nothing.
use mathlib.Core.Path.{◌≡◌, refl, sym, ap, ◌∙◌}
use mathlib.Core.List.{List}
use Prim.Native.Nat.{ℕ, ◌+◌, ◌≤◌, ◌<◌}
use native.Mathlib.Decide.{ℕ_discrete}
use native.Mathlib.Numerals.{add-one}
use native.Mathlib.Omega.{arith}
use lib.Dec.{eqb}
use borrow.Author.Tests.{eq-eqb, ne_eqb}
use Rattle.spec.specs.Lists.{if, little}
use Rattle.laws.proofs.Branch.{both, if-true, if-false}
use Rattle.lent.specs.Bytes.{Holds, Stored}
use Rattle.lent.proofs.Stored.{kept-take, kept-num, read_back, kept-drop}
use Rattle.layout.specs.Fields.{NOTE, note_at}
use Rattle.layout.specs.Marks.{NOWHERE}
use Rattle.layout.specs.Parts.{rows_end, fields_place, list_place}
use Rattle.layout.specs.Records.{record_place, R-TO, start_at, to_at}
use Rattle.reachable.specs.Promises.{Room}
use Rattle.graph.specs.Notes.{several, joined, stepped, note_of}
use Rattle.graph.specs.Promises.{Starts, RowsKept, NotedRow, Notes, Noted}

-- ---- a destination is joined to a note

module _ (old to : ℕ) where
  pub join_first : old ≡ 0 → to + 1 ≡ joined old to
  unfolding joined
  join_first e = sym (if-true _ _ _ (eq-eqb old 0 e))

  pub join-same : (old ≡ 0 → ⊥) → old ≡ to + 1 → old ≡ joined old to
  unfolding joined
  join-same z e = sym (if-false _ _ _ (ne_eqb old 0 z) ∙ if-true _ _ _ (eq-eqb old (to + 1) e))

  pub join-other : (old ≡ 0 → ⊥) → (old ≡ to + 1 → ⊥) → several ≡ joined old to
  unfolding joined
  join-other z e = sym (if-false _ _ _ (ne_eqb old 0 z) ∙ if-false _ _ _ (ne_eqb old (to + 1) e))

  joined_small : old < 4294967296 → to < 65536 → joined old to < 4294967296
  unfolding joined
  joined_small h g =
      both (λ (v : ℕ). v < 4294967296) (eqb old 0) (λ _. omega arith) (λ _. both (λ (v : ℕ). v < 4294967296) (eqb old (to + 1)) (λ _. h) (λ _. omega arith))

-- ---- a record is noted

pub note-none : {n i to : ℕ} {w r : List ℕ} → Holds 2 r (record_place i + R-TO) to → to ≡ NOWHERE → NotedRow n w r i w
unfolding stepped
note-none {n} {i} {w} {r} h e = record {
  notes = λ a _. sym (both (λ (v : ℕ). v ≡ note_at w n a) (eqb a (start_at r i)) (λ _. if-true _ _ _ (eq-eqb (to_at r i) NOWHERE (sym h.is ∙ e))) (λ _. refl));
  kept = record { rows = refl; beyond = refl; long = refl };
}

pub note-one : {n i to a old v : ℕ} {w r w' : List ℕ} → Starts n r i → Holds 2 r (record_place i + R-TO) to → (to ≡ NOWHERE → ⊥) → Holds 2 r (record_place i) a
    → Holds 4 w (fields_place n a + NOTE) old → v ≡ joined old to → Stored 4 w (fields_place n a + NOTE) (little 4 v) w' → NotedRow n w r i w'
unfolding stepped
note-one {n} {i} {to} {a} {old} {v} {w} {r} {w'} s t ne h o e p = record {
  notes = λ x l. split x (ℕ_discrete x a);
  kept = record { rows = kept-take p (rows_end n) (omega arith); beyond = kept-drop p (list_place n) (omega (arith, h.is, s.start)); long = p.kept };
}
  where
    there : to_at r i ≡ NOWHERE → ⊥
    there z = ne (t.is ∙ z)

    split : (x : ℕ) → Dec (x ≡ a) → note_at w' n x ≡ if (eqb x (start_at r i)) (if (eqb (to_at r i) NOWHERE) (note_at w n x) (joined (note_at w n x) (to_at r i))) (note_at w n x)
    split x (yes q) =
        rw (
          if-true (eqb x (start_at r i)) (if (eqb (to_at r i) NOWHERE) (note_at w n x) (joined (note_at w n x) (to_at r i))) (note_at w n x) (eq-eqb x (start_at r i) (q ∙ h.is)),
          if-false (eqb (to_at r i) NOWHERE) (note_at w n x) (joined (note_at w n x) (to_at r i)) (ne_eqb (to_at r i) NOWHERE there),
          q,
          ← o.is,
          ← t.is,
          ← e,
        )
        (read_back p (rw e (joined_small old to o.small t.small)))
    split x (no q) =
        rw (if-false (eqb x (start_at r i)) (if (eqb (to_at r i) NOWHERE) (note_at w n x) (joined (note_at w n x) (to_at r i))) (note_at w n x) (ne_eqb x (start_at r i) (λ z. q (z ∙ sym h.is))))
        (kept-num p 4 (fields_place n x + NOTE) (λ l. omega arith))

-- ---- all records

note-next : (r : List ℕ) (a i : ℕ) → note_of r a (i + 1) ≡ stepped r i a (note_of r a i)
unfolding note_of
note-next r a i = rw add-one

-- the first i are noted
pub record Noting (n m : ℕ) (w₀ r w : List ℕ) (i : ℕ) : Type 0 where
  pub notes : (a : ℕ) → a ≤ n → note_at w n a ≡ note_of r a i
  pub kept : RowsKept n w₀ w
  pub inside : i ≤ m

module _ {n m : ℕ} {r w₀ : List ℕ} (a : Notes n m w₀ r) where
  pub note-start : Noting n m w₀ r w₀ 0
  unfolding note_of
  note-start = record { notes = a.none; kept = record { rows = refl; beyond = refl; long = refl }; inside = omega arith }

  pub note-room : {w : List ℕ} {i : ℕ} → Noting n m w₀ r w i → Room n w
  note-room g = record { short = a.lent.short; room = omega (arith, a.lent.room, g.kept.long) }

pub note-done : {n m i : ℕ} {w₀ r w : List ℕ} → Noting n m w₀ r w i → m ≤ i → Noted n m w₀ r w
note-done {m} {i} g h =
    let e : i ≡ m = omega (arith, g.inside) in
    record { notes = rw e at g.notes; kept = g.kept }

pub note-row : {n m i : ℕ} {w r : List ℕ} → Notes n m w r → i < m → Starts n r i
note-row {i} a h = a.each i h

pub note-turn : {n m i : ℕ} {w₀ r w w' : List ℕ} → Noting n m w₀ r w i → i < m → NotedRow n w r i w' → Noting n m w₀ r w' (i + 1)
note-turn {i} {r} g h t = record {
  notes = λ a l. t.notes a l ∙ ap (stepped r i a) (g.notes a l) ∙ sym (note-next r a i);
  kept = record { rows = t.kept.rows ∙ g.kept.rows; beyond = t.kept.beyond ∙ g.kept.beyond; long = t.kept.long ∙ g.kept.long };
  inside = omega arith;
}

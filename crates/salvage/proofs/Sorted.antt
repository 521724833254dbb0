-- What an entry is to the counting of a map's end, by its class. Assumes nothing.
use mathlib.Core.Path.{◌≡◌, refl, sym, ap, ◌∙◌}
use mathlib.Core.Bool.{Bool, true, false, not}
use mathlib.Core.List.{List}
use Prim.Native.Nat.{ℕ, ◌+◌, ◌-◌}
use native.Mathlib.Omega.{arith}
use Rattle.std.specs.Prelude.{Option, Some, None, is_some, Result, Ok, Err}
use lib.Dec.{eqb, leb}
use lib.ListN.{length}
use borrow.Author.Tests.{eqb-true, ne_eqb}
use Rattle.spec.specs.Lists.{if}
use Rattle.spec.specs.Entries.{way_kind, record_kind, numbered_kind, absent}
use Rattle.spec.specs.Forms.{sort, field, Sort, HEAD, BLOCK, WAY, RECORD, UNKNOWN, TERMINATE, JUMP, JUMPI, DYNAMIC-JUMP, DYNAMIC-JUMPI, long}
use Rattle.spec.specs.BadEntries.{block_in, record_in}
use Rattle.spec.specs.Salvage.{runs as runs_on}
use Rattle.laws.proofs.Branch.{both}
use Rattle.theorems.proofs.ReaderPlaces.{never}
use Rattle.theorems.proofs.ReaderItems.{by_kind}
use Rattle.reader.specs.Shapes.{number_of, numbers, known, shape}
use Rattle.reader.specs.Classes.{class_of, form_of, block_step, way_step, record_step, step_of, block_inside, record_inside}
use Rattle.reader.specs.declared.entry.Entry.{Entry}
use Rattle.reader.specs.declared.entry.Entry.TheVariants.{Head}
use Rattle.reader.specs.declared.entry.Fault.{Fault}
use Rattle.reader.specs.declared.entry.Fault.TheVariants.{Wrong}
use Rattle.reader.specs.declared.class.Class.{Class}
use Rattle.reader.specs.declared.class.Class.TheVariants.{Block, Dynamic}
use Rattle.reader.specs.declared.class.Order.{Order}
use Rattle.reader.specs.declared.class.Order.TheVariants.{Blocks, Sevens, Records}
use Rattle.salvage.specs.Promises.{running}

-- ---- the order behind an entry says whether a run goes on

block_to : (s : ℕ) (p q r : Order) → block_step s p q ≡ Some r → q ≡ r
block_to s (Blocks low) q r e = both (λ (x : Option Order). x ≡ Some r → q ≡ r) (leb low s) (λ _ (g : Some q ≡ Some r). cc) (λ _ (g : None ≡ Some r). never (cc)) e
block_to s (Sevens low block left) q r e =
    both (λ (x : Option Order). x ≡ Some r → q ≡ r) (eqb left 0)
    (λ _. both (λ (x : Option Order). x ≡ Some r → q ≡ r) (leb low s) (λ _ (g : Some q ≡ Some r). cc) (λ _ (g : None ≡ Some r). never (cc)))
    (λ _ (g : None ≡ Some r). never (cc)) e
block_to s (Records form) q r e = never (cc)

way-to : (p r : Order) → way_step p ≡ Some r → running p ≡ running r
way-to (Blocks low) r e = never (cc)
way-to (Sevens low block left) r e =
    both (λ (x : Option Order). x ≡ Some r → true ≡ running r) (eqb left 0) (λ _ (g : None ≡ Some r). never (cc))
    (λ _ (g : Some (Sevens low block (left - 1)) ≡ Some r). let same : Sevens low block (left - 1) ≡ r = cc in ap running same) e
way-to (Records form) r e = never (cc)

record-to : (form : ℕ) (p r : Order) → record_step form p ≡ Some r → false ≡ running r
record-to form (Blocks low) r e = let same : Records form ≡ r = cc in ap running same
record-to form (Sevens low block left) r e =
    both (λ (x : Option Order). x ≡ Some r → false ≡ running r) (eqb left 0) (λ _ (g : Some (Records form) ≡ Some r). let same : Records form ≡ r = cc in ap running same) (λ _ (g : None ≡ Some r). never (cc)) e
record-to form (Records before) r e =
    both (λ (x : Option Order). x ≡ Some r → false ≡ running r) (eqb form before) (λ _ (g : Some (Records before) ≡ Some r). let same : Records before ≡ r = cc in ap running same)
    (λ _ (g : None ≡ Some r). never (cc)) e

-- ---- an entry of a sort, by its class

pub record Told (x : Sort) (k : Option Class) : Type 0 where
  pub blocks_are : block_in x ≡ block_inside k
  pub records_are : record_in x ≡ record_inside k
  pub run_is : (p q : Order) (at : ℕ) → step_of k p at ≡ Some q → runs_on x (running p) ≡ running q

told-block : (x : Sort) (s : ℕ) → block_in x ≡ 1 → record_in x ≡ 0 → ((r : Bool) → runs_on x r ≡ true) → Told x (Some (Block s))
told-block x s a b c = record {
  blocks_are = a;
  records_are = b;
  run_is = λ p q at e. c (running p) ∙ sym (ap not (ne_eqb (s + 1) 0 (λ z. omega arith))) ∙ ap running (block_to s p (Blocks (s + 1)) q e);
}

told-dynamic : (x : Sort) (s n : ℕ) → block_in x ≡ 1 → record_in x ≡ 0 → ((r : Bool) → runs_on x r ≡ true) → Told x (Some (Dynamic s n))
told-dynamic x s n a b c = record {
  blocks_are = a;
  records_are = b;
  run_is = λ p q at e. c (running p) ∙ ap running (block_to s p (Sevens (s + 1) at n) q e);
}

module _ (there : ℕ) (body : List ℕ) where
  abbrev Tells : Sort → Result Entry Fault → Type 0
  Tells x e = (class_of e ≡ None → ⊥) → Told x (class_of e)

  told-right : (x : Sort) → Tells x (known x (numbers there x body))
  told-right HEAD h = record { blocks_are = refl; records_are = refl; run_is = λ p q at (e : None ≡ Some q). never (cc) }
  told-right (BLOCK TERMINATE) h =
      both (λ (k : Option Class). (k ≡ None → ⊥) → Told (BLOCK TERMINATE) k) (leb (field 4 1 body) 1)
      (λ _ _. told-block (BLOCK TERMINATE) (field 0 2 body) refl refl (λ _. refl)) (λ _ n. absurd (n refl)) h
  told-right (BLOCK JUMP) h = told-block (BLOCK JUMP) (field 0 2 body) refl refl (λ _. refl)
  told-right (BLOCK JUMPI) h = told-block (BLOCK JUMPI) (field 0 2 body) refl refl (λ _. refl)
  told-right (BLOCK DYNAMIC-JUMP) h = told-dynamic (BLOCK DYNAMIC-JUMP) (field 0 2 body) (field 4 4 body) refl refl (λ _. refl)
  told-right (BLOCK DYNAMIC-JUMPI) h = told-dynamic (BLOCK DYNAMIC-JUMPI) (field 0 2 body) (field 6 4 body) refl refl (λ _. refl)
  told-right (WAY missing) h = record { blocks_are = refl; records_are = refl; run_is = λ p q at e. way-to p q e }
  told-right (RECORD to missing) h = record { blocks_are = refl; records_are = refl; run_is = λ p q at e. record-to (form_of (is_some (number_of to body))) p q e }
  told-right UNKNOWN h = absurd (h refl)

  told-wrong : (x : Sort) → Tells x (known x (Err Wrong))
  told-wrong HEAD h = absurd (h refl)
  told-wrong (BLOCK x) h = absurd (h refl)
  told-wrong (WAY missing) h = absurd (h refl)
  told-wrong (RECORD to missing) h = absurd (h refl)
  told-wrong UNKNOWN h = absurd (h refl)

  pub told : (x : Sort) → Tells x (shape there x body)
  unfolding shape
  told x = both (λ (e : Result Entry Fault). Tells x (known x e)) (eqb (length body) (long x body)) (λ _. told-right x) (λ _. told-wrong x)

  -- ---- a head is of 12 bytes, has the body's counts, and is one in either family

  module _ (size n m energy : ℕ) where
    abbrev Counts : Result Entry Fault → Type 0
    Counts e = e ≡ Ok (Head size n m energy) → (n ≡ field 2 2 body) × (m ≡ field 4 4 body) × (length body ≡ 12)

    counts-right : (x : Sort) → length body ≡ long x body → Counts (known x (numbers there x body))
    counts-right HEAD l e = (cc, cc, l)
    counts-right (BLOCK TERMINATE) l e = never (cc)
    counts-right (BLOCK JUMP) l e = never (cc)
    counts-right (BLOCK JUMPI) l e = never (cc)
    counts-right (BLOCK DYNAMIC-JUMP) l e = never (cc)
    counts-right (BLOCK DYNAMIC-JUMPI) l e = never (cc)
    counts-right (WAY missing) l e = never (cc)
    counts-right (RECORD to missing) l e = never (cc)
    counts-right UNKNOWN l e = never (cc)

    counts-wrong : (x : Sort) → Counts (known x (Err Wrong))
    counts-wrong HEAD e = never (cc)
    counts-wrong (BLOCK x) e = never (cc)
    counts-wrong (WAY missing) e = never (cc)
    counts-wrong (RECORD to missing) e = never (cc)
    counts-wrong UNKNOWN e = never (cc)

    pub head-counts : (x : Sort) → Counts (shape there x body)
    unfolding shape
    head-counts x = both (λ (e : Result Entry Fault). Counts (known x e)) (eqb (length body) (long x body)) (λ y. counts-right x (eqb-true _ _ y)) (λ _. counts-wrong x)

    abbrev Either : Bool → ℕ → Sort → Type 0
    Either wide k x = shape there x body ≡ Ok (Head size n m energy) → shape there (sort wide k) body ≡ Ok (Head size n m energy)

    other-kind : (wide : Bool) (k : ℕ) (x : Sort) → (x ≡ HEAD → ⊥) → Either wide k x
    unfolding shape
    other-kind wide k x h =
        both (λ (e : Result Entry Fault). known x e ≡ Ok (Head size n m energy) → shape there (sort wide k) body ≡ Ok (Head size n m energy)) (eqb (length body) (long x body)) (λ _ e. absurd (no-head-right x h e)) (λ _ e. absurd (no-head-wrong x e))
      where
        no-head-right : (x : Sort) → (x ≡ HEAD → ⊥) → known x (numbers there x body) ≡ Ok (Head size n m energy) → ⊥
        no-head-right HEAD h e = h refl
        no-head-right (BLOCK TERMINATE) h e = never (cc)
        no-head-right (BLOCK JUMP) h e = never (cc)
        no-head-right (BLOCK JUMPI) h e = never (cc)
        no-head-right (BLOCK DYNAMIC-JUMP) h e = never (cc)
        no-head-right (BLOCK DYNAMIC-JUMPI) h e = never (cc)
        no-head-right (WAY missing) h e = never (cc)
        no-head-right (RECORD to missing) h e = never (cc)
        no-head-right UNKNOWN h e = never (cc)

        no-head-wrong : (x : Sort) → known x (Err Wrong) ≡ Ok (Head size n m energy) → ⊥
        no-head-wrong HEAD e = never (cc)
        no-head-wrong (BLOCK x) e = never (cc)
        no-head-wrong (WAY missing) e = never (cc)
        no-head-wrong (RECORD to missing) e = never (cc)
        no-head-wrong UNKNOWN e = never (cc)

    pub head-either : (wide other : Bool) (k : ℕ) → shape there (sort wide k) body ≡ Ok (Head size n m energy) → shape there (sort other k) body ≡ Ok (Head size n m energy)
    unfolding sort if
    head-either wide other =
        let not-head : (k : ℕ) (x : Sort) → (x ≡ HEAD → ⊥) → Either other k x = other-kind other in
        by_kind wide (Either other) (λ e. e) (not-head 2 (BLOCK TERMINATE) (λ q. never (cc))) (not-head 3 (BLOCK JUMP) (λ q. never (cc))) (not-head 4 (BLOCK JUMPI) (λ q. never (cc)))
        (not-head 5 (BLOCK DYNAMIC-JUMP) (λ q. never (cc))) (not-head 6 (BLOCK DYNAMIC-JUMPI) (λ q. never (cc))) (not-head (way_kind wide) (WAY (absent wide)) (λ q. never (cc)))
        (not-head (record_kind wide) (RECORD 4 (absent wide)) (λ q. never (cc))) (not-head (numbered_kind wide) (RECORD 8 (absent wide)) (λ q. never (cc))) (λ k. not-head k UNKNOWN (λ q. never (cc)))

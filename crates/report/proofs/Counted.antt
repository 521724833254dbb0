-- What an entry adds to the counts, by its kind and by the block at hand. Assumes nothing.
use mathlib.Core.Path.{◌≡◌, sym, ap, ◌∙◌}
use Prim.Native.Nat.{ℕ}
use Rattle.std.specs.Prelude.{Option, Some, None}
use lib.Dec.{eqb}
use borrow.Author.Tests.{eq-eqb, ne_eqb}
use Rattle.spec.specs.Report.{Totals, join}
use Rattle.laws.proofs.Branch.{if-true, if-false}
use Rattle.theorems.proofs.ReportLaws.{Same, same-totals, join-assoc}
use Rattle.reader.specs.declared.entry.Entry.{Entry}
use Rattle.reader.specs.declared.entry.Entry.TheVariants.{Way, Record}
use Rattle.report.specs.Counts.{totals_from, at_place, shut_of, path_of, record_of, adds_of, sees_of, seen_by, opened_by, Shut, Longer, Recorded, Counted}
use Rattle.report.specs.declared.count.Counts.{Counts}
use Rattle.report.specs.declared.count.Open.{Open}
use Rattle.report.specs.declared.count.Open.TheVariants.{Only, Several}

-- one after the other
then-more : (a k x : Totals) {b t : Totals} → b ≡ join a k → t ≡ join b x → t ≡ join a (join k x)
then-more a k x e f = f ∙ ap (λ (u : Totals). join u x) e ∙ join-assoc a k x

-- ---- the ways out, place by place

module _ {c r : Counts} where
  pub with_open : {o : Open} (p : Open) → o ≡ p → Same (totals_from r) (join (totals_from c) (shut_of p)) → Shut c o r
  with_open p e h = record { is = rw e (same-totals (totals_from r) (join (totals_from c) (shut_of p)) h) }

  pub with-path : {n : ℕ} → Same (totals_from r) (join (totals_from c) (path_of n)) → Longer c n r
  with-path {n} h = record { is = same-totals (totals_from r) (join (totals_from c) (path_of n)) h }

  -- an entry that adds these totals
  pub with-entry : {o : Open} {e : Entry} (f : Entry) → e ≡ f → Same (totals_from r) (join (totals_from c) (adds_of f o)) → Counted c o e r
  with-entry {o} f e h = record { is = rw e (same-totals (totals_from r) (join (totals_from c) (adds_of f o)) h) }

  -- one more at a place, and then the block at hand, or the path
  module _ {d : Counts} where
    pub with-block : {o : Open} {e : Entry} (f : Entry) (i : ℕ) → e ≡ f → adds_of f o ≡ join (at_place i 1) (shut_of o)
        → Same (totals_from d) (join (totals_from c) (at_place i 1)) → Shut d o r → Counted c o e r
    with-block {o} f i q a h s = record { is = then-more (totals_from c) (at_place i 1) (shut_of o) (same-totals (totals_from d) (join (totals_from c) (at_place i 1)) h) s.is ∙ rw q (ap (join (totals_from c)) (sym a)) }

    pub with-record : {to : Option ℕ} {n : ℕ} (i : ℕ) → record_of to n ≡ join (at_place i 1) (path_of n) → Same (totals_from d) (join (totals_from c) (at_place i 1)) → Longer d n r
        → Recorded c to n r
    with-record {to} {n} i a h s = record { is = then-more (totals_from c) (at_place i 1) (path_of n) (same-totals (totals_from d) (join (totals_from c) (at_place i 1)) h) s.is ∙ ap (join (totals_from c)) (sym a) }

  pub way-counted : {o : Open} {e : Entry} {to : Option ℕ} {path n : ℕ} → e ≡ Way to path n → Longer c n r → Counted c o e r
  way-counted e s = record { is = s.is ∙ rw e }

  pub record-counted : {o : Open} {e : Entry} {to : Option ℕ} {start path n : ℕ} {energy : Option ℕ} → e ≡ Record start to energy path n → Recorded c to n r → Counted c o e r
  record-counted e s = record { is = s.is ∙ rw e }

-- a record without, and with destination
module _ {to : Option ℕ} (n : ℕ) where
  pub nowhere-adds : to ≡ None → record_of to n ≡ join (at_place 10 1) (path_of n)
  nowhere-adds q = rw q

  pub found-adds : {t : ℕ} → to ≡ Some t → record_of to n ≡ join (at_place 9 1) (path_of n)
  found-adds q = rw q

-- ---- the block at hand

module _ (o : Open) (to : ℕ) where
  pub sees_same : {t : ℕ} → o ≡ Only t → t ≡ to → Only t ≡ sees_of to o
  sees_same {t} e q = sym (ap (sees_of to) e ∙ if-true (eqb t to) (Only t) Several (eq-eqb t to q))

  pub sees_other : {t : ℕ} → o ≡ Only t → (t ≡ to → ⊥) → Several ≡ sees_of to o
  sees_other {t} e q = sym (ap (sees_of to) e ∙ if-false (eqb t to) (Only t) Several (ne_eqb t to q))

module _ (o : Open) {to : Option ℕ} where
  pub seen-missing : to ≡ None → o ≡ seen_by to o
  seen-missing e = sym (ap (λ (d : Option ℕ). seen_by d o) e)

  pub seen_at : (p : Open) {t : ℕ} → to ≡ Some t → p ≡ sees_of t o → p ≡ seen_by to o
  seen_at p e h = h ∙ sym (ap (λ (d : Option ℕ). seen_by d o) e)

pub way-seen : (o p : Open) (e : Entry) {to : Option ℕ} {path n : ℕ} → e ≡ Way to path n → p ≡ seen_by to o → p ≡ opened_by e o
way-seen o p e q h = h ∙ sym (ap (λ (f : Entry). opened_by f o) q)

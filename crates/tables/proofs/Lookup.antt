-- The laws of looking a record up. Assumes nothing.
use Rattle.std.proofs.Common.{◌≡◌, ℕ, suc, ◌+◌, ◌-◌, ◌<◌, ◌≤◌, Bool, true, false, eqb, List, length, sym, refl, ap, ◌∙◌, arith, eq-eqb, ne_eqb}
use Rattle.spec.specs.Lists.{same}
use Rattle.lent.specs.Bytes.{Holds}
use Rattle.laws.proofs.Branch.{and-false}
use Rattle.laws.proofs.Members.{and_both}
use Rattle.layout.specs.Records.{record_place, R-TO, R-ENDS, R-SUM, to_at, end_of}
use Rattle.tables.specs.Sums.{bucket_of}
use Rattle.tables.specs.Addrs.{addrs, path_sum, Beside}
use Rattle.tables.specs.Records.{bucket_at, path_at, is_rec, Seek, Compare}
use Rattle.tables.proofs.Addrs.{addrs-length, same_true, same_false}

-- ---- where a path begins and ends

pub end_none : (r : List ℕ) (i : ℕ) → i ≡ 0 → 0 ≡ end_of r i
unfolding end_of
end_none r i e = rw e

pub end-here : (r : List ℕ) (i : ℕ) {x : ℕ} → Holds 4 r (record_place i + R-ENDS) x → x ≡ end_of r (suc i)
unfolding end_of
end-here r i h = h.is

pub end-some : (r : List ℕ) (i : ℕ) {x : ℕ} → (i ≡ 0 → ⊥) → Holds 4 r (record_place (i - 1) + R-ENDS) x → x ≡ end_of r i
end-some r i n h = let e : suc (i - 1) ≡ i = omega arith in end-here r (i - 1) h ∙ ap (end_of r) e

-- ---- comparing with a record

module _ {p r q : List ℕ} {np i sum : ℕ} (c : Compare p np r q i sum) (to : ℕ) where
  other_path : ((addrs p 0 np ≡ path_at r q i) → ⊥) → false ≡ is_rec r q to (addrs p 0 np) i
  unfolding is_rec
  other_path d = sym (and-false (eqb to (to_at r i)) (same_false (addrs p 0 np) (path_at r q i) d))

  pub rec-sum : {x : ℕ} → Holds 4 r (record_place i + R-SUM) x → (x ≡ sum → ⊥) → false ≡ is_rec r q to (addrs p 0 np) i
  rec-sum h d = other_path (λ e. d (h.is ∙ c.row.sum ∙ ap path_sum (sym e) ∙ sym c.summed.is))

  pub rec-to : {x : ℕ} → Holds 2 r (record_place i + R-TO) x → (x ≡ to → ⊥) → false ≡ is_rec r q to (addrs p 0 np) i
  unfolding is_rec
  rec-to {x} h d = rw (← h.is, ne_eqb to x (λ e. d (sym e)))

  module _ {at e : ℕ} (a : at ≡ end_of r i) (h : Holds 4 r (record_place i + R-ENDS) e) where
    pub rec-rises : at ≤ e
    rec-rises = omega (arith, end-here r i h, c.row.rises)

    pub rec-length : (e - at ≡ np → ⊥) → false ≡ is_rec r q to (addrs p 0 np) i
    unfolding path_at
    rec-length d =
        let l : length (addrs q (end_of r i) (end_of r (suc i) - end_of r i)) ≡ e - at = addrs-length q (end_of r i) (end_of r (suc i) - end_of r i) ∙ rw (← a, ← end-here r i h) in
        other_path (λ g. d (sym l ∙ ap length (sym g) ∙ addrs-length p 0 np))

    pub rec-beside : e - at ≡ np → Beside p np q at
    rec-beside d = record { path = c.path; other = record { fits = omega (arith, end-here r i h, c.row.rises, c.row.in_q) } }

    pub rec-same : {x : ℕ} {b : Bool} → Holds 2 r (record_place i + R-TO) x → x ≡ to → e - at ≡ np → b ≡ same (addrs p 0 np) (addrs q at np) → b ≡ is_rec r q to (addrs p 0 np) i
    unfolding is_rec path_at
    rec-same {x} g f d b = rw (← g.is, f, eq-eqb to to refl, ← a, ← end-here r i h, d) b

-- ---- along the chain

-- a record with the path is in the path's bucket
module _ {p w r q : List ℕ} {np n buckets m sum : ℕ} (s : Seek p np w r q n buckets m sum) (to : ℕ) where
  abbrev path : List ℕ
  path = addrs p 0 np

  pub inside : (i : ℕ) → i < m → is_rec r q to path i ≡ true → bucket_at buckets r i ≡ bucket_of buckets sum
  unfolding is_rec bucket_at
  inside i l e =
      let same-path = same_true path (path_at r q i) (and_both (eqb to (to_at r i)) (same path (path_at r q i)) e).1 in
      ap (bucket_of buckets) ((s.rows i l).sum ∙ ap path_sum (sym same-path) ∙ sym s.summed.is)

-- what comparing with one of them asks
pub compare : {p w r q : List ℕ} {np n buckets m sum i : ℕ} → Seek p np w r q n buckets m sum → i < m → Compare p np r q i sum
compare s l = record { path = s.path; summed = s.summed; row = s.rows _ l }

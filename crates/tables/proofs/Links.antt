-- The laws of a new record's row and its links. Assumes nothing.
use Rattle.std.proofs.Common.{◌≡◌, ℕ, suc, ◌+◌, ◌-◌, ◌*◌, ◌^◌, ◌<◌, ◌≤◌, ◌⊎◌, List, length, sym, refl, ap, ◌∙◌, inl, inr, add-zero, add-one, arith, Option, Some, None, IfSome, unwrap_or, subst}
use Rattle.spec.specs.Lists.{little}
use Rattle.lent.specs.Bytes.{num_at, Holds, Stored}
use Rattle.lent.proofs.Parts.{part-suffix, drop_more}
use Rattle.lent.proofs.Numbers.{number-little, num-suffix}
use Rattle.lent.proofs.Stored.{kept-take, kept-drop, kept-part, kept-num, read-num, read_back, stored-join}
use Rattle.layout.specs.Fields.{FIRST-FOUND, LAST-FOUND, COUNT, first_found_at, last_found_at, newest_at}
use Rattle.layout.specs.Marks.{NOWHERE}
use Rattle.layout.specs.Parts.{rows_end, fields_place, list_place, bucket_place, PastFields}
use Rattle.layout.specs.Records.{RECORD, record_place, R-TO, R-ENDS, R-KEPT, R-NEXT, R-LINK, R-SUM, R-ENERGY, R-FREE, to_at, next_at, link_at, sum_at, end_of, kept_of}
use Rattle.tables.specs.Sums.{bucket_of}
use Rattle.tables.specs.Records.{bucket_at, Chains}
use Rattle.tables.specs.Links.{says_bytes, link_bytes, row_bytes, SameRow, Says, Parents, Apart, Beyond, Joins, Joined, Sayable, Links, Linked}
use Rattle.tables.specs.declared.link.Fields.{Fields}
use Rattle.tables.proofs.Chains.{newest-le}
use Rattle.tables.proofs.Orders.{chained_same, chained_more, ordered_same, ordered-none, ordered-first, ordered-next}

-- ---- the row

module _ {at : ℕ} {r r₁ r₂ r₃ : List ℕ} where
  pub says-stored : (f : Fields) {r₄ : List ℕ} → Stored 2 r at (little 2 f.start) r₁ → {to : ℕ} → to ≡ unwrap_or f.to NOWHERE → Stored 2 r₁ (at + R-TO) (little 2 to) r₂
      → Stored 4 r₂ (at + R-ENDS) (little 4 f.ends) r₃ → Stored 4 r₃ (at + R-KEPT) (little 4 f.kept) r₄ → Stored 12 r at (says_bytes f) r₄
  unfolding says_bytes
  says-stored f a e b c d = stored-join (stored-join (stored-join a (rw e at b)) c) d

module _ (at link sum energy : ℕ) {r r₁ r₂ r₃ r₄ : List ℕ} where
  pub links-stored : Stored 4 r (at + R-NEXT) (little 4 0) r₁ → Stored 4 r₁ (at + R-LINK) (little 4 link) r₂ → Stored 4 r₂ (at + R-SUM) (little 4 sum) r₃
      → Stored 4 r₃ (at + R-ENERGY) (little 4 energy) r₄ → Stored 16 r (at + R-NEXT) (link_bytes link sum energy) r₄
  unfolding link_bytes
  links-stored a b c d =
      let e : at + R-LINK ≡ at + R-NEXT + 4 = omega arith in
      let f : at + R-SUM ≡ at + R-NEXT + 8 = omega arith in
      let g : at + R-ENERGY ≡ at + R-NEXT + 12 = omega arith in
      stored-join (stored-join (stored-join a (rw e at b)) (rw f at c)) (rw g at d)

pub row-stored : (f : Fields) (link : ℕ) {at : ℕ} {r r₁ r₂ : List ℕ} → Stored 12 r at (says_bytes f) r₁ → Stored 16 r₁ (at + R-NEXT) (link_bytes link f.sum f.energy) r₂
    → Stored 28 r at (row_bytes f link) r₂
unfolding row_bytes
row-stored f link a b = stored-join a b

-- a store that does not meet the fields of record i, but for the link to the next parent
same_row : {k at : ℕ} {r bs r' : List ℕ} (i : ℕ) → Stored k r at bs r' → (record_place i < at + k → record_place i + R-NEXT ≤ at) → (record_place i + R-LINK < at + k → record_place i + RECORD ≤ at) → SameRow r r' i
unfolding end_of kept_of
same_row i s low high =
    record {
      start = kept-num s 2 (record_place i) (λ g. omega (arith, low (omega arith)));
      to = kept-num s 2 (record_place i + R-TO) (λ g. omega (arith, low (omega arith)));
      ends = kept-num s 4 (record_place i + R-ENDS) (λ g. omega (arith, low (omega arith)));
      kept = kept-num s 4 (record_place i + R-KEPT) (λ g. omega (arith, low (omega arith)));
      link = kept-num s 4 (record_place i + R-LINK) (λ g. omega (arith, high g));
      sum = kept-num s 4 (record_place i + R-SUM) (λ g. omega (arith, high (omega arith)));
      energy = kept-num s 4 (record_place i + R-ENERGY) (λ g. omega (arith, high (omega arith)));
      free = kept-num s 4 (record_place i + R-FREE) (λ g. omega (arith, high (omega arith)));
    }

pub same_then : {r r₁ r₂ : List ℕ} {i : ℕ} → SameRow r r₁ i → SameRow r₁ r₂ i → SameRow r r₂ i
same_then p q =
    record {
      start = q.start ∙ p.start;
      to = q.to ∙ p.to;
      ends = q.ends ∙ p.ends;
      kept = q.kept ∙ p.kept;
      link = q.link ∙ p.link;
      sum = q.sum ∙ p.sum;
      energy = q.energy ∙ p.energy;
      free = q.free ∙ p.free;
    }

pub same-all : (r : List ℕ) (i : ℕ) → SameRow r r i
same-all r i = record { start = refl; to = refl; ends = refl; kept = refl; link = refl; sum = refl; energy = refl; free = refl }

module _ (m : ℕ) (f : Fields) (link : ℕ) {r r' : List ℕ} (s : Stored 28 r (record_place m) (row_bytes f link) r') where
  row_next : next_at r' m ≡ 0
  unfolding row_bytes says_bytes link_bytes num_at
  row_next = read-num s 4 R-NEXT (omega arith) ∙ number-little 4 0 (omega arith)

  row-link : link < 2 ^ 32 → link_at r' m ≡ link
  unfolding row_bytes says_bytes link_bytes num_at
  row-link h = read-num s 4 R-LINK (omega arith) ∙ number-little 4 link h

  row-says : {n : ℕ} → Sayable n f → n < NOWHERE → Says r' m f
  unfolding row_bytes says_bytes link_bytes num_at end_of kept_of
  row-says {n} h g =
      record {
        start = ap (num_at 2 r') (sym (add-zero (record_place m))) ∙ read-num s 2 0 (omega arith) ∙ number-little 2 f.start h.start;
        to = read-num s 2 R-TO (omega arith) ∙ number-little 2 (unwrap_or f.to NOWHERE) (fits f.to h.to);
        ends = read-num s 4 R-ENDS (omega arith) ∙ number-little 4 f.ends h.ends;
        kept = read-num s 4 R-KEPT (omega arith) ∙ number-little 4 f.kept h.kept;
        sum = read-num s 4 R-SUM (omega arith) ∙ number-little 4 f.sum h.sum;
        energy = read-num s 4 R-ENERGY (omega arith) ∙ number-little 4 f.energy h.energy;
      }
    where
      fits : (to : Option ℕ) → IfSome to (λ a. a ≤ n) → unwrap_or to NOWHERE < 2 ^ 16
      fits None e = omega arith
      fits (Some a) e = omega arith

  -- the rows before it
  row_same : (i : ℕ) → i < m → SameRow r r' i
  row_same i l = same_row i s (λ g. omega arith) (λ g. omega arith)

  row-nexts : (i : ℕ) → i < m → next_at r' i ≡ next_at r i
  row-nexts i l = kept-num s 4 (record_place i + R-NEXT) (λ g. omega arith)

-- ---- a link to the next parent

module _ (l m : ℕ) {r r' : List ℕ} (s : Stored 4 r (record_place l + R-NEXT) (little 4 (m + 1)) r') where
  next-same : (i : ℕ) → SameRow r r' i
  next-same i = same_row i s (λ g. omega arith) (λ g. omega arith)

  next-other : (i : ℕ) → (i ≡ l → ⊥) → next_at r' i ≡ next_at r i
  next-other i d = kept-num s 4 (record_place i + R-NEXT) (λ g. omega arith)

-- ---- a store to a field of the row of a, in W

module _ (n a o v : ℕ) (inside : a ≤ n) (low : FIRST-FOUND ≤ o) (high : o ≤ LAST-FOUND) {w w' : List ℕ} (s : Stored 4 w (fields_place n a + o) (little 4 v) w') where
  field_apart : Apart n w w'
  field_apart =
      record {
        front = kept-take s (rows_end n) (omega arith);
        marks = λ x l. kept-part s 4 (fields_place n x) (λ g. omega arith);
        rests = λ x l. kept-part s 8 (fields_place n x + COUNT) (λ g. omega arith);
        long = s.kept;
      }

  field_back : PastFields n w w'
  field_back = kept-drop s (list_place n) (omega arith)

  field-other : (x k : ℕ) → (x ≡ a → ⊥) → FIRST-FOUND ≤ k → k ≤ LAST-FOUND → num_at 4 w' (fields_place n x + k) ≡ num_at 4 w (fields_place n x + k)
  field-other x k d p q = kept-num s 4 (fields_place n x + k) (λ g. omega arith)

  field-same : (x k : ℕ) → FIRST-FOUND ≤ k → k ≤ LAST-FOUND → (o + 4 ≤ k) ⊎ (k + 4 ≤ o) → num_at 4 w' (fields_place n x + k) ≡ num_at 4 w (fields_place n x + k)
  field-same x k p q d = go d
    where
      go : (o + 4 ≤ k) ⊎ (k + 4 ≤ o) → num_at 4 w' (fields_place n x + k) ≡ num_at 4 w (fields_place n x + k)
      go (inl e) = kept-num s 4 (fields_place n x + k) (λ g. omega arith)
      go (inr e) = kept-num s 4 (fields_place n x + k) (λ g. omega arith)

apart-then : {n : ℕ} {u v w : List ℕ} → Apart n u v → Apart n v w → Apart n u w
apart-then p q =
    record {
      front = q.front ∙ p.front;
      marks = λ a l. q.marks a l ∙ p.marks a l;
      rests = λ a l. q.rests a l ∙ p.rests a l;
      long = q.long ∙ p.long;
    }

-- ---- on the chain of found parents

module _ {n m a : ℕ} {w r : List ℕ} (j : Joins n w r a m) {x : ℕ} (h : Holds 4 w (fields_place n a + LAST-FOUND) x) where
  last-most : x ≤ m
  last-most = omega (arith, h.is, j.parents.lasts a j.inside, newest-le (to_at r) a m)

  pub last-reads : (x ≡ 0 → ⊥) → record_place (x - 1) + R-NEXT + 4 ≤ length r
  last-reads d = omega (arith, last-most, j.in_r)

  module _ {w₁ : List ℕ} (s : Stored 4 w (fields_place n a + LAST-FOUND) (little 4 (m + 1)) w₁) where
    last-new : last_found_at w₁ n a ≡ suc m
    last-new = read_back s j.small ∙ add-one m

    pub joined-first : {w₂ : List ℕ} → x ≡ 0 → Stored 4 w₁ (fields_place n a + FIRST-FOUND) (little 4 (m + 1)) w₂ → Joined n w r m w₂ r
    joined-first {w₂} e t =
        record {
          parents =
              ordered-first j.parents (next_at r) (first_found_at w₂ n) (last_found_at w₂ n) a j.inside j.to j.next
              (field-same n a FIRST-FOUND (m + 1) j.inside (omega arith) (omega arith) t a LAST-FOUND (omega arith) (omega arith) (inl (omega arith)) ∙ last-new)
              (λ y l d. field-same n a FIRST-FOUND (m + 1) j.inside (omega arith) (omega arith) t y LAST-FOUND (omega arith) (omega arith) (inl (omega arith)) ∙ field-other n a LAST-FOUND (m + 1) j.inside (omega arith) (omega arith) s y LAST-FOUND d (omega arith) (omega arith))
              (sym h.is ∙ e)
              (read_back t j.small ∙ add-one m)
              (λ y l d. field-other n a FIRST-FOUND (m + 1) j.inside (omega arith) (omega arith) t y FIRST-FOUND d (omega arith) (omega arith) ∙ field-same n a LAST-FOUND (m + 1) j.inside (omega arith) (omega arith) s y FIRST-FOUND (omega arith) (omega arith) (inr (omega arith)))
              (λ i l. refl);
          rows = same-all r;
          tail = refl;
          long = refl;
          apart = apart-then (field_apart n a LAST-FOUND (m + 1) j.inside (omega arith) (omega arith) s) (field_apart n a FIRST-FOUND (m + 1) j.inside (omega arith) (omega arith) t);
          back = field_back n a FIRST-FOUND (m + 1) j.inside (omega arith) (omega arith) t ∙ field_back n a LAST-FOUND (m + 1) j.inside (omega arith) (omega arith) s;
        }

    pub joined-next : {r₁ : List ℕ} → (x ≡ 0 → ⊥) → Stored 4 r (record_place (x - 1) + R-NEXT) (little 4 (m + 1)) r₁ → Joined n w r m w₁ r₁
    joined-next {r₁} d t =
        let same = next-same (x - 1) m t in
        let e : x ≡ suc (x - 1) = omega arith in
        let b : x - 1 < m = omega (arith, last-most) in
        record {
          parents =
              ordered_same
              (ordered-next j.parents (next_at r₁) (first_found_at w₁ n) (last_found_at w₁ n) a j.inside j.to
              (next-other (x - 1) m t m (λ z. omega arith) ∙ j.next) last-new
              (λ y l g. field-other n a LAST-FOUND (m + 1) j.inside (omega arith) (omega arith) s y LAST-FOUND g (omega arith) (omega arith))
              (x - 1) (sym h.is ∙ e) (read_back t j.small ∙ add-one m)
              (λ i l. next-other (x - 1) m t i)
              (λ y l. field-same n a LAST-FOUND (m + 1) j.inside (omega arith) (omega arith) s y FIRST-FOUND (omega arith) (omega arith) (inr (omega arith))))
              (λ i l. (same i).to) (λ i l. refl) (λ y l. refl) (λ y l. refl);
          rows = same;
          tail = kept-drop t (record_place m) (omega arith);
          long = t.kept;
          apart = field_apart n a LAST-FOUND (m + 1) j.inside (omega arith) (omega arith) s;
          back = field_back n a LAST-FOUND (m + 1) j.inside (omega arith) (omega arith) s;
        }

-- ---- a record more

pub bucket-same : (buckets : ℕ) (r r' : List ℕ) (i : ℕ) → sum_at r' i ≡ sum_at r i → bucket_at buckets r' i ≡ bucket_at buckets r i
unfolding bucket_at
bucket-same buckets r r' i e = ap (bucket_of buckets) e

module _ {n buckets m : ℕ} {w r : List ℕ} {f : Fields} (l : Links n buckets w r m f) {h x : ℕ} (e : h ≡ bucket_of buckets f.sum) (b : h < buckets)
    (g : Holds 4 w (bucket_place n h) x) {w₁ r₁ : List ℕ} (s : Stored 28 r (record_place m) (row_bytes f x) r₁)
    (t : Stored 4 w (bucket_place n h) (little 4 (m + 1)) w₁) where
  says : Says r₁ m f
  says = row-says m f x s l.says l.few

  bucket : bucket_at buckets r₁ m ≡ h
  unfolding bucket_at
  bucket = ap (bucket_of buckets) says.sum ∙ sym e

  chains-more : Chains n buckets w₁ r₁ (suc m)
  chains-more =
      record {
        some = l.chains.some;
        in_w = omega (arith, l.chains.in_w, t.kept);
        in_r = omega (arith, l.in_r, s.kept);
        chained =
            chained_more (bucket_at buckets r₁) (link_at r₁) (newest_at w₁ n) l.chains.chained (λ i k. bucket-same buckets r r₁ i (row_same m f x s i k).sum) (λ i k. (row_same m f x s i k).link)
            (omega (arith, bucket, b))
            (row-link m f x s g.small ∙ g.is ∙ ap (newest_at w n) (sym bucket))
            (ap (newest_at w₁ n) bucket ∙ read_back t l.small ∙ add-one m)
            (λ k c d. kept-num t 4 (bucket_place n k) (λ q. omega (arith, apart k d)));
      }
    where
      apart : (k : ℕ) → (k ≡ bucket_at buckets r₁ m → ⊥) → k ≡ h → ⊥
      apart k d z = d (z ∙ sym bucket)

  parents-same : Parents n w₁ r₁ m
  parents-same =
      ordered_same l.parents (λ i k. (row_same m f x s i k).to) (row-nexts m f x s)
      (λ a k. kept-num t 4 (fields_place n a + FIRST-FOUND) (λ q. omega arith))
      (λ a k. kept-num t 4 (fields_place n a + LAST-FOUND) (λ q. omega arith))

  beyond-head : Beyond n buckets w w₁
  beyond-head =
      record {
        apart = record {
          front = kept-take t (rows_end n) (omega arith);
          marks = λ a k. kept-part t 4 (fields_place n a) (λ q. omega arith);
          rests = λ a k. kept-part t 8 (fields_place n a + COUNT) (λ q. omega arith);
          long = t.kept;
        };
        work = kept-part t (2 * (n + 1)) (list_place n) (λ q. omega arith);
        back = kept-drop t (bucket_place n buckets) (omega arith);
      }

  pub linked-none : f.to ≡ None → Linked n buckets w r m f w₁ r₁
  linked-none z =
      let to : to_at r₁ m ≡ NOWHERE = says.to ∙ ap (λ (o : Option ℕ). unwrap_or o NOWHERE) z in
      record {
        chains = chains-more;
        parents = ordered-none parents-same (omega (arith, to, l.few)) (row_next m f x s);
        says = says;
        rows = row_same m f x s;
        tail = kept-drop s (record_place m + R-FREE) (omega arith);
        long = s.kept;
        beyond = beyond-head;
      }

  pub links-parent : {a : ℕ} → f.to ≡ Some a → Joins n w₁ r₁ a m
  links-parent z =
      record {
        parents = parents-same;
        inside = subst (λ (o : Option ℕ). IfSome o (λ b. b ≤ n)) z l.says.to;
        to = says.to ∙ ap (λ (o : Option ℕ). unwrap_or o NOWHERE) z;
        next = row_next m f x s;
        in_w = omega (arith, l.chains.in_w, t.kept);
        in_r = omega (arith, l.in_r, s.kept);
        small = l.small;
      }

  pub linked-found : {w₂ r₂ : List ℕ} → Joined n w₁ r₁ m w₂ r₂ → Linked n buckets w r m f w₂ r₂
  linked-found {w₂} {r₂} j =
      let c = chains-more in
      record {
        chains = record {
          some = c.some;
          in_w = omega (arith, c.in_w, j.apart.long);
          in_r = omega (arith, c.in_r, j.long);
          chained =
              chained_same (bucket_at buckets r₂) (link_at r₂) (newest_at w₂ n) c.chained (λ i k. bucket-same buckets r₁ r₂ i (j.rows i).sum) (λ i k. (j.rows i).link)
              (λ k d. num-suffix w₂ w₁ (list_place n) j.back 4 (bucket_place n k) (omega arith));
        };
        parents = j.parents;
        says = record {
          start = (j.rows m).start ∙ says.start;
          to = (j.rows m).to ∙ says.to;
          ends = (j.rows m).ends ∙ says.ends;
          kept = (j.rows m).kept ∙ says.kept;
          sum = (j.rows m).sum ∙ says.sum;
          energy = (j.rows m).energy ∙ says.energy;
        };
        rows = λ i k. same_then (row_same m f x s i k) (j.rows i);
        tail = drop_more r₂ r₁ (record_place m) j.tail (record_place m + R-FREE) (omega arith) ∙ kept-drop s (record_place m + R-FREE) (omega arith);
        long = j.long ∙ s.kept;
        beyond = record {
          apart = apart-then beyond-head.apart j.apart;
          work = part-suffix w₂ w₁ (list_place n) j.back (2 * (n + 1)) (list_place n) (omega arith) ∙ beyond-head.work;
          back = drop_more w₂ w₁ (list_place n) j.back (bucket_place n buckets) (omega arith) ∙ beyond-head.back;
        };
      }

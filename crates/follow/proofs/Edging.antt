-- The index of edges: what stands there is right, and what is found there is what stands there. Assumes nothing.
use Rattle.std.proofs.Common.{◌≡◌, ℕ, ◌+◌, ◌-◌, ◌*◌, ◌/◌, ◌%◌, ◌^◌, ◌<◌, ◌≤◌, Bool, true, false, eqb, List, [], ◌∷◌, ◌++◌, length, length-append, append_assoc, sym, refl, ap, ◌∙◌, subst, mod-lt, arith, eqb-true, Option, Some, Bor}
use native.Mathlib.Decide.{dec_lt}
use borrow.Author.Tests.{eqb-false}
use Rattle.spec.specs.Lists.{little}
use Rattle.spec.specs.Counting.{distinct}
use Rattle.spec.specs.Follow.{outgoing}
use Rattle.lent.specs.Bytes.{num_at, Stored}
use Rattle.lent.proofs.Stored.{kept-num, read_back}
use Rattle.reader.specs.Walks.{Walking}
use Rattle.follow.specs.Blocks.{named_by}
use Rattle.follow.specs.Places.{PlaceOf, place_in, distinct_left, none_passed}
use Rattle.follow.specs.Finding.{Tells, Table, Index}
use Rattle.follow.specs.Edges.{ShelfAt, shelf_in, EntryOf, Looked, Known, PlaceSo, Entered, Inserted, no_free, put_at, Kept, not_kept, kept_at, Owned}
use Rattle.follow.specs.declared.block.Named.{Named}
use Rattle.follow.specs.declared.find.Counted.{Counted}
use Rattle.follow.specs.declared.place.Distinct.{Distinct}
use Rattle.follow.proofs.Placing.{choose-all, few-distinct, once-first}

-- ---- shelves

pub spread-low : (x n : ℕ) → 0 < n → x % n < n
spread-low x n h = mod-lt x h

module _ (long rows : ℕ) (l : 16 * rows ≤ long) where
  pub shelf-lacking : (long - 16 * rows) / 24 < 16 → long < 16 * rows + 384
  shelf-lacking n = omega arith

  pub shelf-at : 16 ≤ (long - 16 * rows) / 24 → {i : ℕ} → i < (long - 16 * rows) / 24 - 15 → ShelfAt long rows (16 * rows + 24 * i)
  shelf-at n {i} g = record { first = i; is = refl; fits = omega arith }

-- ---- looking an edge up

-- an entry of a shelf is one of all
on-shelf : (rows first i : ℕ) {shelf : ℕ} → shelf ≡ 16 * rows + 24 * first → shelf + 24 * i ≡ 16 * rows + 24 * (first + i)
on-shelf rows first i e = omega arith

pub known_at : {w : List ℕ} {o : Option ℕ} {rows key q : ℕ} → o ≡ Some rows → {x : Option ℕ} → shelf_in (length w) rows x → {shelf : ℕ} → x ≡ Some shelf → {r : Option ℕ} → Looked w shelf key q r → Known w o key q r
known_at {w} {o} {rows} {key} {q} live h e {r} g =
    let s = subst (shelf_in (length w) rows) e h in
    record {
      found = λ {n} z.
          let o = g.found z in
          record { many = rows; live = live; on = record { i = s.first + o.i; entry = subst (λ (at : ℕ). EntryOf w at key q (n + 1)) (on-shelf rows s.first o.i s.is) o.entry } };
    }

module _ (b : List ℕ) (k : Counted) (q : ℕ) where
  pub place-seek : {r : Option ℕ} → place_in q (distinct (named_by b k.block.named)) r → PlaceSo b k q r
  place-seek {r} h = record { so = λ f p. subst (λ (l : List ℕ). place_in q l r) p.block.named h }

  pub place-known : {w : List ℕ} {rows : Option ℕ} {r : Option ℕ} → Index b w rows → Known w rows (k.slot + 1) q r → {n : ℕ} → r ≡ Some n → PlaceSo b k q (Some n)
  place-known {w} {rows} x g {n} z =
      let a = g.found z in
      let o = a.on in
      let t = ((x.edges a.live).entry o.i).so k.slot n o.entry.key_is o.entry.place_is in
      record {
        so = λ f p. subst (λ (to : ℕ). PlaceOf to (outgoing f) n) o.entry.to_is (t.so p.before f p.after p.is p.slot_is);
      }

-- ---- putting an edge

module _ {w : List ℕ} {at key to n : ℕ} {w₁ w₂ w₃ : List ℕ} (s : Stored 8 w at (little 8 key) w₁) (t : Stored 8 w₁ (at + 8) (little 8 to) w₂) (u : Stored 8 w₂ (at + 16) (little 8 (n + 1)) w₃) where
  pub enter-is : key < 2 ^ 64 → to < 2 ^ 64 → n + 1 < 2 ^ 64 → Entered w at key to n w₃
  enter-is x y z =
      record {
        entry = record {
          key_is = kept-num u 8 at (λ _. omega arith) ∙ kept-num t 8 at (λ _. omega arith) ∙ read_back s (omega arith);
          to_is = kept-num u 8 (at + 8) (λ _. omega arith) ∙ read_back t (omega arith);
          place_is = read_back u (omega arith);
        };
        apart = λ i h. kept-num u 8 i (λ l. omega (arith, h (omega arith))) ∙ kept-num t 8 i (λ l. omega (arith, h (omega arith))) ∙ kept-num s 8 i (λ l. h (omega arith));
        kept = u.kept ∙ t.kept ∙ s.kept;
      }

-- nothing is put yet
module _ {w w₁ : List ℕ} (same : w₁ ≡ w) (shelf i : ℕ) where
  pub insert-none : (key to n : ℕ) → Inserted w shelf key to n w₁
  insert-none key to n = subst (Inserted w shelf key to n) (sym same) no_free

  pub insert-at : {key to n : ℕ} {w' : List ℕ} → Entered w₁ (shelf + 24 * i) key to n w' → Inserted w shelf key to n w'
  insert-at {key} {to} {n} {w'} e = put_at i (subst (λ (v : List ℕ). Entered v (shelf + 24 * i) key to n w') same e)

pub keep-none : (w : List ℕ) (rows key to n : ℕ) → Kept w rows key to n w
keep-none w rows key to n = not_kept

pub keep-in : {w : List ℕ} {rows key to n : ℕ} {x : Option ℕ} → shelf_in (length w) rows x → {shelf : ℕ} → x ≡ Some shelf
    → {w' : List ℕ} → Inserted w shelf key to n w' → Kept w rows key to n w'
keep-in {w} {rows} {key} {to} {n} h {shelf} e g = by-case g
  where
    by-case : {v : List ℕ} → Inserted w shelf key to n v → Kept w rows key to n v
    by-case no_free = not_kept
    by-case (put_at i {work' = v} d) =
        let s = subst (shelf_in (length w) rows) e h in
        kept_at (s.first + i) (subst (λ (at : ℕ). Entered w at key to n v) (on-shelf rows s.first i s.is) d)

-- ---- a block's edges

-- so many of the distinct destinations are put; the others are left
pub record Linking (b work : List ℕ) (rows : ℕ) (c : Named) (s : Distinct) (n : ℕ) (w : List ℕ) : Type 0 where
  pub put : List ℕ
  pub all : distinct (named_by b c) ≡ put ++ distinct_left s
  pub count : n ≡ length put
  pub few : length (distinct (named_by b c)) < 2 ^ 64
  pub table : Table b w rows
  pub rows_kept : (i : ℕ) → i + 8 ≤ 16 * rows → num_at 8 w i ≡ num_at 8 work i
  pub kept : length w ≡ length work

pub link_start : {map : Bor (List ℕ)} {work : List ℕ} {rows : ℕ} {c : Named} {s : Distinct} → s ≡ none_passed map c → Walking map.now c.at → length map.now < 2 ^ 64 → Table map.now work rows
    → Linking map.now work rows c s 0 work
link_start {map} {work} {rows} {c} e x l t =
    record { put = []; all = sym (choose-all e); count = refl; few = few-distinct c x l; table = t; rows_kept = λ i h. refl; kept = refl }

module _ {b work : List ℕ} {rows : ℕ} {c : Named} {s : Distinct} {n : ℕ} {w : List ℕ} (i : Linking b work rows c s n w) where
  module _ {to : ℕ} (t : Distinct) (e : distinct_left s ≡ to ∷ distinct_left t) where
    its : distinct (named_by b c) ≡ i.put ++ to ∷ distinct_left t
    its = i.all ∙ ap (λ (l : List ℕ). i.put ++ l) e

    module _ {key : ℕ} (o : Owned b key c) {w' : List ℕ} (k : Kept w rows key to n w') where
      place : PlaceOf to (distinct (named_by b c)) n
      place = record { before = i.put; behind = distinct_left t; is = its; first = once-first to (named_by b c) i.put (distinct_left t) its; place = i.count }

      -- what is put is right
      tells-new : {v : List ℕ} {at : ℕ} → EntryOf v at key to (n + 1) → Tells b v at
      tells-new {v} {at} d =
          record {
            so = λ slot m x y.
                let s : slot ≡ o.slot = omega (arith, d.key_is, o.key_is) in
                let p : n ≡ m = omega (arith, d.place_is) in
                record {
                  so = λ before f after l q.
                      subst (λ (j : ℕ). PlaceOf (num_at 8 v (at + 8)) (outgoing f) j) p
                      (subst (λ (j : ℕ). PlaceOf j (outgoing f) n) (sym d.to_is)
                      (subst (λ (ds : List ℕ). PlaceOf to ds n) (o.out before f after l (sym s ∙ q)) place));
                };
          }

      -- what stands elsewhere stays
      tells-old : {v : List ℕ} {j : ℕ} → Entered w (16 * rows + 24 * j) key to n v → (m : ℕ) → (m ≡ j → ⊥) → Tells b v (16 * rows + 24 * m)
      tells-old {v} {j} d m z = record { so = λ slot x y l. rw (same 8 (omega arith)) ((i.table.entry m).so slot x (sym (at_first) ∙ y) (sym (same 16 (omega arith)) ∙ l)) }
        where
          elsewhere : (u : ℕ) → u ≤ 16 → Dec (m < j) → 16 * rows + 24 * m + u < 16 * rows + 24 * j + 24 → 16 * rows + 24 * m + u + 8 ≤ 16 * rows + 24 * j
          elsewhere u f (yes x) _ = omega arith
          elsewhere u f (no x) y = absurd (z (omega arith))

          same : (u : ℕ) → u ≤ 16 → num_at 8 v (16 * rows + 24 * m + u) ≡ num_at 8 w (16 * rows + 24 * m + u)
          same u f = d.apart (16 * rows + 24 * m + u) (elsewhere u f (dec_lt m j))

          at_first : num_at 8 v (16 * rows + 24 * m) ≡ num_at 8 w (16 * rows + 24 * m)
          at_first = d.apart (16 * rows + 24 * m) (first-apart (dec_lt m j))
            where
              first-apart : Dec (m < j) → 16 * rows + 24 * m < 16 * rows + 24 * j + 24 → 16 * rows + 24 * m + 8 ≤ 16 * rows + 24 * j
              first-apart (yes x) _ = omega arith
              first-apart (no x) y = absurd (z (omega arith))

      pub link_on : Linking b work rows c t (n + 1) w'
      link_on = by-case k
        where
          more : distinct (named_by b c) ≡ (i.put ++ to ∷ []) ++ distinct_left t
          more = its ∙ sym (append_assoc i.put (to ∷ []) (distinct_left t))

          counted : n + 1 ≡ length (i.put ++ to ∷ [])
          counted = omega (arith, length-append i.put (to ∷ []), i.count)

          by-case : {v : List ℕ} → Kept w rows key to n v → Linking b work rows c t (n + 1) v
          by-case not_kept = record { put = i.put ++ to ∷ []; all = more; count = counted; few = i.few; table = i.table; rows_kept = i.rows_kept; kept = i.kept }
          by-case (kept_at j {work' = v} d) =
              record {
                put = i.put ++ to ∷ [];
                all = more;
                count = counted;
                few = i.few;
                table = record { fits = omega (arith, i.table.fits, d.kept); entry = λ m. by-entry m (eqb m j) refl };
                rows_kept = λ x l. d.apart x (λ _. omega arith) ∙ i.rows_kept x l;
                kept = d.kept ∙ i.kept;
              }
            where
              by-entry : (m : ℕ) (t : Bool) → eqb m j ≡ t → Tells b v (16 * rows + 24 * m)
              by-entry m true y = subst (λ (x : ℕ). Tells b v (16 * rows + 24 * x)) (sym (eqb-true m j y)) (tells-new d.entry)
              by-entry m false y = tells-old d m (eqb-false m j y)

-- The ways out of the functions on kinds, and what is no 7. Assumes nothing.
use mathlib.Core.Path.{◌≡◌, refl, sym, ap, ◌∙◌}
use mathlib.Core.Bool.{Bool, true, false}
use mathlib.Core.List.{List, [], ◌∷◌}
use Prim.Native.Nat.{ℕ, ◌≤◌, ◌<◌}
use native.Mathlib.Omega.{arith}
use lib.Dec.{eqb, leb}
use lib.ListN.{length, take, drop, length-drop}
use Rattle.std.specs.Prelude.{Option}
use borrow.Author.Tests.{eq-eqb, ne_eqb, lt-leb, le-ltb}
use Rattle.spec.specs.Lists.{number}
use Rattle.spec.specs.Entries.{wide_code, way_kind, record_kind, numbered_kind, absent}
use Rattle.spec.specs.Forms.{wide_in, field, sort, Sort as Means, HEAD, BLOCK, WAY, RECORD, UNKNOWN}
use Rattle.theorems.proofs.ReaderPlaces.{never}
use Rattle.spec.specs.Reader.{goes_on}
use Rattle.laws.proofs.Branch.{if-true, if-false}
use Rattle.theorems.proofs.Bytes.{Bytes, bytes_drop}
use Rattle.lent.specs.Bytes.{num_at, Holds}
use Rattle.reader.specs.Sorts.{sort_of, path_kinds, path_sort}
use Rattle.reader.specs.Shapes.{way?}
use Rattle.reader.specs.declared.kind.Kinds.{Kinds}
use Rattle.reader.specs.declared.kind.Sort.{Sort}

-- ---- path_sort

module _ (k : ℕ) (wide : Bool) {f : Kinds} (q : f ≡ path_kinds wide) where
  way-is : f.way ≡ way_kind wide
  way-is = ap (λ (x : Kinds). x.way) q

  plain-is : f.plain ≡ record_kind wide
  plain-is = ap (λ (x : Kinds). x.plain) q

  numbered-is : f.numbered ≡ numbered_kind wide
  numbered-is = ap (λ (x : Kinds). x.numbered) q

  pub path-way : k ≡ f.way → WAY (absent wide) ≡ path_sort wide k
  unfolding path_sort
  path-way e = sym (if-true _ _ _ (eq-eqb k (way_kind wide) (e ∙ way-is)))

  module _ (n7 : k ≡ f.way → ⊥) where
    off-way : eqb k (way_kind wide) ≡ false
    off-way = ne_eqb k (way_kind wide) (λ e. n7 (e ∙ sym way-is))

    pub path-record : k ≡ f.plain → RECORD 4 (absent wide) ≡ path_sort wide k
    unfolding path_sort
    path-record e = sym (if-false _ _ _ off-way ∙ if-true _ _ _ (eq-eqb k (record_kind wide) (e ∙ plain-is)))

    module _ (n8 : k ≡ f.plain → ⊥) where
      off-plain : eqb k (record_kind wide) ≡ false
      off-plain = ne_eqb k (record_kind wide) (λ e. n8 (e ∙ sym plain-is))

      pub path-numbered : k ≡ f.numbered → RECORD 8 (absent wide) ≡ path_sort wide k
      unfolding path_sort
      path-numbered e = sym (if-false _ _ _ off-way ∙ if-false _ _ _ off-plain ∙ if-true _ _ _ (eq-eqb k (numbered_kind wide) (e ∙ numbered-is)))

      pub path-none : (k ≡ f.numbered → ⊥) → UNKNOWN ≡ path_sort wide k
      unfolding path_sort
      path-none n9 = sym (if-false _ _ _ off-way ∙ if-false _ _ _ off-plain ∙ if-false _ _ _ (ne_eqb k (numbered_kind wide) (λ e. n9 (e ∙ sym numbered-is))))

module _ (k : ℕ) where
  -- ---- sort_of

  module _ (n1 : k ≡ 1 → ⊥) (n2 : k ≡ 2 → ⊥) (n3 : k ≡ 3 → ⊥) (n4 : k ≡ 4 → ⊥) (n5 : k ≡ 5 → ⊥) (n6 : k ≡ 6 → ⊥) where
    path-kind : (wide : Bool) → path_sort wide k ≡ sort wide k
    unfolding sort path_sort
    path-kind wide =
        sym
        (if-false _ _ _ (ne_eqb k 1 n1) ∙ if-false _ _ _ (ne_eqb k 2 n2) ∙ if-false _ _ _ (ne_eqb k 3 n3) ∙ if-false _ _ _ (ne_eqb k 4 n4)
        ∙ if-false _ _ _ (ne_eqb k 5 n5) ∙ if-false _ _ _ (ne_eqb k 6 n6))

    pub kind-path : (second : Bool) (s : Option Sort) → sort_of second s ≡ path_sort second k → sort_of second s ≡ sort second k
    kind-path second s h = h ∙ path-kind second

-- ---- wide_in

one_byte : (l : List ℕ) → Bytes l → length l ≤ 1 → number (take 2 l) < 256
unfolding number
one_byte [] h s = omega arith
one_byte (x ∷ []) h s = omega (arith, h 0)
one_byte (x ∷ y ∷ l) h s = absurd (omega arith)

module _ (b : List ℕ) where
  -- with fewer bytes no code length stands there, and none above 255 can
  pub wide_short : length b < 8 → Bytes b → leb 8 (length b) ≡ wide_in b
  wide_short h w = lt-leb 8 (length b) h ∙ sym (le-ltb _ (field 6 2 b) (omega (arith, one_byte (drop 6 b) (bytes_drop 6 b w) (omega (arith, length-drop 6 b)))))

  pub wide-there : {n : ℕ} {r : Bool} → Holds 2 b 6 n → r ≡ wide_code n → r ≡ wide_in b
  unfolding num_at
  wide-there h q = q ∙ ap wide_code h.is

-- ---- what is no 7

-- what is no 7 ends the run
pub other-ends : (s : Means) → way? s ≡ false → (n : ℕ) → goes_on s n ≡ 0
other-ends HEAD h n = refl
other-ends (BLOCK x) h n = refl
other-ends (WAY missing) h n = never (cc)
other-ends (RECORD to missing) h n = refl
other-ends UNKNOWN h n = refl

pub way-goes : (s : Means) → way? s ≡ true → (n : ℕ) → goes_on s n ≡ n
way-goes HEAD h n = never (cc)
way-goes (BLOCK x) h n = never (cc)
way-goes (WAY missing) h n = refl
way-goes (RECORD to missing) h n = never (cc)
way-goes UNKNOWN h n = never (cc)

-- The list of the blocks' starts: what it depends on, one more entry, how long it is, and the start of a row's block put behind the others. Assumes nothing.
use mathlib.Core.Path.{◌≡◌, refl, sym, ap, ap₂, ◌∙◌}
use mathlib.Core.List.{List, [], ◌∷◌, ◌++◌, append-nil}
use Prim.Native.Nat.{ℕ, zero, suc, ◌+◌, ◌≤◌, ◌<◌}
use native.Mathlib.Nat.{add-zero, zero-add}
use native.Mathlib.Numerals.{add-one}
use native.Mathlib.Omega.{arith}
use lib.ListN.{length, get_or, drop}
use Rattle.spec.specs.Lists.{little}
use Rattle.lent.specs.Bytes.{num_at, Stored}
use Rattle.lent.proofs.Numbers.{num-suffix}
use Rattle.lent.proofs.Stored.{kept-take, kept-drop, kept-num, read_back}
use Rattle.layout.specs.Parts.{starts_place, start_place}
use Rattle.layout.specs.Rows.{tag_at, starts_at}
use Rattle.initial.specs.Rows.{block_at, row_blocks}
use Rattle.initial.specs.Promises.{Listing, ListedRow}
use Rattle.initial.proofs.Rows.{here-block}

module _ (n : ℕ) where
  -- ---- what it depends on: the entries' numbers

  module _ (w v : List ℕ) where
    pub list_same : (i m : ℕ) → ((x : ℕ) → i ≤ x → x < i + m → num_at 2 w (start_place n x) ≡ num_at 2 v (start_place n x)) → starts_at w n i m ≡ starts_at v n i m
    unfolding starts_at
    list_same i zero h = refl
    list_same i (suc m) h = ap₂ {C = List ℕ} (λ (x : ℕ) (xs : List ℕ). x ∷ xs) (h i (omega arith) (omega arith)) (list_same (suc i) m (λ x l g. h x (omega arith) (omega arith)))

    pub list-suffix : (m k : ℕ) → drop k w ≡ drop k v → k ≤ starts_place n → starts_at w n 0 m ≡ starts_at v n 0 m
    list-suffix m k e h = list_same 0 m (λ x l g. num-suffix w v k e 2 (start_place n x) (omega arith))

  module _ (w : List ℕ) where
    -- ---- one more entry, behind the others

    pub list-more : (i m : ℕ) → starts_at w n i (suc m) ≡ starts_at w n i m ++ (num_at 2 w (start_place n (i + m)) ∷ [])
    unfolding starts_at
    list-more i zero = rw add-zero
    list-more i (suc m) =
        let e : suc i + m ≡ i + suc m = omega arith in
        ap {B = List ℕ} (λ (xs : List ℕ). num_at 2 w (start_place n i) ∷ xs) (rw e at (list-more (suc i) m))

    -- ---- how long it is, and an entry of it

    pub list_length : (i m : ℕ) → length (starts_at w n i m) ≡ m
    unfolding starts_at
    list_length i zero = refl
    list_length i (suc m) = ap suc (list_length (suc i) m)

    pub list_at : (i m x : ℕ) → x < m → get_or (starts_at w n i m) x 0 ≡ num_at 2 w (start_place n (i + x))
    unfolding starts_at
    list_at i zero x h = absurd (omega arith)
    list_at i (suc m) zero h = rw add-zero
    list_at i (suc m) (suc x) h =
        let e : suc i + x ≡ i + suc x = omega arith in
        rw e at (list_at (suc i) m x (omega arith))

-- ---- the start of a row's block, if one starts there, is put behind the others

module _ {n : ℕ} {w : List ℕ} {a many : ℕ} (l : Listing n w a many) where
  pub list-none : row_blocks w a ≡ [] → ListedRow n w a many w many
  list-none e =
      record {
        list = rw e (sym (append-nil (starts_at w n 0 many)));
        before = refl;
        past = refl;
        low = omega arith;
        few = omega arith;
        kept = refl;
      }

  pub list-one : {w' : List ℕ} → (tag_at w a ≡ 0 → ⊥) → Stored 2 w (start_place n many) (little 2 a) w' → ListedRow n w a many w' (many + 1)
  list-one {w'} z s =
      let there : row_blocks w a ≡ block_at w a ∷ [] = here-block w a z in
      let old : starts_at w' n 0 many ≡ starts_at w n 0 many = list_same n w' w 0 many (λ x k g. kept-num s 2 (start_place n x) (λ _. omega arith)) in
      let new : num_at 2 w' (start_place n many) ≡ a = read_back s (omega (arith, l.short)) in
      record {
        list = rw (add-one, there) (list-more n w' 0 many ∙ rw (zero-add, old, new));
        before = kept-take s (start_place n many) (omega arith);
        past = kept-drop s (start_place n (many + 1)) (omega arith);
        low = omega arith;
        few = omega arith;
        kept = s.kept;
      }

-- The destinations of the records, one after the other and in parts. Assumes nothing.
use mathlib.Core.Path.{◌≡◌, refl, sym}
use mathlib.Core.Bool.{Bool, true, false}
use mathlib.Core.List.{List, [], ◌∷◌, ◌++◌, append-nil, append_assoc}
use Prim.Native.Nat.{ℕ, zero, suc, ◌+◌}
use native.Mathlib.Omega.{arith}
use lib.Dec.{eqb}
use Rattle.spec.specs.Lists.{if}
use Rattle.layout.specs.Marks.{NOWHERE}
use Rattle.layout.specs.Records.{to_at}
use Rattle.resolver.specs.Turns.{dests_from}

abbrev pub dest_at : List ℕ → ℕ → List ℕ
dest_at r i = if (eqb (to_at r i) NOWHERE) [] (to_at r i ∷ [])

one_more : (b : Bool) (x : ℕ) (xs ys : List ℕ) → if b (xs ++ ys) (x ∷ (xs ++ ys)) ≡ if b xs (x ∷ xs) ++ ys
unfolding if
one_more true x xs ys = refl
one_more false x xs ys = refl

pub dests-more : (r : List ℕ) (i m : ℕ) → dests_from r i (suc m) ≡ dests_from r i m ++ dest_at r (i + m)
unfolding dests_from
dests-more r i zero = let e : i + 0 ≡ i = omega arith in rw e
dests-more r i (suc m) =
    let e : suc i + m ≡ i + suc m = omega arith in
    rw (dests-more r (suc i) m, e) (one_more (eqb (to_at r i) NOWHERE) (to_at r i) (dests_from r (suc i) m) (dest_at r (i + suc m)))

-- ---- a part after the other

pub dests-split : (r : List ℕ) (i m j : ℕ) → dests_from r i (m + j) ≡ dests_from r i m ++ dests_from r (i + m) j
unfolding dests_from
dests-split r i m zero = let e : m + 0 ≡ m = omega arith in rw e (sym (append-nil (dests_from r i m)))
dests-split r i m (suc j) =
    let e : m + suc j ≡ suc (m + j) = omega arith in
    let f : i + (m + j) ≡ i + m + j = omega arith in
    rw (e, dests-more r i (m + j), dests-split r i m j, f, dests-more r (i + m) j) (append_assoc (dests_from r i m) (dests_from r (i + m) j) (dest_at r (i + m + j)))

-- Numbers of 8 bytes: what is written is read again. Assumes nothing.
use Prim.Native.Nat.{ℕ, ◌≤◌, ◌<◌, ◌^◌, ◌*◌}
use native.Mathlib.Omega.{arith}
use mathlib.Core.Path.{◌≡◌, refl, ap₂}
use mathlib.Core.Bool.{Bool, true, false, ◌&&◌}
use mathlib.Core.List.{List, [], ◌∷◌, ◌++◌}
use lib.Dec.{ltb}
use lib.ListN.{length, length-append, length-drop}
use borrow.Author.Tests.{ltb-true, ltb-false, lt-ltb}
use Rattle.spec.specs.Eights.{eights, as_eights, all_fit, over}
use Rattle.laws.proofs.Members.{In, here, there, and_both, and-true}
use Rattle.theorems.proofs.ReaderPlaces.{never}
use Rattle.theorems.proofs.Bytes.{number-little}

pub eights-back : (ns rest : List ℕ) → all_fit ns ≡ true → eights (length ns) (as_eights ns ++ rest) ≡ ns
eights-back [] rest e = refl
eights-back (n ∷ ns) rest e =
    let k = and_both (ltb n (2 ^ 64)) _ e in
    ap₂ {C = List ℕ} (λ (x : ℕ) (xs : List ℕ). x ∷ xs) (number-little 8 n (ltb-true _ _ k.0)) (eights-back ns rest k.1)

pub eights-long : (ns : List ℕ) → length (as_eights ns) ≡ 8 * length ns
eights-long [] = refl
eights-long (n ∷ ns) = omega (arith, eights-long ns)

pub over-long : (new old : List ℕ) → length new ≤ length old → length (over new old) ≡ length old
over-long new old h = simp (length-append, length-drop) (omega arith)

-- numbers below others
abbrev pub Below : List ℕ → List ℕ → Type 0
Below [] [] = Unit {0}
Below [] (m ∷ ms) = ⊥
Below (n ∷ ns) [] = ⊥
Below (n ∷ ns) (m ∷ ms) = (n ≤ m) × Below ns ms

pub below-fit : (ns ms : List ℕ) → Below ns ms → all_fit ms ≡ true → all_fit ns ≡ true
below-fit [] [] b e = refl
below-fit [] (m ∷ ms) b e = absurd b
below-fit (n ∷ ns) [] b e = absurd b
below-fit (n ∷ ns) (m ∷ ms) b e =
    let k = and_both (ltb m (2 ^ 64)) _ e in
    let low : m < 2 ^ 64 = ltb-true _ _ k.0 in
    and-true _ _ (lt-ltb n (2 ^ 64) (omega (arith, b.0))) (below-fit ns ms b.1 k.1)

pub each_fits : (ns : List ℕ) → all_fit ns ≡ true → (n : ℕ) → In n ns → n < 2 ^ 64
each_fits [] e n i = elim i [ ]
each_fits (x ∷ ns) e n here = ltb-true _ _ (and_both (ltb x (2 ^ 64)) _ e).0
each_fits (x ∷ ns) e n (there i) = each_fits ns (and_both (ltb x (2 ^ 64)) _ e).1 n i

pub one-large : (ns : List ℕ) → all_fit ns ≡ false → (n : ℕ) × In n ns × (2 ^ 64 ≤ n)
one-large [] e = never (cc)
one-large (x ∷ ns) e = by-test (ltb x (2 ^ 64)) refl e (one-large ns)
  where
    by-test : (t : Bool) → ltb x (2 ^ 64) ≡ t → t && all_fit ns ≡ false → (all_fit ns ≡ false → (n : ℕ) × In n ns × (2 ^ 64 ≤ n))
        → (n : ℕ) × In n (x ∷ ns) × (2 ^ 64 ≤ n)
    by-test false q f ih = (x, here, ltb-false _ _ q)
    by-test true q f ih = let k = ih f in (k.0, there k.1, k.2)

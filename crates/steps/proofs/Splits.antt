-- A path in two: its addresses, and whether each is one of the code's. Assumes nothing.
use mathlib.Core.Path.{◌≡◌}
use mathlib.Core.Logic.{◌⊎◌, inl, inr}
use mathlib.Core.List.{List, [], ◌∷◌, ◌++◌}
use Prim.Native.Nat.{ℕ, zero, suc, ◌+◌, ◌-◌, ◌*◌, ◌≤◌, ◌<◌}
use native.Mathlib.Nat.{add-zero, zero-add, suc-add}
use native.Mathlib.Omega.{arith}
use Rattle.lent.specs.Bytes.{num_at}
use Rattle.laws.proofs.Members.{In, here, in_left, in_right, in-cases}
use Rattle.tables.specs.Addrs.{addrs}
use Rattle.steps.specs.Paths.{Inside}

-- ---- addresses

pub addrs-append : (b : List ℕ) (at m n : ℕ) → addrs b at (m + n) ≡ addrs b at m ++ addrs b (at + m) n
unfolding addrs
addrs-append b at zero n = rw (zero-add, add-zero)
addrs-append b at (suc m) n = let e : at + 1 + m ≡ at + suc m = omega arith in rw (suc-add, addrs-append b (at + 1) m n, e)

-- one more
pub addrs-more : (b : List ℕ) (i x : ℕ) → x ≡ num_at 2 b (2 * i) → addrs b 0 (i + 1) ≡ addrs b 0 i ++ x ∷ []
unfolding addrs
addrs-more b i x e = rw (e, addrs-append b 0 i 1, zero-add)

-- ---- those of the code

module _ {n : ℕ} where
  pub inside-append : {xs ys : List ℕ} → Inside n xs → Inside n ys → Inside n (xs ++ ys)
  inside-append {xs} {ys} p q = record { each = λ a i. go a (in-cases xs i) }
    where
      go : (a : ℕ) → In a xs ⊎ In a ys → a ≤ n
      go a (inl i) = p.each a i
      go a (inr i) = q.each a i

  pub inside-front : (xs ys : List ℕ) → Inside n (xs ++ ys) → Inside n xs
  inside-front xs ys p = record { each = λ a i. p.each a (in_left i ys) }

  pub inside_back : (xs ys : List ℕ) → Inside n (xs ++ ys) → Inside n ys
  inside_back xs ys p = record { each = λ a i. p.each a (in_right xs i) }

  pub inside-less : (b : List ℕ) (m more : ℕ) → Inside n (addrs b 0 (m + more)) → Inside n (addrs b 0 m)
  inside-less b m more p = inside-front (addrs b 0 m) (addrs b (0 + m) more) (rw addrs-append at p)

  -- the i-th
  pub inside-at : (b : List ℕ) (m i x : ℕ) → Inside n (addrs b 0 m) → i < m → x ≡ num_at 2 b (2 * i) → x ≤ n
  inside-at b m i x p h e =
      let s : i + 1 + (m - (i + 1)) ≡ m = omega arith in
      let q : Inside n (addrs b 0 i ++ x ∷ []) = rw (addrs-more b i x e) at (inside-less b (i + 1) (m - (i + 1)) (rw s p)) in
      (inside_back (addrs b 0 i) (x ∷ []) q).each x here

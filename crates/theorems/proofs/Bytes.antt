-- Numbers in bytes: what is written is read again, and what is read is written again to the same bytes. Assumes nothing.
use Prim.Native.Nat.{ℕ, zero, suc, ◌+◌, ◌*◌, ◌/◌, ◌%◌, ◌^◌, ◌≤◌, ◌<◌}
use native.Mathlib.Omega.{arith}
use native.Mathlib.Nat.{pow-suc, div-add-mod'}
use mathlib.Core.Path.{◌≡◌, refl, ap, ap₂}
use mathlib.Core.List.{List, [], ◌∷◌, ◌++◌}
use lib.ListN.{length, get_or, take, drop, length-drop, take-append-drop}
use lib.Seq.{get_or-drop, drop-drop}
use Rattle.spec.specs.Lists.{gather, little, number}
use Rattle.spec.specs.Forms.{field}
use Rattle.spec.specs.Reader.{addresses}
use Rattle.laws.proofs.Members.{In, here, there}

-- each is a byte
abbrev pub Bytes : List ℕ → Type 0
Bytes b = (i : ℕ) → get_or b i 0 < 256

pub bytes_drop : (n : ℕ) (b : List ℕ) → Bytes b → Bytes (drop n b)
bytes_drop n b h i = rw get_or-drop (h (n + i))

pub bytes_take : (n : ℕ) (b : List ℕ) → Bytes b → Bytes (take n b)
bytes_take zero b h i = omega arith
bytes_take (suc n) [] h i = omega arith
bytes_take (suc n) (x ∷ xs) h zero = h 0
bytes_take (suc n) (x ∷ xs) h (suc i) = bytes_take n xs (λ j. h (suc j)) i

-- ---- one number

pub number-little : (k v : ℕ) → v < 256 ^ k → number (little k v) ≡ v
unfolding number
number-little zero v h = omega arith
number-little (suc k) v h =
    let hi : v / 256 < 256 ^ k = omega (arith, pow-suc 256 k) in
    rw (number-little k (v / 256) hi) (omega (arith, div-add-mod' v 256))

pub little-number : (k : ℕ) (b : List ℕ) → Bytes b → k ≤ length b → little k (number (take k b)) ≡ take k b
unfolding number
little-number zero b h f = refl
little-number (suc k) [] h f = absurd (omega arith)
little-number (suc k) (x ∷ xs) h f =
    let n = number (take k xs) in
    let low : (x + n * 256) % 256 ≡ x = omega (arith, h 0) in
    let high : (x + n * 256) / 256 ≡ n = omega (arith, h 0) in
    rw (low, high, little-number k xs (λ i. h (suc i)) (omega arith))

-- ---- a field of a body, and what stands behind it

pub part : (k at : ℕ) (body : List ℕ) {tail : List ℕ} → Bytes body → at + k ≤ length body → tail ≡ drop (at + k) body → little k (field at k body) ++ tail ≡ drop at body
part k at body h f e =
    rw (e, little-number k (drop at body) (bytes_drop at body h) (rw length-drop (omega arith)), ← drop-drop k at body) (take-append-drop k (drop at body))

-- ---- addresses

pub record Spelled (n : ℕ) (b : List ℕ) : Type 0 where
  pub same : gather (little 2) (addresses b) ≡ b
  pub long : length (addresses b) ≡ n

pub spelled : (n : ℕ) (b : List ℕ) → Bytes b → length b ≡ 2 * n → Spelled n b
unfolding addresses
spelled zero [] h e = record { same = refl; long = refl }
spelled (suc n) [] h e = absurd (omega arith)
spelled n (x ∷ []) h e = absurd (omega arith)
spelled zero (x ∷ y ∷ bs) h e = absurd (omega arith)
spelled (suc n) (x ∷ y ∷ bs) h e =
    let s = spelled n bs (λ i. h (suc (suc i))) (omega arith) in
    record {
      same = ap₂ (λ (a b : List ℕ). a ++ b) (little-number 2 (x ∷ y ∷ []) (bytes_take 2 (x ∷ y ∷ bs) h) (omega arith)) s.same;
      long = ap suc s.long;
    }

pub addressed : (p : List ℕ) → ((a : ℕ) → In a p → a < 65536) → addresses (gather (little 2) p) ≡ p
unfolding addresses
addressed [] h = refl
addressed (a ∷ p) h = ap₂ {C = List ℕ} (λ (x : ℕ) (xs : List ℕ). x ∷ xs) (number-little 2 a (h a here)) (addressed p (λ b i. h b (there i)))

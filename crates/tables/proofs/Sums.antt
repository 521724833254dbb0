-- The laws of sums. Assumes nothing.
use Rattle.std.proofs.Common.{◌≡◌, ℕ, ◌+◌, ◌*◌, ◌/◌, ◌%◌, ◌^◌, ◌<◌, ◌≤◌, min, [], ◌∷◌, refl, ap, ◌∙◌, ap₂, mod-lt, div-lt_iff_lt-mul, mul-lt-mul_of_pos_right, arith}
use native.Mathlib.Nat.{min-le_left}
use Rattle.spec.specs.Stacks.{Sym, before, constant, jumpdest}
use Rattle.state.specs.Cells.{tag, value}
use Rattle.tables.specs.Sums.{mixed, weight, sym_sums, summed, stamp, bucket_of}

-- of the number only the lowest 32 bits count
pub mix-low : (k sum x : ℕ) → mixed k sum (x % 2 ^ 32) ≡ mixed k sum x
unfolding mixed
mix-low k sum x = low-more (sum * k) x
  where
    low-more : (a x : ℕ) → (a + x % 2 ^ 32) % 2 ^ 32 ≡ (a + x) % 2 ^ 32
    low-more a x = omega arith

-- ---- sums that wrap, worked out one after the other, wrap as one

-- a factor, and a number
pub factored : (k sum x : ℕ) → (sum * k % 2 ^ 32 + x) % 2 ^ 32 ≡ mixed k sum x
unfolding mixed
factored k sum x = plus (sum * k) x
  where
    plus : (a x : ℕ) → (a % 2 ^ 32 + x) % 2 ^ 32 ≡ (a + x) % 2 ^ 32
    plus a x = omega arith

abbrev wrapped : ℕ → ℕ → Type 0
wrapped r k = r ≡ k % 2 ^ 32

both : (k j : ℕ) {a b r : ℕ} → wrapped a k → wrapped b j → wrapped r (a + b) → wrapped r (k + j)
both k j p q h = omega arith

double : (k : ℕ) {a r : ℕ} → wrapped a k → wrapped r (a + a) → wrapped r (k + k)
double k p h = both k k p p h

more : (k s : ℕ) {a r : ℕ} → wrapped a k → wrapped r (a + s) → wrapped r (k + s)
more k s p h = omega arith

-- 37 times a sum by doubling, and a number
pub mixing : (s x : ℕ) {a b c n d e f r : ℕ} → a ≡ (s + s) % 2 ^ 32 → b ≡ (a + a) % 2 ^ 32 → c ≡ (b + b) % 2 ^ 32 → n ≡ (c + s) % 2 ^ 32
    → d ≡ (n + n) % 2 ^ 32 → e ≡ (d + d) % 2 ^ 32 → f ≡ (e + s) % 2 ^ 32 → r ≡ (f + x) % 2 ^ 32 → r ≡ mixed 37 s x
unfolding mixed
mixing s x p2 p4 p8 p9 p18 p36 p37 h =
    let four = double (s + s) p2 p4 in
    let nine = more _ s (double _ four p8) p9 in
    let most = more _ s (double _ (double _ nine p18) p36) p37 in
    more _ x most h ∙ ap (λ (k : ℕ). k % 2 ^ 32) (omega arith)

-- three times, and a number
pub blending : (s x : ℕ) {a b r : ℕ} → a ≡ (s + s) % 2 ^ 32 → b ≡ (a + s) % 2 ^ 32 → r ≡ (b + x) % 2 ^ 32 → r ≡ mixed 3 s x
unfolding mixed
blending s x p2 p3 h = more _ x (more _ s p2 p3) h ∙ ap (λ (k : ℕ). k % 2 ^ 32) (omega arith)

-- a symbol's number, and its tag a million times
pub weighing : (x : Sym) {v l g t r : ℕ} → v ≡ value x → l ≡ v % 2 ^ 32 → g ≡ tag x → t ≡ (g * 1000000) % 2 ^ 32 → r ≡ (l + t) % 2 ^ 32 → r ≡ weight x
unfolding weight
weighing x {v} {g = g} p q f q' h = both v (g * 1000000) q q' h ∙ ap₂ (λ (k j : ℕ). (k + j * 1000000) % 2 ^ 32) p f

-- ---- the bucket of a sum

abbrev spread : ℕ → ℕ
spread sum = sum % 2 ^ 32 * 2654435769 % 2 ^ 32

spread-small : (sum : ℕ) → spread sum < 2 ^ 32
spread-small sum = mod-lt (sum % 2 ^ 32 * 2654435769) (omega arith)

pub scaled : (sum : ℕ) {k : ℕ} → 1 ≤ k → spread sum * k / 2 ^ 32 < k
scaled sum {k} some =
    let below : spread sum * k < 2 ^ 32 * k = mul-lt-mul_of_pos_right (spread-small sum) some in
    let above : 0 < 2 ^ 32 = omega arith in
    (div-lt_iff_lt-mul above).1 (omega (arith, below))

pub is-bucket : (buckets sum : ℕ) {k : ℕ} → k ≡ min buckets (2 ^ 32) → spread sum * k / 2 ^ 32 ≡ bucket_of buckets sum
unfolding bucket_of
is-bucket buckets sum e = ap (λ (k : ℕ). spread sum * k / 2 ^ 32) e

pub bucket-few : (buckets sum : ℕ) → 1 ≤ buckets → bucket_of buckets sum < buckets
unfolding bucket_of
bucket-few buckets sum some =
    let least : 1 ≤ min buckets (2 ^ 32) = omega arith in
    let scale = scaled sum least in
    omega (arith, scale, min-le_left buckets (2 ^ 32))

-- the example of docs/LAYOUT.md
example : (summed 37 4 (jumpdest 7) (constant 4294967295 ∷ before 2 ∷ before 3 ∷ []) ≡ 3898602115) × (bucket_of 256 (summed 3 4 (jumpdest 7) (constant 4294967295 ∷ before 2 ∷ before 3 ∷ [])) ≡ 85)
    × (bucket_of 2048 (stamp 4 (jumpdest 7) (constant 4294967295 ∷ before 2 ∷ before 3 ∷ [])) ≡ 1308)
unfolding summed sym_sums mixed weight stamp bucket_of
example = (refl, refl, refl)

-- What an instruction does, by the range that its byte lies in, and that one which is not DUP or SWAP gives one word at most. Assumes nothing.
use mathlib.Core.Path.{◌≡◌, refl, ap, subst, ◌∙◌}
use mathlib.Core.Logic.{◌⊎◌, inl, inr}
use mathlib.Core.Bool.{Bool, true, false, ◌&&◌}
use Prim.Native.Nat.{ℕ, zero, suc, ◌-◌, ◌≤◌, ◌<◌}
use native.Mathlib.Omega.{arith}
use native.Mathlib.Decide.{dec_lt}
use lib.Dec.{T, leb, leb→le}
use borrow.Author.Tests.{le-leb, lt-leb, ne_eqb}
use Rattle.spec.specs.Lists.{if, within}
use Rattle.spec.specs.Opcodes.{Row, row}
use Rattle.spec.specs.Stacks.{Does, pushes_value, pushes_pc, dups, swaps, ands, adds, jumps, jumpis, lands, halts, plain, does}
use Rattle.laws.proofs.Modes.{same-elsewhere}
use Rattle.evm.proofs.Table.{◌both◌, left, right, every, every-at}

-- a byte that no key of the step names
abbrev pub Unkeyed : ℕ → Type 0
Unkeyed b = (((((((Unit {0} × (b ≡ 0x5F → ⊥)) × (b ≡ 0x58 → ⊥)) × (b ≡ 0x16 → ⊥)) × (b ≡ 0x01 → ⊥)) × (b ≡ 0x56 → ⊥)) × (b ≡ 0x57 → ⊥)) × (b ≡ 0x5B → ⊥)) × ((b ≡ 0x00) ⊎ (b ≡ 0xF3) → ⊥)

module _ (m b : ℕ) where
  -- a byte that is not PUSH0 does in any mode what it does in mode 0
  pub keyed : (k : ℕ) → ¬ (k ≡ 0x5F) → b ≡ k → does m b ≡ does 0 k
  keyed k ne e = ap (does m) e ∙ same-elsewhere m k ne

  pub does-value : 0x60 ≤ b → b < 0x64 → does m b ≡ pushes_value
  unfolding does if
  does-value h g = same-elsewhere m b (λ e. omega arith) ∙ let l : b ≤ 0x63 = omega arith in rw (le-leb 0x60 b h, le-leb b 0x63 l)

  pub does-dups : 0x80 ≤ b → b < 0x90 → does m b ≡ dups (b - 0x80)
  unfolding does if
  does-dups h g =
      same-elsewhere m b (λ e. omega arith) ∙
      let l : 0x60 ≤ b = omega arith in
      let m : 0x63 < b = omega arith in
      let n : b ≤ 0x8F = omega arith in
      rw (le-leb 0x60 b l, lt-leb b 0x63 m, ne_eqb b 0x58 (λ e. omega arith), le-leb 0x80 b h, le-leb b 0x8F n)

  pub does-swaps : 0x90 ≤ b → b < 0xA0 → does m b ≡ swaps (b - 0x90)
  unfolding does if
  does-swaps h g =
      same-elsewhere m b (λ e. omega arith) ∙
      let k : 0x80 ≤ b = omega arith in
      let l : 0x60 ≤ b = omega arith in
      let m : 0x63 < b = omega arith in
      let n : 0x8F < b = omega arith in
      let o : b ≤ 0x9F = omega arith in
      rw (le-leb 0x60 b l, lt-leb b 0x63 m, ne_eqb b 0x58 (λ e. omega arith), le-leb 0x80 b k, lt-leb b 0x8F n, le-leb 0x90 b h, le-leb b 0x9F o)

  halts-one : (b ≡ 0xFD) ⊎ ((b ≡ 0xFE) ⊎ (b ≡ 0xFF)) → does m b ≡ halts
  unfolding does if
  halts-one (inl e) = keyed 0xFD (λ z. omega arith) e
  halts-one (inr (inl e)) = keyed 0xFE (λ z. omega arith) e
  halts-one (inr (inr e)) = keyed 0xFF (λ z. omega arith) e

  pub does-halts : 0xFD ≤ b → b < 0x100 → does m b ≡ halts
  does-halts h g = halts-one (go (dec_lt b 0xFE) (dec_lt b 0xFF))
    where
      go : Dec (b < 0xFE) → Dec (b < 0xFF) → (b ≡ 0xFD) ⊎ ((b ≡ 0xFE) ⊎ (b ≡ 0xFF))
      go (yes l) m = inl (omega arith)
      go (no l) (yes m) = inr (inl (omega arith))
      go (no l) (no m) = inr (inr (omega arith))

  pub halts-key : (b ≡ 0x00) ⊎ (b ≡ 0xF3) → does m b ≡ halts
  unfolding does if
  halts-key (inl e) = keyed 0x00 (λ z. omega arith) e
  halts-key (inr e) = keyed 0xF3 (λ z. omega arith) e

-- ---- the bytes that no arm of the step names, in the three gaps between its ranges

module _ (lo hi b : ℕ) where
  under : b < lo → within lo hi b ≡ false
  under h = rw (lt-leb lo b h)

  over : hi < b → within lo hi b ≡ false
  over h = rw (lt-leb b hi h) (no (leb lo b))
    where
      no : (c : Bool) → c && false ≡ false
      no true = refl
      no false = refl

module _ (m b : ℕ) (rest : Unkeyed b) where
  unnamed : within 0x60 0x63 b ≡ false → within 0x80 0x8F b ≡ false → within 0x90 0x9F b ≡ false → b < 0xFD → does m b ≡ plain
  unfolding does if
  unnamed p q r h =
      same-elsewhere m b rest.0.0.0.0.0.0.0.1 ∙
      rw (
        p,
        ne_eqb b 0x58 rest.0.0.0.0.0.0.1,
        q,
        r,
        ne_eqb b 0x16 rest.0.0.0.0.0.1,
        ne_eqb b 0x01 rest.0.0.0.0.1,
        ne_eqb b 0x56 rest.0.0.0.1,
        ne_eqb b 0x57 rest.0.0.1,
        ne_eqb b 0x5B rest.0.1,
        ne_eqb b 0x00 (λ e. rest.1 (inl e)),
        ne_eqb b 0xF3 (λ e. rest.1 (inr e)),
        ne_eqb b 0xFD (λ e. omega arith),
        ne_eqb b 0xFE (λ e. omega arith),
        ne_eqb b 0xFF (λ e. omega arith),
      )

  pub plain-low : b < 0x5F → does m b ≡ plain
  plain-low h = unnamed (under 0x60 0x63 b (omega arith)) (under 0x80 0x8F b (omega arith)) (under 0x90 0x9F b (omega arith)) (omega arith)

  pub plain-mid : 0x64 ≤ b → b < 0x80 → does m b ≡ plain
  plain-mid h g = unnamed (over 0x60 0x63 b h) (under 0x80 0x8F b g) (under 0x90 0x9F b (omega arith)) (omega arith)

  pub plain-high : 0xA0 ≤ b → b < 0xFD → does m b ≡ plain
  plain-high h g = unnamed (over 0x60 0x63 b (omega arith)) (over 0x80 0x8F b (omega arith)) (over 0x90 0x9F b h) g

-- ---- the words that they give, computed

-- what is true of every byte: DUP and SWAP look fifteen or sixteen deep, and the others take seventeen words at most and give one at most
tame : Does → Row → Bool
tame pushes_value r = true
tame pushes_pc r = true
tame (dups n) r = leb n 15
tame (swaps n) r = leb n 15
tame ands r = true
tame adds r = true
tame jumps r = true
tame jumpis r = true
tame lands r = true
tame halts r = leb r.given 1 both leb r.taken 17
tame plain r = leb r.given 1 both leb r.taken 17

tames : ℕ → ℕ → Bool
tames m b = tame (does m b) (row b)

module _ (b : ℕ) (small : b < 0x100) where
  all-tame : (m : ℕ) → T (tames m b)
  unfolding every tames tame does row if ◌both◌
  all-tame zero = every-at (tames 0) 0x100 0 b tt (omega arith) small
  all-tame (suc m) = every-at (tames (suc m)) 0x100 0 b tt (omega arith) small

module _ (m b : ℕ) (small : b < 0x100) where
  tamed : (d : Does) → does m b ≡ d → T (tame d (row b))
  unfolding tames
  tamed d e = subst (λ (x : Does). T (tame x (row b))) e (all-tame b small m)

  pub near-dups : {n : ℕ} → does m b ≡ dups n → n ≤ 15
  unfolding tame
  near-dups {n} e = leb→le n 15 (tamed (dups n) e)

  pub near-swaps : {n : ℕ} → does m b ≡ swaps n → n ≤ 15
  unfolding tame
  near-swaps {n} e = leb→le n 15 (tamed (swaps n) e)

  traded : T (leb (row b).given 1 both leb (row b).taken 17) → ((row b).given ≤ 1) × ((row b).taken ≤ 17)
  traded t = (leb→le (row b).given 1 (left _ _ t), leb→le (row b).taken 17 (right _ _ t))

  pub trades-halts : does m b ≡ halts → ((row b).given ≤ 1) × ((row b).taken ≤ 17)
  unfolding tame
  trades-halts e = traded (tamed halts e)

  pub trades-plain : does m b ≡ plain → ((row b).given ≤ 1) × ((row b).taken ≤ 17)
  unfolding tame
  trades-plain e = traded (tamed plain e)

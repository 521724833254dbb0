-- Document 02, "No. 11": "two whole numbers in lowest terms". Assumes nothing.
use Prim.Native.Nat.{ℕ, zero, suc, ◌*◌, ◌/◌, ◌%◌, ◌≤◌, ◌<◌, ◌∣◌}
use native.Mathlib.Omega.{arith}
use native.Mathlib.Nat.{mod-lt, dvd_refl, dvd-zero, dvd-mod_iff, le_of_dvd, pos_of_dvd_of_pos, div-mul_cancel, mul-dvd-mul_right, div-le_self}
use mathlib.Core.Path.{◌≡◌, refl, sym, ap, subst, ◌∙◌}
use Rattle.spec.specs.Report.{gcd_in, gcd, Share, lowest}

-- g divides both, and whatever divides both divides g
pub record Greatest (g a b : ℕ) : Type 0 where
  pub left : g ∣ a
  pub right : g ∣ b
  pub most : (d : ℕ) → d ∣ a → d ∣ b → d ∣ g

pub gcd-greatest : (n a b : ℕ) → b ≤ n → Greatest (gcd_in n a b) a b
unfolding gcd_in
gcd-greatest zero a zero h = record { left = dvd_refl a; right = dvd-zero a; most = λ d p q. p }
gcd-greatest zero a (suc b) h = absurd (omega arith)
gcd-greatest (suc n) a zero h = record { left = dvd_refl a; right = dvd-zero a; most = λ d p q. p }
gcd-greatest (suc n) a (suc b) h =
    let low : a % suc b < suc b = mod-lt a (omega arith) in
    let k = gcd-greatest n (suc b) (a % suc b) (omega arith) in
    record { left = (dvd-mod_iff _ k.left).0 k.right; right = k.left; most = λ d p q. k.most d q ((dvd-mod_iff d q).1 p) }

-- The share s of n in d: the same share, and nothing but 1 divides both of its numbers.
pub record Lowest (n d : ℕ) (s : Share) : Type 0 where
  pub same_share : s.part * d ≡ n * s.whole
  pub lowest_terms : (k : ℕ) → k ∣ s.part → k ∣ s.whole → k ≡ 1
  pub part_low : s.part ≤ n
  pub whole_low : s.whole ≤ d

pub lowest-is : (n d : ℕ) → 0 < d → Lowest n d (lowest n d)
lowest-is n zero h = absurd (omega arith)
lowest-is n (suc b) h =
    let d = suc b in
    let g = gcd n d in
    let k = gcd-greatest d n d (omega arith) in
    let pos : 0 < g = pos_of_dvd_of_pos k.right h in
    let x = n / g in
    let y = d / g in
    let nx : x * g ≡ n = div-mul_cancel g k.left in
    let dy : y * g ≡ d = div-mul_cancel g k.right in
    record {
      same_share = ap (λ (e : ℕ). x * e) (sym dy) ∙ omega arith ∙ ap (λ (e : ℕ). e * y) nx;
      lowest_terms = λ j p q. only_one g j pos (k.most (j * g) (subst (λ (e : ℕ). j * g ∣ e) nx (mul-dvd-mul_right j p g)) (subst (λ (e : ℕ). j * g ∣ e) dy (mul-dvd-mul_right j q g)));
      part_low = div-le_self n g;
      whole_low = div-le_self d g;
    }
  where
    only_one : (g j : ℕ) → 0 < g → j * g ∣ g → j ≡ 1
    only_one g zero pos p = absurd (omega (arith, pos_of_dvd_of_pos p pos))
    only_one g (suc zero) pos p = refl
    only_one g (suc (suc j)) pos p = absurd (omega (arith, le_of_dvd pos p))

-- "0 over 1 if there are none"
pub lowest-none : (n : ℕ) → lowest n 0 ≡ record { part = 0; whole = 1 }
lowest-none n = refl

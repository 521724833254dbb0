-- The first bytes of a word are the number in so many. Assumes nothing.
use mathlib.Core.Path.{◌≡◌, refl, ap, ◌∙◌}
use mathlib.Core.List.{List}
use Prim.Native.Nat.{ℕ, zero, suc, ◌/◌, ◌%◌, ◌^◌, ◌≤◌}
use native.Mathlib.Nat.{div-one, pow-suc, div-div-eq-div-mul}
use native.Mathlib.Omega.{arith}
use lib.ListN.{length, take}
use Rattle.lent.proofs.Numbers.{length-little}
use Rattle.std.specs.Int.{byte_at, bytes_low_first}
use Rattle.spec.specs.Lists.{little}
use Rattle.output.specs.declared.Output.{Output}
use Rattle.output.specs.Promises.{Puts}

byte-is : (i n : ℕ) → byte_at i n ≡ n / 256 ^ i % 256
byte-is zero n = rw div-one
byte-is (suc i) n = refl

bytes-little : (k m i n : ℕ) → k ≤ m → take k (bytes_low_first i m n) ≡ little k (n / 256 ^ i)
bytes-little zero m i n h = refl
bytes-little (suc k) zero i n h = absurd (omega arith)
bytes-little (suc k) (suc m) i n h = rw (byte-is i n, bytes-little k m (suc i) n (omega arith), div-div-eq-div-mul n (256 ^ i) 256, ← pow-suc 256 i)

pub word-little : (k n : ℕ) → k ≤ 8 → take k (bytes_low_first 0 8 n) ≡ little k n
word-little k n h = bytes-little k 8 0 n h ∙ ap (little k) (div-one n)

pub number-put : (k v : ℕ) {ws : List ℕ} {o o' : Output} → k ≤ 8 → ws ≡ bytes_low_first 0 8 v → Puts (length (take k ws)) o (take k ws) o' → Puts k o (little k v) o'
number-put k v h e p = rw length-little at (rw (e, word-little k v h) at p)

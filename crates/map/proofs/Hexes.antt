-- The laws of bytes that are printed as digits: a byte more, and the end of a line. Assumes nothing.
use mathlib.Core.Path.{◌≡◌, ◌∙◌, sym}
use mathlib.Core.List.{List, [], ◌∷◌, ◌++◌}
use Prim.Native.Nat.{ℕ, ◌+◌, ◌*◌, ◌/◌, ◌%◌, ◌≤◌, ◌<◌}
use native.Mathlib.Numerals.{add-one}
use native.Mathlib.Omega.{arith}
use lib.ListN.{length, get_or, take, drop, length-drop}
use lib.Seq.{take-suc, get_or-drop}
use borrow.Author.Tests.{le-leb, lt-leb}
use Rattle.spec.specs.Lists.{gather, little}
use Rattle.spec.specs.Program.{nibble, hex, line}
use Rattle.laws.proofs.Branch.{if-true, if-false}
use Rattle.laws.proofs.Members.{gather_append}
use Rattle.lent.specs.Bytes.{Holds, Stored}
use Rattle.lent.proofs.Numbers.{num-byte}
use Rattle.lent.proofs.Stored.{stored-join}
use Rattle.map.specs.Promises.{Spells}

-- ---- a digit's character

pub spells-figure : (v : ℕ) → v ≤ 9 → Spells v (0x30 + v)
spells-figure v h = record { is = sym (if-true _ _ _ (le-leb v 9 h)); small = omega arith }

pub spells-letter : (v : ℕ) → v < 16 → 9 < v → Spells v (0x57 + v)
spells-letter v g h = record { is = sym (if-false _ _ _ (lt-leb v 9 h)); small = omega arith }

-- ---- loads and stores

-- a number of one byte is the byte
pub byte-held : {b : List ℕ} {at x : ℕ} → Holds 1 b at x → get_or b at 0 ≡ x
byte-held {b} {at} h = sym (num-byte b at) ∙ sym h.is

-- a number that is a byte is stored as it is
pub stored-small : {v at : ℕ} {b b' : List ℕ} → v < 256 → Stored 1 b at (little 1 v) b' → Stored 1 b at (v ∷ []) b'
stored-small {v} h s = let e : v % 256 ≡ v = omega arith in rw e at s

spelled : {v c at : ℕ} {b b' : List ℕ} → Spells v c → Stored 1 b at (little 1 c) b' → Stored 1 b at (nibble v ∷ []) b'
spelled p s = rw (← p.is) (stored-small p.small s)

pub hex-byte : (x : ℕ) {at c d : ℕ} {b b₁ b₂ : List ℕ} → Spells (x / 16) c → Stored 1 b at (little 1 c) b₁
    → Spells (x % 16) d → Stored 1 b₁ (at + 1) (little 1 d) b₂
    → Stored 2 b at (hex x) b₂
hex-byte x p t q u = stored-join (spelled p t) (spelled q u)

module _ (raw : List ℕ) (from i : ℕ) {at x : ℕ} {b b₁ b₂ : List ℕ} where
  pub hex-more : Stored (2 * i) b at (gather hex (take i (drop from raw))) b₁ → from + i < length raw → Holds 1 raw (from + i) x
      → Stored 2 b₁ (at + 2 * i) (hex x) b₂ → Stored (2 * (i + 1)) b at (gather hex (take (i + 1) (drop from raw))) b₂
  hex-more s l h t =
      let k : i < length (drop from raw) = simp length-drop (omega arith) in
      let two : 2 * (i + 1) ≡ 2 * i + 2 = omega arith in
      let bytes : take (i + 1) (drop from raw) ≡ take i (drop from raw) ++ x ∷ [] = rw (add-one, ← byte-held h, ← get_or-drop) (take-suc (drop from raw) i 0 k) in
      let digits : gather hex (take (i + 1) (drop from raw)) ≡ gather hex (take i (drop from raw)) ++ hex x =
      rw bytes (gather_append hex (take i (drop from raw)) (x ∷ [])) in
      rw (two, digits) (stored-join s t)

pub line-end : {n at : ℕ} {b b₁ b₂ text : List ℕ} → Stored n b at text b₁ → Stored 1 b₁ (at + n) (little 1 0x0A) b₂ → Stored (n + 1) b at (line text) b₂
line-end s t = stored-join s t

pub hex-done : (raw : List ℕ) (from : ℕ) {n at i : ℕ} {b b' : List ℕ} → Stored (2 * i) b at (gather hex (take i (drop from raw))) b' → i ≤ n → n ≤ i
    → Stored (2 * n) b at (gather hex (take n (drop from raw))) b'
hex-done raw from {n} {i} s h g = rw (let e : n ≡ i = omega arith in e) s

-- Document 01, "Stacks": "Meaning to prove", of one instruction: symbols that are true of the words before it are so after it, and say how many there are.
-- Assumes nothing.
use Prim.Native.Nat.{ℕ, zero, suc, ◌+◌, ◌-◌, ◌^◌, ◌%◌, ◌<◌, ◌≤◌}
use native.Mathlib.Omega.{arith}
use native.Mathlib.Bridge.{le_by_compare, IsLe}
use native.Mathlib.Nat.{mod-eq_of_lt, le_trans}
use mathlib.Core.Path.{◌≡◌, refl, sym, ap, ◌∙◌}
use mathlib.Core.Bool.{true}
use mathlib.Core.Option.{Option, none, some}
use mathlib.Core.List.{List, ◌++◌}
use lib.Bits.{bit_and, and_mask, and_comm}
use lib.Dec.{eqb, ltb}
use lib.ListN.{length, get_or, drop, length-append, length-drop, length-replicate, length-set}
use borrow.Author.Tests.{eqb-true, ltb-true}
use Rattle.spec.specs.Opcodes.{Row}
use Rattle.spec.specs.Walk.{Ins}
use Rattle.spec.specs.Stacks.{Sym, before, constant, jumpdest, other, Stack, read, span, from_value, known_value, mask, is, anded, summed, Does, pushes_value, pushes_pc, dups, swaps, ands, adds, jumps, jumpis, lands, halts, plain, does, act}
use Rattle.spec.specs.Meaning.{supplied, yields, Means, Tells, Holds, Deep, Small, Masked}
use Rattle.laws.proofs.Branch.{both}
use Rattle.theorems.proofs.Counts.{takes, gives, Lawful, takes-row, gives_row, does-to, told, yields-does, ands?, anding-does}
use Rattle.theorems.proofs.Beside.{Follows, beside-act}

-- ---- words that AND and ADD make

pub is_known : (n : ℕ) (o : Option ℕ) → is n o ≡ true → o ≡ some n
is_known n none e = cc
is_known n (some m) e = ap some (sym (eqb-true n m e))

pub masked : (w : ℕ) → w < 2 ^ 32 → bit_and w mask ≡ w
masked w l = and_mask w 32 ∙ mod-eq_of_lt l

word_wide : 2 ^ 64 ≤ 2 ^ 256
unfolding IsLe
word_wide = le_by_compare (2 ^ 64) (2 ^ 256) tt

-- ws stood on entry
module _ (ws : List ℕ) where
  -- ---- what is known of a word

  means-from-value : (code : List ℕ) (v : ℕ) → Means ws (from_value code v) v
  means-from-value code v = both (λ (x : Sym). Means ws x v) (eqb (get_or code v 0) 0x5B) (λ _. refl) (λ _. refl)

  means-known : (x : Sym) (w v : ℕ) → Means ws x w → known_value x ≡ some v → w ≡ v
  means-known (before n) w v m e = cc
  means-known (constant u) w v m e = cc
  means-known (jumpdest u) w v m e = cc
  means-known (other u) w v m e = cc

  means-summed : (code : List ℕ) (pc : ℕ) (a b : Sym) (u w : ℕ) → Means ws a u → Means ws b w
      → (p q : Option ℕ) → known_value a ≡ p → known_value b ≡ q → Means ws (summed code pc p q) ((u + w) % 2 ^ 256)
  means-summed code pc a b u w m k none none e f = tt
  means-summed code pc a b u w m k none (some y) e f = tt
  means-summed code pc a b u w m k (some x) none e f = tt
  means-summed code pc a b u w m k (some x) (some y) e f =
      both (λ (z : Sym). Means ws z ((u + w) % 2 ^ 256)) (ltb (x + y) (2 ^ 64))
      (λ on. let fits : x + y < 2 ^ 256 = le_trans (ltb-true (x + y) (2 ^ 64) on) word_wide in
      rw (means-known a u x m e, means-known b w y k f, mod-eq_of_lt fits) (means-from-value code (x + y)))
      (λ _. tt)

  means-anded : (pc : ℕ) (s : Stack) (st : List ℕ) → Small s st → Means ws (read s 0) (get_or st 0 0) → Means ws (read s 1) (get_or st 1 0)
      → Means ws (anded pc (read s 0) (read s 1)) (bit_and (get_or st 0 0) (get_or st 1 0))
  means-anded pc s st small m k =
      both (λ (z : Sym). Means ws z (bit_and (get_or st 0 0) (get_or st 1 0))) (is mask (known_value (read s 0)))
      (λ on. rw (means-known (read s 0) _ mask m (is_known mask _ on), and_comm mask, masked (get_or st 1 0) (small.top on)) k)
      (λ off. both (λ (z : Sym). Means ws z (bit_and (get_or st 0 0) (get_or st 1 0))) (is mask (known_value (read s 1)))
      (λ on. rw (means-known (read s 1) _ mask k (is_known mask _ on), masked (get_or st 0 0) (small.next off on)) m)
      (λ _. tt))

  -- ---- the instruction, by what it does

  follows : (code : List ℕ) → Follows (Means ws) code
  follows code = record {
    unsaid = λ pc w. tt;
    number = means-from-value code;
    sum = λ pc a b u w m k. means-summed code pc a b u w m k (known_value a) (known_value b) refl refl;
  }

  tells-act : (row : ℕ → Row) (code : List ℕ) (f : ℕ → ℕ) (i : Ins) (d : Does) {s : Stack} {st : List ℕ} → Tells ws s st
      → takes (row i.op) d ≤ length st → (ands? d ≡ true → Small s st) → Tells ws (act row code i d s) (does-to (row i.op) f i d st)
  tells-act row code f i d {s} {st} h l o =
      record { at = (beside-act (Means ws) row code (follows code) f i d (record { at = h.at }) l (λ e m k. means-anded i.pc s st (o e) m k)).at }

-- ---- the number of words

length-supplied : (f : ℕ → ℕ) (n : ℕ) → length (supplied f n) ≡ n
length-supplied f zero = refl
length-supplied f (suc n) = ap suc (length-supplied f n)

length-trade : (f : ℕ → ℕ) (g t : ℕ) (st : List ℕ) → length (supplied f g ++ drop t st) ≡ length st - t + g
length-trade f g t st = simp (length-append, length-supplied, length-drop) (omega arith)

length-does : (x : Row) (f : ℕ → ℕ) (i : Ins) (d : Does) (st : List ℕ) → takes x d ≤ length st
    → length (does-to x f i d st) ≡ length st - takes x d + gives x d
unfolding does-to
length-does x f i pushes_value st h = omega arith
length-does x f i pushes_pc st h = omega arith
length-does x f i (dups n) st h = omega arith
length-does x f i (swaps n) st h = simp length-set (omega arith)
length-does x f i ands st h = omega (arith, length-drop 2 st)
length-does x f i adds st h = omega (arith, length-drop 2 st)
length-does x f i jumps st h = omega (arith, length-drop 1 st)
length-does x f i jumpis st h = omega (arith, length-drop 2 st)
length-does x f i lands st h = omega arith
length-does x f i halts st h = length-trade f x.given x.taken st
length-does x f i plain st h = length-trade f x.given x.taken st

length-span : (s : Stack) (i n : ℕ) → length (span s i n) ≡ n
length-span s i zero = refl
length-span s i (suc n) = ap suc (length-span s (suc i) n)

height-does : (row : ℕ → Row) (code : List ℕ) (i : Ins) (d : Does) (s : Stack)
    → length (act row code i d s).above + s.base + takes (row i.op) d ≡ length s.above + (act row code i d s).base + gives (row i.op) d
unfolding act
height-does row code i pushes_value s = omega arith
height-does row code i pushes_pc s = omega arith
height-does row code i (dups n) s = omega arith
height-does row code i (swaps n) s = simp (length-append, length-span, length-drop) (omega arith)
height-does row code i ands s = omega (arith, length-drop 2 s.above)
height-does row code i adds s = omega (arith, length-drop 2 s.above)
height-does row code i jumps s = omega (arith, length-drop 1 s.above)
height-does row code i jumpis s = omega (arith, length-drop 2 s.above)
height-does row code i lands s = omega arith
height-does row code i halts s = simp (length-append, length-replicate, length-drop) (omega arith)
height-does row code i plain s = simp (length-append, length-replicate, length-drop) (omega arith)

-- ---- the instruction, by lawful rows

module _ {row : ℕ → Row} (ok : Lawful row) where
  -- YP's instruction leaves the words that its row does not take, and those that the row gives.
  pub leaves : (supply : ℕ → ℕ → ℕ) (i : Ins) (st : List ℕ) → (row i.op).taken ≤ length st
      → length (yields row supply i st) ≡ length st - (row i.op).taken + (row i.op).given
  leaves supply i st h =
      rw (yields-does ok 0 supply i st)
      (rw (takes-row ok 0 i.op, gives_row ok 0 i.op) at (length-does (row i.op) (told supply i) i (does 0 i.op) st (rw (takes-row ok 0 i.op) h)))

  -- The symbols' stack stands for as many words more, and as many fewer.
  height-act : (m : ℕ) (code : List ℕ) (i : Ins) (s : Stack)
      → length (act row code i (does m i.op) s).above + s.base + (row i.op).taken
      ≡ length s.above + (act row code i (does m i.op) s).base + (row i.op).given
  height-act m code i s = rw (takes-row ok m i.op, gives_row ok m i.op) at (height-does row code i (does m i.op) s)

  -- "Meaning to prove", of one instruction, in any mode
  pub holds-act : (m : ℕ) (code : List ℕ) (supply : ℕ → ℕ → ℕ) (i : Ins) {ws : List ℕ} {s : Stack} {st : List ℕ} → Holds ws s st → Deep row i s st → Masked i s st
      → Holds ws (act row code i (does m i.op) s) (yields row supply i st)
  holds-act m code supply i {ws} {s} {st} h deep mask-ok = record {
    truth =
        rw (yields-does ok m supply i st)
        (tells-act ws row code (told supply i) i (does m i.op) h.truth (rw (takes-row ok m i.op) deep)
        (λ e. mask-ok (eqb-true _ _ (anding-does m i.op ∙ e))));
    size = omega (arith, leaves supply i st deep, height-act m code i s);
  }

-- Demand 3, for whole answers: rooms no smaller and a limit no smaller, in one mode and with one choice number; and document 02, No. 5: which
-- records the smaller limit has. Assumes nothing.
use Prim.Native.Nat.{ℕ, ◌≤◌, ◌<◌}
use native.Mathlib.Omega.{arith}
use native.Mathlib.Nat.{le_trans}
use mathlib.Core.Path.{◌≡◌, sym, ap, subst, ◌∙◌}
use mathlib.Core.Logic.{◌↔◌, ◌⊎◌, inl, inr}
use mathlib.Core.List.{List, ◌++◌}
use lib.Dec.{leb}
use lib.ListN.{length}
use borrow.Author.Tests.{leb-true, le-leb}
use Rattle.spec.specs.Lists.{keep}
use Rattle.spec.specs.Opcodes.{Rules}
use Rattle.spec.specs.Search.{Room, P, S, T, R, Q, Need, Rec, St}
use Rattle.spec.specs.Rooms.{Lent, units, room}
use Rattle.spec.specs.Entries.{Map, bytes}
use Rattle.spec.specs.Answer.{Answer, answered, prepared, searched, mapped, answer}
use Rattle.laws.proofs.Members.{In, in-keep, keep-in}
use Rattle.theorems.proofs.Shortage.{Fits, none_asked, one_more}
use Rattle.theorems.proofs.Refusals.{Taken, Verdict, code-over, limit-over, mode-over, work-short, room_short, output-short, all-fits, verdict, verdict-only}
use Rattle.theorems.proofs.Limits.{search-begins, search-numbers, search-same}

-- no buffer of k is smaller than l's
pub record Lends (l k : Lent) : Type 0 where
  pub w : l.w ≤ k.w
  pub p : l.p ≤ k.p
  pub s : l.s ≤ k.s
  pub t : l.t ≤ k.t
  pub r : l.r ≤ k.r
  pub q : l.q ≤ k.q
  pub out : l.out ≤ k.out

room-mono : (l k : Lent) → Lends l k → (r : Room) → room l r ≤ room k r
room-mono l k h P = omega arith
room-mono l k h S = omega arith
room-mono l k h T = omega arith
room-mono l k h R = omega arith
room-mono l k h Q = omega arith

fits-mono : (l k : Lent) → Lends l k → {ns : List Need} → Fits l ns → Fits k ns
fits-mono l k h none_asked = none_asked
fits-mono l k h (one_more {n} held rest) = one_more (le_trans held (room-mono l k h n.room)) (fits-mono l k h rest)

-- what an answer that was given says of its run
pub record Gave (r : Rules) (l : Lent) (m choice : ℕ) (code : List ℕ) (a : Map) : Type 0 where
  pub taken : Taken r l m choice code
  pub fits : Fits l (searched r m code).needs
  pub output : length (bytes a) ≤ units l.out 1
  pub is : a ≡ mapped r choice code (searched r m code)

pub gave : (r : Rules) (l : Lent) (m choice : ℕ) (code : List ℕ) (a : Map) → answer r l m choice code ≡ answered a → Gave r l m choice code a
gave r l m choice code a e = go (answer r l m choice code) (verdict r l m choice code) e
  where
    go : (b : Answer) → Verdict r l m choice code b → b ≡ answered a → Gave r l m choice code a
    go b (code-over h) q = let z : ◌≡◌ {A = ℕ} 0 1 = cc in absurd (omega arith)
    go b (limit-over c h) q = let z : ◌≡◌ {A = ℕ} 0 1 = cc in absurd (omega arith)
    go b (mode-over c n h) q = let z : ◌≡◌ {A = ℕ} 0 1 = cc in absurd (omega arith)
    go b (work-short c n d h) q = let z : ◌≡◌ {A = ℕ} 0 1 = cc in absurd (omega arith)
    go b (room_short t f) q = let z : ◌≡◌ {A = ℕ} 0 1 = cc in absurd (omega arith)
    go b (output-short t f h) q = let z : ◌≡◌ {A = ℕ} 0 1 = cc in absurd (omega arith)
    go b (all-fits t f h) q =
        let i : mapped r choice code (searched r m code) ≡ a = cc in
        record { taken = t; fits = f; output = subst (λ (x : Map). length (bytes x) ≤ units l.out 1) i h; is = sym i }

-- two answered runs, the second at no smaller limit, whatever the rooms
module _ (r : Rules) (l k : Lent) (m n : ℕ) (m≤n : m ≤ n) (choice : ℕ) (code : List ℕ) (a b : Map)
    (e : answer r l m choice code ≡ answered a) (f : answer r k n choice code ≡ answered b) where
  -- The second has a record that begins with the first's.
  pub record-begins : (new : List Rec) × (b.recs ≡ a.recs ++ new)
  unfolding searched mapped
  record-begins =
      let g = search-begins m n m≤n (prepared r code) in
      (g.0, rw ((gave r l m choice code a e).is, (gave r k n choice code b f).is) g.1)

  -- "an answered run at a smaller limit has exactly those of a larger one's records whose number is at most that limit", in their order
  pub record-numbers : a.recs ≡ keep (λ (x : Rec). leb x.energy m) b.recs
  unfolding searched mapped
  record-numbers = rw ((gave r l m choice code a e).is, (gave r k n choice code b f).is) (search-numbers m n m≤n (prepared r code))

  -- "what limit would have been enough": for a record of the second, any that is not below its number, and no other.
  pub enough : (x : Rec) → In x a.recs ↔ (In x b.recs × (x.energy ≤ m))
  enough x = (
    λ i. let k = in-keep (λ (y : Rec). leb y.energy m) b.recs (subst (In x) record-numbers i) in (k.1, leb-true _ _ k.0),
    λ h. subst (In x) (sym record-numbers) (keep-in (λ (y : Rec). leb y.energy m) (le-leb _ _ h.1) h.0),
  )

module _ (r : Rules) (l k : Lent) (h : Lends l k) (m n : ℕ) (m≤n : m ≤ n) (top : n ≤ 500000) (choice : ℕ) (code : List ℕ) where
  same-run : (a : Map) → Gave r l m choice code a → (m ≡ n) ⊎ (a.energy < m) → searched r m code ≡ searched r n code
  unfolding searched mapped
  same-run a g (inl q) = ap (λ (x : ℕ). searched r x code) q
  same-run a g (inr q) = search-same m n m≤n (prepared r code) (subst (λ (x : Map). x.energy < m) g.is q)

  -- If the limits are equal, or the first run used less energy than its limit, the second is answered too, and the answers are equal.
  pub answered-again : (a : Map) → answer r l m choice code ≡ answered a → (m ≡ n) ⊎ (a.energy < m) → answer r k n choice code ≡ answered a
  answered-again a e d = subst (λ (s : St). answer r k n choice code ≡ answered (mapped r choice code s)) (sym same) again ∙ ap answered (sym g.is)
    where
      g : Gave r l m choice code a
      g = gave r l m choice code a e

      same : searched r m code ≡ searched r n code
      same = same-run a g d

      out-fits : length (bytes (mapped r choice code (searched r n code))) ≤ units k.out 1
      out-fits =
          let o : length (bytes (mapped r choice code (searched r m code))) ≤ units l.out 1 = subst (λ (x : Map). length (bytes x) ≤ units l.out 1) g.is g.output in
          le_trans (subst (λ (s : St). length (bytes (mapped r choice code s)) ≤ units l.out 1) same o) (omega (arith, h.out))

      again : answer r k n choice code ≡ answered (mapped r choice code (searched r n code))
      again =
          verdict-only r k n choice code
          (all-fits (record { code_fits = g.taken.code_fits; limit-fits = top; mode-fits = g.taken.mode-fits; work-fits = le_trans g.taken.work-fits h.w })
          (subst (λ (s : St). Fits k s.needs) same (fits-mono l k h g.fits)) out-fits)

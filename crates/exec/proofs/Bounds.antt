-- Each instruction keeps a stack within its bounds: the cells that it puts, the words that it takes, and the depths that it looks at. Assumes nothing.
use mathlib.Core.Path.{◌≡◌, refl, ap}
use mathlib.Core.Bool.{Bool, true, false}
use mathlib.Core.Option.{Option, none, some}
use mathlib.Core.List.{List, [], ◌∷◌, ◌++◌}
use Prim.Native.Nat.{ℕ, zero, suc, ◌+◌, ◌-◌, ◌*◌, ◌^◌, ◌≤◌, ◌<◌}
use native.Mathlib.Omega.{arith}
use lib.Dec.{ltb}
use lib.ListN.{length, drop, replicate, length-append, length-drop, length-replicate}
use Rattle.spec.specs.Lists.{if}
use Rattle.spec.specs.Opcodes.{row}
use Rattle.spec.specs.Walk.{Ins}
use Rattle.spec.specs.Stacks.{Sym, other, known_value, from_value, is, mask, anded, summed, Stack, entry, read, span, pops, push, swap, trade, Does, pushes_value, pushes_pc, dups, swaps, ands, adds, jumps, jumpis, lands, halts, plain, does, act}
use Rattle.state.specs.Cells.{depth, deepest, reach}
use Rattle.exec.specs.Bounds.{Bounded}
use Rattle.exec.proofs.Decides.{near-dups, near-swaps, trades-halts, trades-plain}
use Rattle.state.proofs.Reach.{deepest-append, deepest-drop, deepest-others, depth-reads, depth-value, reach-is}

pub bounded-entry : Bounded 0 entry
unfolding deepest
bounded-entry = record { few = omega arith; low = omega arith; near = omega arith }

pub bounded-later : {k m : ℕ} {s : Stack} → k ≤ m → Bounded k s → Bounded m s
bounded-later h b = record { few = omega (arith, b.few); low = omega (arith, b.low); near = b.near }

pub bounded-reach : {k : ℕ} {s : Stack} → Bounded k s → reach s ≤ 17 * k + 16
bounded-reach {k} {s} b = omega (arith, reach-is s, b.low, b.near)

-- ---- a symbol that is read, and what AND and ADD make of two

module _ {k : ℕ} {s : Stack} (b : Bounded k s) where
  near-read : (n : ℕ) → n ≤ 15 → depth (read s n) ≤ s.base + 16
  unfolding read
  near-read n h = omega (arith, depth-reads s.above s.base n, b.near)

  either : (c : Bool) (x y : Sym) → depth x ≤ s.base + 16 → depth y ≤ s.base + 16 → depth (if c x y) ≤ s.base + 16
  unfolding if
  either true x y p q = p
  either false x y p q = q

  near-and : (pc : ℕ) → depth (anded pc (read s 0) (read s 1)) ≤ s.base + 16
  near-and pc =
      either (is mask (known_value (read s 0))) (read s 1) _ (near-read 1 (omega arith))
      (either (is mask (known_value (read s 1))) (read s 0) (other pc) (near-read 0 (omega arith)) (omega arith))

  near-sum : (code : List ℕ) (pc : ℕ) (v u : Option ℕ) → depth (summed code pc v u) ≤ s.base + 16
  near-sum code pc none none = omega arith
  near-sum code pc none (some u) = omega arith
  near-sum code pc (some v) none = omega arith
  near-sum code pc (some v) (some u) = either (ltb (v + u) (2 ^ 64)) (from_value code (v + u)) (other pc) (omega (arith, depth-value code (v + u))) (omega arith)

  -- ---- the words taken, and those put on them

  bounded-pops : (n : ℕ) → n ≤ 17 → Bounded (suc k) (pops n s)
  bounded-pops n h =
      record {
        few = omega (arith, length-drop n s.above, b.few);
        low = omega (arith, b.low);
        near = omega (arith, deepest-drop n s.above, b.near);
      }

  bounded-push : (x : Sym) → depth x ≤ s.base + 16 → Bounded (suc k) (push x s)
  unfolding deepest
  bounded-push x h = record { few = omega (arith, b.few); low = omega (arith, b.low); near = omega (arith, b.near) }

  bounded-replace : (n : ℕ) (x : Sym) → n ≤ 17 → depth x ≤ s.base + 16 → Bounded (suc k) (push x (pops n s))
  unfolding deepest
  bounded-replace n x h g =
      let p = bounded-pops n h in
      record { few = omega (arith, length-drop n s.above, b.few); low = p.low; near = omega (arith, p.near) }

  bounded-trade : (i : Ins) → ((row i.op).given ≤ 1) × ((row i.op).taken ≤ 17) → Bounded (suc k) (trade row i s)
  bounded-trade i h =
      let given : List Sym = replicate (row i.op).given (other i.pc) in
      let rest : List Sym = drop (row i.op).taken s.above in
      let p = bounded-pops (row i.op).taken h.1 in
      record {
        few = omega (arith, length-append given rest, length-replicate (row i.op).given (other i.pc), length-drop (row i.op).taken s.above, b.few, h.0);
        low = p.low;
        near = omega (arith, deepest-append given rest, deepest-others (row i.op).given i.pc, p.near);
      }

  -- a symbol that SWAP looks at, against the base that it leaves
  near-swap : (n j : ℕ) → n ≤ 15 → j ≤ suc n → depth (read s j) ≤ s.base + (suc (suc n) - length s.above) + 16
  unfolding read
  near-swap n j h g = omega (arith, depth-reads s.above s.base j, b.near)

  near-span : (n i m : ℕ) → n ≤ 15 → i + m ≤ suc (suc n) → deepest (span s i m) ≤ s.base + (suc (suc n) - length s.above) + 16
  unfolding deepest
  near-span n i zero h g = omega arith
  near-span n i (suc m) h g = omega (arith, near-swap n i h (omega arith), near-span n (suc i) m h (omega arith))

  long-span : (i m : ℕ) → length (span s i m) ≡ m
  long-span i zero = refl
  long-span i (suc m) = ap suc (long-span (suc i) m)

  bounded-swap : (n : ℕ) → n ≤ 15 → Bounded (suc k) (swap n s)
  unfolding deepest
  bounded-swap n h =
      let words : List Sym = span s 1 n ++ (read s 0 ∷ []) in
      let rest : List Sym = drop (suc (suc n)) s.above in
      let p = bounded-pops (suc (suc n)) (omega arith) in
      record {
        few = omega (arith, length-append words rest, length-append (span s 1 n) (read s 0 ∷ []), long-span 1 n, length-drop (suc (suc n)) s.above, b.few);
        low = p.low;
        near = omega (
          arith,
          deepest-append words rest,
          deepest-append (span s 1 n) (read s 0 ∷ []),
          near-span n 1 n h (omega arith),
          near-swap n 0 h (omega arith),
          near-swap n (suc n) h (omega arith),
          p.near,
        );
      }

  -- ---- one instruction

  pub bounded-act : (m : ℕ) (code : List ℕ) (i : Ins) (d : Does) → i.op < 0x100 → does m i.op ≡ d → Bounded (suc k) (act row code i d s)
  unfolding act
  bounded-act m code i pushes_value h e = bounded-push _ (omega (arith, depth-value code i.arg))
  bounded-act m code i pushes_pc h e = bounded-push _ (omega (arith, depth-value code i.pc))
  bounded-act m code i (dups n) h e = bounded-push _ (near-read n (near-dups m i.op h e))
  bounded-act m code i (swaps n) h e = bounded-swap n (near-swaps m i.op h e)
  bounded-act m code i ands h e = bounded-replace 2 _ (omega arith) (near-and i.pc)
  bounded-act m code i adds h e = bounded-replace 2 _ (omega arith) (near-sum code i.pc (known_value (read s 0)) (known_value (read s 1)))
  bounded-act m code i jumps h e = bounded-pops 1 (omega arith)
  bounded-act m code i jumpis h e = bounded-pops 2 (omega arith)
  bounded-act m code i lands h e = bounded-later (omega arith) b
  bounded-act m code i halts h e = bounded-trade i (trades-halts m i.op h e)
  bounded-act m code i plain h e = bounded-trade i (trades-plain m i.op h e)

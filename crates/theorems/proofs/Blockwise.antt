-- Document 01, "Stacks": "Meaning to prove", of a whole block: its run on symbols beside its run on words by YP. Assumes nothing.
use Prim.Native.Nat.{ℕ, zero, suc, ◌+◌, ◌-◌, ◌*◌, ◌<◌, ◌≤◌}
use native.Mathlib.Omega.{arith}
use native.Mathlib.Nat.{zero-add}
use mathlib.Core.Path.{◌≡◌, refl, sym, ap, ◌∙◌}
use mathlib.Core.Bool.{Bool, true, false, ◌&&◌, ◌||◌, not, true≢false}
use mathlib.Core.Option.{Option, none, some}
use mathlib.Core.List.{List, [], ◌∷◌}
use lib.Dec.{eqb}
use lib.ListN.{length, get_or}
use borrow.Author.Tests.{eqb-true}
use Rattle.spec.specs.Lists.{if}
use Rattle.spec.specs.Opcodes.{Row, Rules}
use Rattle.spec.specs.Walk.{Ins, from, instructions}
use Rattle.spec.specs.Blocks.{Block, blocks}
use Rattle.spec.specs.Stacks.{Sym, before, constant, jumpdest, other, Stack, entry, reads, read, joins, settle, trims, trim, Does, pushes_value, pushes_pc, dups, swaps, ands, adds, jumps, jumpis, lands, halts, plain, does, act, Ran, after, runs, trimmed, run}
use Rattle.spec.specs.Meaning.{yields, last, cut_short, Ended, executes, Throughout, Known, Deep, Masked, Asked, Jump, no_jump, jumps_to, Holds, Faithful}
use Rattle.laws.proofs.Branch.{both}
use Rattle.laws.proofs.Members.{In}
use Rattle.theorems.proofs.Cutting.{Whole, Passes, walk_over, ends_before, ends_with, goes_past, is_short, is_whole, block-whole}
use Rattle.theorems.proofs.Counts.{takes, Lawful, takes-row, jumps?, closes?, lands?, jumping-does, closing-does, landing-does}
use Rattle.theorems.proofs.Symbols.{leaves, holds-act}

-- ---- the run

-- the run ends with the instruction, by what it does
abbrev last? : ℕ → Ins → Does → Bool
last? start i d = closes? d || (lands? d && not (eqb i.pc start))

last-does : (m start : ℕ) (i : Ins) → last start i ≡ last? start i (does m i.op)
last-does m start i = rw (closing-does m i.op, landing-does m i.op)

-- Two runs side by side, for any relation between stacks and any between what a jump takes and what it pops.
module _ (H : Stack → List ℕ → Type 0) (J : Option Sym → Option ℕ → Type 0) where
  pub record Ends (r : Ran) (e : Ended) : Type 0 where
    pub stack : H r.stack e.words
    pub jump : J r.goes e.popped

  module _ (no-jump-there : J none none) (jump-there : (s : Stack) (st : List ℕ) → H s st → 0 < length st → J (some (read s 0)) (some (get_or st 0 0))) where
    ends-unless : (b : Bool) {r q : Ran} {e f : Ended} → (not b ≡ false → Ends r e) → Ends q f → Ends (if b r q) (if (not b) f e)
    unfolding if
    ends-unless true x y = x refl
    ends-unless false x y = y

    module _ (row : ℕ → Row) (code : List ℕ) (start : ℕ) (i : Ins) {s : Stack} {st st' : List ℕ} (h : H s st) where
      ends-after : (d : Does) → takes (row i.op) d ≤ length st → H (act row code i d s) st' → {on : Ran} {on' : Ended} → (last? start i d ≡ false → Ends on on')
          → Ends (after start i s (act row code i d s) on d)
          (if (last? start i d) (record { words = st'; popped = if (jumps? d) (some (get_or st 0 0)) none }) on')
      unfolding if act
      ends-after pushes_value l k g = g refl
      ends-after pushes_pc l k g = g refl
      ends-after (dups n) l k g = g refl
      ends-after (swaps n) l k g = g refl
      ends-after ands l k g = g refl
      ends-after adds l k g = g refl
      ends-after jumps l k g = record { stack = k; jump = jump-there s st h l }
      ends-after jumpis l k g = record { stack = k; jump = jump-there s st h (omega arith) }
      ends-after lands l k g = ends-unless (eqb i.pc start) g (record { stack = k; jump = no-jump-there })
      ends-after halts l k g = record { stack = k; jump = no-jump-there }
      ends-after plain l k g = g refl

    module _ (r : Rules) (ok : Lawful r.row) (code : List ℕ) (supply : ℕ → ℕ → ℕ) (start : ℕ) (P : Ins → Stack → List ℕ → Type 0)
        (step : (i : Ins) (s : Stack) (st : List ℕ) → H s st → P i s st → Deep r.row i s st × H (act r.row code i (does r.mode i.op) s) (yields r.row supply i st)) where
      pub ends-runs : (is : List Ins) (s : Stack) (st : List ℕ) → H s st → Throughout r code supply start P is s st
          → Ends (runs r code start is s) (executes r.row supply start is st)
      ends-runs [] s st h p = record { stack = h; jump = no-jump-there }
      ends-runs (i ∷ is) s st h p =
          let k = step i s st h p.0 in
          let e = last-does r.mode start i in
          rw (e, jumping-does r.mode i.op)
          (ends-after r.row code start i h (does r.mode i.op) (rw (takes-row ok r.mode i.op) k.0) k.1 (λ q. ends-runs is _ _ k.1 (p.1 (e ∙ q))))

module _ (r : Rules) (code : List ℕ) (supply : ℕ → ℕ → ℕ) (start : ℕ) (P Q : Ins → Stack → List ℕ → Type 0) where
  throughout-both : (is : List Ins) (s : Stack) (st : List ℕ) → Throughout r code supply start P is s st → Throughout r code supply start Q is s st
      → Throughout r code supply start (λ i s st. P i s st × Q i s st) is s st
  throughout-both [] s st p q = tt
  throughout-both (i ∷ is) s st p q = ((p.0, q.0), λ off. throughout-both is _ _ (p.1 off) (q.1 off))

module _ (r : Rules) (ok : Lawful r.row) (ws code : List ℕ) (supply : ℕ → ℕ → ℕ) (start : ℕ) where
  faithful-runs : (is : List Ins) (s : Stack) (st : List ℕ) → Holds ws s st → Throughout r code supply start (Deep r.row) is s st
      → Throughout r code supply start Masked is s st → Faithful ws (runs r code start is s) (executes r.row supply start is st)
  faithful-runs is s st h d m =
      let e = ends-runs (Holds ws) (Jump ws) no_jump (λ s st h l. jumps_to (h.truth.at 0 l)) r ok code supply start (λ i s st. Deep r.row i s st × Masked i s st)
      (λ i s st h p. (p.0, holds-act ok r.mode code supply i h p.0 p.1)) is s st h (throughout-both r code supply start (Deep r.row) Masked is s st d m) in
      record { stack = e.stack; jump = e.jump }

-- ---- trimming

-- two stacks that read the same at every depth and stand for as many words
record Alike (s t : Stack) : Type 0 where
  at : (n : ℕ) → reads s.above s.base n ≡ reads t.above t.base n
  size : length s.above + t.base ≡ length t.above + s.base

joined : (x : Sym) (b : ℕ) → joins x b ≡ true → Alike (record { above = []; base = b - 1 }) (record { above = x ∷ []; base = b })
joined (before k) b e =
    let q = eqb-true (suc k) b e in
    record { at = elim [ zero ↦ ap before (omega arith) | suc n ↦ ap before (omega arith) ]; size = omega arith }
joined (constant v) b e = record { at = λ _. cc; size = cc }
joined (jumpdest v) b e = record { at = λ _. cc; size = cc }
joined (other v) b e = record { at = λ _. cc; size = cc }

alike_refl : {s : Stack} → Alike s s
alike_refl = record { at = λ _. refl; size = refl }

alike-settle : (x : Sym) (ys : List Sym) (b : ℕ) → Alike (settle x ys b) (record { above = x ∷ ys; base = b })
alike-settle x [] b = both (λ (s : Stack). Alike s (record { above = x ∷ []; base = b })) (joins x b) (λ on. joined x b on) (λ _. alike_refl)
alike-settle x (y ∷ ys) b = alike_refl

alike-trims : (xs : List Sym) (b : ℕ) → Alike (trims xs b) (record { above = xs; base = b })
alike-trims [] b = alike_refl
alike-trims (x ∷ xs) b =
    let r = alike-trims xs b in
    let q = alike-settle x (trims xs b).above (trims xs b).base in
    record { at = elim [ zero ↦ q.at zero | suc n ↦ q.at (suc n) ∙ r.at n ]; size = omega arith }

-- A trimmed stack reads the same at every depth.
pub read-trim : (s : Stack) (n : ℕ) → read (trim s) n ≡ read s n
unfolding trim read
read-trim s = (alike-trims s.above s.base).at

holds-trim : {ws : List ℕ} {s : Stack} {st : List ℕ} → Holds ws s st → Holds ws (trim s) st
unfolding trim
holds-trim {s} h =
    let t = alike-trims s.above s.base in
    record { truth = record { at = λ n l. rw (read-trim s n) (h.truth.at n l) }; size = omega arith }

-- ---- the block

holds-entry : (st : List ℕ) → Holds st entry st
unfolding read
holds-entry st = record { truth = record { at = λ n l. rw zero-add (l, refl) }; size = omega arith }

-- "Meaning to prove", of any instructions run as a block's
pub faithful-block : (r : Rules) → Lawful r.row → (code : List ℕ) (supply : ℕ → ℕ → ℕ) (start : ℕ) (is : List Ins) (st : List ℕ)
    → Asked r code supply start is st → Faithful st (trimmed (runs r code start is entry)) (executes r.row supply start is st)
faithful-block r ok code supply start is st a =
    let f = faithful-runs r ok st code supply start is entry st (holds-entry st) a.deep a.masked in
    record { stack = holds-trim f.stack; jump = f.jump }

-- "Meaning to prove", of the block at `start`
pub faithful-run : (r : Rules) → Lawful r.row → (code : List ℕ) (supply : ℕ → ℕ → ℕ) (start : ℕ) (st : List ℕ)
    → Asked r code supply start (from start (instructions code)) st
    → Faithful st (run r code (instructions code) start) (executes r.row supply start (from start (instructions code)) st)
unfolding run
faithful-run r ok code supply start = faithful-block r ok code supply start (from start (instructions code))

-- ---- the block of the cut

module _ (r : Rules) (code : List ℕ) (supply : ℕ → ℕ → ℕ) where
  passes-known : {start end p : ℕ} {is : List Ins} → Passes r.row start end p is → (s : Stack) (st : List ℕ)
      → Throughout r code supply start (Known r.row) is s st
  passes-known walk_over s st = tt
  passes-known (ends_before k l e) s st = (k, λ off. absurd (true≢false (sym l ∙ off)))
  passes-known (ends_with k l e) s st = (k, λ off. absurd (true≢false (sym l ∙ off)))
  passes-known (goes_past k l r) s st = (k, λ _. passes-known r _ _)

-- "Meaning to prove", of a block that is "not cut at an unknown byte": its bytes are known, so that YP has its run, and the symbols tell the truth of it, in
-- any mode.
pub meaning : (r : Rules) → Lawful r.row → (code : List ℕ) (supply : ℕ → ℕ → ℕ) {b : Block} → In b (blocks r.row code (instructions code))
    → cut_short r.row code b.end ≡ false
    → (st : List ℕ) → Asked r code supply b.start (from b.start (instructions code)) st
    → Throughout r code supply b.start (Known r.row) (from b.start (instructions code)) entry st
    × Faithful st (run r code (instructions code) b.start) (executes r.row supply b.start (from b.start (instructions code)) st)
meaning r ok code supply {b} n uncut st a = (passes-known r code supply (passes (block-whole ok code n)) entry st, faithful-run r ok code supply b.start st a)
  where
    passes : Whole r.row code b → Passes r.row b.start b.end b.start (from b.start (instructions code))
    passes (is_short c k) = absurd (true≢false (sym c ∙ uncut))
    passes (is_whole c h) = h

-- ---- the premise can be met

module _ (r : Rules) (ok : Lawful r.row) (code : List ℕ) (supply : ℕ → ℕ → ℕ) (start : ℕ) where
  -- No instruction takes more than 17 words, so 17 for each are enough.
  pub deep-enough : (is : List Ins) (s : Stack) (st : List ℕ) → 17 * length is ≤ length st → Throughout r code supply start (Deep r.row) is s st
  deep-enough [] s st h = tt
  deep-enough (i ∷ is) s st h =
      let c = ok.few i.op in
      let here : (r.row i.op).taken ≤ length st = omega arith in
      (here, λ _. deep-enough is _ _ (omega (arith, leaves ok supply i st here)))

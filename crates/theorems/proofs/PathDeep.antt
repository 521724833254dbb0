-- Document 02, No. 7, with nothing asked about masks: the mask rule can only mislead about words of 2^32 and more, and no destination is one in a code of at
-- most 2^32 bytes. A symbol is here true of a word if the number that it stands for is below 2^32. Assumes nothing.
use Prim.Native.Nat.{ℕ, ◌+◌, ◌^◌, ◌%◌, ◌<◌, ◌≤◌}
use native.Mathlib.Omega.{arith}
use native.Mathlib.Nat.{mod-eq_of_lt, le_trans, zero-add}
use native.Mathlib.Bridge.{le_by_compare, IsLe}
use mathlib.Core.Path.{◌≡◌, refl, sym, ap, subst, ◌∙◌}
use mathlib.Core.Option.{Option, none, some}
use mathlib.Core.List.{List, [], ◌∷◌}
use lib.Bits.{bit_and, and_comm}
use lib.Dec.{eqb, ltb}
use lib.ListN.{length, get_or}
use Rattle.spec.specs.Opcodes.{Rules}
use Rattle.spec.specs.Walk.{Ins}
use Rattle.spec.specs.Stacks.{Sym, before, constant, jumpdest, other, Stack, entry, read, from_value, known_value, mask, is, anded, summed, through, does, act, runs}
use Rattle.spec.specs.Meaning.{yields, executes, Throughout, Deep}
use Rattle.spec.specs.Search.{found, Rec}
use Rattle.spec.specs.Rooms.{Lent}
use Rattle.spec.specs.Entries.{Map}
use Rattle.spec.specs.Answer.{answered, answer}
use Rattle.spec.specs.PathMeaning.{fetched, along}
use Rattle.spec.specs.PathDeep.{DeepRuns, DeepEnough, LeadsAnyhow}
use Rattle.laws.proofs.Branch.{both}
use Rattle.theorems.proofs.Counts.{Lawful, takes-row, told, yields-does}
use Rattle.theorems.proofs.Beside.{Beside, Follows, beside-act}
use Rattle.theorems.proofs.Symbols.{is_known, masked}
use Rattle.theorems.proofs.Blockwise.{read-trim, Ends, ends-runs}
use Rattle.theorems.proofs.Marks.{mark-inside}
use Rattle.laws.proofs.Members.{In}
use Rattle.theorems.proofs.Each.{each_in}
use Rattle.theorems.proofs.PathLeads.{alone, replayed, Sees, sees-lands}
use Rattle.theorems.proofs.PathTruth.{answered-paths}
use Rattle.theorems.proofs.Demand3.{gave}

module _ (rules : Rules) (ok : Lawful rules.row) where
  word_wide : 2 ^ 32 ≤ 2 ^ 256
  unfolding IsLe
  word_wide = le_by_compare (2 ^ 32) (2 ^ 256) tt

  module _ (ws : List ℕ) where
    -- true of the word, if the number is below 2^32
    abbrev Near : Sym → ℕ → Type 0
    Near (before n) w = (n < length ws) × (get_or ws n 0 < 2 ^ 32 → w ≡ get_or ws n 0)
    Near (constant v) w = v < 2 ^ 32 → w ≡ v
    Near (jumpdest v) w = v < 2 ^ 32 → w ≡ v
    Near (other pc) w = Unit {0}

    -- ---- known numbers

    near-from : (code : List ℕ) (v w : ℕ) → (v < 2 ^ 32 → w ≡ v) → Near (from_value code v) w
    near-from code v w h = both (λ (x : Sym). Near x w) (eqb (get_or code v 0) 0x5B) (λ _. h) (λ _. h)

    near-known : (x : Sym) (w v : ℕ) → Near x w → known_value x ≡ some v → v < 2 ^ 32 → w ≡ v
    near-known (before n) w v m e l = cc
    near-known (constant u) w v m e l = let same : u ≡ v = cc in m (rw same l) ∙ same
    near-known (jumpdest u) w v m e l = let same : u ≡ v = cc in m (rw same l) ∙ same
    near-known (other u) w v m e l = cc

    near-summed : (code : List ℕ) (pc : ℕ) (a b : Sym) (u w : ℕ) → Near a u → Near b w → (p q : Option ℕ) → known_value a ≡ p → known_value b ≡ q
        → Near (summed code pc p q) ((u + w) % 2 ^ 256)
    near-summed code pc a b u w m k none none e f = tt
    near-summed code pc a b u w m k none (some y) e f = tt
    near-summed code pc a b u w m k (some x) none e f = tt
    near-summed code pc a b u w m k (some x) (some y) e f =
        both (λ (z : Sym). Near z ((u + w) % 2 ^ 256)) (ltb (x + y) (2 ^ 64))
        (λ _. near-from code (x + y) _ (λ l. let fits : x + y < 2 ^ 256 = le_trans l word_wide in
        rw (near-known a u x m e (omega arith), near-known b w y k f (omega arith)) (mod-eq_of_lt fits)))
        (λ _. tt)

    -- a word masked, and the same symbol
    near-masked : (x : Sym) (w : ℕ) → Near x w → Near x (bit_and w mask)
    near-masked (before n) w m = (m.0, λ l. let e = m.1 l in masked w (rw e l) ∙ e)
    near-masked (constant v) w m = λ l. let e = m l in masked w (rw e l) ∙ e
    near-masked (jumpdest v) w m = λ l. let e = m l in masked w (rw e l) ∙ e
    near-masked (other pc) w m = tt

    near-anded : (pc : ℕ) (a b : Sym) (u w : ℕ) → Near a u → Near b w → Near (anded pc a b) (bit_and u w)
    near-anded pc a b u w m k =
        both (λ (z : Sym). Near z (bit_and u w)) (is mask (known_value a))
        (λ on. rw (near-known a u mask m (is_known mask _ on) (omega arith), and_comm mask w) (near-masked b w k))
        (λ _. both (λ (z : Sym). Near z (bit_and u w)) (is mask (known_value b)) (λ on. rw (near-known b w mask k (is_known mask _ on) (omega arith)) (near-masked a u m)) (λ _. tt))

    -- ---- an instruction, and a run

    near : (code : List ℕ) → Follows Near code
    near code = record {
      unsaid = λ pc w. tt;
      number = λ v. near-from code v v (λ _. refl);
      sum = λ pc a b u w m k. near-summed code pc a b u w m k (known_value a) (known_value b) refl refl;
    }

    -- a jump takes a symbol that is near the word that it pops
    data Jumps : Option Sym → Option ℕ → Type 0 where
      stays : Jumps none none
      goes : {x : Sym} {w : ℕ} → Near x w → Jumps (some x) (some w)

    jumps-near : {g : Option Sym} {p : Option ℕ} {x : Sym} → Jumps g p → g ≡ some x → (w : ℕ) × (p ≡ some w) × Near x w
    jumps-near stays e = absurd (let z : ◌≡◌ {A = ℕ} 0 1 = cc in omega arith)
    jumps-near {x} (goes {x = y} {w} m) e = let same : y ≡ x = cc in (w, refl, subst (λ (z : Sym). Near z w) same m)

    module _ (code : List ℕ) (supply : ℕ → ℕ → ℕ) (start : ℕ) where
      near-step-on : (i : Ins) (s : Stack) (st : List ℕ) → Beside Near s st → Deep rules.row i s st → Deep rules.row i s st × Beside Near (act rules.row code i (does rules.mode i.op) s) (yields rules.row supply i st)
      near-step-on i s st h d =
          (d, rw (yields-does ok rules.mode supply i st) (beside-act Near rules.row code (near code) (told supply i) i (does rules.mode i.op) h (rw (takes-row ok rules.mode i.op) d) (λ _. near-anded i.pc (read s 0) (read s 1) _ _)))

      deep-throughout : (is : List Ins) (s : Stack) (st : List ℕ) → DeepRuns rules.row supply start is st → Throughout rules code supply start (Deep rules.row) is s st
      deep-throughout [] s st d = tt
      deep-throughout (i ∷ is) s st d = (d.0, λ off. deep-throughout is _ _ (d.1 off))

      near-runs : (is : List Ins) (s : Stack) (st : List ℕ) → Beside Near s st → DeepRuns rules.row supply start is st
          → Ends (Beside Near) Jumps (runs rules code start is s) (executes rules.row supply start is st)
      near-runs is s st h d = ends-runs (Beside Near) Jumps stays (λ s st h l. goes (h.at 0 l)) rules ok code supply start (Deep rules.row) near-step-on is s st h (deep-throughout is s st d)

  -- ---- a block, and a path

  near-entry : (st : List ℕ) → Beside (Near st) entry st
  unfolding read
  near-entry st = record { at = λ n l. rw zero-add (l, λ _. refl) }

  -- through a number that is the same if it is below 2^32
  near_step : (ws : List ℕ) (x : Sym) (v w : ℕ) → Near ws x v → (v < 2 ^ 32 → w ≡ v) → Near ws x w
  near_step ws (before n) v w h m = (h.0, λ l. let e = h.1 l in m (rw e l) ∙ e)
  near_step ws (constant u) v w h m = λ l. let e = h l in m (rw e l) ∙ e
  near_step ws (jumpdest u) v w h m = λ l. let e = h l in m (rw e l) ∙ e
  near_step ws (other pc) v w h m = tt

  near-through : (ws mid : List ℕ) {p : Stack} → Beside (Near ws) p mid → (x : Sym) (w : ℕ) → Near mid x w → Near ws (through p x) w
  unfolding through
  near-through ws mid {p} h (before n) w m = near_step ws (read p n) (get_or mid n 0) w (h.at n m.0) m.1
  near-through ws mid h (constant v) w m = m
  near-through ws mid h (jumpdest v) w m = m
  near-through ws mid h (other pc) w m = m

  module _ (code : List ℕ) where
    near-alone : (supply : ℕ → ℕ → ℕ) (b : ℕ) (st : List ℕ) → DeepRuns rules.row supply b (fetched code b) st
        → Ends (Beside (Near st)) (Jumps st) (alone rules ok code b) (executes rules.row supply b (fetched code b) st)
    near-alone supply b st d =
        let r = near-runs st code supply b (fetched code b) entry st (near-entry st) d in
        record { stack = record { at = λ n l. rw (read-trim _ n) (r.stack.at n l) }; jump = r.jump }

    near-replayed : (supply : ℕ → ℕ → ℕ → ℕ) (bs st : List ℕ) → DeepEnough rules.row code supply bs st → (x : Sym) (w : ℕ) → Near (along rules.row code supply bs st).words x w
        → Near st (replayed rules ok code x bs) w
    unfolding replayed
    near-replayed supply [] st a x w m = m
    near-replayed supply (b ∷ bs) st a x w m =
        near-replayed supply bs st a.0 (through (alone rules ok code b).stack x) w (near-through (along rules.row code supply bs st).words _ (near-alone (supply (length bs)) b _ a.1).stack x w m)

    -- Of any path whatever, in a code of at most 2^32 bytes.
    pub path-leads-anyhow : length code ≤ 2 ^ 32 → {path : List ℕ} {t : ℕ} → Sees rules ok code path (jumpdest t) → LeadsAnyhow rules.row code path t
    path-leads-anyhow small {t} s = subst (λ (p : List ℕ). LeadsAnyhow rules.row code p t) (sym s.path-is) (record { pops = go })
      where
        go : (supply : ℕ → ℕ → ℕ → ℕ) (st : List ℕ) → DeepEnough rules.row code supply (s.first ∷ s.rest) st → (along rules.row code supply (s.first ∷ s.rest) st).popped ≡ some t
        go supply st a =
            let p = jumps-near (along rules.row code supply s.rest st).words (near-alone (supply (length s.rest)) s.first _ a.1).jump s.goes in
            let n = subst (λ (y : Sym). Near st y p.0) s.sees (near-replayed supply s.rest st a.0 s.symbol p.0 p.2) in
            p.1 ∙ ap some (n (le_trans (mark-inside code t (sees-lands rules ok code s)) small))

  -- Every code that is answered is so short.
  pub small-code : (l : Lent) (limit choice : ℕ) (code : List ℕ) (a : Map) → answer rules l limit choice code ≡ answered a → length code ≤ 2 ^ 32
  small-code l limit choice code a e = omega (arith, (gave rules l limit choice code a e).taken.code_fits)

  -- Of every answer that is given: a deep enough stack is all that a record's path needs.
  pub answered-leads-anyhow : (l : Lent) (limit choice : ℕ) (code : List ℕ) (a : Map) → answer rules l limit choice code ≡ answered a → {r : Rec} → In r a.recs
      → {t : ℕ} {s : Stack} → r.to ≡ found t s → LeadsAnyhow rules.row code r.path t
  answered-leads-anyhow l limit choice code a e i {t} {s} f =
      path-leads-anyhow code (small-code l limit choice code a e) ((each_in (answered-paths rules ok l limit choice code a e) i).1.sees-there t s f)

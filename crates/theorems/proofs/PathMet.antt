-- Document 02, No. 7: what is asked on the way can be met. A stack of so many words is deep enough whatever they are, so that a recorded path pops its
-- destination on every such stack; where no block of the path uses the mask rule nothing else is asked. Assumes nothing.
use Prim.Native.Nat.{ℕ, ◌+◌, ◌-◌, ◌^◌, ◌≤◌}
use native.Mathlib.Omega.{arith}
use mathlib.Core.Path.{◌≡◌, refl, sym, ◌∙◌}
use mathlib.Core.Bool.{Bool, true, false, ◌&&◌, ◌||◌, not, true≢false}
use mathlib.Core.Option.{some}
use mathlib.Core.List.{List, [], ◌∷◌}
use lib.Dec.{eqb, leb, ltb}
use lib.ListN.{length, get_or}
use borrow.Author.Tests.{eq-eqb, leb-true, ltb-true}
use Rattle.spec.specs.Lists.{if, mem}
use Rattle.spec.specs.Opcodes.{Rules}
use Rattle.spec.specs.Walk.{Ins}
use Rattle.spec.specs.Stacks.{Stack, does, mask, is}
use Rattle.spec.specs.Meaning.{yields, last, Ended, executes}
use Rattle.spec.specs.Search.{found, Rec}
use Rattle.spec.specs.Rooms.{Lent}
use Rattle.spec.specs.Entries.{Map}
use Rattle.spec.specs.Answer.{answered, answer}
use Rattle.spec.specs.PathMeaning.{fetched, all_known, Knowing, unaware, knows, Ready, Runs, along, Asks}
use Rattle.spec.specs.PathDeep.{DeepRuns, DeepEnough, uses, depth, unmasked}
use Rattle.spec.specs.PathWalks.{walks}
use Rattle.laws.proofs.Branch.{if-true, if-false}
use Rattle.laws.proofs.Members.{In, here, there, and_both}
use Rattle.theorems.proofs.Symbols.{leaves}
use Rattle.theorems.proofs.Each.{each_in}
use Rattle.theorems.proofs.PathDeep.{answered-leads-anyhow}
use Rattle.theorems.proofs.PathWalked.{answered-walks}
use Rattle.theorems.proofs.Counts.{Lawful}

module _ (rules : Rules) (ok : Lawful rules.row) where
  -- ---- deep enough

  -- of a run that ends with the instruction, and of one that goes on
  either_left : (t : Bool) (e f : Ended) (m n : ℕ) → (t ≡ true → n ≤ length e.words) → (t ≡ false → n ≤ length f.words + m)
      → n ≤ length (if t e f).words + if t 0 m
  unfolding if
  either_left true e f m n x y = omega (arith, x refl)
  either_left false e f m n x y = y refl

  module _ (supply : ℕ → ℕ → ℕ) (start : ℕ) where
    enough-runs : (rest : List Ins) (st : List ℕ) → uses rules.row start rest ≤ length st → DeepRuns rules.row supply start rest st
    enough-runs [] st h = tt
    enough-runs (i ∷ rest) st h =
        let here : (rules.row i.op).taken ≤ length st = omega arith in
        (here, λ off. enough-runs rest (yields rules.row supply i st) (omega (arith, leaves ok supply i st here, if-false (last start i) 0 (uses rules.row start rest) off)))

    -- all but so many are left at the least
    left_over : (rest : List Ins) (st : List ℕ) → uses rules.row start rest ≤ length st → length st ≤ length (executes rules.row supply start rest st).words + uses rules.row start rest
    left_over [] st h = omega arith
    left_over (i ∷ rest) st h =
        let here : (rules.row i.op).taken ≤ length st = omega arith in
        let l = leaves ok supply i st here in
        let g : length st - (rules.row i.op).taken ≤ length (executes rules.row supply start (i ∷ rest) st).words + if (last start i) 0 (uses rules.row start rest) =
        either_left (last start i) _ _ (uses rules.row start rest) (length st - (rules.row i.op).taken) (λ _. omega arith)
        (λ off. let on = left_over rest (yields rules.row supply i st) (omega (arith, if-false (last start i) 0 (uses rules.row start rest) off)) in omega arith) in
        omega (arith, g)

  module _ (code : List ℕ) (supply : ℕ → ℕ → ℕ → ℕ) where
    enough : (path : List ℕ) (n : ℕ) (st : List ℕ) → depth rules.row code path + n ≤ length st
        → DeepEnough rules.row code supply path st × (n ≤ length (along rules.row code supply path st).words)
    enough [] n st h = (tt, omega arith)
    enough (b ∷ bs) n st h =
        let g = enough bs (uses rules.row b (fetched code b) + n) st (omega arith) in
        let words = (along rules.row code supply bs st).words in
        let l : uses rules.row b (fetched code b) ≤ length words = omega (arith, g.1) in
        ((g.0, enough-runs (supply (length bs)) b (fetched code b) words l), omega (arith, g.1, left_over (supply (length bs)) b (fetched code b) words l))

    -- Any path, on any stack of so many words, with any results.
    pub deep-enough-path : (path st : List ℕ) → depth rules.row code path ≤ length st → DeepEnough rules.row code supply path st
    deep-enough-path path st h = (enough path 0 st (omega arith)).0

  -- "The whole path is true", of every answer that is given: of a record with a destination, on every stack of so many words, whatever they are and whatever is
  -- supplied. No block's run meets an unknown byte, YP goes from each block to the one named before it if each JUMPI takes the side that the path names, the last
  -- jump pops the destination, and the byte there is 5B. A JUMPI that pops it may still not take it.
  pub whole-path : (l : Lent) (limit choice : ℕ) (code : List ℕ) (a : Map) → answer rules l limit choice code ≡ answered a → {r : Rec} → In r a.recs
      → {t : ℕ} {s : Stack} → r.to ≡ found t s → (supply : ℕ → ℕ → ℕ → ℕ) (st : List ℕ) → depth rules.row code r.path ≤ length st
      → ((b : ℕ) → mem b r.path ≡ true → all_known rules.row b (fetched code b) ≡ true) × (walks rules.row code supply r.path st ≡ true) × ((along rules.row code supply r.path st).popped ≡ some t) × (get_or code t 0 ≡ 0x5B)
  whole-path l limit choice code a e {r} i {t} {s} f supply st h =
      let deep = deep-enough-path code supply r.path st h in
      let w = (each_in (answered-walks rules ok l limit choice code a e) i).1 in
      let leads = w.true-path.leads-there t s f in
      (leads.has_runs, w.walks-there supply st deep, (answered-leads-anyhow rules ok l limit choice code a e i f).pops supply st deep, leads.lands)

  -- ---- where the mask rule is not used

  or-false : (a b : Bool) → not (a || b) ≡ true → (a ≡ false) × (b ≡ false)
  or-false true b e = (cc, cc)
  or-false false true e = (cc, cc)
  or-false false false e = (refl, refl)

  not-true : {b : Bool} {A : Type 0} → b ≡ true → b ≡ false → A
  not-true e f = absurd (true≢false (sym e ∙ f))

  ready-unmasked : (i : Ins) (k : Knowing) (st : List ℕ) → not (eqb i.op 0x16 && (is mask (k 0) || is mask (k 1))) ≡ true → (rules.row i.op).taken ≤ length st
      → Ready rules.row i k st
  ready-unmasked i k st u d = record {
    deep = d;
    top = λ e on. not-true on (free e).0;
    next = λ e off on. not-true on (free e).1;
  }
    where
      free : i.op ≡ 0x16 → (is mask (k 0) ≡ false) × (is mask (k 1) ≡ false)
      free e = or-false (is mask (k 0)) (is mask (k 1)) (rw (eq-eqb i.op 0x16 e) at u)

  runs-unmasked : (supply : ℕ → ℕ → ℕ) (start : ℕ) (is : List Ins) (k : Knowing) (st : List ℕ) → unmasked rules start is k ≡ true → DeepRuns rules.row supply start is st
      → Runs rules supply start is k st
  runs-unmasked supply start [] k st u d = tt
  runs-unmasked supply start (i ∷ is) k st u d =
      let b = and_both (not (eqb i.op 0x16 && _)) _ u in
      (ready-unmasked i k st b.0 d.0, λ off. runs-unmasked supply start is _ _ (rw off at b.1) (d.1 off))

  -- On a path no block of which uses the mask rule: what is asked is met by every stack that is deep enough.
  pub asks-unmasked : (code : List ℕ) (supply : ℕ → ℕ → ℕ → ℕ) (path st : List ℕ) → ((b : ℕ) → In b path → unmasked rules b (fetched code b) unaware ≡ true)
      → DeepEnough rules.row code supply path st → Asks rules code supply path st
  asks-unmasked code supply [] st u d = tt
  asks-unmasked code supply (b ∷ bs) st u d =
      (asks-unmasked code supply bs st (λ c i. u c (there i)) d.0, runs-unmasked (supply (length bs)) b (fetched code b) unaware _ (u b here) d.1)

  -- So the request's premises are met for every such path, by every stack of so many words.
  pub asks-met : (code : List ℕ) (supply : ℕ → ℕ → ℕ → ℕ) (path st : List ℕ) → ((b : ℕ) → In b path → unmasked rules b (fetched code b) unaware ≡ true)
      → depth rules.row code path ≤ length st → Asks rules code supply path st
  asks-met code supply path st u h = asks-unmasked code supply path st u (deep-enough-path code supply path st h)

  -- ---- by computing, on given words

  abbrev fits : Knowing → List ℕ → Bool
  fits k st = if (is mask (k 0)) (ltb (get_or st 1 0) (2 ^ 32)) (if (is mask (k 1)) (ltb (get_or st 0 0) (2 ^ 32)) true)

  abbrev ready? : Ins → Knowing → List ℕ → Bool
  ready? i k st = leb (rules.row i.op).taken (length st) && (not (eqb i.op 0x16) || fits k st)

  abbrev runs? : (ℕ → ℕ → ℕ) → ℕ → List Ins → Knowing → List ℕ → Bool
  runs? supply start [] k st = true
  runs? supply start (i ∷ rest) k st =
      let later = runs? supply start rest (knows rules.row i (does rules.mode i.op) k) (yields rules.row supply i st) in ready? i k st && (last start i || later)

  -- whether these words and results meet what is asked along the path
  abbrev pub asks? : List ℕ → (ℕ → ℕ → ℕ → ℕ) → List ℕ → List ℕ → Bool
  asks? code supply [] st = true
  asks? code supply (b ∷ bs) st =
      let first = asks? code supply bs st in first && runs? (supply (length bs)) b (fetched code b) unaware (along rules.row code supply bs st).words

  ready-met : (i : Ins) (k : Knowing) (st : List ℕ) → ready? i k st ≡ true → Ready rules.row i k st
  ready-met i k st e = record {
    deep = leb-true _ _ b.0;
    top = λ q on. ltb-true _ _ (sym (if-true (is mask (k 0)) _ _ on) ∙ held q);
    next = λ q off on. ltb-true _ _ (sym (if-true (is mask (k 1)) _ _ on) ∙ sym (if-false (is mask (k 0)) _ _ off) ∙ held q);
  }
    where
      b : (leb (rules.row i.op).taken (length st) ≡ true) × (not (eqb i.op 0x16) || fits k st ≡ true)
      b = and_both (leb (rules.row i.op).taken (length st)) _ e

      held : i.op ≡ 0x16 → fits k st ≡ true
      held q = rw (eq-eqb i.op 0x16 q) at b.1

  runs-met : (supply : ℕ → ℕ → ℕ) (start : ℕ) (rest : List Ins) (k : Knowing) (st : List ℕ) → runs? supply start rest k st ≡ true → Runs rules supply start rest k st
  runs-met supply start [] k st e = tt
  runs-met supply start (i ∷ rest) k st e =
      let b = and_both (ready? i k st) _ e in (ready-met i k st b.0, λ off. runs-met supply start rest _ _ (rw off at b.1))

  -- Where the test says so they do.
  pub asks-computed : (code : List ℕ) (supply : ℕ → ℕ → ℕ → ℕ) (path st : List ℕ) → asks? code supply path st ≡ true → Asks rules code supply path st
  asks-computed code supply [] st e = tt
  asks-computed code supply (b ∷ bs) st e =
      let t = and_both (asks? code supply bs st) _ e in
      (asks-computed code supply bs st t.0, runs-met (supply (length bs)) b (fetched code b) unaware (along rules.row code supply bs st).words t.1)

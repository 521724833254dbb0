-- Document 02, No. 7, and more than it asks: on a stack that is deep enough YP goes from each block of a recorded path to the one named before it, if each
-- JUMPI takes the side that the path names. Assumes nothing.
use Prim.Native.Nat.{ℕ, ◌^◌, ◌≤◌}
use native.Mathlib.Omega.{arith}
use mathlib.Core.Path.{◌≡◌, refl, sym, ap, subst, ◌∙◌}
use mathlib.Core.Logic.{◌⊎◌, inl, inr}
use mathlib.Core.Bool.{true, ◌||◌, true≢false}
use mathlib.Core.Option.{Option, none, some}
use mathlib.Core.List.{List, [], ◌∷◌, ◌++◌}
use lib.Dec.{eqb}
use lib.ListN.{length, get_or, length-append}
use borrow.Author.Tests.{eqb-true}
use Rattle.spec.specs.Lists.{some?}
use Rattle.spec.specs.Opcodes.{Rules}
use Rattle.spec.specs.Walk.{instructions, from}
use Rattle.spec.specs.Blocks.{Kind, terminate, jump, jumpi, dynamic_jump, dynamic_jumpi, Block, blocks}
use Rattle.spec.specs.Stacks.{Sym, before, constant, jumpdest, other, Stack, Ran, run}
use Rattle.spec.specs.Search.{Node, node, settled, sides, Found, nowhere, found, Rec, is_at}
use Rattle.spec.specs.Rooms.{Lent}
use Rattle.spec.specs.Entries.{Map}
use Rattle.spec.specs.Answer.{answered, prepared, searched, answer}
use Rattle.spec.specs.PathMeaning.{fetched, along}
use Rattle.spec.specs.PathDeep.{DeepRuns, DeepEnough, LeadsAnyhow}
use Rattle.spec.specs.PathJoins.{begins, leads_to, brings_to, joined}
use Rattle.spec.specs.PathWalks.{exits, goes_to, walks}
use Rattle.laws.proofs.Members.{In, here, there, and_both, and-true, or_cases, mem-in, in-only, in_map, in_some}
use Rattle.theorems.proofs.Each.{Each, each_map, each_in}
use Rattle.theorems.proofs.Trails.{Uncut}
use Rattle.theorems.proofs.Exits.{popped-goes, side-cases, sided}
use Rattle.theorems.proofs.PathLeads.{alone, replayed, Sees, sees-lands, middle, on, words_append, popped-append}
use Rattle.theorems.proofs.PathDeep.{small-code, path-leads-anyhow}
use Rattle.theorems.proofs.PathTruth.{afresh, run_alone, AllUncut, TruePath, search-paths, answered-paths}
use Rattle.theorems.proofs.Counts.{Lawful}

module _ (rules : Rules) (ok : Lawful rules.row) where
  -- ---- static edges

  -- a side of a prepared block is one of the cut's, or the Jumpdest that its own run ends in
  settled-sides : (g : Option Sym) (k : Kind) {x : ℕ} → In x (sides (settled g k)) → In x (sides k) ⊎ (g ≡ some (jumpdest x))
  settled-sides none k i = inl i
  settled-sides (some (before n)) k i = inl i
  settled-sides (some (constant v)) k i = inl i
  settled-sides (some (other pc)) k i = inl i
  settled-sides (some (jumpdest t)) (terminate success) i = inl i
  settled-sides (some (jumpdest t)) (jump u) i = inl i
  settled-sides (some (jumpdest t)) (jumpi u f) i = inl i
  settled-sides (some (jumpdest t)) dynamic_jump i = inr (ap (λ (a : ℕ). some (jumpdest a)) (sym (in-only i)))
  settled-sides (some (jumpdest t)) (dynamic_jumpi f) {x} i = split (side-cases rules ok t f i)
    where
      split : (x ≡ t) ⊎ (x ≡ f) → In x (f ∷ []) ⊎ (some (jumpdest t) ≡ some (jumpdest x))
      split (inl e) = inr (ap (λ (a : ℕ). some (jumpdest a)) (sym e))
      split (inr e) = inl (subst (λ (a : ℕ). In x (a ∷ [])) e here)

  -- on any stack that is deep enough YP goes along the path, whatever is supplied, if each JUMPI takes the side that the path names
  pub record WalkedPath (code : List ℕ) (earlier : List Rec) (r : Rec) : Type 0 where
    pub true-path : TruePath rules ok code earlier r
    pub walks-there : (supply : ℕ → ℕ → ℕ → ℕ) (st : List ℕ) → DeepEnough rules.row code supply r.path st → walks rules.row code supply r.path st ≡ true

  module _ (code : List ℕ) (small : length code ≤ 2 ^ 32) where
    sees-alone : (y x : ℕ) → (alone rules ok code y).goes ≡ some (jumpdest x) → Sees rules ok code (y ∷ []) (jumpdest x)
    unfolding replayed
    sees-alone y x e = record { first = y; rest = []; path-is = refl; symbol = jumpdest x; goes = e; sees = refl }

    edge_goes : {n : Node} {x y : ℕ} → In n (prepared rules code) → y ≡ n.block.start → In x (sides n.block.kind) → Uncut rules ok code y
        → (supply : ℕ → ℕ → ℕ) (st : List ℕ) → DeepRuns rules.row supply y (fetched code y) st → goes_to code x (exits rules.row supply y (fetched code y) st) ≡ true
    unfolding prepared
    edge_goes {n} {x} {y} i at j u supply st r =
        split (settled-sides (run rules code (instructions code) b.0.start).goes b.0.kind (subst (λ (m : Node). In x (sides m.block.kind)) b.2 j))
      where
        b : (b : Block) × In b (blocks rules.row code (instructions code)) × (n ≡ node b (run rules code (instructions code) b.start))
        b = in_map _ (blocks rules.row code (instructions code)) i

        start_is : b.0.start ≡ y
        start_is = sym (at ∙ ap (λ (m : Node). m.block.start) b.2)

        split : In x (sides b.0.kind) ⊎ ((run rules code (instructions code) b.0.start).goes ≡ some (jumpdest x)) → goes_to code x (exits rules.row supply y (fetched code y) st) ≡ true
        split (inl k) = rw (← afresh rules ok code u) (subst (λ (a : ℕ). goes_to code x (exits rules.row supply a (from a (instructions code)) st) ≡ true) start_is (sided rules ok code b.1 x k supply st))
        split (inr g) =
            let goes = ap (λ (q : Ran). q.goes) (sym (run_alone rules ok code u) ∙ ap (run rules code (instructions code)) (sym start_is)) ∙ g in
            let s = sees-alone y x goes in
            popped-goes rules ok code supply y (fetched code y) st (sees-lands rules ok code s) ((path-leads-anyhow rules ok code small s).pops (λ _. supply) st (tt, r))

    -- ---- earlier records

    begins_with : (xs ys : List ℕ) → begins xs ys ≡ true → (more : List ℕ) × (ys ≡ xs ++ more)
    begins_with [] ys e = (ys, refl)
    begins_with (x ∷ xs) [] e = absurd (true≢false (sym e))
    begins_with (x ∷ xs) (y ∷ ys) e =
        let b = and_both (eqb x y) _ e in let g = begins_with xs ys b.1 in (g.0, λ i. sym (eqb-true x y b.0) i ∷ g.1 i)

    found_at : (x : ℕ) (f : Found) → is_at x f ≡ true → (s : Stack) × (f ≡ found x s)
    found_at x nowhere e = absurd (true≢false (sym e))
    found_at x (found u s) e = (s, ap (λ (a : ℕ). found a s) (sym (eqb-true x u e)))

    -- ---- a run of more blocks than the path's, with the path's first named

    module _ (more : List ℕ) (supply : ℕ → ℕ → ℕ → ℕ) (st : List ℕ) where
      deep-append : (xs : List ℕ) → DeepEnough rules.row code supply (xs ++ more) st → DeepEnough rules.row code (on rules ok code supply more st) xs (middle rules ok code supply more st)
      deep-append [] a = tt
      deep-append (x ∷ xs) a = (deep-append xs a.0, rw (length-append xs more, words_append rules ok code supply more st xs) at a.1)

      leads_goes : {p : List ℕ} {x : ℕ} → LeadsAnyhow rules.row code p x → DeepEnough rules.row code supply (p ++ more) st → (along rules.row code supply (p ++ more) st).popped ≡ some x
      leads_goes {p} {x} h a = split p refl
        where
          pops : (along rules.row code (on rules ok code supply more st) p (middle rules ok code supply more st)).popped ≡ some x
          pops = h.pops (on rules ok code supply more st) (middle rules ok code supply more st) (deep-append p a)

          split : (q : List ℕ) → p ≡ q → (along rules.row code supply (p ++ more) st).popped ≡ some x
          split [] e = absurd (let k = rw e at pops in let z : ◌≡◌ {A = ℕ} 0 1 = cc in omega arith)
          split (b ∷ bs) e = popped-append rules ok code supply more st p e ∙ pops

    -- ---- the path

    module _ (earlier : List Rec) (lead : (r : Rec) → In r earlier → (t : ℕ) (s : Stack) → r.to ≡ found t s → LeadsAnyhow rules.row code r.path t × (get_or code t 0 ≡ 0x5B)) where
      step : (x y : ℕ) (more : List ℕ) → some? (leads_to x y) (prepared rules code) || some? (brings_to x y more) earlier ≡ true → Uncut rules ok code y
          → (supply : ℕ → ℕ → ℕ → ℕ) (st : List ℕ) → DeepEnough rules.row code supply (y ∷ more) st
          → goes_to code x (exits rules.row (supply (length more)) y (fetched code y) (along rules.row code supply more st).words) ≡ true
      step x y more e u supply st a = split (or_cases _ _ e)
        where
          split : (some? (leads_to x y) (prepared rules code) ≡ true) ⊎ (some? (brings_to x y more) earlier ≡ true)
              → goes_to code x (exits rules.row (supply (length more)) y (fetched code y) (along rules.row code supply more st).words) ≡ true
          split (inl q) =
              let g = in_some (leads_to x y) (prepared rules code) q in
              let b = and_both (eqb y g.0.block.start) _ g.2 in
              edge_goes g.1 (eqb-true _ _ b.0) (mem-in x _ b.1) u (supply (length more)) (along rules.row code supply more st).words a.1
          split (inr q) =
              let g = in_some (brings_to x y more) earlier q in
              let b = and_both (is_at x g.0.to) _ (and_both (eqb y g.0.start) _ g.2).1 in
              let f = found_at x g.0.to b.0 in
              let p = begins_with g.0.path (y ∷ more) b.1 in
              let h = lead g.0 g.1 x f.0 f.1 in
              popped-goes rules ok code (supply (length more)) y (fetched code y) (along rules.row code supply more st).words h.1
              (subst (λ (q : List ℕ). (along rules.row code supply q st).popped ≡ some x) (sym p.1) (leads_goes p.0 supply st h.0 (subst (λ (q : List ℕ). DeepEnough rules.row code supply q st) p.1 a)))

      walked-path : (path : List ℕ) → joined (prepared rules code) earlier path ≡ true → AllUncut rules ok code path → (supply : ℕ → ℕ → ℕ → ℕ) (st : List ℕ) → DeepEnough rules.row code supply path st
          → walks rules.row code supply path st ≡ true
      walked-path [] j u supply st a = refl
      walked-path (x ∷ []) j u supply st a = refl
      walked-path (x ∷ y ∷ more) j u supply st a =
          let b = and_both (some? (leads_to x y) (prepared rules code) || some? (brings_to x y more) earlier) _ j in
          and-true _ _ (step x y more b.0 (u y (there here)) supply st a.0) (walked-path (y ∷ more) b.1 (λ c i. u c (there i)) supply st a.0)

    -- ---- every record

    walked-paths : {recs : List Rec} → Each (TruePath rules ok code) recs → Each (WalkedPath code) recs
    walked-paths = each_map (λ earlier r all (t : TruePath rules ok code earlier r).
        record { true-path = t; walks-there = walked-path earlier (λ q i u s e. led ((each_in all i).1.true-path.sees-there u s e)) r.path t.joins t.whole })
      where
        led : {path : List ℕ} {u : ℕ} → Sees rules ok code path (jumpdest u) → LeadsAnyhow rules.row code path u × (get_or code u 0 ≡ 0x5B)
        led s = (path-leads-anyhow rules ok code small s, sees-lands rules ok code s)

  -- Of every search of a code of at most 2^32 bytes, and of every answer that is given.
  pub search-walks : (limit : ℕ) (code : List ℕ) → length code ≤ 2 ^ 32 → Each (WalkedPath code) (searched rules limit code).recs
  search-walks limit code small = walked-paths code small (search-paths rules ok limit code)

  pub answered-walks : (l : Lent) (limit choice : ℕ) (code : List ℕ) (a : Map) → answer rules l limit choice code ≡ answered a → Each (WalkedPath code) a.recs
  answered-walks l limit choice code a e = walked-paths code (small-code rules ok l limit choice code a e) (answered-paths rules ok l limit choice code a e)

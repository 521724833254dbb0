-- Document 02, No. 13, of the Rust's own text: `extend_reachable_nodes` of crates/source/specs, on the blocks of any map. Assumes nothing.
use Prim.Native.Nat.{ℕ}
use native.Mathlib.Nat.{le_refl}
use mathlib.Core.Path.{◌≡◌, refl, sym, ap, subst, ◌∙◌}
use mathlib.Core.Bool.{Bool, true, false}
use mathlib.Core.Option.{Option, none, some}
use mathlib.Core.List.{List, [], ◌∷◌, ◌++◌, map}
use lib.Dec.{eqb}
use Rattle.spec.specs.Lists.{mem}
use Rattle.spec.specs.Ending.{Final}
use Rattle.laws.specs.Options.{and_then}
use Rattle.laws.proofs.Lists.{Rising}
use Rattle.laws.proofs.Members.{In}
use Rattle.theorems.proofs.Answered.{finals-at}
use Rattle.theorems.proofs.Batches.{◌≈◌}
use Rattle.source.specs.Collections.{unwrap_or, get}
use Rattle.source.specs.Shown.{view}
use Rattle.source.specs.Reachable.{Witnesses, extend_reachable_nodes}
use Rattle.source.proofs.Extending.{Targets, Extended, known-edges, pops, extend-each, joined, Leaves}
use Rattle.source.proofs.Extending as Blockwise
use Rattle.source.proofs.AnyOrder.{outside, Alike, rust-extends, batches-alike, rust-order, rust-joined, rust-reached}
use Rattle.source.proofs.Visiting.{call-same}

module _ (fs : List Final) (rising : Rising 0 (finals-at fs)) (wt : Witnesses) (targets : Targets) (told : (w : ℕ) → unwrap_or [] (get eqb w wt) ≡ targets w) (got : List ℕ) where
  -- one call of the Rust's function after the other, from any set
  abbrev pub calls : List ℕ → List (List ℕ) → Option (List ℕ)
  calls set [] = some set
  calls set (seeds ∷ more) = and_then (extend_reachable_nodes (map view fs) set wt seeds) (λ r. calls r.0 more)

  calls-same : (set : List ℕ) (batches : List (List ℕ)) → calls set batches ≡ extend-each (pops fs targets) fs targets set batches
  calls-same set [] = refl
  calls-same set (seeds ∷ more) =
      ap (λ (o : Option (List ℕ × Bool)). and_then o (λ r. calls r.0 more)) (call-same wt targets told fs set seeds)
      ∙ after (λ s. calls-same s more) (Blockwise.extend-reachable-nodes (pops fs targets seeds) fs targets set seeds)
    where
      after : ((s : List ℕ) → calls s more ≡ extend-each (pops fs targets) fs targets s more)
          → (o : Option Extended) → and_then (and_then {B = List ℕ × Bool} o (λ x. some (x.reachable, x.grew))) (λ r. calls r.0 more) ≡ and_then o (λ x. extend-each (pops fs targets) fs targets x.reachable more)
      after h none = refl
      after h (some x) = h x.reachable

  alike : (bs cs : List (List ℕ)) → Alike (extend-each (pops fs targets) fs targets got bs) (extend-each (pops fs targets) fs targets got cs) → Alike (calls got bs) (calls got cs)
  alike bs cs h =
      subst (λ (o : Option (List ℕ)). Alike o (calls got cs)) (sym (calls-same got bs))
      (subst (λ (o : Option (List ℕ)). Alike (extend-each (pops fs targets) fs targets got bs) o) (sym (calls-same got cs)) h)

  -- Calls one after the other end, and leave the set extended by all their seeds, along the edges of the blocks that do not start in it.
  pub source-extends : (bs : List (List ℕ)) → Leaves (known-edges (outside got fs) targets) got bs (calls got bs)
  source-extends bs =
      subst (Leaves (known-edges (outside got fs) targets) got bs) (sym (calls-same got bs)) (rust-extends fs targets rising (pops fs targets) got bs (λ b i. le_refl (pops fs targets b)))

  -- Any batches with the same seeds leave the same,
  pub source-batches : (bs cs : List (List ℕ)) → joined bs ≈ joined cs → Alike (calls got bs) (calls got cs)
  source-batches bs cs h =
      alike bs cs (batches-alike fs targets rising (pops fs targets) got bs cs (λ b i. le_refl (pops fs targets b)) (λ c i. le_refl (pops fs targets c)) h)

  -- so the order is none of the set,
  pub source-order : (xs ys : List ℕ) → Alike (calls got (xs ∷ ys ∷ [])) (calls got (ys ∷ xs ∷ []))
  source-order xs ys = alike (xs ∷ ys ∷ []) (ys ∷ xs ∷ []) (rust-order fs targets rising (pops fs targets) got xs ys (le_refl (pops fs targets xs)) (le_refl (pops fs targets ys)))

  -- nor whether the lists are one.
  pub source-joined : (xs ys : List ℕ) → Alike (calls got (xs ∷ ys ∷ [])) (calls got ((xs ++ ys) ∷ []))
  source-joined xs ys =
      alike (xs ∷ ys ∷ []) ((xs ++ ys) ∷ [])
      (rust-joined fs targets rising (pops fs targets) got xs ys (le_refl (pops fs targets xs)) (le_refl (pops fs targets ys)) (le_refl (pops fs targets (xs ++ ys))))

  -- Seeds already reached change nothing, and false is returned; nor does an empty list.
  pub source-reached : (seeds : List ℕ) → ((s : ℕ) → In s seeds → mem s got ≡ true) → extend_reachable_nodes (map view fs) got wt seeds ≡ some (got, false)
  source-reached seeds reached =
      call-same wt targets told fs got seeds
      ∙ ap (λ (o : Option Extended). and_then {B = List ℕ × Bool} o (λ x. some (x.reachable, x.grew))) (rust-reached fs targets rising (pops fs targets) got seeds (le_refl (pops fs targets seeds)) reached)

  pub source-nothing : extend_reachable_nodes (map view fs) got wt [] ≡ some (got, false)
  source-nothing = source-reached [] (λ s i. elim i [ ])

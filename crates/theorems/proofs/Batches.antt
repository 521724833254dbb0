-- Document 02, No. 13: "for fixed blocks and witness targets, extending the reached set with one list of seeds and then another gives the same set as the other
-- order, and as one joined list"; "an empty list, and seeds already reached, change nothing". Assumes nothing.
use Prim.Native.Nat.{ℕ, zero, suc, ◌≤◌}
use native.Mathlib.Omega.{arith}
use mathlib.Core.Path.{◌≡◌, refl, sym, ap, ◌∙◌}
use mathlib.Core.Logic.{◌⊎◌, inl, inr}
use mathlib.Core.Bool.{Bool, true, false, ◌||◌, or_assoc, or_comm}
use mathlib.Core.List.{List, [], ◌∷◌, ◌++◌, append-nil}
use lib.Dec.{eqb}
use lib.ListN.{length, take, drop, take-append-drop, length-take, length-drop}
use borrow.Author.Tests.{eqb-true}
use Rattle.spec.specs.Lists.{mem, gather}
use Rattle.spec.specs.Reach.{Edge, leads, with, Swept, sweep, spread, closure}
use Rattle.spec.specs.Search.{Node, edges, Rec, dest, dests, reached_by}
use Rattle.laws.proofs.Branch.{both, if-true}
use Rattle.laws.proofs.Members.{In, here, there, same_test, and_both, mem-append, or_right, or_cases, gather_append}
use Rattle.theorems.proofs.Reached.{Reached, seed, along, Closed, closure-sound, closure-complete}

-- seeds are added to a set, those that are in it already not again
abbrev pub added : List ℕ → List ℕ → List ℕ
added [] got = got
added (s ∷ ss) got = added ss (with s got)

module _ (es : List Edge) where
  -- the set is extended: by the seeds and by what is reached from them
  unfoldable pub extend : List ℕ → List ℕ → List ℕ
  extend got seeds = closure es (added seeds got)

  -- one list after the other
  abbrev pub extends : List ℕ → List (List ℕ) → List ℕ
  extends got [] = got
  extends got (ss ∷ more) = extends (extend got ss) more

  pub closure-closed : (seeds : List ℕ) → Closed es (closure es seeds)
  closure-closed seeds d i on =
      let h = and_both _ _ on in
      closure-complete es seeds d.to (along d i (closure-sound es seeds d.place h.0) (closure-sound es seeds d.witness h.1))

-- ---- the same list

-- a sweep adds nothing to a closed set
sweep-stays : (es : List Edge) (got : List ℕ) → Closed es got → (sweep es got).got ≡ got
unfolding sweep
sweep-stays [] got h = refl
sweep-stays (e ∷ es) got h =
    both (λ (w : Swept). w.got ≡ got) (leads got e)
    (λ on. ap (λ (l : List ℕ). (sweep es l).got) (if-true _ _ _ (h e here on)) ∙ sweep-stays es got (λ d i. h d (there i))) (λ _. sweep-stays es got (λ d i. h d (there i)))

there-too : {e d : Edge} {xs ys : List Edge} → (In d xs → In d ys) → In d (e ∷ xs) → In d (e ∷ ys)
there-too h here = here
there-too h (there i) = there (h i)

sweep-fewer : (es : List Edge) (got : List ℕ) {d : Edge} → In d (sweep es got).rest → In d es
unfolding sweep
sweep-fewer [] got i = i
sweep-fewer (e ∷ es) got {d} i =
    both (λ (w : Swept). In d w.rest → In d (e ∷ es)) (leads got e) (λ _ j. there (sweep-fewer es _ j)) (λ _. there-too (sweep-fewer es got)) i

spread-stays : (k : ℕ) (es : List Edge) (got : List ℕ) → Closed es got → spread k es got ≡ got
unfolding spread
spread-stays zero es got h = refl
spread-stays (suc k) es got h =
    both (λ (l : List ℕ). l ≡ got) (eqb (length (sweep es got).rest) (length es)) (λ _. refl)
    (λ _. ap (spread k (sweep es got).rest) (sweep-stays es got h) ∙ spread-stays k _ got (λ d i. h d (sweep-fewer es got i)))

pub added-reached : (seeds got : List ℕ) → ((s : ℕ) → In s seeds → mem s got ≡ true) → added seeds got ≡ got
added-reached [] got h = refl
added-reached (s ∷ ss) got h = ap (added ss) (if-true _ _ _ (h s here)) ∙ added-reached ss got (λ t i. h t (there i))

module _ (es : List Edge) where
  -- Seeds already reached change nothing,
  pub extend-reached : (got seeds : List ℕ) → Closed es got → ((s : ℕ) → In s seeds → mem s got ≡ true) → extend es got seeds ≡ got
  unfolding extend closure
  extend-reached got seeds c h = ap (closure es) (added-reached seeds got h) ∙ spread-stays (length es) es got c

  -- and nor does an empty list.
  pub extend-nothing : (got : List ℕ) → Closed es got → extend es got [] ≡ got
  extend-nothing got c = extend-reached got [] c (λ s i. elim i [ ])

-- ---- membership

absorbed : (a t : ℕ) (got : List ℕ) → mem t got ≡ true → (b : Bool) → eqb a t ≡ b → mem a got ≡ b || mem a got
absorbed a t got h true e = rw (eqb-true a t e) h
absorbed a t got h false e = refl

mem-with : (a t : ℕ) (got : List ℕ) → mem a (with t got) ≡ eqb a t || mem a got
mem-with a t got = both (λ (l : List ℕ). mem a l ≡ eqb a t || mem a got) (mem t got) (λ on. absorbed a t got on (eqb a t) refl) (λ _. refl)

pub mem-added : (a : ℕ) (ss got : List ℕ) → mem a (added ss got) ≡ mem a ss || mem a got
mem-added a [] got = refl
mem-added a (s ∷ ss) got = mem-added a ss (with s got) ∙ rw (mem-with a s got, ← or_assoc (mem a ss) (eqb a s) (mem a got), or_comm (mem a ss) (eqb a s))

-- ---- the same set

-- two lists with the same members
infix 20 ◌≈◌
abbrev pub ◌≈◌ : List ℕ → List ℕ → Type 0
◌≈◌ xs ys = (a : ℕ) → mem a xs ≡ mem a ys

-- seeds that are reached reach nothing else
pub reached-from : {es : List Edge} {seeds more : List ℕ} {x : ℕ} → ((y : ℕ) → mem y seeds ≡ true → Reached es more y) → Reached es seeds x → Reached es more x
reached-from f (seed h) = f _ h
reached-from f (along e i p w) = along e i (reached-from f p) (reached-from f w)

-- seeds of which each is reached from the others' side have one closure
pub closure-same : (es : List Edge) (seeds more : List ℕ) → ((y : ℕ) → mem y seeds ≡ true → Reached es more y) → ((y : ℕ) → mem y more ≡ true → Reached es seeds y)
    → closure es seeds ≈ closure es more
closure-same es seeds more f g x =
    same_test (λ p. closure-complete es more x (reached-from f (closure-sound es seeds x p))) (λ p. closure-complete es seeds x (reached-from g (closure-sound es more x p)))

-- only which seeds there are matters
pub closure-members : (es : List Edge) (seeds more : List ℕ) → seeds ≈ more → closure es seeds ≈ closure es more
closure-members es seeds more h = closure-same es seeds more (λ y p. seed (sym (h y) ∙ p)) (λ y p. seed (h y ∙ p))

module _ (es : List Edge) where
  -- seeds that are added to a closure do what they do with its own seeds
  closure-again : (ys ss : List ℕ) → closure es (added ys (closure es ss)) ≈ closure es (added ys ss)
  closure-again ys ss =
      closure-same es _ _
      (λ s m. split s (or_cases (mem s ys) (mem s (closure es ss)) (sym (mem-added s ys (closure es ss)) ∙ m)))
      (λ s m. back s (or_cases (mem s ys) (mem s ss) (sym (mem-added s ys ss) ∙ m)))
    where
      new : (s : ℕ) (got : List ℕ) → mem s ys ≡ true → mem s (added ys got) ≡ true
      new s got h = mem-added s ys got ∙ ap (λ (b : Bool). b || mem s got) h

      old : (s : ℕ) (got : List ℕ) → mem s got ≡ true → mem s (added ys got) ≡ true
      old s got h = mem-added s ys got ∙ or_right (mem s ys) (mem s got) h

      split : (s : ℕ) → (mem s ys ≡ true) ⊎ (mem s (closure es ss) ≡ true) → Reached es (added ys ss) s
      split s (inl h) = seed (new s ss h)
      split s (inr h) = reached-from (λ t m. seed (old t ss m)) (closure-sound es ss s h)

      back : (s : ℕ) → (mem s ys ≡ true) ⊎ (mem s ss ≡ true) → Reached es (added ys (closure es ss)) s
      back s (inl h) = seed (new s _ h)
      back s (inr h) = seed (old s _ (closure-complete es ss s (seed h)))

  -- the set and the seeds, closed together
  pub extend-is : (got xs : List ℕ) → extend es got xs ≈ closure es (xs ++ got)
  unfolding extend
  extend-is got xs = closure-members es _ _ (λ s. mem-added s xs got ∙ sym (mem-append s xs got))

  -- One list of seeds and then another give the same set as the joined list,
  pub extend-joined : (got xs ys : List ℕ) → extend es (extend es got xs) ys ≈ extend es got (xs ++ ys)
  unfolding extend
  extend-joined got xs ys a = closure-again ys (added xs got) a ∙ closure-members es _ _ same a
    where
      same : added ys (added xs got) ≈ added (xs ++ ys) got
      same s =
          mem-added s ys (added xs got)
          ∙ rw (mem-added s xs got, mem-added s (xs ++ ys) got, mem-append s xs ys, ← or_assoc (mem s ys) (mem s xs) (mem s got), or_comm (mem s ys) (mem s xs))

  -- and as the other order.
  pub extend-order : (got xs ys : List ℕ) → extend es (extend es got xs) ys ≈ extend es (extend es got ys) xs
  unfolding extend
  extend-order got xs ys a = extend-joined got xs ys a ∙ closure-members es _ _ same a ∙ sym (extend-joined got ys xs a)
    where
      same : added (xs ++ ys) got ≈ added (ys ++ xs) got
      same s = rw (mem-added s (xs ++ ys) got, mem-added s (ys ++ xs) got, mem-append s xs ys, mem-append s ys xs, or_comm (mem s xs) (mem s ys))

  -- sets with the same members are extended to such
  pub extend_same : (got more xs : List ℕ) → got ≈ more → extend es got xs ≈ extend es more xs
  unfolding extend
  extend_same got more xs h = closure-members es _ _ (λ s. mem-added s xs got ∙ ap (λ (b : Bool). mem s xs || b) (h s) ∙ sym (mem-added s xs more))

  -- and by seeds with the same members to such
  pub extend-seeds : (got xs ys : List ℕ) → xs ≈ ys → extend es got xs ≈ extend es got ys
  unfolding extend
  extend-seeds got xs ys h = closure-members es _ _ (λ s. mem-added s xs got ∙ ap (λ (b : Bool). b || mem s got) (h s) ∙ sym (mem-added s ys got))

  -- Any batches, one after the other, give the set that their seeds give at once.
  pub extend-closed : (got xs : List ℕ) → Closed es (extend es got xs)
  unfolding extend
  extend-closed got xs = closure-closed es (added xs got)

  pub extends-closed : (got : List ℕ) → Closed es got → (batches : List (List ℕ)) → Closed es (extends es got batches)
  extends-closed got c [] = c
  extends-closed got c (b ∷ more) = extends-closed (extend es got b) (extend-closed got b) more

  pub extends-joined : (got : List ℕ) → Closed es got → (batches : List (List ℕ)) → extends es got batches ≈ extend es got (gather (λ (b : List ℕ). b) batches)
  extends-joined got c [] a = ap (mem a) (sym (extend-nothing es got c))
  extends-joined got c (b ∷ more) a = extends-joined (extend es got b) (extend-closed got b) more a ∙ extend-joined got b _ a

-- ---- a round's targets, in batches

-- Growing a reached set by the destinations that a round found, in any batches, gives the set that is reached when the next round begins.
pub round-extends : (ns : List Node) (recs new : List Rec) (got : List ℕ) → Closed (edges ns) got → got ≈ reached_by ns recs
    → (batches : List (List ℕ)) → gather (λ (b : List ℕ). b) batches ≡ dests new → extends (edges ns) got batches ≈ reached_by ns (recs ++ new)
unfolding extend
round-extends ns recs new got c h batches e a =
    extends-joined (edges ns) got c batches a
    ∙ ap (λ (l : List ℕ). mem a (extend (edges ns) got l)) e
    ∙ extend_same (edges ns) got (reached_by ns recs) (dests new) h a
    ∙ closure-again (edges ns) (dests new) (0 ∷ dests recs) a
    ∙ closure-members (edges ns) _ _ same a
  where
    same : added (dests new) (0 ∷ dests recs) ≈ (0 ∷ dests (recs ++ new))
    same s =
        mem-added s (dests new) (0 ∷ dests recs)
        ∙ rw (gather_append (λ (r : Rec). dest r.to) recs new) (or_comm (mem s (dests new)) (mem s (0 ∷ dests recs)) ∙ sym (mem-append s (0 ∷ dests recs) (dests new)))

-- batches of 64; the number bounds how many
abbrev pub batched : ℕ → List ℕ → List (List ℕ)
batched zero [] = []
batched zero (x ∷ xs) = (x ∷ xs) ∷ []
batched (suc k) [] = []
batched (suc k) (x ∷ xs) = take 64 (x ∷ xs) ∷ batched k (drop 64 (x ∷ xs))

pub batched-join : (k : ℕ) (xs : List ℕ) → gather (λ (b : List ℕ). b) (batched k xs) ≡ xs
batched-join zero [] = refl
batched-join zero (x ∷ xs) = append-nil (x ∷ xs)
batched-join (suc k) [] = refl
batched-join (suc k) (x ∷ xs) = ap (λ (l : List ℕ). take 64 (x ∷ xs) ++ l) (batched-join k (drop 64 (x ∷ xs))) ∙ take-append-drop 64 (x ∷ xs)

pub batched-small : (k : ℕ) (xs : List ℕ) → length xs ≤ k → (b : List ℕ) → In b (batched k xs) → length b ≤ 64
batched-small zero [] h b i = elim i [ ]
batched-small zero (x ∷ xs) h b i = absurd (omega arith)
batched-small (suc k) [] h b i = elim i [ ]
batched-small (suc k) (x ∷ xs) h b here = omega (arith, length-take 64 (x ∷ xs))
batched-small (suc k) (x ∷ xs) h b (there i) = batched-small k (drop 64 (x ∷ xs)) (omega (arith, length-drop 64 (x ∷ xs))) b i

-- all but the last have 64
pub data Full : List (List ℕ) → Type 0 where
  no_batch : Full []
  last_batch : {b : List ℕ} → Full (b ∷ [])
  full_batch : {b c : List ℕ} {bs : List (List ℕ)} → length b ≡ 64 → Full (c ∷ bs) → Full (b ∷ c ∷ bs)

full-rest : (k : ℕ) (b rest : List ℕ) → (1 ≤ length rest → length b ≡ 64) → Full (batched k rest) → Full (b ∷ batched k rest)
full-rest zero b [] h f = last_batch
full-rest (suc k) b [] h f = last_batch
full-rest zero b (x ∷ xs) h f = full_batch (h (omega arith)) f
full-rest (suc k) b (x ∷ xs) h f = full_batch (h (omega arith)) f

pub batched-full : (k : ℕ) (xs : List ℕ) → length xs ≤ k → Full (batched k xs)
batched-full zero [] h = no_batch
batched-full zero (x ∷ xs) h = absurd (omega arith)
batched-full (suc k) [] h = no_batch
batched-full (suc k) (x ∷ xs) h =
    full-rest k (take 64 (x ∷ xs)) (drop 64 (x ∷ xs)) (λ some. omega (arith, length-take 64 (x ∷ xs), length-drop 64 (x ∷ xs)))
    (batched-full k (drop 64 (x ∷ xs)) (omega (arith, length-drop 64 (x ∷ xs))))

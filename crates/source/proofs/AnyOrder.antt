-- A step of Orders and of Rounding: calls of `extend_reachable_nodes`, on the definitions' blocks, "with one list of seeds and then another", from any set; and a
-- round's call, which grows the search's own set. Assumes nothing.
use Prim.Native.Nat.{ℕ, zero, suc, ◌+◌, ◌≤◌}
use native.Mathlib.Omega.{arith}
use mathlib.Core.Path.{◌≡◌, refl, sym, ap, subst, ◌∙◌}
use mathlib.Core.Logic.{◌⊎◌, inl, inr}
use mathlib.Core.Bool.{Bool, true, false, not, or_comm}
use mathlib.Core.Option.{Option, some}
use mathlib.Core.List.{List, [], ◌∷◌, ◌++◌, map, append-nil}
use lib.Dec.{eqb}
use lib.ListN.{length}
use borrow.Author.Tests.{ne_eqb, not-true, not-false}
use Rattle.spec.specs.Lists.{if, mem, last_of, keep}
use Rattle.spec.specs.Reach.{Edge, edge}
use Rattle.spec.specs.Search.{Node, sides, edges, Rec, dest, dests, reached_by}
use Rattle.spec.specs.Ending.{Final}
use Rattle.laws.proofs.Branch.{both, if-true, if-false, and_then}
use Rattle.laws.proofs.Members.{In, here, there, same_test, mem-append, mem-in, in_mem, or_right, and_both, and-true, in-only, in_left, in_right, in-cases, in-keep, in-gather, gather-in, in_map, map-in, gather_append}
use Rattle.laws.proofs.Lists.{Rising}
use Rattle.theorems.proofs.Answered.{finals-at, rising-keep}
use Rattle.theorems.proofs.Reached.{Closed, Reached, seed, along, closure-sound, closure-complete}
use Rattle.theorems.proofs.Batches.{◌≈◌, extend, extend-is, extend-seeds, extend-reached, closure-closed, reached-from}
use Rattle.source.proofs.Queue.{pushed, block_at, of-block, while-pops}
use Rattle.source.proofs.Extending.{Targets, Extended, visits, extend-reachable-nodes, known-edges, Loose, pushes-of, Extends, extending, extend-each, joined, Leaves, extending-each}

-- both end, with the same members
pub record Alike (o p : Option (List ℕ)) : Type 0 where
  pub one : List ℕ
  pub other : List ℕ
  pub is_one : o ≡ some one
  pub is_other : p ≡ some other
  pub same : one ≈ other

-- ---- the blocks that a call may look at

-- those that do not start in the set: at a start that is in it nothing is looked up
abbrev pub outside : List ℕ → List Final → List Final
outside got = keep (λ (f : Final). not (mem f.block.start got))

-- a test that is true of more is false of fewer
not_more : {a b : Bool} → (a ≡ true → b ≡ true) → b ≡ false → a ≡ false
not_more {a = true} h e = sym (h refl) ∙ e
not_more {a = false} h e = refl

both_ways : {b : Bool} → b ≡ true → b ≡ false → ⊥
both_ways on off = let z : ◌≡◌ {A = ℕ} 0 1 = cc in omega arith

block-outside : (got : List ℕ) (a : ℕ) → mem a got ≡ false → (fs : List Final) → block_at a (outside got fs) ≡ block_at a fs
block-outside got a off [] = refl
block-outside got a off (f ∷ fs) =
    let ih = block-outside got a off fs in
    both (λ (l : List Final). block_at a l ≡ block_at a (f ∷ fs)) (not (mem f.block.start got))
    (λ _. ap (λ (o : Option Final). if (eqb a f.block.start) (some f) o) ih)
    (λ on. ih ∙ sym (if-false _ _ _ (ne_eqb a f.block.start (λ e. both_ways (not-false _ on) (subst (λ (x : ℕ). mem x got ≡ false) e off)))))

-- the edges from a block that starts outside lead from no member
outside-closed : (fs : List Final) (wt : Targets) (got : List ℕ) → Closed (known-edges (outside got fs) wt) got
outside-closed fs wt got e i on =
    let g = in-gather (λ (f : Final). map (edge f.block.start f.block.start) (sides f.block.kind ++ wt f.block.start)) (outside got fs) i in
    let a = g.0.block.start in
    let m = in_map (edge a a) (sides g.0.block.kind ++ wt a) g.2 in
    let place : mem a got ≡ true = ap (λ (d : Edge). mem d.place got) (sym m.2) ∙ (and_both (mem e.place got) (mem e.witness got) on).0 in
    absurd (both_ways place (not-true _ (in-keep (λ (f : Final). not (mem f.block.start got)) fs g.1).0))

fewer-pushes : (wt : Targets) (got : List ℕ) (fs : List Final) → pushes-of (outside got fs) wt ≤ pushes-of fs wt
fewer-pushes wt got [] = omega arith
fewer-pushes wt got (f ∷ fs) =
    let ih = fewer-pushes wt got fs in
    both (λ (l : List Final). pushes-of l wt ≤ pushes-of (f ∷ fs) wt) (not (mem f.block.start got)) (λ _. omega arith) (λ _. omega arith)

-- all that is in the first is in the second
abbrev Among : List ℕ → List ℕ → Type 0
Among got set = (a : ℕ) → mem a got ≡ true → mem a set ≡ true

module _ (fs : List Final) (got : List ℕ) (pushes : List ℕ → ℕ → Final → Option (List ℕ)) where
  -- the loop does not look at the others
  same-loop : (n : ℕ) (queue set : List ℕ) → Among got set → while-pops fs pushes n queue set ≡ while-pops (outside got fs) pushes n queue set
  unfolding while-pops
  same-loop zero queue set h = refl
  same-loop (suc n) [] set h = refl
  same-loop (suc n) (c ∷ queue) set h = by-test (mem c set) refl (same-loop n queue set h) (λ ts. same-loop n (pushed ts queue) (c ∷ set) (λ a m. or_right (eqb a c) _ (h a m)))
    where
      enters : List Final → Option (List ℕ)
      enters gs = and_then (of-block (pushes (c ∷ set) c) (block_at c gs)) (λ ts. while-pops gs pushes n (pushed ts queue) (c ∷ set))

      by-test : (b : Bool) → mem c set ≡ b → while-pops fs pushes n queue set ≡ while-pops (outside got fs) pushes n queue set
          → ((ts : List ℕ) → while-pops fs pushes n (pushed ts queue) (c ∷ set) ≡ while-pops (outside got fs) pushes n (pushed ts queue) (c ∷ set))
          → if b (while-pops fs pushes n queue set) (enters fs) ≡ if b (while-pops (outside got fs) pushes n queue set) (enters (outside got fs))
      by-test true e skips later = if-true true _ _ refl ∙ skips ∙ sym (if-true true _ _ refl)
      by-test false e skips later =
          if-false false _ _ refl
          ∙ ap (λ (o : Option Final). and_then (of-block (pushes (c ∷ set) c) o) (λ ts. while-pops fs pushes n (pushed ts queue) (c ∷ set))) (sym (block-outside got c (not_more (h c) e) fs))
          ∙ (λ i. and_then (of-block (pushes (c ∷ set) c) (block_at c (outside got fs))) (λ ts. later ts i))
          ∙ sym (if-false false _ _ refl)

-- ---- in any order

closed-loose : (es : List Edge) (got seeds : List ℕ) → Closed es got → Loose es got seeds
closed-loose es got seeds c e i on = in_mem e.to (in_right seeds (mem-in e.to got (c e i on)))

-- fixed blocks and witness targets, and pops enough for each list of seeds; any set
module _ (fs : List Final) (wt : Targets) (rising : Rising 0 (finals-at fs)) (n : List ℕ → ℕ) where
  abbrev pub Enough : List ℕ → Type 0
  Enough seeds = suc (length seeds + pushes-of fs wt) ≤ n seeds

  module _ (got : List ℕ) where
    abbrev others : List Final
    others = outside got fs

    abbrev es : List Edge
    es = known-edges others wt

    rises : Rising 0 (finals-at others)
    rises = rising-keep _ fs rising

    enough : (seeds : List ℕ) → Enough seeds → suc (length seeds + pushes-of others wt) ≤ n seeds
    enough seeds h = omega (arith, fewer-pushes wt got fs)

    same-call : (set seeds : List ℕ) → Among got set → extend-reachable-nodes (n seeds) fs wt set seeds ≡ extend-reachable-nodes (n seeds) others wt set seeds
    same-call set seeds h =
        ap (λ (o : Option (List ℕ)). and_then o (λ s. some (record { reachable = s; grew = not (eqb (length s) (length set)) })))
        (same-loop fs got (λ s current f. some (visits wt s current f)) (n seeds) (pushed seeds []) set h)

    same-calls : (set : List ℕ) (bs : List (List ℕ)) → ((b : List ℕ) → In b bs → Enough b) → Among got set
        → extend-each n fs wt set bs ≡ extend-each n others wt set bs
    same-calls set [] f h = refl
    same-calls set (b ∷ bs) f h =
        let r = extending fs wt rising set b (n b) (f b here) in
        ap (λ (o : Option Extended). and_then o (λ x. extend-each n fs wt x.reachable bs)) r.is
        ∙ same-calls r.out.reachable bs (λ c i. f c (there i)) (λ a m. r.keeps a (h a m))
        ∙ sym (ap (λ (o : Option Extended). and_then o (λ x. extend-each n others wt x.reachable bs)) (sym (same-call set b h) ∙ r.is))

    -- Calls one after the other leave the set extended by all their seeds, along the edges of the blocks outside.
    pub rust-extends : (bs : List (List ℕ)) → ((b : List ℕ) → In b bs → Enough b) → Leaves (known-edges (outside got fs) wt) got bs (extend-each n fs wt got bs)
    rust-extends bs f =
        let l = extending-each others wt rises n got bs (λ b i. enough b (f b i)) (closed-loose es got (joined bs) (outside-closed fs wt got)) in
        record { set = l.set; is = same-calls got bs f (λ a m. m) ∙ l.is; same = l.same }

    -- Batches that have the same seeds leave the same set.
    pub batches-alike : (bs cs : List (List ℕ)) → ((b : List ℕ) → In b bs → Enough b) → ((c : List ℕ) → In c cs → Enough c) → joined bs ≈ joined cs
        → Alike (extend-each n fs wt got bs) (extend-each n fs wt got cs)
    batches-alike bs cs f g h =
        let l = rust-extends bs f in
        let r = rust-extends cs g in
        record {
          one = l.set;
          other = r.set;
          is_one = l.is;
          is_other = r.is;
          same = λ a. l.same a ∙ extend-seeds es got (joined bs) (joined cs) h a ∙ sym (r.same a);
        }

    one-enough : {xs : List ℕ} → Enough xs → (b : List ℕ) → In b (xs ∷ []) → Enough b
    one-enough h b i = subst Enough (sym (in-only i)) h

    both-enough : {xs ys : List ℕ} → Enough xs → Enough ys → {b : List ℕ} → In b (xs ∷ ys ∷ []) → Enough b
    both-enough h k here = h
    both-enough h k (there i) = one-enough k _ i

    -- One list of seeds and then another leave the same set as the other order,
    pub rust-order : (xs ys : List ℕ) → Enough xs → Enough ys → Alike (extend-each n fs wt got (xs ∷ ys ∷ [])) (extend-each n fs wt got (ys ∷ xs ∷ []))
    rust-order xs ys h k = batches-alike (xs ∷ ys ∷ []) (ys ∷ xs ∷ []) (λ b. both-enough {xs = xs} {ys = ys} h k) (λ b. both-enough {xs = ys} {ys = xs} k h) same
      where
        same : xs ++ (ys ++ []) ≈ ys ++ (xs ++ [])
        same a = rw (append-nil xs, append-nil ys) (mem-append a xs ys ∙ or_comm (mem a xs) (mem a ys) ∙ sym (mem-append a ys xs))

    -- and as one joined list.
    pub rust-joined : (xs ys : List ℕ) → Enough xs → Enough ys → Enough (xs ++ ys)
        → Alike (extend-each n fs wt got (xs ∷ ys ∷ [])) (extend-each n fs wt got ((xs ++ ys) ∷ []))
    rust-joined xs ys h k j = batches-alike (xs ∷ ys ∷ []) ((xs ++ ys) ∷ []) (λ b. both-enough {xs = xs} {ys = ys} h k) (one-enough {xs = xs ++ ys} j) same
      where
        same : xs ++ (ys ++ []) ≈ (xs ++ ys) ++ []
        same a = rw (append-nil ys, append-nil (xs ++ ys)) refl

    -- Seeds already reached change nothing, and false is returned;
    pub rust-reached : (seeds : List ℕ) → Enough seeds → ((s : ℕ) → In s seeds → mem s got ≡ true)
        → extend-reachable-nodes (n seeds) fs wt got seeds ≡ some (record { reachable = got; grew = false })
    rust-reached seeds h reached = same-call got seeds (λ a m. m) ∙ r.is ∙ ap some (nothing r.out r.stayed r.more inside r.out.grew refl)
      where
        r : Extends es got seeds (extend-reachable-nodes (n seeds) others wt got seeds)
        r = extending others wt rises got seeds (n seeds) (enough seeds h)

        inside : (a : ℕ) → mem a r.out.reachable ≡ true → mem a got ≡ true
        inside a m = ap (mem a) (sym (extend-reached es got seeds (outside-closed fs wt got) reached)) ∙ extend-is es got seeds a ∙ closure-complete es (seeds ++ got) a (r.only a m)

        nothing : (x : Extended) → (x.grew ≡ false → x.reachable ≡ got) → (x.grew ≡ true → (a : ℕ) × (mem a got ≡ false) × (mem a x.reachable ≡ true))
            → ((a : ℕ) → mem a x.reachable ≡ true → mem a got ≡ true) → (b : Bool) → x.grew ≡ b → x ≡ record { reachable = got; grew = false }
        nothing x f g k true e = let w = g e in absurd (both_ways (k w.0 w.2) w.1)
        nothing x f g k false e = rw (f e, e) refl

    -- nor does an empty list.
    pub rust-nothing : Enough [] → extend-reachable-nodes (n []) fs wt got [] ≡ some (record { reachable = got; grew = false })
    rust-nothing h = rust-reached [] h (λ s i. elim i [ ])

-- ---- a round

-- the blocks while the search runs, with what has been found for each
abbrev pub held : List Node → (Node → List Rec) → List Final
held ns entries = map (λ (m : Node). record { block = m.block; entries = entries m }) ns

-- resolver.rs, line 436: `witness_targets.entry(witness).or_default().push(to)` for each record with a destination; the witness is its path's last block
abbrev pub targets_of : List Rec → Targets
targets_of recs w = dests (keep (λ (r : Rec). eqb w (last_of r.path)) recs)

target-in : (recs : List Rec) (w : ℕ) {t : ℕ} → In t (targets_of recs w) → In t (dests recs)
target-in recs w i =
    let g = in-gather (λ (r : Rec). dest r.to) (keep (λ (r : Rec). eqb w (last_of r.path)) recs) i in
    gather-in (λ (r : Rec). dest r.to) (in-keep (λ (r : Rec). eqb w (last_of r.path)) recs g.1).1 g.2

module _ (entries : Node → List Rec) (wt : Targets) (ns : List Node) where
  abbrev side-edges : Node → List Edge
  side-edges m = map (edge m.block.start m.block.start) (sides m.block.kind)

  abbrev held-edges : Final → List Edge
  held-edges f = map (edge f.block.start f.block.start) (sides f.block.kind ++ wt f.block.start)

  side-known : (e : Edge) → In e (edges ns) → In e (known-edges (held ns entries) wt)
  side-known e i =
      let g = in-gather side-edges ns i in
      let a = g.0.block.start in
      let m = in_map (edge a a) (sides g.0.block.kind) g.2 in
      gather-in held-edges (map-in (λ (m : Node). record { block = m.block; entries = entries m }) g.1)
      (subst (λ (d : Edge). In d (map (edge a a) (sides g.0.block.kind ++ wt a))) (sym m.2) (map-in (edge a a) (in_left m.1 (wt a))))

  -- an edge is a block's side, or leads to a target
  known-cases : (e : Edge) → In e (known-edges (held ns entries) wt) → In e (edges ns) ⊎ In e.to (wt e.place)
  known-cases e i =
      let g = in-gather held-edges (held ns entries) i in
      let h = in_map (λ (m : Node). record { block = m.block; entries = entries m }) ns g.1 in
      let a = h.0.block.start in
      let j : In e (map (edge a a) (sides h.0.block.kind ++ wt a)) = subst (λ (f : Final). In e (held-edges f)) h.2 g.2 in
      let m = in_map (edge a a) (sides h.0.block.kind ++ wt a) j in
      subst (λ (d : Edge). In d (edges ns) ⊎ In d.to (wt d.place)) (sym m.2) (split h.0 h.1 (in-cases (sides h.0.block.kind) m.1))
    where
      split : (x : Node) → In x ns → {t : ℕ} → In t (sides x.block.kind) ⊎ In t (wt x.block.start)
          → In (edge x.block.start x.block.start t) (edges ns) ⊎ In t (wt x.block.start)
      split x k (inl j) = inl (gather-in side-edges k (map-in (edge x.block.start x.block.start) j))
      split x k (inr j) = inr j

-- A round's call: `got` is what was reached when the round began, `new` what it found; the batches are its targets, all at once or in any lists.
module _ (entries : Node → List Rec) (ns : List Node) (recs new : List Rec) (got : List ℕ) (begun : got ≈ reached_by ns recs) where
  abbrev wt : Targets
  wt = targets_of (recs ++ new)

  abbrev all : List Edge
  all = known-edges (held ns entries) wt

  dest-cases : (t : ℕ) → In t (dests (recs ++ new)) → In t (dests recs) ⊎ In t (dests new)
  dest-cases t i = in-cases (dests recs) (subst (In t) (gather_append (λ (r : Rec). dest r.to) recs new) i)

  old-in : (t : ℕ) → mem t (0 ∷ dests recs) ≡ true → mem t got ≡ true
  old-in t m = begun t ∙ closure-complete (edges ns) (0 ∷ dests recs) t (seed m)

  loose : Loose all got (dests new)
  loose e i on = in_mem e.to (split (known-cases entries wt ns e i))
    where
      target : In e.to (dests recs) ⊎ In e.to (dests new) → In e.to (dests new ++ got)
      target (inl j) = in_right (dests new) (mem-in e.to got (old-in e.to (in_mem e.to (there {y = 0} j))))
      target (inr j) = in_left j got

      both-in : (mem e.place got ≡ true) × (mem e.witness got ≡ true)
      both-in = and_both (mem e.place got) (mem e.witness got) on

      split : In e (edges ns) ⊎ In e.to (wt e.place) → In e.to (dests new ++ got)
      split (inl j) =
          in_right (dests new) (mem-in e.to got (begun e.to
          ∙ closure-closed (edges ns) (0 ∷ dests recs) e j (and-true _ _ (sym (begun e.place) ∙ both-in.0) (sym (begun e.witness) ∙ both-in.1))))
      split (inr j) = target (dest-cases e.to (target-in (recs ++ new) e.place j))

  -- the witness targets add nothing to the round's own
  next-set : extend all got (dests new) ≈ reached_by ns (recs ++ new)
  next-set a =
      extend-is all got (dests new) a
      ∙ same_test (λ h. closure-complete (edges ns) now a (down (closure-sound all (dests new ++ got) a h)))
      (λ h. closure-complete all (dests new ++ got) a (up (closure-sound (edges ns) now a h)))
    where
      now : List ℕ
      now = 0 ∷ dests (recs ++ new)

      is-now : (t : ℕ) → In t (dests (recs ++ new)) → Reached (edges ns) now t
      is-now t i = seed (in_mem t (there {y = 0} i))

      was : (t : ℕ) → In t (0 ∷ dests recs) → Reached (edges ns) now t
      was t here = seed (in_mem 0 (here {xs = dests (recs ++ new)}))
      was t (there i) = is-now t (subst (In t) (sym (gather_append (λ (r : Rec). dest r.to) recs new)) (in_left i (dests new)))

      down : {t : ℕ} → Reached all (dests new ++ got) t → Reached (edges ns) now t
      down (seed m) = split (in-cases (dests new) (mem-in _ (dests new ++ got) m))
        where
          split : {t : ℕ} → In t (dests new) ⊎ In t got → Reached (edges ns) now t
          split {t} (inl i) = is-now t (subst (In t) (sym (gather_append (λ (r : Rec). dest r.to) recs new)) (in_right (dests recs) i))
          split {t} (inr i) = reached-from (λ s k. was s (mem-in s (0 ∷ dests recs) k)) (closure-sound (edges ns) (0 ∷ dests recs) t (sym (begun t) ∙ in_mem t i))
      down (along e i p w) = split e (down p) (down w) (known-cases entries wt ns e i)
        where
          split : (e : Edge) → Reached (edges ns) now e.place → Reached (edges ns) now e.witness → In e (edges ns) ⊎ In e.to (wt e.place) → Reached (edges ns) now e.to
          split e p w (inl j) = along e j p w
          split e p w (inr j) = is-now e.to (target-in (recs ++ new) e.place j)

      up : {t : ℕ} → Reached (edges ns) now t → Reached all (dests new ++ got) t
      up (seed m) = seed (in_mem _ (split (mem-in _ now m)))
        where
          old : {t : ℕ} → In t (dests recs) ⊎ In t (dests new) → In t (dests new ++ got)
          old (inl i) = in_right (dests new) (mem-in _ got (old-in _ (in_mem _ (there {y = 0} i))))
          old (inr i) = in_left i got

          split : {t : ℕ} → In t now → In t (dests new ++ got)
          split here = in_right (dests new) (mem-in 0 got (old-in 0 (in_mem 0 (here {xs = dests recs}))))
          split (there i) = old (dest-cases _ i)
      up (along e i p w) = along e (side-known entries wt ns e i) (up p) (up w)

  -- It leaves what is reached when the next round begins.
  pub round-leaves : Rising 0 (finals-at (held ns entries)) → (n : List ℕ → ℕ) (batches : List (List ℕ))
      → ((b : List ℕ) → In b batches → suc (length b + pushes-of (held ns entries) wt) ≤ n b) → joined batches ≡ dests new
      → (set : List ℕ) × (extend-each n (held ns entries) wt got batches ≡ some set) × (set ≈ reached_by ns (recs ++ new))
  round-leaves rising n batches h e =
      let l = extending-each (held ns entries) wt rising n got batches h (subst (Loose all got) (sym e) loose) in
      (l.set, l.is, λ a. l.same a ∙ ap (λ (ss : List ℕ). mem a (extend all got ss)) e ∙ next-set a)

-- Document 02, No. 7: of every record's path: it begins with the record's block, none of its blocks was cut at an unknown byte, and each is joined to the next
-- by a static edge or by an earlier record. Assumes nothing.
use Prim.Native.Nat.{ℕ}
use mathlib.Core.Path.{◌≡◌, refl, sym, ap, subst, ◌∙◌}
use mathlib.Core.Logic.{◌⊎◌, inl, inr}
use mathlib.Core.Bool.{Bool, true, false, ◌||◌}
use mathlib.Core.Option.{Option, none, some}
use mathlib.Core.List.{List, [], ◌∷◌, ◌++◌, append-nil}
use lib.Dec.{eqb}
use borrow.Author.Tests.{eq-eqb}
use Rattle.spec.specs.Lists.{last_of, some?}
use Rattle.spec.specs.Opcodes.{Rules}
use Rattle.spec.specs.Walk.{instructions, from}
use Rattle.spec.specs.Blocks.{Kind, terminate, Block, blocks}
use Rattle.spec.specs.Stacks.{Sym, before, constant, jumpdest, other, Stack, run}
use Rattle.spec.specs.Meaning.{cut_short}
use Rattle.spec.specs.Search.{Node, node, settled, sides, Parent, parent, direct, Found, nowhere, found, Rec, is_at, leads, found_parents, Level}
use Rattle.spec.specs.Answer.{prepared}
use Rattle.spec.specs.PathJoins.{begins, leads_to, brings_to, joined}
use Rattle.laws.proofs.Members.{In, here, there, and_both, and-true, or_right, or_cases, in_mem, in-only, in_left, in-cases, in-gather, in_map, some_in, in_some}
use Rattle.theorems.proofs.Each.{Each, each_within}
use Rattle.theorems.proofs.Cutting.{Whole, is_short, is_whole, Passes, block-whole}
use Rattle.theorems.proofs.Replay.{turned}
use Rattle.theorems.proofs.Records.{Stored, Parented, Opens, first-level, deeper-level, Recorded, arrives, is_lost, too-heavy}
use Rattle.theorems.proofs.Counts.{Lawful}

module _ (rules : Rules) (ok : Lawful rules.row) where
  -- ---- lists that begin with others

  begins-append : (xs ys zs : List ℕ) → begins xs ys ≡ true → begins xs (ys ++ zs) ≡ true
  begins-append [] ys zs e = refl
  begins-append (x ∷ xs) [] zs e = cc
  begins-append (x ∷ xs) (y ∷ ys) zs e = let b = and_both (eqb x y) _ e in and-true _ _ b.0 (begins-append xs ys zs b.1)

  begins-same : (xs : List ℕ) → begins xs xs ≡ true
  begins-same [] = refl
  begins-same (x ∷ xs) = and-true _ _ (eq-eqb x x refl) (begins-same xs)

  -- ---- blocks that lead on were not cut at an unknown byte

  -- a block of the cut begins at a, and its run passes known bytes alone, to its end
  pub record Uncut (code : List ℕ) (a : ℕ) : Type 0 where
    pub block : Block
    pub member : In block (blocks rules.row code (instructions code))
    pub begins : block.start ≡ a
    pub uncut : cut_short rules.row code block.end ≡ false
    pub passes : Passes rules.row block.start block.end block.start (from block.start (instructions code))

  settled-end : (g : Option Sym) → settled g (terminate false) ≡ terminate false
  settled-end none = refl
  settled-end (some (before n)) = refl
  settled-end (some (constant v)) = refl
  settled-end (some (jumpdest t)) = refl
  settled-end (some (other pc)) = refl

  module _ (code : List ℕ) where
    -- a block cut at an unknown byte is "Terminate false", and stays so
    pub uncut-node : {n : Node} → In n (prepared rules code) → ¬ (n.block.kind ≡ terminate false) → Uncut code n.block.start
    unfolding prepared
    uncut-node {n} i leads_on = split (block-whole ok code b.1)
      where
        b : (b : Block) × In b (blocks rules.row code (instructions code)) × (n ≡ node b (run rules code (instructions code) b.start))
        b = in_map _ (blocks rules.row code (instructions code)) i

        split : Whole rules.row code b.0 → Uncut code n.block.start
        split (is_short c k) = absurd (leads_on (ap (λ (m : Node). m.block.kind) b.2 ∙ ap (settled (run rules code (instructions code) b.0.start).goes) k ∙ settled-end (run rules code (instructions code) b.0.start).goes))
        split (is_whole c p) = record { block = b.0; member = b.1; begins = ap (λ (m : Node). m.block.start) (sym b.2); uncut = c; passes = p }

    -- ---- joined

    abbrev ns : List Node
    ns = prepared rules code

    abbrev link : List Rec → ℕ → ℕ → List ℕ → Bool
    link earlier x y more = some? (leads_to x y) ns || some? (brings_to x y more) earlier

    -- more records, and more named behind
    link-more : (earlier later : List Rec) (x y : ℕ) (more ys : List ℕ) → link earlier x y more ≡ true → link (earlier ++ later) x y (more ++ ys) ≡ true
    link-more earlier later x y more ys e = split (or_cases _ _ e)
      where
        brings : (r : Rec) → brings_to x y more r ≡ true → brings_to x y (more ++ ys) r ≡ true
        brings r e =
            let a = and_both (eqb y r.start) _ e in
            let b = and_both (is_at x r.to) _ a.1 in
            and-true _ _ a.0 (and-true _ _ b.0 (begins-append r.path (y ∷ more) ys b.1))

        split : (some? (leads_to x y) ns ≡ true) ⊎ (some? (brings_to x y more) earlier ≡ true) → link (earlier ++ later) x y (more ++ ys) ≡ true
        split (inl q) = rw q
        split (inr q) =
            let g = in_some (brings_to x y more) earlier q in
            or_right (some? (leads_to x y) ns) _ (some_in (brings_to x y (more ++ ys)) (brings g.0 g.2) (in_left g.1 later))

    joined-more : (earlier later : List Rec) (path : List ℕ) → joined ns earlier path ≡ true → joined ns (earlier ++ later) path ≡ true
    joined-more earlier later [] h = refl
    joined-more earlier later (x ∷ []) h = refl
    joined-more earlier later (x ∷ y ∷ more) h =
        let b = and_both (link earlier x y more) _ h in
        and-true _ _ (rw append-nil at (link-more earlier later x y more [] b.0)) (joined-more earlier later (y ∷ more) b.1)

    joined-append : (earlier : List Rec) (x : ℕ) (xs : List ℕ) (y : ℕ) (ys : List ℕ) → joined ns earlier (x ∷ xs) ≡ true → joined ns earlier (y ∷ ys) ≡ true
        → link earlier (last_of (x ∷ xs)) y ys ≡ true → joined ns earlier ((x ∷ xs) ++ y ∷ ys) ≡ true
    joined-append earlier x [] y ys h k l = and-true _ _ l k
    joined-append earlier x (z ∷ zs) y ys h k l =
        let b = and_both (link earlier x z zs) _ h in
        and-true _ _ (rw append-nil at (link-more earlier [] x z zs (y ∷ ys) b.0)) (joined-append earlier z zs y ys b.1 k l)

    -- ---- the trail

    -- the path begins with the block, none of its blocks was cut at an unknown byte, and each is joined to the next
    pub record Trail (earlier : List Rec) (first : ℕ) (path : List ℕ) : Type 0 where
      pub rest : List ℕ
      pub is : path ≡ first ∷ rest
      pub uncut : (a : ℕ) → In a (first ∷ rest) → Uncut code a
      pub joins : joined ns earlier (first ∷ rest) ≡ true

    alone : {earlier : List Rec} {n : Node} → In n ns → ¬ (n.block.kind ≡ terminate false) → Trail earlier n.block.start (n.block.start ∷ [])
    alone {n} i h = record { rest = []; is = refl; uncut = λ a k. subst (Uncut code) (sym (in-only k)) (uncut-node i h); joins = refl }

    trail_more : (earlier later : List Rec) {first : ℕ} {path : List ℕ} → Trail earlier first path → Trail (earlier ++ later) first path
    trail_more earlier later {first} h = record { rest = h.rest; is = h.is; uncut = h.uncut; joins = joined-more earlier later (first ∷ h.rest) h.joins }

    trail-append : {earlier : List Rec} {x y : ℕ} {xs ys : List ℕ} (h : Trail earlier x xs) (k : Trail earlier y ys) → link earlier (last_of xs) y k.rest ≡ true
        → Trail earlier x (xs ++ ys)
    trail-append {earlier} {x} {y} h k l = record {
      rest = h.rest ++ y ∷ k.rest;
      is = rw (h.is, k.is);
      uncut = λ a i. split a (in-cases (x ∷ h.rest) i);
      joins = joined-append earlier x h.rest y k.rest h.joins k.joins (rw h.is at l);
    }
      where
        split : (a : ℕ) → In a (x ∷ h.rest) ⊎ In a (y ∷ k.rest) → Uncut code a
        split a (inl i) = h.uncut a i
        split a (inr i) = k.uncut a i

    -- ---- parents

    no_sides : {x : ℕ} {k : Kind} → In x (sides k) → ¬ (k ≡ terminate false)
    no_sides {x} i e = elim (subst (λ (k : Kind). In x (sides k)) e i) [ ]

    -- a stored parent's path, and how it is joined to where it leads
    record Behind (earlier : List Rec) (x : ℕ) (path : List ℕ) : Type 0 where
      first : ℕ
      trail : Trail earlier first path
      linked : link earlier x first trail.rest ≡ true

    behind-edge : {earlier : List Rec} {n : Node} {x : ℕ} → In n ns → In x (sides n.block.kind) → Behind earlier x (n.block.start ∷ [])
    behind-edge {n} {x} i s = record {
      first = n.block.start;
      trail = alone i (no_sides s);
      linked = rw (some_in (leads_to x n.block.start) (and-true _ _ (eq-eqb n.block.start _ refl) (in_mem x s)) i);
    }

    behind-record : {earlier : List Rec} {r : Rec} {x : ℕ} {s : Stack} → In r earlier → r.to ≡ found x s → Trail earlier r.start r.path → Behind earlier x r.path
    behind-record {r} {x} i e h = record {
      first = r.start;
      trail = h;
      linked =
          or_right (some? (leads_to x r.start) ns) _ (some_in (brings_to x r.start h.rest) (and-true _ _ (eq-eqb r.start _ refl)
          (and-true (is_at x r.to) _ (rw e (eq-eqb x x refl)) (rw h.is (begins-same (r.start ∷ h.rest))))) i);
    }

    -- the record's path is so
    abbrev pub Trailed : List Rec → Rec → Type 0
    Trailed earlier r = Trail earlier r.start r.path

    leads-is : (path : List ℕ) (f : Found) {p : Parent} → In p (leads path f) → (s : Stack) × (f ≡ found p.to s) × (path ≡ p.path)
    leads-is path nowhere i = elim i [ ]
    leads-is path (found u s) here = (s, refl, refl)
    leads-is path (found u s) (there i) = elim i [ ]

    module _ (earlier : List Rec) (all : Each Trailed earlier) where
      behind : {p : Parent} → Stored ns earlier p → Behind earlier p.to p.path
      behind {p} h = split (in-cases (direct ns) h)
        where
          split : In p (direct ns) ⊎ In p (found_parents earlier) → Behind earlier p.to p.path
          split (inl i) =
              let g = in-gather _ ns i in
              let m = in_map (λ (t : ℕ). parent t (g.0.block.start ∷ []) g.0.own.stack) (sides g.0.block.kind) g.2 in
              subst (λ (q : Parent). Behind earlier q.to q.path) (sym m.2) (behind-edge g.1 m.1)
          split (inr i) =
              let g = in-gather (λ (r : Rec). leads r.path r.to) earlier i in
              let e = each_within all g.1 in
              let f = leads-is g.0.path g.0.to g.2 in
              let t = subst (λ (rs : List Rec). Trailed rs g.0) (sym e.2) (trail_more e.0 e.1 e.3) in
              subst (Behind earlier p.to) f.2 (behind-record g.1 f.1 t)

      -- of the path that a parent makes of a level's
      pub grown : (reached : List ℕ) {first : ℕ} {l : Level} {p : Parent} → Trail earlier first l.path → Parented ns reached earlier l p → Trail earlier first (l.path ++ p.path)
      grown reached t h = let b = behind h.stored in trail-append t b.trail (rw (← h.joined) b.linked)

      pub level-trail : (reached : List ℕ) {start w : ℕ} {l : Level} → Opens ns reached earlier start w l → Trail earlier start l.path
      level-trail reached (first-level {k} i e live) =
          let g = turned i in
          subst (λ (a : ℕ). Trail earlier a (a ∷ [])) (sym g.2.start ∙ e) (alone g.1 g.2.leads_on)
      level-trail reached (deeper-level o w h e) = grown reached (level-trail reached o) h

      pub record-trail : (reached : List ℕ) {r : Rec} → Recorded ns reached earlier r → Trailed earlier r
      record-trail reached (arrives o w h e) = grown reached (level-trail reached o) h
      record-trail reached (is_lost o w h e) = grown reached (level-trail reached o) h
      record-trail reached (too-heavy o h) = grown reached (level-trail reached o) h

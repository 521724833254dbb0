-- Document 02, No. 12: "Whoever made the map, what is accepted has the property of No. 7's first part; and every entry with a destination in the record of an
-- answered run of ours, shown with that run's edges before pruning, is accepted." Assumes nothing.
use Prim.Native.Nat.{ℕ, zero, suc, ◌<◌}
use native.Mathlib.Omega.{arith}
use mathlib.Core.Path.{◌≡◌, refl, sym, ap, subst, ◌∙◌}
use mathlib.Core.Logic.{◌⊎◌, inl, inr}
use mathlib.Core.Bool.{Bool, true, ◌||◌, not}
use mathlib.Core.Option.{Option, none, some}
use mathlib.Core.List.{List, [], ◌∷◌, ◌++◌, map}
use lib.Dec.{eqb}
use lib.ListN.{length, get_or}
use borrow.Author.Tests.{eqb-true, eq-eqb}
use Rattle.spec.specs.Lists.{some?}
use Rattle.spec.specs.Opcodes.{Rules}
use Rattle.spec.specs.Blocks.{Kind, terminate, jump, jumpi, dynamic_jump, dynamic_jumpi, Block, with_kind}
use Rattle.spec.specs.Stacks.{Sym, before, constant, jumpdest, other, Stack}
use Rattle.spec.specs.PathMeaning.{fetched, all_known, Leads}
use Rattle.spec.specs.Search.{Node, Taker, taker, takes, sides, Found, nowhere, found, Rec, is_at, is_nowhere, dest, dests, Level}
use Rattle.spec.specs.Ending.{Final, all_are, merged, ended, entries_of}
use Rattle.spec.specs.Rooms.{Lent}
use Rattle.spec.specs.Entries.{Map}
use Rattle.spec.specs.Answer.{answered, prepared, searched, mapped, answer}
use Rattle.spec.specs.PathJoins.{leads_to, brings_to, joined}
use Rattle.spec.specs.Reader.{stateless, plain_rec, plain_final, plain}
use Rattle.spec.specs.Inspector.{targets, fault, fault_to, fault_of, unpruned}
use Rattle.laws.proofs.Branch.{both}
use Rattle.laws.proofs.Members.{In, here, there, and_both, or_cases, mem-in, in_mem, in_left, in_right, keep-in, in_some, in-gather, map-in, gather-in, in_split, in-at, at_in}
use Rattle.theorems.proofs.Each.{Each, each_at, each_in}
use Rattle.theorems.proofs.Cutting.{made}
use Rattle.theorems.proofs.PathLeads.{path-leads}
use Rattle.theorems.proofs.Records.{Opens, first-level, deeper-level, Recorded, arrives, is_lost, too-heavy, search-history}
use Rattle.theorems.proofs.Demand3.{gave}
use Rattle.theorems.proofs.PathTruth.{TruePath, search-paths}
use Rattle.theorems.proofs.ReaderPlaces.{never}
use Rattle.theorems.proofs.InspectorRight.{Edge, Fit, Right, right-exactly}
use Rattle.theorems.proofs.Counts.{Lawful}

-- ---- whoever made the map

module _ (rules : Rules) (ok : Lawful rules.row) where
  module _ (code : List ℕ) (m : Map) (b : ℕ) (path : List ℕ) (t : ℕ) where
    -- A right entry's path leads to its destination.
    pub right-leads : Right rules ok code m b path t → Leads rules code path t
    right-leads r = path-leads rules ok code known r.sees
      where
        known : (c : ℕ) → In c path → all_known rules.row c (fetched code c) ≡ true
        known c i = let g = in-at i in subst (λ (a : ℕ). all_known rules.row a (fetched code a) ≡ true) g.2 (r.fits g.0 g.1).sound-there.known

    pub accepted-leads : fault rules code m b path t ≡ none → Leads rules code path t
    accepted-leads e = right-leads ((right-exactly rules ok code m b path t).0 e)

    -- More edges do no harm.
    pub right-more : (a : Map) → ((x y : ℕ) → Edge rules ok m x y → Edge rules ok a x y) → Right rules ok code m b path t → Right rules ok code a b path t
    right-more a more r = record {
      begins = r.begins;
      fits = λ i h. let f = r.fits i h in record { sound-there = f.sound-there; first = f.first; joined = λ j e. more _ _ (f.joined j e) };
      sees = r.sees;
    }

  -- the states that a search keeps for destinations are no part of an edge
  plain-dests : (es : List Rec) → dests (map plain_rec es) ≡ dests es
  plain-dests [] = refl
  plain-dests (r ∷ es) = rw (plain-dests es) (by-found r.to)
    where
      by-found : (f : Found) → dest (stateless f) ++ dests es ≡ dest f ++ dests es
      by-found nowhere = refl
      by-found (found t s) = refl

  pub plain-edge : (m : Map) (x y : ℕ) → Edge rules ok m x y → Edge rules ok (plain m) x y
  plain-edge m x y e = record {
    block = plain_final e.block;
    member = map-in plain_final e.member;
    at = e.at;
    leads = rw (plain-dests e.block.entries) e.leads;
  }

  -- ---- a run of ours: what a block shows at its end

  -- of the block it keeps all but the kind
  merged-block : (F : Block → Type 0) (b : Block) → ((k : Kind) → F (with_kind k b)) → (es : List Rec) (ts : List ℕ) → F (merged b es ts).block
  merged-block F b h es [] = h dynamic_jump
  merged-block F b h es (t ∷ ts) = both (λ (f : Final). F f.block) (all_are t ts) (λ _. h (jump t)) (λ _. h dynamic_jump)

  pub ended-block : (F : Block → Type 0) (b : Block) → ((k : Kind) → F (with_kind k b)) → (es : List Rec) (k : Kind) → F (ended b es k).block
  ended-block F b h es (terminate success) = h _
  ended-block F b h es (jump t) = h _
  ended-block F b h es (jumpi t f) = h _
  ended-block F b h es dynamic_jump = merged-block F b h _ (dests es)
  ended-block F b h es (dynamic_jumpi f) = h _

  pub ended-start : (b : Block) (es : List Rec) (k : Kind) → (ended b es k).block.start ≡ b.start
  ended-start b = ended-block (λ (c : Block). c.start ≡ b.start) b (λ k. refl)

  -- its static sides, and the false side of a DynamicJumpi
  side-kept : {x : ℕ} (b : Block) (es : List Rec) (k : Kind) → In x (sides k) → In x (targets (ended b es k))
  side-kept b es (terminate success) i = elim i [ ]
  side-kept b es (jump t) i = in_left i _
  side-kept b es (jumpi t f) i = in_left i _
  side-kept b es dynamic_jump i = elim i [ ]
  side-kept b es (dynamic_jumpi f) i = in_left i _

  all_same : {x : ℕ} (t : ℕ) (ts : List ℕ) → all_are t ts ≡ true → In x ts → t ≡ x
  all_same t (u ∷ ts) e here = eqb-true t u (and_both (eqb t u) _ e).0
  all_same t (u ∷ ts) e (there i) = all_same t ts (and_both (eqb t u) _ e).1 i
  all_same t [] e x3 = elim x3 [ ]

  one-target : {x : ℕ} (t : ℕ) (ts : List ℕ) → all_are t ts ≡ true → In x (t ∷ ts) → In x (t ∷ [])
  one-target t ts e here = here
  one-target {x} t ts e (there i) = subst (λ (u : ℕ). In x (u ∷ [])) (sym (all_same t ts e i)) here

  -- "A DynamicJump whose entries share one target becomes a Jump": to that target
  merged-kept : {x : ℕ} (b : Block) (es : List Rec) (ts : List ℕ) → In x ts → In x (dests es) → In x (targets (merged b es ts))
  merged-kept b es [] i j = elim i [ ]
  merged-kept {x} b es (t ∷ ts) i j =
      both (λ (f : Final). In x (targets f)) (all_are t ts) (λ on. one-target t ts on i) (λ _. j)

  found_here : {t : ℕ} {s : Stack} (f : Found) → f ≡ found t s → (not (is_nowhere f) ≡ true) × In t (dest f)
  found_here nowhere e = never (cc)
  found_here {t} (found u s) e = (refl, subst (λ (v : ℕ). In t (v ∷ [])) (let same : t ≡ u = cc in same) here)

  -- a block that takes turns
  data Dynamic : Kind → Type 0 where
    jumps : Dynamic dynamic_jump
    branches : (f : ℕ) → Dynamic (dynamic_jumpi f)

  -- "At the end DynamicJump drops entries without destination": those with one are kept
  dest-kept : {x : ℕ} {s : Stack} {r : Rec} (b : Block) (es : List Rec) {k : Kind} → Dynamic k → In r es → r.to ≡ found x s → In x (targets (ended b es k))
  dest-kept {r} b es jumps i e =
      let h = found_here r.to e in
      merged-kept b _ (dests es) (gather-in (λ (q : Rec). dest q.to) i h.1)
      (gather-in (λ (q : Rec). dest q.to) (keep-in (λ (q : Rec). not (is_nowhere q.to)) h.0 i) h.1)
  dest-kept {r} b es (branches f) i e = in_right (f ∷ []) (gather-in (λ (q : Rec). dest q.to) i (found_here r.to e).1)

  -- ---- records are of blocks that take turns

  -- a block that takes turns, at a start
  record Turning (ns : List Node) (start : ℕ) : Type 0 where
    node : Node
    member : In node ns
    at : node.block.start ≡ start
    dynamic : Dynamic node.block.kind

  taker-at : (n : Node) (g : Option Sym) {x : Taker} → In x (taker n g) → n.block.start ≡ x.start
  taker-at n none i = elim i [ ]
  taker-at n (some (before p)) here = refl
  taker-at n (some (before p)) (there i) = elim i [ ]
  taker-at n (some (constant v)) i = elim i [ ]
  taker-at n (some (jumpdest v)) i = elim i [ ]
  taker-at n (some (other pc)) i = elim i [ ]

  takes_at : (n : Node) (k : Kind) {x : Taker} → In x (takes n k) → Dynamic k × (n.block.start ≡ x.start)
  takes_at n (terminate success) i = elim i [ ]
  takes_at n (jump t) i = elim i [ ]
  takes_at n (jumpi t f) i = elim i [ ]
  takes_at n dynamic_jump i = (jumps, taker-at n n.own.goes i)
  takes_at n (dynamic_jumpi f) i = (branches f, taker-at n n.own.goes i)

  module _ {ns : List Node} {reached : List ℕ} {recs : List Rec} where
    opens-turning : {start w : ℕ} {l : Level} → Opens ns reached recs start w l → Turning ns start
    opens-turning (first-level {k} i e live) =
        let g = in-gather (λ (n : Node). takes n n.block.kind) ns i in
        let h = takes_at g.0 g.0.block.kind g.2 in
        record { node = g.0; member = g.1; at = h.1 ∙ e; dynamic = h.0 }
    opens-turning (deeper-level o w h e) = opens-turning o

    record-turning : {r : Rec} → Recorded ns reached recs r → Turning ns r.start
    record-turning (arrives o w h e) = opens-turning o
    record-turning (is_lost o w h e) = opens-turning o
    record-turning (too-heavy o h) = opens-turning o

  -- ---- a run of ours: the edges

  module _ (limit choice : ℕ) (code : List ℕ) where
    abbrev recs : List Rec
    recs = (searched rules limit code).recs

    -- the run, shown with its edges before pruning
    abbrev pub shown : Map
    shown = unpruned rules choice code (searched rules limit code)

    -- an edge of a block's final form
    final-edge : {n : Node} → In n (prepared rules code) → {x : ℕ} → In x (targets (ended n.block (entries_of n.block.start recs) n.block.kind)) → Edge rules ok shown x n.block.start
    unfolding unpruned
    final-edge {n} i j = record {
      block = ended n.block (entries_of n.block.start recs) n.block.kind;
      member = map-in (λ (n : Node). ended n.block (entries_of n.block.start recs) n.block.kind) i;
      at = ended-start n.block (entries_of n.block.start recs) n.block.kind;
      leads = j;
    }

    side-edge : {n : Node} → In n (prepared rules code) → (x y : ℕ) → leads_to x y n ≡ true → Edge rules ok shown x y
    side-edge {n} i x y e =
        let h = and_both (eqb y n.block.start) _ e in
        subst (Edge rules ok shown x) (sym (eqb-true y _ h.0)) (final-edge i (side-kept n.block (entries_of n.block.start recs) n.block.kind (mem-in x _ h.1)))

    -- every record is of a block that takes turns
    recs-turning : {r : Rec} → In r recs → Turning (prepared rules code) r.start
    unfolding searched
    recs-turning i = record-turning (each_in (search-history limit (prepared rules code)) i).1.made

    record-edge : {r : Rec} → In r recs → {x : ℕ} {s : Stack} → r.to ≡ found x s → Edge rules ok shown x r.start
    record-edge {r} i {x} e =
        let k = recs-turning i in
        let mine = keep-in (λ (q : Rec). eqb k.node.block.start q.start) (eq-eqb _ _ k.at) i in
        subst (Edge rules ok shown x) k.at (final-edge k.member (dest-kept k.node.block _ k.dynamic mine e))

    is_found : (x : ℕ) (f : Found) → is_at x f ≡ true → (s : Stack) × (f ≡ found x s)
    is_found x nowhere e = never (cc)
    is_found x (found u s) e = (s, ap (λ (v : ℕ). found v s) (sym (eqb-true x u e)))

    module _ (earlier : List Rec) (among : (r : Rec) → In r earlier → In r recs) where
      abbrev link : ℕ → ℕ → List ℕ → Bool
      link x y more = some? (leads_to x y) (prepared rules code) || some? (brings_to x y more) earlier

      link-edge : (x y : ℕ) (more : List ℕ) → link x y more ≡ true → Edge rules ok shown x y
      link-edge x y more e = by-case (or_cases (some? (leads_to x y) (prepared rules code)) _ e)
        where
          by-case : (some? (leads_to x y) (prepared rules code) ≡ true) ⊎ (some? (brings_to x y more) earlier ≡ true) → Edge rules ok shown x y
          by-case (inl q) = let g = in_some (leads_to x y) (prepared rules code) q in side-edge g.1 x y g.2
          by-case (inr q) =
              let g = in_some (brings_to x y more) earlier q in
              let h = and_both (eqb y g.0.start) _ g.2 in
              let f = is_found x g.0.to (and_both (is_at x g.0.to) _ h.1).0 in
              subst (Edge rules ok shown x) (sym (eqb-true y _ h.0)) (record-edge (among g.0 g.1) f.1)

      joined-edge : (path : List ℕ) → joined (prepared rules code) earlier path ≡ true → (j : ℕ) → suc j < length path → Edge rules ok shown (get_or path j 0) (get_or path (suc j) 0)
      joined-edge [] e j h = absurd (omega arith)
      joined-edge (x ∷ []) e j h = absurd (omega arith)
      joined-edge (x ∷ y ∷ more) e zero h = link-edge x y more (and_both (link x y more) _ e).0
      joined-edge (x ∷ y ∷ more) e (suc j) h = joined-edge (y ∷ more) (and_both (link x y more) _ e).1 j (omega arith)

      true-right : {r : Rec} → TruePath rules ok code earlier r → {t : ℕ} {s : Stack} → r.to ≡ found t s → Right rules ok code shown r.start r.path t
      true-right {r} p {t} {s} e = record { begins = rw p.first.1 (omega arith); fits = fits; sees = p.sees-there t s e }
        where
          fits : (i : ℕ) → i < length r.path → Fit rules ok code shown r.start r.path i
          fits i h =
              let a = get_or r.path i 0 in
              let at = at_in r.path i h in
              let u = p.whole a at in
              record {
                sound-there = record { inside = rw (← u.begins) (made ok code u.member).start_inside; known = (p.leads-there t s e).has_runs a (in_mem a at) };
                first = λ z. rw (z, p.first.1);
                joined = λ j z. subst (λ (k : ℕ). Edge rules ok shown (get_or r.path j 0) (get_or r.path k 0)) (sym z) (joined-edge r.path p.joins j (omega arith));
              }

    -- Of every search: a record with a destination is right.
    pub record-right : {r : Rec} → In r recs → {t : ℕ} {s : Stack} → r.to ≡ found t s → Right rules ok code shown r.start r.path t
    record-right {r} i e =
        let g = in_split i in
        let p = each_at g.0 r g.1 (subst (Each (TruePath rules ok code)) g.2 (search-paths rules ok limit code)) in
        true-right g.0 (λ q j. subst (In q) (sym g.2) (in_left j _)) p e

  -- "Every entry with a destination in the record of an answered run of ours, shown with that run's edges before pruning, is accepted."
  pub answered-accepted : (l : Lent) (limit choice : ℕ) (code : List ℕ) (a : Map) → answer rules l limit choice code ≡ answered a → {r : Rec} → In r a.recs
      → fault_of rules code (shown limit choice code) r ≡ none
  unfolding mapped
  answered-accepted l limit choice code a e {r} i = by-found r.to refl
    where
      member : In r (searched rules limit code).recs
      member = subst (λ (m : Map). In r m.recs) (gave rules l limit choice code a e).is i

      by-found : (f : Found) → r.to ≡ f → fault_to rules code (shown limit choice code) r.start r.path f ≡ none
      by-found nowhere q = refl
      by-found (found t s) q = (right-exactly rules ok code (shown limit choice code) r.start r.path t).1 (record-right limit choice code member q)

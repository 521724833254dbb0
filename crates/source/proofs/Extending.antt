-- A step of Visiting: the transcription's `extend_reachable_nodes` on the definitions' blocks. It ends without a panic, and leaves the set closed along the blocks'
-- sides and the witness targets; so batches may come in any order, or as one. Assumes nothing.
use Prim.Native.Nat.{ℕ, suc, ◌+◌, ◌≤◌}
use native.Mathlib.Omega.{arith}
use mathlib.Core.Path.{◌≡◌, refl, sym, ap, subst, ◌∙◌}
use mathlib.Core.Logic.{◌⊎◌, inl, inr}
use mathlib.Core.Bool.{Bool, true, false, not}
use mathlib.Core.Option.{Option, some}
use mathlib.Core.List.{List, [], ◌∷◌, ◌++◌, map}
use lib.Dec.{eqb}
use lib.ListN.{length, length-append, length-reverse_aux}
use borrow.Author.Tests.{eqb-true, eqb-false, not-true, not-false}
use Rattle.spec.specs.Lists.{mem, total, gather}
use Rattle.spec.specs.Blocks.{Kind, terminate, jump, jumpi, dynamic_jump, dynamic_jumpi}
use Rattle.spec.specs.Reach.{Edge, edge, leads}
use Rattle.spec.specs.Search.{sides}
use Rattle.spec.specs.Ending.{Final}
use Rattle.laws.proofs.Branch.{both, and_then}
use Rattle.laws.proofs.Members.{In, here, there, same_test, mem-in, in_mem, and_both, and-true, in_left, in_right, in-cases, in-gather, in_map, map-in}
use Rattle.laws.proofs.Lists.{Rising}
use Rattle.theorems.proofs.Answered.{finals-at}
use Rattle.theorems.proofs.Reached.{Closed, Reached, seed, along, closure-sound, closure-complete}
use Rattle.theorems.proofs.Batches.{◌≈◌, extend, extend-is, reached-from}
use Rattle.source.proofs.Queue.{pushed, pushed-new, pushed-cases, block-there, from_block, pushed_at, Entered, Ended, left-all, while-pops, while-ends}

-- ---- the function

-- lines 82 to 99: the sides that a block pushes, of a DynamicJumpi the false one
abbrev pub turns : Kind → List ℕ
turns (terminate success) = []
turns (jump t) = t ∷ []
turns (jumpi t f) = t ∷ f ∷ []
turns dynamic_jump = []
turns (dynamic_jumpi f) = f ∷ []

-- `HashMap<usize, Vec<usize>>`: a witness that is not in it has no targets
abbrev pub Targets : Type 0
Targets = ℕ → List ℕ

-- the set afterwards, and what is returned
pub record Extended : Type 0 where
  pub reachable : List ℕ
  pub grew : Bool

-- lines 82 to 103, of a block that is there
abbrev pub visits : Targets → List ℕ → ℕ → Final → List ℕ
visits witness-targets reachable current f = turns f.block.kind ++ witness-targets current

-- at most n pops
abbrev pub extend-reachable-nodes : ℕ → List Final → Targets → List ℕ → List ℕ → Option Extended
extend-reachable-nodes n blocks witness-targets reachable seeds =
    let ended = while-pops blocks (λ set current f. some (visits witness-targets set current f)) n (pushed seeds []) reachable in
    and_then ended (λ set. some (record { reachable = set; grew = not (eqb (length set) (length reachable)) }))

-- ---- the edges that it follows

-- the blocks' sides, and the targets of a witness that is a block
abbrev pub known-edges : List Final → Targets → List Edge
known-edges fs wt = gather (λ (f : Final). map (edge f.block.start f.block.start) (sides f.block.kind ++ wt f.block.start)) fs

pub turn-side : (k : Kind) {t : ℕ} → In t (turns k) → In t (sides k)
turn-side (terminate success) i = i
turn-side (jump u) i = i
turn-side (jumpi u f) {t} i = both (In t) (eqb u f) (λ on. once (eqb-true u f on) i) (λ _. i)
  where
    once : {u f : ℕ} → u ≡ f → In t (u ∷ f ∷ []) → In t (u ∷ [])
    once e here = here
    once e (there i) = subst (In t) (ap (λ (x : ℕ). x ∷ []) (sym e)) i
turn-side dynamic_jump i = i
turn-side (dynamic_jumpi f) i = i

pub side-turn : (k : Kind) {t : ℕ} → In t (sides k) → In t (turns k)
side-turn (terminate success) i = i
side-turn (jump u) i = i
side-turn (jumpi u f) {t} i = both (λ (l : List ℕ). In t l → In t (u ∷ f ∷ [])) (eqb u f) (λ _ j. in_left j (f ∷ [])) (λ _ j. j) i
side-turn dynamic_jump i = i
side-turn (dynamic_jumpi f) i = i

either-in : {t : ℕ} {xs ys : List ℕ} (zs : List ℕ) → (In t xs → In t ys) → In t xs ⊎ In t zs → In t (ys ++ zs)
either-in zs h (inl i) = in_left (h i) zs
either-in {ys = ys} zs h (inr i) = in_right ys i

-- what is pushed at a lies along an edge from a
abbrev edges-of : Targets → Final → List Edge
edges-of wt f = map (edge f.block.start f.block.start) (sides f.block.kind ++ wt f.block.start)

module _ (wt : Targets) where
  of-this : {a b t : ℕ} (k : Kind) → a ≡ b → In t (turns k ++ wt a) → In (edge a a t) (map (edge b b) (sides k ++ wt b))
  of-this {a} {t = t} k e j =
      subst (λ (b : ℕ). In (edge a a t) (map (edge b b) (sides k ++ wt b))) e (map-in (edge a a) (either-in (wt a) (turn-side k) (in-cases (turns k) j)))

  pushed-edge : (set : List ℕ) (a : ℕ) {t : ℕ} (fs : List Final) → In t (pushed_at fs (visits wt) set a) → In (edge a a t) (known-edges fs wt)
  pushed-edge set a [] i = elim i [ ]
  pushed-edge set a {t} (f ∷ fs) i =
      both (λ (o : Option Final). In t (from_block (visits wt set a) o) → In (edge a a t) (known-edges (f ∷ fs) wt)) (eqb a f.block.start)
      (λ on j. in_left (of-this f.block.kind (eqb-true _ _ on) j) (known-edges fs wt)) (λ _ j. in_right (edges-of wt f) (pushed-edge set a fs j)) i

  -- an edge is its own witness, and what it leads to is pushed at its place
  record Pushes (fs : List Final) (e : Edge) : Type 0 where
    own : e.witness ≡ e.place
    pushes : (set : List ℕ) → In e.to (pushed_at fs (visits wt) set e.place)

  edge-pushed : (fs : List Final) {lo : ℕ} → Rising lo (finals-at fs) → (e : Edge) → In e (known-edges fs wt) → Pushes fs e
  edge-pushed fs r e i =
      let g = in-gather (edges-of wt) fs i in
      let f = g.0 in
      let m = in_map (edge f.block.start f.block.start) (sides f.block.kind ++ wt f.block.start) g.2 in
      subst (Pushes fs) (sym m.2)
      (record {
        own = refl;
        pushes = λ set. subst (λ (o : Option Final). In m.0 (from_block (visits wt set f.block.start) o)) (sym (block-there fs r g.1))
            (either-in (wt f.block.start) (side-turn f.block.kind) (in-cases (sides f.block.kind) m.1));
      })

-- ---- one call

-- what the set leads to is in it or among these
abbrev pub Loose : List Edge → List ℕ → List ℕ → Type 0
Loose es got seeds = (e : Edge) → In e es → leads got e ≡ true → mem e.to (seeds ++ got) ≡ true

-- It ends, and with no panic. The set keeps what it had, has the seeds and what it leads to, but for what was left to later seeds, and nothing that is not
-- reached; and what is returned says whether it grew.
pub record Extends (es : List Edge) (got seeds : List ℕ) (o : Option Extended) : Type 0 where
  pub out : Extended
  pub is : o ≡ some out
  pub keeps : (a : ℕ) → mem a got ≡ true → mem a out.reachable ≡ true
  pub has : (a : ℕ) → In a seeds → mem a out.reachable ≡ true
  pub loose : (later : List ℕ) → Loose es got (seeds ++ later) → Loose es out.reachable later
  pub only : (a : ℕ) → mem a out.reachable ≡ true → Reached es (seeds ++ got) a
  pub stayed : out.grew ≡ false → out.reachable ≡ got
  pub more : out.grew ≡ true → (a : ℕ) × (mem a got ≡ false) × (mem a out.reachable ≡ true)

-- so many can be pushed
abbrev pub pushes-of : List Final → Targets → ℕ
pushes-of fs wt = total (λ (f : Final). length (turns f.block.kind) + length (wt f.block.start)) fs

module _ (fs : List Final) (wt : Targets) (rising : Rising 0 (finals-at fs)) (got seeds : List ℕ) where
  abbrev es : List Edge
  es = known-edges fs wt

  abbrev P : ℕ → Type 0
  P = Reached es (seeds ++ got)

  abbrev Loop : Option (List ℕ) → Type 0
  Loop = Ended fs (visits wt) P (pushed seeds []) got

  loop : (n : ℕ) → suc (length seeds + pushes-of fs wt) ≤ n → Loop (while-pops fs (λ set current f. some (visits wt set current f)) n (pushed seeds []) got)
  loop n h =
      while-ends fs _ (visits wt) (λ f. length (turns f.block.kind) + length (wt f.block.start)) P (λ set a f i e. refl)
      (λ set a f i e. rw e (omega (arith, length-append (turns f.block.kind) (wt f.block.start))))
      (λ set a p m t i. let q = p a m in along (edge a a t) (pushed-edge wt set a fs i) q q) n (pushed seeds []) got
      (omega (arith, length-reverse_aux seeds [], left-all (λ f. length (turns f.block.kind) + length (wt f.block.start)) got fs))

  loosens : {o : Option (List ℕ)} (r : Loop o) (later : List ℕ) → Loose es got (seeds ++ later) → Loose es r.set later
  loosens r later h e i on = split (r.entered e.place (and_both _ _ on).0)
    where
      q : Pushes wt fs e
      q = edge-pushed wt fs rising e i

      now : (a : ℕ) → mem a r.set ≡ true → mem a (later ++ r.set) ≡ true
      now a m = in_mem a (in_right later (mem-in a r.set m))

      which : {a : ℕ} → In a (seeds ++ later) ⊎ In a got → mem a (later ++ r.set) ≡ true
      which (inl j) = one (in-cases seeds j)
        where
          one : {a : ℕ} → In a seeds ⊎ In a later → mem a (later ++ r.set) ≡ true
          one (inl k) = now _ (r.queued _ (pushed-new [] k))
          one (inr k) = in_mem _ (in_left k r.set)
      which (inr j) = now _ (r.keeps _ (in_mem _ j))

      split : (mem e.place got ≡ true) ⊎ Entered fs (visits wt) e.place r.set → mem e.to (later ++ r.set) ≡ true
      split (inl m) =
          which (in-cases (seeds ++ later) (mem-in _ ((seeds ++ later) ++ got) (h e i (and-true _ _ m (subst (λ (x : ℕ). mem x got ≡ true) (sym q.own) m)))))
      split (inr m) = now e.to (m.goes e.to (q.pushes m.had))

  sound : {o : Option (List ℕ)} (r : Loop o) (a : ℕ) → mem a r.set ≡ true → P a
  sound r = r.only (λ a i. from-seed (pushed-cases seeds i)) (λ a m. seed (in_mem a (in_right seeds (mem-in a got m))))
    where
      from-seed : {a : ℕ} → In a seeds ⊎ In a [] → P a
      from-seed (inl i) = seed (in_mem _ (in_left i got))
      from-seed (inr i) = elim i [ ]

  pub extending : (n : ℕ) → suc (length seeds + pushes-of fs wt) ≤ n → Extends es got seeds (extend-reachable-nodes n fs wt got seeds)
  extending n h =
      let r = loop n h in
      record {
        out = record { reachable = r.set; grew = not (eqb (length r.set) (length got)) };
        is = ap (λ (o : Option (List ℕ)). and_then o (λ set. some (record { reachable = set; grew = not (eqb (length set) (length got)) }))) r.is;
        keeps = r.keeps;
        has = λ a i. r.queued a (pushed-new [] i);
        loose = loosens r;
        only = sound r;
        stayed = λ e. stay r.grew (eqb-true _ _ (not-false _ e));
        more = λ e. grow r.grew (eqb-false _ _ (not-true _ e));
      }
    where
      stay : {set : List ℕ} → (set ≡ got) ⊎ ((a : ℕ) × (mem a got ≡ false) × (mem a set ≡ true) × (suc (length got) ≤ length set)) → length set ≡ length got → set ≡ got
      stay (inl e) q = e
      stay (inr g) q = absurd (omega (arith, g.3))

      grow : {set : List ℕ} → (set ≡ got) ⊎ ((a : ℕ) × (mem a got ≡ false) × (mem a set ≡ true) × (suc (length got) ≤ length set))
          → (length set ≡ length got → ⊥) → (a : ℕ) × (mem a got ≡ false) × (mem a set ≡ true)
      grow (inl e) q = absurd (q (ap length e))
      grow (inr g) q = (g.0, g.1, g.2)

-- ---- one call after the other

-- as many pops as the transcription gives a call
abbrev pub pops : List Final → Targets → List ℕ → ℕ
pops blocks witness-targets seeds = suc (length seeds + pushes-of blocks witness-targets)

-- n pops for each list of seeds
abbrev pub extend-each : (List ℕ → ℕ) → List Final → Targets → List ℕ → List (List ℕ) → Option (List ℕ)
extend-each n blocks witness-targets reachable [] = some reachable
extend-each n blocks witness-targets reachable (seeds ∷ more) =
    and_then (extend-reachable-nodes (n seeds) blocks witness-targets reachable seeds) (λ r. extend-each n blocks witness-targets r.reachable more)

abbrev pub joined : List (List ℕ) → List ℕ
joined = gather (λ (b : List ℕ). b)

-- the calls end, and leave the set extended by all the seeds
pub record Leaves (es : List Edge) (got : List ℕ) (batches : List (List ℕ)) (o : Option (List ℕ)) : Type 0 where
  pub set : List ℕ
  pub is : o ≡ some set
  pub same : set ≈ extend es got (joined batches)

module _ (es : List Edge) where
  -- a set that has all these, is closed and has nothing else is the extended one
  pub is-extended : (got seeds set : List ℕ) → ((a : ℕ) → mem a (seeds ++ got) ≡ true → mem a set ≡ true) → Closed es set
      → ((a : ℕ) → mem a set ≡ true → Reached es (seeds ++ got) a) → set ≈ extend es got seeds
  is-extended got seeds set has closed only a =
      same_test (λ h. closure-complete es (seeds ++ got) a (only a h)) (λ h. complete (closure-sound es (seeds ++ got) a h)) ∙ sym (extend-is es got seeds a)
    where
      complete : {a : ℕ} → Reached es (seeds ++ got) a → mem a set ≡ true
      complete (seed m) = has _ m
      complete (along e i p w) = closed e i (and-true _ _ (complete p) (complete w))

-- The calls, and then what holds of the set that they leave.
record Went (es : List Edge) (got seeds : List ℕ) (o : Option (List ℕ)) : Type 0 where
  set : List ℕ
  is : o ≡ some set
  has : (a : ℕ) → mem a (seeds ++ got) ≡ true → mem a set ≡ true
  closed : Closed es set
  only : (a : ℕ) → mem a set ≡ true → Reached es (seeds ++ got) a

module _ (fs : List Final) (wt : Targets) (rising : Rising 0 (finals-at fs)) (n : List ℕ → ℕ) where
  went-first : (got b more : List ℕ) {o : Option Extended} (r : Extends (known-edges fs wt) got b o) (k : Extended → Option (List ℕ))
      → Went (known-edges fs wt) r.out.reachable more (k r.out) → Went (known-edges fs wt) got (b ++ more) (and_then o k)
  went-first got b more r k w =
      record {
        set = w.set;
        is = ap (λ (o : Option Extended). and_then o k) r.is ∙ w.is;
        has = λ a m. had (in-cases (b ++ more) (mem-in a ((b ++ more) ++ got) m));
        closed = w.closed;
        only = λ a m. reached-from back (w.only a m);
      }
    where
      later : (a : ℕ) → mem a r.out.reachable ≡ true → mem a w.set ≡ true
      later a m = w.has a (in_mem a (in_right more (mem-in a r.out.reachable m)))

      had : {a : ℕ} → In a (b ++ more) ⊎ In a got → mem a w.set ≡ true
      had (inl i) = one (in-cases b i)
        where
          one : {a : ℕ} → In a b ⊎ In a more → mem a w.set ≡ true
          one (inl j) = later _ (r.has _ j)
          one (inr j) = w.has _ (in_mem _ (in_left j r.out.reachable))
      had (inr i) = later _ (r.keeps _ (in_mem _ i))

      wider : (s : ℕ) → mem s (b ++ got) ≡ true → Reached (known-edges fs wt) ((b ++ more) ++ got) s
      wider s m = seed (in_mem s (which (in-cases b (mem-in s (b ++ got) m))))
        where
          which : In s b ⊎ In s got → In s ((b ++ more) ++ got)
          which (inl i) = in_left (in_left i more) got
          which (inr i) = in_right (b ++ more) i

      back : (s : ℕ) → mem s (more ++ r.out.reachable) ≡ true → Reached (known-edges fs wt) ((b ++ more) ++ got) s
      back s m = which (in-cases more (mem-in s (more ++ r.out.reachable) m))
        where
          which : In s more ⊎ In s r.out.reachable → Reached (known-edges fs wt) ((b ++ more) ++ got) s
          which (inl i) = seed (in_mem s (in_left (in_right b i) got))
          which (inr i) = reached-from wider (r.only s (in_mem s i))

  went : (got : List ℕ) (batches : List (List ℕ)) → ((b : List ℕ) → In b batches → suc (length b + pushes-of fs wt) ≤ n b)
      → Loose (known-edges fs wt) got (joined batches) → Went (known-edges fs wt) got (joined batches) (extend-each n fs wt got batches)
  went got [] h l = record { set = got; is = refl; has = λ a m. m; closed = l; only = λ a m. seed m }
  went got (b ∷ more) h l =
      let r = extending fs wt rising got b (n b) (h b here) in
      went-first got b (joined more) r (λ x. extend-each n fs wt x.reachable more) (went r.out.reachable more (λ c i. h c (there i)) (r.loose (joined more) l))

  -- Batches, one call after the other, leave the set extended by all their seeds.
  pub extending-each : (got : List ℕ) (batches : List (List ℕ)) → ((b : List ℕ) → In b batches → suc (length b + pushes-of fs wt) ≤ n b)
      → Loose (known-edges fs wt) got (joined batches) → Leaves (known-edges fs wt) got batches (extend-each n fs wt got batches)
  extending-each got batches h l =
      let w = went got batches h l in
      record { set = w.set; is = w.is; same = is-extended (known-edges fs wt) got (joined batches) w.set w.has w.closed w.only }

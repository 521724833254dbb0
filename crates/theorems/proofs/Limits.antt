-- Demand 3: one code, two limits, the second no smaller. Assumes nothing.
use Prim.Native.Nat.{ℕ, zero, suc, ◌≤◌, ◌<◌}
use native.Mathlib.Omega.{arith}
use native.Mathlib.Nat.{le_trans}
use mathlib.Core.Path.{◌≡◌, refl, sym, ap, subst, ◌∙◌}
use mathlib.Core.Bool.{Bool, true, false, ◌&&◌}
use mathlib.Core.List.{List, [], ◌∷◌, ◌++◌, append-nil}
use lib.Dec.{eqb, leb, ltb}
use lib.ListN.{length}
use borrow.Author.Tests.{ltb-true, ltb-false, lt-ltb, le-ltb, le-leb, lt-leb}
use Rattle.laws.proofs.Branch.{both, if-true, if-false, and-false}
use Rattle.laws.proofs.Members.{In, keep-first}
use Rattle.spec.specs.Lists.{if, mem, keep}
use Rattle.spec.specs.Stacks.{Sym, before, constant, jumpdest, other, Stack}
use Rattle.spec.specs.Search.{Node, Taker, Parent, Rec, St, begin, spend, forget, Turn, turn_for, Level, arrive, follow, loops, tries, level, turn, round, rounds, search}
use Rattle.theorems.proofs.Carried.{step-nowhere, step-follow, step-tries, step-level, step-turn, step-round, step-rounds}
use Rattle.theorems.proofs.Numbers.{search-up-to, After, after_same, after-trans, OnwardIn, onward}

-- s ends a run at the limit m, and t one at a larger limit: they are the same, or the first has come to its limit, and t's record is its own and then records
-- with numbers past m
pub data Agree (m : ℕ) : St → St → Type 0 where
  whole : {s t : St} → s ≡ t → Agree m s t
  stopped : {s t : St} → m ≤ s.energy → After m s t → Agree m s t

agree-if : (m : ℕ) (b : Bool) {x y x' y' : St} → (b ≡ true → Agree m x x') → (b ≡ false → Agree m y y') → Agree m (if b x y) (if b x' y')
unfolding if
agree-if m true f g = f refl
agree-if m false f g = g refl

-- once the limit is reached, a level adds nothing
idle-tries : (m : ℕ) (go : Parent → List ℕ → St → St) (path : List ℕ) (ps : List Parent) (s : St) → m ≤ s.energy
    → (m ≤ (tries m go path ps s).energy) × ((tries m go path ps s).recs ≡ s.recs)
unfolding tries
idle-tries m go path [] s h = (h, refl)
idle-tries m go path (p ∷ ps) s h =
    let e : ltb m (suc s.energy) ≡ true = lt-ltb m (suc s.energy) (omega arith) in
    rw (if-true (ltb m (suc s.energy))) (omega arith, refl)

idle-round : (m : ℕ) (stored : List Parent) (reached : List ℕ) (ks : List Taker) (s : St) → m ≤ s.energy → round m stored reached ks s ≡ s
unfolding round
idle-round m stored reached [] s h = refl
idle-round m stored reached (k ∷ ks) s h =
    let e : mem k.start reached && ltb s.energy m ≡ false = and-false (mem k.start reached) (le-ltb s.energy m h) in
    rw if-false (idle-round m stored reached ks s h)

idle-rounds : (k m : ℕ) (rs : List Node) (s : St) → m ≤ s.energy → rounds k m rs s ≡ s
unfolding rounds
idle-rounds zero m rs s h = refl
idle-rounds (suc k) m rs s h = if-false _ _ _ (le-ltb s.energy m h)

abbrev GoOn : ℕ → (Parent → List ℕ → St → St) → Type 0
GoOn m go = (p : Parent) (path : List ℕ) (s : St) → OnwardIn m s (go p path s)

GoAgree : ℕ → (go go' : Parent → List ℕ → St → St) → Type 0
GoAgree m go go' = (p : Parent) (path : List ℕ) (s : St) → Agree m (go p path s) (go' p path s)

-- if two runs agree from every one state, they agree from two that agree
agree-rest : (m n : ℕ) (go go' : Parent → List ℕ → St → St) → GoOn m go' → (path : List ℕ) (ps : List Parent)
    → ((s : St) → Agree m (tries m go path ps s) (tries n go' path ps s))
    → {s t : St} → Agree m s t → Agree m (tries m go path ps s) (tries n go' path ps t)
agree-rest m n go go' g path ps ih {s} (whole e) = subst (λ (u : St). Agree m (tries m go path ps s) (tries n go' path ps u)) e (ih s)
agree-rest m n go go' g path ps ih {s} {t} (stopped h r) =
    let i = idle-tries m go path ps s h in
    stopped i.0 (after-trans (after_same m _ s (sym i.1) h) (after-trans r (step-tries n _ _ (onward m n) go' g path ps t r.counted)))

agree-tries : (m n : ℕ) → m ≤ n → (go go' : Parent → List ℕ → St → St) → GoAgree m go go' → GoOn m go'
    → (path : List ℕ) (ps : List Parent) (s : St) → Agree m (tries m go path ps s) (tries n go' path ps s)
unfolding tries GoAgree
agree-tries m n m≤n go go' h g path [] s = whole refl
agree-tries m n m≤n go go' h g path (p ∷ ps) s =
    both (λ (r : St). Agree m r (tries n go' path (p ∷ ps) s)) (ltb m (suc s.energy))
    (λ on. let h : m ≤ s.energy = omega (arith, ltb-true m (suc s.energy) on) in
    stopped (omega arith) (after-trans (after_same m (spend s) s refl h) (step-tries n _ _ (onward m n) go' g path (p ∷ ps) s h)))
    (λ off. let e : ltb n (suc s.energy) ≡ false = le-ltb n (suc s.energy) (le_trans (ltb-false _ _ off) m≤n) in
    rw (if-false (ltb n (suc s.energy))) (agree-rest m n go go' g path ps (agree-tries m n m≤n go go' h g path ps) (agree-if m (loops p.path path) (λ _. whole refl) (λ _. h p _ _))))

agree-arrive : (m : ℕ) (c : Turn) (deeper deeper' : Level → St → St) → ((l : Level) (s : St) → Agree m (deeper l s) (deeper' l s))
    → (path : List ℕ) (new : Stack) (x : Sym) (s : St) → Agree m (arrive c deeper path new x s) (arrive c deeper' path new x s)
unfolding arrive
agree-arrive m c deeper deeper' h path new (before n) s = h _ s
agree-arrive m c deeper deeper' h path new (constant v) s = whole refl
agree-arrive m c deeper deeper' h path new (jumpdest t) s = whole refl
agree-arrive m c deeper deeper' h path new (other v) s = whole refl

agree-follow : (m : ℕ) (c : Turn) (deeper deeper' : Level → St → St) → ((l : Level) (s : St) → Agree m (deeper l s) (deeper' l s))
    → (l : Level) → GoAgree m (follow c deeper l) (follow c deeper' l)
unfolding GoAgree follow
agree-follow m c deeper deeper' h l p path s = agree-if m _ (λ _. whole refl) (λ _. agree-arrive m c deeper deeper' h path _ _ _)

agree-level : (m n : ℕ) → m ≤ n → (c : Turn) (w : ℕ) (l : Level) (s : St) → Agree m (level m c w l s) (level n c w l s)
unfolding level GoAgree
agree-level m n m≤n c zero l s = agree-tries m n m≤n _ _ (λ p path t. whole refl) (λ p. step-nowhere n _ _ (onward m n) c) _ _ s
agree-level m n m≤n c (suc w) l s =
    agree-tries m n m≤n _ _ (agree-follow m c _ _ (agree-level m n m≤n c w) l) (step-follow n _ _ (onward m n) c _ (step-level n _ _ (onward m n) c w) l) _ _ s

agree-forget : (m : ℕ) {s t : St} → Agree m s t → Agree m (forget s) (forget t)
agree-forget m (whole e) = whole (ap forget e)
agree-forget m (stopped h g) = stopped h (record { new = g.new; is = g.is; past = g.past; counted = g.counted })

agree-turn : (m n : ℕ) → m ≤ n → (c : Turn) (k : ℕ) (s : St) → Agree m (turn m c k s) (turn n c k s)
unfolding turn
agree-turn m n m≤n c k s = agree-forget m (agree-level m n m≤n c 255 _ _)

-- a run that came to its limit before, and stands still
stays : (m : ℕ) {s s' t : St} → s' ≡ s → m ≤ s.energy → After m s t → Agree m s' t
stays m {t} e h g = subst (λ (u : St). Agree m u t) (sym e) (stopped h g)

agree-take : (m n : ℕ) → m ≤ n → (c : Turn) (k : ℕ) (s : St) (a : Bool)
    → Agree m (if (a && ltb s.energy m) (turn m c k s) s) (if (a && ltb s.energy n) (turn n c k s) s)
agree-take m n m≤n c k s false = agree-if m false (λ _. agree-turn m n m≤n c k s) (λ _. whole refl)
agree-take m n m≤n c k s true =
    both (λ (r : St). Agree m r (if (ltb s.energy n) (turn n c k s) s)) (ltb s.energy m)
    (λ on. rw (if-true (ltb s.energy n) _ _ (lt-ltb _ _ (le_trans (ltb-true _ _ on) m≤n))) (agree-turn m n m≤n c k s))
    (λ off. let h = ltb-false s.energy m off in stopped h (both (After m s) (ltb s.energy n) (λ _. step-turn n _ _ (onward m n) c k s h) (λ _. after_same m s s refl h)))

agree-round : (m n : ℕ) → m ≤ n → (stored : List Parent) (reached : List ℕ) (ks : List Taker) {s t : St} → Agree m s t
    → Agree m (round m stored reached ks s) (round n stored reached ks t)
unfolding round
agree-round m n m≤n stored reached [] a = a
agree-round m n m≤n stored reached (k ∷ ks) {s} (whole e) =
    subst (λ (u : St). Agree m (round m stored reached (k ∷ ks) s) (round n stored reached (k ∷ ks) u)) e
    (agree-round m n m≤n stored reached ks (agree-take m n m≤n (turn_for stored reached k) k.position s (mem k.start reached)))
agree-round m n m≤n stored reached (k ∷ ks) {s} {t} (stopped h g) =
    stays m (idle-round m stored reached (k ∷ ks) s h) h (after-trans g (step-round n _ _ (onward m n) stored reached (k ∷ ks) t g.counted))

-- after a round: it was the last, or the next ones follow
agree-next : (j m n : ℕ) (rs : List Node) (k : ℕ) → ((u : St) → Agree m (rounds j m rs u) (rounds j n rs u)) → {u v : St} → Agree m u v
    → Agree m (if (eqb (length u.recs) k) u (rounds j m rs u)) (if (eqb (length v.recs) k) v (rounds j n rs v))
agree-next j m n rs k ih {u} (whole e) =
    subst (λ (v : St). Agree m (if (eqb (length u.recs) k) u (rounds j m rs u)) (if (eqb (length v.recs) k) v (rounds j n rs v))) e
    (agree-if m _ (λ _. whole refl) (λ _. ih u))
agree-next j m n rs k ih {u} {v} (stopped h g) =
    let later : After m v (if (eqb (length v.recs) k) v (rounds j n rs v)) = both (After m v) (eqb (length v.recs) k) (λ _. after_same m v v refl g.counted) (λ _. step-rounds n _ _ (onward m n) j rs v g.counted) in
    both (λ (r : St). Agree m r (if (eqb (length v.recs) k) v (rounds j n rs v))) (eqb (length u.recs) k)
    (λ _. stopped h (after-trans g later)) (λ _. stays m (idle-rounds j m rs u h) h (after-trans g later))

agree-rounds : (j m n : ℕ) → m ≤ n → (rs : List Node) (s : St) → Agree m (rounds j m rs s) (rounds j n rs s)
unfolding rounds
agree-rounds zero m n m≤n rs s = whole refl
agree-rounds (suc j) m n m≤n rs s =
    both (λ (r : St). Agree m r (rounds (suc j) n rs s)) (ltb s.energy m)
    (λ on. rw (if-true (ltb s.energy n) _ _ (lt-ltb _ _ (le_trans (ltb-true _ _ on) m≤n)))
    (agree-next j m n rs _ (agree-rounds j m n m≤n rs) (agree-round m n m≤n _ _ _ (whole {s = s} refl))))
    (λ off. let h = ltb-false s.energy m off in stopped h (step-rounds n _ _ (onward m n) (suc j) rs s h))

-- ---- demand 3, of the search

agree-begins : (m : ℕ) {s t : St} → Agree m s t → (new : List Rec) × (t.recs ≡ s.recs ++ new) × ((x : Rec) → In x new → m < x.energy)
agree-begins m {s} (whole e) = ([], rw (ap (λ (u : St). u.recs) (sym e), append-nil), λ x i. elim i [ ])
agree-begins m (stopped h g) = (g.new, g.is, g.past)

agree_same : (m : ℕ) {s t : St} → Agree m s t → s.energy < m → s ≡ t
agree_same m (whole e) h = e
agree_same m (stopped l g) h = absurd (omega arith)

-- The record at the smaller limit is a beginning of the record at the larger.
pub search-begins : (m n : ℕ) → m ≤ n → (rs : List Node) → (new : List Rec) × ((search n rs).recs ≡ (search m rs).recs ++ new)
unfolding search
search-begins m n m≤n rs = let b = agree-begins m (agree-rounds 128 m n m≤n rs begin) in (b.0, b.1)

-- It has exactly those records of the larger whose numbers are at most its limit, in their order.
pub search-numbers : (m n : ℕ) → m ≤ n → (rs : List Node) → (search m rs).recs ≡ keep (λ (x : Rec). leb x.energy m) (search n rs).recs
unfolding search
search-numbers m n m≤n rs =
    let b = agree-begins m (agree-rounds 128 m n m≤n rs begin) in
    sym (ap (keep (λ (x : Rec). leb x.energy m)) b.1
    ∙ keep-first (λ (x : Rec). leb x.energy m) (search m rs).recs b.0 (λ x i. le-leb _ _ (search-up-to m rs x i)) (λ x i. lt-leb _ _ (b.2 x i)))

-- A run that used less energy than its limit is the run at every larger limit, its needs of rooms with it.
pub search-same : (m n : ℕ) → m ≤ n → (rs : List Node) → (search m rs).energy < m → search m rs ≡ search n rs
unfolding search
search-same m n m≤n rs h = agree_same m (agree-rounds 128 m n m≤n rs begin) h

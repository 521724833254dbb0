-- A step of Visiting: the loop `while let Some(current) = queue.pop()` of the transcription's reachable.rs, on the definitions' blocks. It ends, and this is what
-- is in the set then. Assumes nothing.
use Prim.Native.Nat.{ℕ, zero, suc, ◌+◌, ◌≤◌}
use native.Mathlib.Omega.{arith}
use mathlib.Core.Path.{◌≡◌, refl, sym, ap, subst, ◌∙◌}
use mathlib.Core.Logic.{◌⊎◌, inl, inr}
use mathlib.Core.Bool.{Bool, true, false, ◌||◌}
use mathlib.Core.Option.{Option, none, some}
use mathlib.Core.List.{List, [], ◌∷◌, reverse_aux}
use lib.Dec.{eqb}
use lib.ListN.{length, length-reverse_aux}
use borrow.Author.Tests.{eqb-true, eqb-false, eq-eqb, ne_eqb}
use Rattle.spec.specs.Lists.{if, mem, total}
use Rattle.spec.specs.Ending.{Final}
use Rattle.laws.proofs.Branch.{both, if-true, if-false, and_then}
use Rattle.laws.proofs.Members.{In, here, there, in_mem, mem-in, or_right}
use Rattle.laws.proofs.Lists.{Rising, none_left, one_more}
use Rattle.theorems.proofs.Answered.{finals-at}

-- ---- the loop

-- `queue.push` of each, in this order
abbrev pub pushed : List ℕ → List ℕ → List ℕ
pushed ts queue = reverse_aux ts queue

-- `blocks.get(&current)`
abbrev pub block_at : ℕ → List Final → Option Final
block_at a [] = none
block_at a (f ∷ fs) = let later = block_at a fs in if (eqb a f.block.start) (some f) later

-- `continue` where there is no block
abbrev pub of-block : (Final → Option (List ℕ)) → Option Final → Option (List ℕ)
of-block k none = some []
of-block k (some f) = k f

module _ (blocks : List Final) (pushes : List ℕ → ℕ → Final → Option (List ℕ)) where
  -- at most n pops; `pushes` is what the block at `current` pushes, once `current` is in the set
  unfoldable pub while-pops : ℕ → List ℕ → List ℕ → Option (List ℕ)
  while-pops zero queue set = none
  while-pops (suc n) [] set = some set
  while-pops (suc n) (current ∷ queue) set =
      let skips = while-pops n queue set in
      let enters = and_then (of-block (pushes (current ∷ set) current) (block_at current blocks)) (λ ts. while-pops n (pushed ts queue) (current ∷ set)) in
      if (mem current set) skips enters

-- ---- a queue

module _ {a : ℕ} where
  pub pushed-old : (ts : List ℕ) {q : List ℕ} → In a q → In a (pushed ts q)
  pushed-old [] i = i
  pushed-old (t ∷ ts) i = pushed-old ts (there i)

  pub pushed-new : {ts : List ℕ} (q : List ℕ) → In a ts → In a (pushed ts q)
  pushed-new q (here {xs}) = pushed-old xs here
  pushed-new q (there {y} {xs} i) = pushed-new (y ∷ q) i

  pushed-one : {t : ℕ} {ts q : List ℕ} → In a ts ⊎ In a (t ∷ q) → In a (t ∷ ts) ⊎ In a q
  pushed-one (inl j) = inl (there j)
  pushed-one (inr here) = inl here
  pushed-one (inr (there j)) = inr j

  pub pushed-cases : (ts : List ℕ) {q : List ℕ} → In a (pushed ts q) → In a ts ⊎ In a q
  pushed-cases [] i = inr i
  pushed-cases (t ∷ ts) i = pushed-one (pushed-cases ts i)

-- what holds of the first and of the others
pub first-or : (F : ℕ → Type 0) {a c : ℕ} {xs : List ℕ} → F c → ((b : ℕ) → In b xs → F b) → In a (c ∷ xs) → F a
first-or F h k here = h
first-or F h k (there i) = k _ i

pub new-or : (F : ℕ → Type 0) (c : ℕ) (set : List ℕ) → F c → ((b : ℕ) → mem b set ≡ true → F b) → (a : ℕ) → mem a (c ∷ set) ≡ true → F a
new-or F c set h k a m = first-or F h (λ b i. k b (in_mem b i)) (mem-in a (c ∷ set) m)

-- ---- the block at a place

pub rising-above : {lo a : ℕ} {ns : List ℕ} → Rising lo ns → In a ns → lo ≤ a
rising-above (one_more h r) here = h
rising-above (one_more h r) (there i) = let k = rising-above r i in omega arith
rising-above {a = a} (none_left {lo = lo}) x4 = elim x4 [ ]

pub start_in : {f : Final} {fs : List Final} → In f fs → In f.block.start (finals-at fs)
start_in here = here
start_in (there i) = there (start_in i)

-- starts rise, so the block that is found is the one
pub block-there : {lo : ℕ} {f : Final} (fs : List Final) → Rising lo (finals-at fs) → In f fs → block_at f.block.start fs ≡ some f
block-there [] r i = elim i [ ]
block-there {f = f} (y ∷ fs) r here = if-true _ (some f) (block_at f.block.start fs) (eq-eqb f.block.start f.block.start refl)
block-there {f = f} (y ∷ fs) (one_more h r) (there i) =
    if-false _ _ _ (ne_eqb f.block.start y.block.start (λ e. let k = rising-above r (start_in i) in absurd (omega arith))) ∙ block-there fs r i

-- ---- that it ends, and with what

abbrev pub from_block : (Final → List ℕ) → Option Final → List ℕ
from_block k none = []
from_block k (some f) = k f

module _ (blocks : List Final) (next : List ℕ → ℕ → Final → List ℕ) where
  -- what is pushed at a place once it is in the set
  abbrev pub pushed_at : List ℕ → ℕ → List ℕ
  pushed_at set a = from_block (next set a) (block_at a blocks)

  -- all that was pushed at a is in `set`; `had` is the set when a had come into it
  pub record Entered (a : ℕ) (set : List ℕ) : Type 0 where
    pub had : List ℕ
    pub goes : (t : ℕ) → In t (pushed_at had a) → mem t set ≡ true

  pub record Ended (P : ℕ → Type 0) (queue before : List ℕ) (o : Option (List ℕ)) : Type 0 where
    pub set : List ℕ
    pub is : o ≡ some set
    pub keeps : (a : ℕ) → mem a before ≡ true → mem a set ≡ true
    pub queued : (a : ℕ) → In a queue → mem a set ≡ true
    pub entered : (a : ℕ) → mem a set ≡ true → (mem a before ≡ true) ⊎ Entered a set
    -- what holds of the queue and of the set holds of what comes in
    pub only : ((a : ℕ) → In a queue → P a) → ((a : ℕ) → mem a before ≡ true → P a) → (a : ℕ) → mem a set ≡ true → P a
    -- the set is as it was, or is longer and has a member more
    pub grew : (set ≡ before) ⊎ ((a : ℕ) × (mem a before ≡ false) × (mem a set ≡ true) × (suc (length before) ≤ length set))

-- ---- so much can still be pushed, by blocks that are not in the set

abbrev pub left : (Final → ℕ) → List ℕ → List Final → ℕ
left most set = total (λ (f : Final). if (mem f.block.start set) 0 (most f))

fewer : (b c : Bool) (k : ℕ) → if (b || c) 0 k ≤ if c 0 k
unfolding if
fewer true true k = omega arith
fewer true false k = omega arith
fewer false true k = omega arith
fewer false false k = omega arith

sum-le : {a b c d : ℕ} → a ≤ b → c ≤ d → a + c ≤ b + d
sum-le h k = omega arith

left-falls : (most : Final → ℕ) (a : ℕ) (set : List ℕ) (fs : List Final) → left most (a ∷ set) fs ≤ left most set fs
left-falls most a set [] = omega arith
left-falls most a set (f ∷ fs) = sum-le (fewer (eqb f.block.start a) (mem f.block.start set) (most f)) (left-falls most a set fs)

swap-eqb : (a b : ℕ) (t : Bool) → eqb a b ≡ t → eqb b a ≡ t
swap-eqb a b true e = eq-eqb b a (sym (eqb-true a b e))
swap-eqb a b false e = ne_eqb b a (λ q. eqb-false a b e (sym q))

-- what a place pushes when it comes into the set is no longer left
left-pushed : (most : Final → ℕ) (a : ℕ) (set : List ℕ) (k : Final → List ℕ) → mem a set ≡ false → (fs : List Final)
    → ((f : Final) → In f fs → a ≡ f.block.start → length (k f) ≤ most f) → left most (a ∷ set) fs + length (from_block k (block_at a fs)) ≤ left most set fs
left-pushed most a set k off [] h = omega arith
left-pushed most a set k off (f ∷ fs) h =
    both (λ (o : Option Final). left most (a ∷ set) (f ∷ fs) + length (from_block k o) ≤ left most set (f ∷ fs)) (eqb a f.block.start)
    (λ on.
    let e = eqb-true a f.block.start on in
    let now = if-true (mem f.block.start (a ∷ set)) 0 (most f) (ap (λ (b : Bool). b || mem f.block.start set) (swap-eqb a f.block.start true on)) in
    let then = if-false (mem f.block.start set) 0 (most f) (subst (λ (b : ℕ). mem b set ≡ false) e off) in
    omega (arith, left-falls most a set fs, h f here e))
    (λ off'.
    let same = ap (λ (b : Bool). if (b || mem f.block.start set) 0 (most f)) (swap-eqb a f.block.start false off') in
    omega (arith, left-pushed most a set k off fs (λ g i. h g (there i))))

pub left-all : (most : Final → ℕ) (set : List ℕ) (fs : List Final) → left most set fs ≤ total most fs
left-all most set [] = omega arith
left-all most set (f ∷ fs) =
    let ih = left-all most set fs in
    both (λ (k : ℕ). k + left most set fs ≤ most f + total most fs) (mem f.block.start set) (λ _. omega arith) (λ _. omega arith)

-- ---- that it ends

module _ (blocks : List Final) (pushes : List ℕ → ℕ → Final → Option (List ℕ)) (next : List ℕ → ℕ → Final → List ℕ) (most : Final → ℕ) (P : ℕ → Type 0)
    (gives : (set : List ℕ) (a : ℕ) (f : Final) → In f blocks → a ≡ f.block.start → pushes set a f ≡ some (next set a f))
    (few : (set : List ℕ) (a : ℕ) (f : Final) → In f blocks → a ≡ f.block.start → length (next set a f) ≤ most f)
    (leads : (set : List ℕ) (a : ℕ) → ((b : ℕ) → mem b set ≡ true → P b) → mem a set ≡ true → (t : ℕ) → In t (pushed_at blocks next set a) → P t) where
  given : (set : List ℕ) (a : ℕ) (fs : List Final) → ((f : Final) → In f fs → In f blocks)
      → of-block (pushes set a) (block_at a fs) ≡ some (from_block (next set a) (block_at a fs))
  given set a [] h = refl
  given set a (f ∷ fs) h =
      both (λ (o : Option Final). of-block (pushes set a) o ≡ some (from_block (next set a) o)) (eqb a f.block.start)
      (λ on. gives set a f (h f here) (eqb-true _ _ on)) (λ _. given set a fs (λ g i. h g (there i)))

  abbrev Ends : List ℕ → List ℕ → Option (List ℕ) → Type 0
  Ends = Ended blocks next P

  stops : (set : List ℕ) → Ends [] set (some set)
  stops set = record { set = set; is = refl; keeps = λ a h. h; queued = λ a i. elim i [ ]; entered = λ a h. inl h; only = λ q h. h; grew = inl refl }

  skips : (c : ℕ) {queue set : List ℕ} {o : Option (List ℕ)} → mem c set ≡ true → Ends queue set o → Ends (c ∷ queue) set o
  skips c {queue} {set} on r =
      record {
        set = r.set;
        is = r.is;
        keeps = r.keeps;
        queued = λ a i. first-or (λ b. mem b r.set ≡ true) (r.keeps c on) r.queued i;
        entered = r.entered;
        only = λ q h. r.only (λ a i. q a (there i)) h;
        grew = r.grew;
      }

  enters : (c : ℕ) {queue set : List ℕ} {o : Option (List ℕ)} → mem c set ≡ false
      → Ends (pushed (pushed_at blocks next (c ∷ set) c) queue) (c ∷ set) o → Ends (c ∷ queue) set o
  enters c {queue} {set} off r =
      record {
        set = r.set;
        is = r.is;
        keeps = λ a h. r.keeps a (or_right (eqb a c) _ h);
        queued = λ a i. first-or (λ b. mem b r.set ≡ true) itself (λ b j. r.queued b (pushed-old ts j)) i;
        entered = λ a h. came a (r.entered a h);
        only = λ q h. let now = new-or P c set (q c here) h in r.only (λ a i. lead now q a (pushed-cases ts i)) now;
        grew = inr (c, off, itself, longer r.grew);
      }
    where
      ts : List ℕ
      ts = pushed_at blocks next (c ∷ set) c

      in-it : mem c (c ∷ set) ≡ true
      in-it = in_mem c (here {xs = set})

      itself : mem c r.set ≡ true
      itself = r.keeps c in-it

      came : (a : ℕ) → (mem a (c ∷ set) ≡ true) ⊎ Entered blocks next a r.set → (mem a set ≡ true) ⊎ Entered blocks next a r.set
      came a (inl h) =
          new-or (λ b. (mem b set ≡ true) ⊎ Entered blocks next b r.set) c set
          (inr (record { had = c ∷ set; goes = λ t i. r.queued t (pushed-new queue i) })) (λ b k. inl k) a h
      came a (inr e) = inr e

      lead : ((a : ℕ) → mem a (c ∷ set) ≡ true → P a) → ((a : ℕ) → In a (c ∷ queue) → P a) → (a : ℕ) → In a ts ⊎ In a queue → P a
      lead now q a (inl i) = leads (c ∷ set) c now in-it a i
      lead now q a (inr i) = q a (there i)

      longer : (r.set ≡ c ∷ set) ⊎ ((a : ℕ) × (mem a (c ∷ set) ≡ false) × (mem a r.set ≡ true) × (suc (length (c ∷ set)) ≤ length r.set))
          → suc (length set) ≤ length r.set
      longer (inl e) = omega (arith, ap length e)
      longer (inr g) = omega (arith, g.3)

  -- With a pop for each that is queued and for all that can still be pushed, and one that finds nothing, the loop ends.
  pub while-ends : (n : ℕ) (queue set : List ℕ) → suc (length queue + left most set blocks) ≤ n → Ends queue set (while-pops blocks pushes n queue set)
  unfolding while-pops
  while-ends zero queue set h = absurd (omega arith)
  while-ends (suc n) [] set h = stops set
  while-ends (suc n) (c ∷ queue) set h =
      both (Ends (c ∷ queue) set) (mem c set) (λ on. skips c on (while-ends n queue set (omega arith)))
      (λ off.
      let ts = pushed_at blocks next (c ∷ set) c in
      let less = left-pushed most c set (next (c ∷ set) c) off blocks (few (c ∷ set) c) in
      rw (given (c ∷ set) c blocks (λ f i. i)) (enters c off (while-ends n (pushed ts queue) (c ∷ set) (omega (arith, length-reverse_aux ts queue)))))

-- Document 02, No. 12: when a path entry with a destination is right, in the request's words, and the place that is named where it is not. The inspector's tests
-- say exactly that. Assumes nothing.
use Prim.Native.Nat.{ℕ, zero, suc, ◌+◌, ◌<◌}
use native.Mathlib.Omega.{arith}
use native.Mathlib.Nat.{add-zero}
use mathlib.Core.Path.{◌≡◌, refl, sym, ap, subst, ◌∙◌}
use mathlib.Core.Logic.{◌⊎◌, inl, inr, ◌↔◌}
use mathlib.Core.Bool.{Bool, true, false, ◌&&◌}
use mathlib.Core.Option.{Option, none, some}
use mathlib.Core.List.{List, [], ◌∷◌}
use lib.Dec.{eqb, ltb}
use lib.ListN.{length, get_or}
use borrow.Author.Tests.{eqb-true, eq-eqb, ltb-true, lt-ltb}
use Rattle.spec.specs.Lists.{mem, some?}
use Rattle.spec.specs.Opcodes.{Rules}
use Rattle.spec.specs.Stacks.{Sym, before, constant, jumpdest, other, own, eq_sym}
use Rattle.spec.specs.PathMeaning.{fetched, all_known}
use Rattle.spec.specs.Ending.{Final}
use Rattle.spec.specs.Entries.{Map}
use Rattle.spec.specs.Inspector.{targets, edge?, sound, first_failing, looked, arrives, sees?, or_symbol, fault}
use Rattle.laws.proofs.Branch.{both}
use Rattle.laws.proofs.Members.{In, here, there, and_both, and-true, or_right, or_cases, mem-in, in_mem}
use Rattle.theorems.proofs.PathLeads.{Sees}
use Rattle.theorems.proofs.ReaderPlaces.{never}
use Rattle.theorems.proofs.InspectorLooks.{looked-replayed}
use Rattle.theorems.proofs.Counts.{Lawful}

-- ---- the words

module _ (rules : Rules) (ok : Lawful rules.row) where
  -- "starts within the code, no unknown byte run"
  pub record Sound (code : List ℕ) (b : ℕ) : Type 0 where
    pub inside : b < length code
    pub known : all_known rules.row b (fetched code b) ≡ true

  -- an edge of the map, from the block at y to x
  pub record Edge (m : Map) (x y : ℕ) : Type 0 where
    pub block : Final
    pub member : In block m.blocks
    pub at : block.block.start ≡ y
    pub leads : In x (targets block)

  module _ (code : List ℕ) (m : Map) where
    -- The block at place i of a path does not fail: it is sound, and joined; the first block meets `Starts`, any other has an edge to the one named before it.
    pub record FitBy (Starts : ℕ → Type 0) (path : List ℕ) (i : ℕ) : Type 0 where
      pub sound-there : Sound code (get_or path i 0)
      pub first : i ≡ 0 → Starts (get_or path i 0)
      pub joined : (j : ℕ) → i ≡ suc j → Edge m (get_or path j 0) (get_or path i 0)

    -- of a path entry of the block at b: the first is that block
    abbrev pub Fit : ℕ → List ℕ → ℕ → Type 0
    Fit b = FitBy (λ a. a ≡ b)

    -- A path entry of the block at b, to t, is right: the path has a first block, none of its blocks fails, and the symbol at the jump, replayed along it, is
    -- Jumpdest of t.
    pub record Right (b : ℕ) (path : List ℕ) (t : ℕ) : Type 0 where
      pub begins : 0 < length path
      pub fits : (i : ℕ) → i < length path → Fit b path i
      pub sees : Sees rules ok code path (jumpdest t)

    -- It is not, and the place that is named: "of the first block that fails, 0 if the path is empty or only the symbol differs".
    pub data Fails (b : ℕ) (path : List ℕ) (t : ℕ) : ℕ → Type 0 where
      at_block : {i : ℕ} → i < length path → ¬ Fit b path i → ((j : ℕ) → j < i → Fit b path j) → Fails b path t i
      is-empty : length path ≡ 0 → Fails b path t 0
      only-symbol : 0 < length path → ((i : ℕ) → i < length path → Fit b path i) → ¬ Sees rules ok code path (jumpdest t) → Fails b path t 0

  -- a test and what it tests
  record Tests (b : Bool) (P : Type 0) : Type 0 where
    yes : b ≡ true → P
    no : b ≡ false → ¬ P

  on-off : {A : Type 0} {b : Bool} → b ≡ true → b ≡ false → A
  on-off p q = never (cc)

  -- from the test that succeeds exactly then
  tests_by : {P : Type 0} (b : Bool) → (b ≡ true → P) → (P → b ≡ true) → Tests b P
  tests_by b f g = record { yes = f; no = λ off p. on-off (g p) off }

  both-test : (a b : Bool) {P Q : Type 0} → Tests a P → Tests b Q → Tests (a && b) (P × Q)
  both-test true b p q = record { yes = λ e. (p.yes refl, q.yes e); no = λ e h. q.no e h.1 }
  both-test false b p q = record { yes = λ e. never (cc); no = λ e h. p.no refl h.0 }

  -- ---- the tests of a block

  sound-tests : (code : List ℕ) (b : ℕ) → Tests (sound rules.row code b) (Sound code b)
  sound-tests code b =
      tests_by (sound rules.row code b) (λ e. let h = and_both (ltb b (length code)) _ e in record { inside = ltb-true _ _ h.0; known = h.1 })
      (λ h. and-true _ _ (lt-ltb b (length code) h.inside) h.known)

  some_tests : (x y : ℕ) (fs : List Final) → some? (λ (f : Final). eqb y f.block.start && mem x (targets f)) fs ≡ true
      → (f : Final) × In f fs × (f.block.start ≡ y) × In x (targets f)
  some_tests x y [] e = never (cc)
  some_tests x y (f ∷ fs) e = by-case (or_cases (eqb y f.block.start && mem x (targets f)) _ e) (some_tests x y fs)
    where
      by-case : (eqb y f.block.start && mem x (targets f) ≡ true) ⊎ (some? (λ (g : Final). eqb y g.block.start && mem x (targets g)) fs ≡ true)
          → (some? (λ (g : Final). eqb y g.block.start && mem x (targets g)) fs ≡ true → (g : Final) × In g fs × (g.block.start ≡ y) × In x (targets g))
          → (g : Final) × In g (f ∷ fs) × (g.block.start ≡ y) × In x (targets g)
      by-case (inl q) ih = let h = and_both (eqb y f.block.start) _ q in (f, here, sym (eqb-true _ _ h.0), mem-in x _ h.1)
      by-case (inr q) ih = let g = ih q in (g.0, there g.1, g.2, g.3)

  some_there : (x y : ℕ) {f : Final} {fs : List Final} → In f fs → f.block.start ≡ y → In x (targets f)
      → some? (λ (f : Final). eqb y f.block.start && mem x (targets f)) fs ≡ true
  some_there x y here e i = rw (and-true _ _ (eq-eqb y _ (sym e)) (in_mem x i))
  some_there x y (there {y = g} j) e i = or_right (eqb y g.block.start && mem x (targets g)) _ (some_there x y j e i)

  pub edge-found : (m : Map) (x y : ℕ) → edge? m x y ≡ true → Edge m x y
  edge-found m x y e = let g = some_tests x y m.blocks e in record { block = g.0; member = g.1; at = g.2; leads = g.3 }

  pub edge-there : (m : Map) (x y : ℕ) → Edge m x y → edge? m x y ≡ true
  edge-there m x y h = some_there x y h.member h.at h.leads

  edge-tests : (m : Map) (x y : ℕ) → Tests (edge? m x y) (Edge m x y)
  edge-tests m x y = tests_by (edge? m x y) (edge-found m x y) (edge-there m x y)

  -- ---- the first block that fails

  module _ (code : List ℕ) (m : Map) where
    fit-here : {Starts : ℕ → Type 0} {b : ℕ} {bs : List ℕ} → Sound code b → Starts b → FitBy code m Starts (b ∷ bs) 0
    fit-here s h = record { sound-there = s; first = λ _. h; joined = λ j e. never (omega arith) }

    fit_next : {Starts : ℕ → Type 0} {b : ℕ} {bs : List ℕ} {i : ℕ} → FitBy code m (Edge m b) bs i → FitBy code m Starts (b ∷ bs) (suc i)
    fit_next {b} {bs} {i} h = record { sound-there = h.sound-there; first = λ e. never (omega arith); joined = joins }
      where
        joins : (j : ℕ) → suc i ≡ suc j → Edge m (get_or (b ∷ bs) j 0) (get_or bs i 0)
        joins zero e = h.first (omega arith)
        joins (suc j) e = h.joined j (omega arith)

    fit-past : {Starts : ℕ → Type 0} {b : ℕ} {bs : List ℕ} {i : ℕ} → FitBy code m Starts (b ∷ bs) (suc i) → FitBy code m (Edge m b) bs i
    fit-past h = record { sound-there = h.sound-there; first = λ e. h.joined 0 (ap suc e); joined = λ j e. h.joined (suc j) (ap suc e) }

    -- what is found
    data FirstFailing (Starts : ℕ → Type 0) (path : List ℕ) (at : ℕ) : Option ℕ → Type 0 where
      all_fit : ((i : ℕ) → i < length path → FitBy code m Starts path i) → FirstFailing Starts path at none
      one-fails : {i : ℕ} → i < length path → ¬ FitBy code m Starts path i → ((j : ℕ) → j < i → FitBy code m Starts path j) → FirstFailing Starts path at (some (at + i))

    failing-next : {Starts : ℕ → Type 0} {b : ℕ} {bs : List ℕ} {at : ℕ} {o : Option ℕ} → Sound code b → Starts b → FirstFailing (Edge m b) bs (suc at) o
        → FirstFailing Starts (b ∷ bs) at o
    failing-next {Starts} {b} {bs} s h (all_fit f) = all_fit fits
      where
        fits : (i : ℕ) → i < length (b ∷ bs) → FitBy code m Starts (b ∷ bs) i
        fits zero l = fit-here s h
        fits (suc i) l = fit_next (f i (omega arith))
    failing-next {Starts} {b} {bs} {at} s h (one-fails {i} l n f) =
        subst (λ (k : ℕ). FirstFailing Starts (b ∷ bs) at (some k)) (omega arith) (one-fails {i = suc i} (omega arith) (λ k. n (fit-past k)) fits)
      where
        fits : (j : ℕ) → j < suc i → FitBy code m Starts (b ∷ bs) j
        fits zero k = fit-here s h
        fits (suc j) k = fit_next (f j (omega arith))

    first-fails : (Starts : ℕ → Type 0) (joins : ℕ → Bool) → ((b : ℕ) → Tests (joins b) (Starts b)) → (path : List ℕ) (at : ℕ)
        → FirstFailing Starts path at (first_failing rules.row code m joins path at)
    unfolding first_failing
    first-fails Starts joins t [] at = all_fit (λ i l. never (omega arith))
    first-fails Starts joins t (b ∷ bs) at =
        let k = both-test (sound rules.row code b) (joins b) (sound-tests code b) (t b) in
        both (FirstFailing Starts (b ∷ bs) at) (sound rules.row code b && joins b)
        (λ on. let h = k.yes on in failing-next h.0 h.1 (first-fails (Edge m b) (edge? m b) (edge-tests m b) bs (suc at)))
        (λ off. subst (λ (n : ℕ). FirstFailing Starts (b ∷ bs) at (some n)) (add-zero at)
        (one-fails {i = 0} (omega arith) (λ f. k.no off (f.sound-there, f.first refl)) (λ j l. never (omega arith))))

  -- ---- the symbol

  jumpdest-tests : (t : ℕ) (y : Sym) → Tests (eq_sym (jumpdest t) y) (y ≡ jumpdest t)
  jumpdest-tests t (before n) = record { yes = λ e. never (cc); no = λ _ e. never (cc) }
  jumpdest-tests t (constant v) = record { yes = λ e. never (cc); no = λ _ e. never (cc) }
  jumpdest-tests t (jumpdest v) = tests_by (eqb t v) (λ e. ap jumpdest (sym (eqb-true t v e))) (λ e. eq-eqb t v (cc))
  jumpdest-tests t (other pc) = record { yes = λ e. never (cc); no = λ _ e. never (cc) }

  module _ (code : List ℕ) (t : ℕ) where
    module _ (b : ℕ) (bs : List ℕ) where
      first-is : (s : Sees rules ok code (b ∷ bs) (jumpdest t)) → (b ≡ s.first) × (bs ≡ s.rest)
      first-is s = let e = s.path-is in (cc, cc)

      arrives-tests : (g : Option Sym) → (own rules code b).goes ≡ g → Tests (arrives rules code t bs g) (Sees rules ok code (b ∷ bs) (jumpdest t))
      arrives-tests none e = record {
        yes = λ q. never (cc);
        no = λ _ s. let f = s.goes in let g = ap (λ (a : ℕ). (own rules code a).goes) (first-is s).0 in never (cc);
      }
      arrives-tests (some x) e =
          let k = jumpdest-tests t (looked rules code x bs) in
          record {
            yes = λ on. record { first = b; rest = bs; path-is = refl; symbol = x; goes = e; sees = sym (looked-replayed rules ok code x bs) ∙ k.yes on };
            no = λ off s.
                let f = s.goes in
                let g = ap (λ (a : ℕ). (own rules code a).goes) (first-is s).0 in
                let same : s.symbol ≡ x = cc in
                k.no off (looked-replayed rules ok code x bs ∙ rw (← same, (first-is s).1) s.sees);
          }

    sees-tests : (path : List ℕ) → Tests (sees? rules code t path) (Sees rules ok code path (jumpdest t))
    sees-tests [] = record { yes = λ e. never (cc); no = λ _ s. let e = s.path-is in never (cc) }
    sees-tests (b ∷ bs) = arrives-tests b bs (own rules code b).goes refl

  -- ---- the path entry

  module _ (code : List ℕ) (m : Map) (b : ℕ) (path : List ℕ) (t : ℕ) where
    -- what the inspector finds of it
    pub data Judged : Option ℕ → Type 0 where
      is_right : Right code m b path t → Judged none
      fails-at : {i : ℕ} → Fails code m b path t i → Judged (some i)

    sees-judged : (seen : Bool) → Tests seen (Sees rules ok code path (jumpdest t)) → ((i : ℕ) → i < length path → Fit code m b path i) → Judged (or_symbol seen none)
    sees-judged seen k f =
        both Judged seen
        (λ on. let s = k.yes on in is_right (record { begins = rw s.path-is (omega arith); fits = f; sees = s }))
        (λ off. by_length (length path) refl (k.no off))
      where
        by_length : (n : ℕ) → length path ≡ n → ¬ Sees rules ok code path (jumpdest t) → Judged (some 0)
        by_length zero e h = fails-at (is-empty e)
        by_length (suc n) e h = fails-at (only-symbol (omega arith) f h)

    found-judged : {o : Option ℕ} → FirstFailing code m (λ a. a ≡ b) path 0 o → Judged (or_symbol (sees? rules code t path) o)
    found-judged (all_fit f) = sees-judged (sees? rules code t path) (sees-tests code t path) f
    found-judged (one-fails {i} l n f) = subst (λ (k : ℕ). Judged (some k)) (omega arith) (fails-at (at_block l n f))

    -- The inspector finds the entry right, or a place where it fails,
    pub judged : Judged (fault rules code m b path t)
    unfolding fault
    judged = found-judged (first-fails code m (λ a. a ≡ b) (eqb b) (λ a. tests_by (eqb b a) (λ e. sym (eqb-true b a e)) (λ e. eq-eqb b a (sym e))) path 0)

    -- and there is one such finding.
    right-fails : {i : ℕ} → Right code m b path t → Fails code m b path t i → ⊥
    right-fails r (at_block l n f) = n (r.fits _ l)
    right-fails r (is-empty e) = omega (arith, r.begins)
    right-fails r (only-symbol l f n) = n r.sees

    fails-once : {i j : ℕ} → Fails code m b path t i → Fails code m b path t j → i ≡ j
    fails-once (at_block {i} l n f) (at_block {i = j} l' n' f') =
        let not-above : ¬ (j < i) = λ h. n' (f j h) in
        let not-below : ¬ (i < j) = λ h. n (f' i h) in
        omega arith
    fails-once (at_block l n f) (is-empty e) = absurd (omega arith)
    fails-once (at_block l n f) (only-symbol k g h) = absurd (n (g _ l))
    fails-once (is-empty e) (at_block l n f) = absurd (omega arith)
    fails-once (is-empty e) (is-empty e') = refl
    fails-once (is-empty e) (only-symbol k g h) = refl
    fails-once (only-symbol k g h) (at_block l n f) = absurd (n (g _ l))
    fails-once (only-symbol k g h) (is-empty e) = refl
    fails-once (only-symbol k g h) (only-symbol k' g' h') = refl

    right-then : (o : Option ℕ) → Judged o → Right code m b path t → o ≡ none
    right-then none j r = refl
    right-then (some i) (fails-at f) r = absurd (right-fails r f)

    fails-then : (o : Option ℕ) → Judged o → {i : ℕ} → Fails code m b path t i → o ≡ some i
    fails-then none (is_right r) f = absurd (right-fails r f)
    fails-then (some j) (fails-at g) f = ap some (fails-once g f)

    then-right : (o : Option ℕ) → Judged o → o ≡ none → Right code m b path t
    then-right none (is_right r) e = r
    then-right (some i) j e = never (cc)

    then-fails : (o : Option ℕ) → Judged o → {i : ℕ} → o ≡ some i → Fails code m b path t i
    then-fails none j e = never (cc)
    then-fails (some j) (fails-at f) {i} e = subst (Fails code m b path t) (cc) f

    -- No fault is found exactly where the entry is right,
    pub right-exactly : (fault rules code m b path t ≡ none) ↔ Right code m b path t
    right-exactly = (then-right (fault rules code m b path t) judged, right-then (fault rules code m b path t) judged)

    -- and a place is named exactly where it fails there.
    pub fails-exactly : (i : ℕ) → (fault rules code m b path t ≡ some i) ↔ Fails code m b path t i
    fails-exactly i = (then-fails (fault rules code m b path t) judged, fails-then (fault rules code m b path t) judged)

-- The laws of chains. Assumes nothing.
use Rattle.std.proofs.Common.{◌≡◌, ℕ, zero, suc, ◌<◌, ◌≤◌, Bool, true, false, ◌&&◌, ◌||◌, eqb, leb, ◌⊎◌, sym, refl, ap, ◌∙◌, inl, inr, arith, eq-eqb, ne_eqb, eqb-true, le-leb}
use native.Mathlib.Decide.{dec_lt}
use borrow.Author.Tests.{eqb-false, lt-leb}
use Rattle.spec.specs.Lists.{if}
use Rattle.spec.specs.Rooms.{or_else}
use Rattle.tables.specs.Chains.{newest, following, any}

-- a number is a key, or is not
pub keyed : (x y : ℕ) → (x ≡ y) ⊎ (x ≡ y → ⊥)
keyed x y = go (eqb x y) refl
  where
    go : (b : Bool) → eqb x y ≡ b → (x ≡ y) ⊎ (x ≡ y → ⊥)
    go true e = inl (eqb-true x y e)
    go false e = inr (eqb-false x y e)

module _ (key : ℕ → ℕ) (h : ℕ) where
  -- ---- the newest

  pub newest-here : (m : ℕ) → key m ≡ h → newest key h (suc m) ≡ suc m
  unfolding newest if
  newest-here m e = rw (eq-eqb (key m) h e)

  pub newest-other : (m : ℕ) → (key m ≡ h → ⊥) → newest key h (suc m) ≡ newest key h m
  unfolding newest if
  newest-other m e = rw (ne_eqb (key m) h e)

  newest-none : newest key h 0 ≡ 0
  unfolding newest
  newest-none = refl

  pub newest-le : (m : ℕ) → newest key h m ≤ m
  newest-le zero = omega (arith, newest-none)
  newest-le (suc m) = go (keyed (key m) h) (newest-le m)
    where
      go : (key m ≡ h) ⊎ (key m ≡ h → ⊥) → newest key h m ≤ m → newest key h (suc m) ≤ suc m
      go (inl e) l = omega (arith, newest-here m e)
      go (inr e) l = omega (arith, newest-other m e)

  -- what it is
  pub newest-is : (m l : ℕ) → newest key h m ≡ suc l → (l < m) × (key l ≡ h)
  newest-is zero l e = absurd (omega (arith, newest-none))
  newest-is (suc m) l e = go (keyed (key m) h) (newest-is m l)
    where
      go : (key m ≡ h) ⊎ (key m ≡ h → ⊥) → (newest key h m ≡ suc l → (l < m) × (key l ≡ h)) → (l < suc m) × (key l ≡ h)
      go (inl k) ih = let z : m ≡ l = omega (arith, newest-here m k) in (omega arith, rw z at k)
      go (inr k) ih = let p = ih (sym (newest-other m k) ∙ e) in (omega (arith, p.0), p.1)

  -- none is newer
  pub newest-last : (m i : ℕ) → i < m → key i ≡ h → suc i ≤ newest key h m
  newest-last zero i l e = absurd (omega arith)
  newest-last (suc m) i l e = go (keyed (key m) h) (newest-last m i)
    where
      go : (key m ≡ h) ⊎ (key m ≡ h → ⊥) → (i < m → key i ≡ h → suc i ≤ newest key h m) → suc i ≤ newest key h (suc m)
      go (inl k) ih = omega (arith, newest-here m k)
      go (inr k) ih = rw (newest-other m k) (ih (differ (keyed i m)) e)
        where
          differ : (i ≡ m) ⊎ (i ≡ m → ⊥) → i < m
          differ (inl z) = absurd (k (rw z at e))
          differ (inr z) = omega arith

  pub newest-again : (m : ℕ) → newest key h (newest key h m) ≡ newest key h m
  newest-again zero = rw (newest-none, newest-none)
  newest-again (suc m) = go (keyed (key m) h) (newest-again m)
    where
      go : (key m ≡ h) ⊎ (key m ≡ h → ⊥) → newest key h (newest key h m) ≡ newest key h m → newest key h (newest key h (suc m)) ≡ newest key h (suc m)
      go (inl k) ih = ap (newest key h) (newest-here m k)
      go (inr k) ih = rw (newest-other m k) ih

  -- the newest of its prefix has the key
  pub newest-key : (m : ℕ) → newest key h (suc m) ≡ suc m → key m ≡ h
  newest-key m e = (newest-is (suc m) m e).1

  -- ---- a test that only rows with the key can pass needs only them

  module _ (f : ℕ → Bool) where
    pub any-newest : (m : ℕ) → ((i : ℕ) → i < m → f i ≡ true → key i ≡ h) → any f (newest key h m) ≡ any f m
    unfolding any
    any-newest zero p = ap (any f) newest-none
    any-newest (suc m) p = go (keyed (key m) h) (any-newest m (λ i l. p i (omega arith)))
      where
        missed : (key m ≡ h → ⊥) → (b : Bool) → f m ≡ b → f m || any f m ≡ any f m
        missed k true e = absurd (k (p m (omega arith) e))
        missed k false e = rw e

        go : (key m ≡ h) ⊎ (key m ≡ h → ⊥) → any f (newest key h m) ≡ any f m → any f (newest key h (suc m)) ≡ f m || any f m
        go (inl k) ih = ap (any f) (newest-here m k)
        go (inr k) ih = ap (any f) (newest-other m k) ∙ ih ∙ sym (missed k (f m) refl)

  -- ---- those that follow

  module _ (i : ℕ) where
    following-none : following key h i 0 ≡ 0
    unfolding following
    following-none = refl

    or-else-zero : (a : ℕ) → or_else a 0 ≡ a
    or-else-zero zero = refl
    or-else-zero (suc a) = refl

    pub following-other : (m : ℕ) → (key m ≡ h → ⊥) → following key h i (suc m) ≡ following key h i m
    unfolding following if
    following-other m e = rw (ne_eqb (key m) h e) (go (leb i m))
      where
        go : (b : Bool) → or_else (following key h i m) (if (b && false) (suc m) 0) ≡ following key h i m
        go true = or-else-zero _
        go false = or-else-zero _

    pub following-before : (m : ℕ) → m < i → following key h i (suc m) ≡ following key h i m
    unfolding following if
    following-before m l = rw (lt-leb i m l) (or-else-zero _)

    pub following-new : (m : ℕ) → following key h i m ≡ 0 → i ≤ m → key m ≡ h → following key h i (suc m) ≡ suc m
    unfolding following if
    following-new m z l e = rw (z, le-leb i m l, eq-eqb (key m) h e)

    pub following-stays : (m k : ℕ) → following key h i m ≡ suc k → following key h i (suc m) ≡ suc k
    unfolding following
    following-stays m k e = rw e

    -- what it is: it has the key, and none before it has
    pub record Follows (m j : ℕ) : Type 0 where
      pub from : i ≤ j
      pub below : j < m
      pub has : key j ≡ h
      pub first : (k : ℕ) → i ≤ k → k < j → key k ≡ h → ⊥

    -- none has the key
    pub record Ends (m : ℕ) : Type 0 where
      pub none : (k : ℕ) → i ≤ k → k < m → key k ≡ h → ⊥

    is-more : {m j : ℕ} → Follows m j → Follows (suc m) j
    is-more f = record { from = f.from; below = omega (arith, f.below); has = f.has; first = f.first }

    ends_more : {m : ℕ} → (i ≤ m → key m ≡ h → ⊥) → Ends m → Ends (suc m)
    ends_more {m} n e = record { none = λ k a b c. go k a b c (keyed k m) }
      where
        go : (k : ℕ) → i ≤ k → k < suc m → key k ≡ h → (k ≡ m) ⊎ (k ≡ m → ⊥) → ⊥
        go k a b c (inl z) = n (rw z at a) (rw z at c)
        go k a b c (inr z) = e.none k a (omega arith) c

    -- all that it says, by the number that it is
    pub data Follower (m : ℕ) : ℕ → Type 0 where
      ends : Ends m → Follower m 0
      goes : {j : ℕ} → Follows m j → Follower m (suc j)

    pub follower : (m : ℕ) → Follower m (following key h i m)
    follower zero = rw following-none (ends (record { none = λ k a b c. omega arith }))
    follower (suc m) = step (following key h i m) refl (follower m)
      where
        fresh : Ends m → following key h i m ≡ 0 → (key m ≡ h) ⊎ (key m ≡ h → ⊥) → Dec (m < i) → Follower (suc m) (following key h i (suc m))
        fresh e z (inr k) d = rw (following-other m k, z) (ends (ends_more (λ l. k) e))
        fresh e z (inl k) (yes l) = rw (following-before m l, z) (ends (ends_more (λ a. absurd (omega arith)) e))
        fresh e z (inl k) (no l) = rw (following-new m z (omega arith) k) (goes {j = m} (record { from = omega arith; below = omega arith; has = k; first = e.none }))

        step : (x : ℕ) → following key h i m ≡ x → Follower m x → Follower (suc m) (following key h i (suc m))
        step x z (ends e) = fresh e z (keyed (key m) h) (dec_lt m i)
        step x z (goes {j} f) = rw (following-stays m j z) (goes (is-more f))

    pub following-is : (m j : ℕ) → following key h i m ≡ suc j → Follows m j
    following-is m j e = go (rw e at (follower m))
      where
        go : Follower m (suc j) → Follows m j
        go (goes f) = f

    pub following-end : (m : ℕ) → following key h i m ≡ 0 → Ends m
    following-end m e = go (rw e at (follower m))
      where
        go : Follower m 0 → Ends m
        go (ends f) = f

    -- and so it is found
    pub ends-following : (m : ℕ) → Ends m → following key h i m ≡ 0
    ends-following m e = go (following key h i m) refl
      where
        go : (x : ℕ) → following key h i m ≡ x → following key h i m ≡ 0
        go zero z = z
        go (suc j) z = let f = following-is m j z in absurd (e.none j f.from f.below f.has)

-- ---- two tables with the same keys

module _ (key key' : ℕ → ℕ) (h : ℕ) where
  pub newest-same : (m : ℕ) → ((i : ℕ) → i < m → key' i ≡ key i) → newest key' h m ≡ newest key h m
  unfolding newest
  newest-same zero e = refl
  newest-same (suc m) e = rw (e m (omega arith), newest-same m (λ i l. e i (omega arith)))

  pub following-same : (i m : ℕ) → ((j : ℕ) → j < m → key' j ≡ key j) → following key' h i m ≡ following key h i m
  unfolding following
  following-same i zero e = refl
  following-same i (suc m) e = rw (e m (omega arith), following-same i m (λ j l. e j (omega arith)))

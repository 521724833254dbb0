-- A row more on its chain: the laws of `Chained` and `Ordered`. Assumes nothing.
use Rattle.std.proofs.Common.{◌≡◌, ℕ, zero, suc, ◌-◌, ◌<◌, ◌≤◌, Bool, true, false, ◌||◌, ◌⊎◌, sym, refl, ap, ◌∙◌, inl, inr, arith, Option, Some, None}
use native.Mathlib.Decide.{dec_lt}
use Rattle.tables.specs.Chains.{newest, link_of, following, any, Chained, Ordered, Keyed, Left}
use Rattle.tables.proofs.Chains.{keyed, newest-le, newest-again, newest-key, any-newest, newest-here, newest-other, newest-is, newest-last, newest-same, following-new, following-other, following-stays, following-same, following-end, ends-following}

-- below m + 1 is below m, or m
pub below : (m i : ℕ) → i < suc m → (i < m) ⊎ (i ≡ m)
below m i l = go (dec_lt i m)
  where
    go : Dec (i < m) → (i < m) ⊎ (i ≡ m)
    go (yes h) = inl h
    go (no h) = inr (omega arith)

-- ---- along a chain, by a test that only its rows pass

module _ {key link head : ℕ → ℕ} {b m : ℕ} (c : Chained key link head b m) (f : ℕ → Bool) (h : ℕ) (inside : (i : ℕ) → i < m → f i ≡ true → key i ≡ h) where
  left-newest : (j x : ℕ) → j ≤ m → x ≡ newest key h j → any f j ≡ any f m → Left key f m h x
  left-newest j x l e g =
      record {
        most = omega (arith, newest-le key h j);
        links = rw e (newest-again key h j);
        finds = ap (any f) e ∙ any-newest key h f j (λ i k. inside i (omega arith)) ∙ g;
      }

  pub left-first : h < b → {x : ℕ} → x ≡ head h → Left key f m h x
  left-first l {x} e = left-newest m x (omega arith) (e ∙ c.heads h l) refl

  module _ {cur : ℕ} (l : Left key f m h cur) where
    pub left-none : cur ≡ 0 → false ≡ any f m
    unfolding any
    left-none e = rw e at l.finds

    module _ (d : cur ≡ 0 → ⊥) where
      here : suc (cur - 1) ≡ cur
      here = omega arith

      pub left_below : cur - 1 < m
      left_below = omega (arith, l.most)

      all : f (cur - 1) || any f (cur - 1) ≡ any f m
      unfolding any
      all = ap (any f) here ∙ l.finds

      pub left-hit : {t : Bool} → t ≡ f (cur - 1) → t ≡ true → true ≡ any f m
      left-hit e g = rw (← e, g) at all

      module _ {x : ℕ} (e : x ≡ link (cur - 1)) where
        stepped : x ≡ newest key h (cur - 1)
        stepped = e ∙ c.links (cur - 1) left_below ∙ ap (λ (k : ℕ). newest key k (cur - 1)) (newest-key key h (cur - 1) (rw here l.links))

        pub left_less : x < cur
        left_less = omega (arith, stepped, newest-le key h (cur - 1))

        pub left-more : {t : Bool} → t ≡ f (cur - 1) → t ≡ false → Left key f m h x
        left-more g z = left-newest (cur - 1) x (omega (arith, left_below)) stepped (rw (← g, z) at all)

-- ---- the same by the rows alone: a link is the newest row before, with the same key

module _ {key : ℕ → ℕ} {f : ℕ → Bool} {m h : ℕ} (k : Keyed key f m h) where
  hung : Chained key (λ (i : ℕ). newest key (key i) i) (λ (k : ℕ). newest key k m) (suc h) m
  hung = record { links = λ i l. refl; heads = λ k l. refl }

  pub walk-first : {x : ℕ} → x ≡ newest key h m → Left key f m h x
  walk-first e = left-first hung f h k.inside (omega arith) e

  module _ {o : Option ℕ} (l : Left key f m h (link_of o)) where
    pub walk-none : o ≡ None → false ≡ any f m
    walk-none e = left-none hung f h k.inside l (ap link_of e)

    module _ {row : ℕ} (e : o ≡ Some row) where
      some-left : link_of o ≡ 0 → ⊥
      some-left z = omega (arith, ap link_of e)

      back : link_of o - 1 ≡ row
      back = omega (arith, ap link_of e)

      pub walk-hit : {t : Bool} → t ≡ f row → t ≡ true → true ≡ any f m
      walk-hit g = left-hit hung f h k.inside l some-left (rw back g)

      module _ {x : ℕ} (g : x ≡ newest key (key row) row) where
        pub walk-less : x < link_of o
        walk-less = left_less hung f h k.inside l some-left (rw back g)

        pub walk-more : {t : Bool} → t ≡ f row → t ≡ false → Left key f m h x
        walk-more i = left-more hung f h k.inside l some-left (rw back g) (rw back i)

-- ---- newest first

module _ {key link head : ℕ → ℕ} {b m : ℕ} (key' link' head' : ℕ → ℕ) (c : Chained key link head b m)
    (keys : (i : ℕ) → i < m → key' i ≡ key i) (links : (i : ℕ) → i < m → link' i ≡ link i) where
  -- the rows that were there
  kept-links : (i : ℕ) → i < m → link' i ≡ newest key' (key' i) i
  kept-links i l =
      links i l ∙ c.links i l ∙ sym (ap (λ (h : ℕ). newest key h i) (keys i l)) ∙ sym (newest-same key key' (key' i) i (λ j k. keys j (omega arith)))

  kept-heads : (h : ℕ) → h < b → head h ≡ newest key' h m
  kept-heads h l = c.heads h l ∙ sym (newest-same key key' h m keys)

  pub chained_same : ((h : ℕ) → h < b → head' h ≡ head h) → Chained key' link' head' b m
  chained_same heads = record { links = kept-links; heads = λ h l. heads h l ∙ kept-heads h l }

  -- a row more, at the head of its chain
  pub chained_more : key' m < b → link' m ≡ head (key' m) → head' (key' m) ≡ suc m
      → ((h : ℕ) → h < b → (h ≡ key' m → ⊥) → head' h ≡ head h) → Chained key' link' head' b (suc m)
  chained_more k l e heads = record { links = λ i h. link-of i (below m i h); heads = λ h g. head_of h g (keyed h (key' m)) }
    where
      link-of : (i : ℕ) → (i < m) ⊎ (i ≡ m) → link' i ≡ newest key' (key' i) i
      link-of i (inl h) = kept-links i h
      link-of i (inr z) = rw z (l ∙ kept-heads (key' m) k)

      head_of : (h : ℕ) → h < b → (h ≡ key' m) ⊎ (h ≡ key' m → ⊥) → head' h ≡ newest key' h (suc m)
      head_of h g (inl z) = ap head' z ∙ e ∙ sym (newest-here key' h m (sym z))
      head_of h g (inr z) = heads h g z ∙ kept-heads h g ∙ sym (newest-other key' h m (λ q. z (sym q)))

-- ---- oldest first

pub ordered_same : {key next first last key' next' first' last' : ℕ → ℕ} {n m : ℕ} → Ordered key next first last n m
    → ((i : ℕ) → i < m → key' i ≡ key i) → ((i : ℕ) → i < m → next' i ≡ next i)
    → ((a : ℕ) → a ≤ n → first' a ≡ first a) → ((a : ℕ) → a ≤ n → last' a ≡ last a) → Ordered key' next' first' last' n m
ordered_same {key} {key' = key'} {m = m} o keys nexts firsts lasts =
    record {
      nexts = λ i l h. nexts i l ∙ o.nexts i l (rw (keys i l) at h) ∙ sym (ap (λ (a : ℕ). following key a (suc i) m) (keys i l)) ∙ sym (following-same key key' (key' i) (suc i) m keys);
      stops = λ i l h. nexts i l ∙ o.stops i l (rw (keys i l) at h);
      firsts = λ a l. firsts a l ∙ o.firsts a l ∙ sym (following-same key key' a 0 m keys);
      lasts = λ a l. lasts a l ∙ o.lasts a l ∙ sym (newest-same key key' a m keys);
    }

-- none follows the end
past : (key : ℕ → ℕ) (a m : ℕ) → following key a (suc m) (suc m) ≡ 0
past key a m = ends-following key a (suc m) (suc m) (record { none = λ k f g e. omega arith })

-- one that is there is followed to
there : (key : ℕ → ℕ) (a i m l : ℕ) → i ≤ l → l < m → key l ≡ a → following key a i (suc m) ≡ following key a i m
there key a i m l f g e = go (following key a i m) refl
  where
    go : (x : ℕ) → following key a i m ≡ x → following key a i (suc m) ≡ following key a i m
    go zero z = absurd ((following-end key a i m z).none l f g e)
    go (suc j) z = following-stays key a i m j z ∙ sym z

module _ {key next first last : ℕ → ℕ} {n m : ℕ} (o : Ordered key next first last n m) where
  -- a row more, whose key is above n
  pub ordered-none : n < key m → next m ≡ 0 → Ordered key next first last n (suc m)
  ordered-none k z =
      record {
        nexts = λ i l h. next_of i (below m i l) h;
        stops = λ i l h. stop-of i (below m i l) h;
        firsts = λ a l. o.firsts a l ∙ sym (following-other key a 0 m (λ e. omega arith));
        lasts = λ a l. o.lasts a l ∙ sym (newest-other key a m (λ e. omega arith));
      }
    where
      next_of : (i : ℕ) → (i < m) ⊎ (i ≡ m) → key i ≤ n → next i ≡ following key (key i) (suc i) (suc m)
      next_of i (inl l) h = o.nexts i l h ∙ sym (following-other key (key i) (suc i) m (λ e. omega arith))
      next_of i (inr e) h = absurd (omega (arith, ap key e))

      stop-of : (i : ℕ) → (i < m) ⊎ (i ≡ m) → n < key i → next i ≡ 0
      stop-of i (inl l) h = o.stops i l h
      stop-of i (inr e) h = ap next e ∙ z

  -- a row more, at the end of the chain of a
  module _ (next' first' last' : ℕ → ℕ) (a : ℕ) (inside : a ≤ n) (k : key m ≡ a) (z : next' m ≡ 0) (new : last' a ≡ suc m)
      (lasts : (x : ℕ) → x ≤ n → (x ≡ a → ⊥) → last' x ≡ last x) where
    last-of : (x : ℕ) → x ≤ n → last' x ≡ newest key x (suc m)
    last-of x l = go (keyed x a)
      where
        go : (x ≡ a) ⊎ (x ≡ a → ⊥) → last' x ≡ newest key x (suc m)
        go (inl e) = ap last' e ∙ new ∙ sym (newest-here key x m (k ∙ sym e))
        go (inr e) = lasts x l e ∙ o.lasts x l ∙ sym (newest-other key x m (λ f. e (sym f ∙ k)))

    next-at : (i : ℕ) → i ≡ m → next' i ≡ following key (key i) (suc i) (suc m)
    next-at i e = rw e (z ∙ sym (past key (key m) m))

    -- the other chains
    first-other : (x : ℕ) → x ≤ n → (x ≡ a → ⊥) → first x ≡ following key x 0 (suc m)
    first-other x l e = o.firsts x l ∙ sym (following-other key x 0 m (λ f. e (sym f ∙ k)))

    next-other : (i : ℕ) → i < m → key i ≤ n → (key i ≡ a → ⊥) → next i ≡ following key (key i) (suc i) (suc m)
    next-other i l h e = o.nexts i l h ∙ sym (following-other key (key i) (suc i) m (λ f. e (sym f ∙ k)))

    -- the chain was empty
    pub ordered-first : last a ≡ 0 → first' a ≡ suc m → ((x : ℕ) → x ≤ n → (x ≡ a → ⊥) → first' x ≡ first x)
        → ((i : ℕ) → i < m → next' i ≡ next i) → Ordered key next' first' last' n (suc m)
    ordered-first none f firsts nexts =
        record {
          nexts = λ i l h. next_of i (below m i l) h;
          stops = λ i l h. stop-of i (below m i l) h;
          firsts = λ x l. first_of x l (keyed x a);
          lasts = last-of;
        }
      where
        absent : (i : ℕ) → i < m → key i ≡ a → ⊥
        absent i l e = omega (arith, newest-last key a m i l e, o.lasts a inside)

        next_of : (i : ℕ) → (i < m) ⊎ (i ≡ m) → key i ≤ n → next' i ≡ following key (key i) (suc i) (suc m)
        next_of i (inl l) h = nexts i l ∙ next-other i l h (absent i l)
        next_of i (inr e) h = next-at i e

        stop-of : (i : ℕ) → (i < m) ⊎ (i ≡ m) → n < key i → next' i ≡ 0
        stop-of i (inl l) h = nexts i l ∙ o.stops i l h
        stop-of i (inr e) h = ap next' e ∙ z

        first_of : (x : ℕ) → x ≤ n → (x ≡ a) ⊎ (x ≡ a → ⊥) → first' x ≡ following key x 0 (suc m)
        first_of x l (inl e) = rw e (f ∙ sym (following-new key a 0 m (ends-following key a 0 m (record { none = λ i _. absent i })) (omega arith) k))
        first_of x l (inr e) = firsts x l e ∙ first-other x l e

    -- the chain ended with l
    pub ordered-next : (l : ℕ) → last a ≡ suc l → next' l ≡ suc m → ((i : ℕ) → i < m → (i ≡ l → ⊥) → next' i ≡ next i)
        → ((x : ℕ) → x ≤ n → first' x ≡ first x) → Ordered key next' first' last' n (suc m)
    ordered-next l ends f nexts firsts =
        record {
          nexts = λ i g h. next_of i (below m i g) h (keyed i l) (keyed (key i) a);
          stops = λ i g h. stop-of i (below m i g) h (keyed i l);
          firsts = λ x g. first_of x g (keyed x a);
          lasts = last-of;
        }
      where
        at-end : (l < m) × (key l ≡ a)
        at-end = newest-is key a m l (sym (o.lasts a inside) ∙ ends)

        newer : (i : ℕ) → i < m → key i ≡ a → i ≤ l
        newer i g e = omega (arith, newest-last key a m i g e, o.lasts a inside)

        next_of : (i : ℕ) → (i < m) ⊎ (i ≡ m) → key i ≤ n → (i ≡ l) ⊎ (i ≡ l → ⊥) → (key i ≡ a) ⊎ (key i ≡ a → ⊥) → next' i ≡ following key (key i) (suc i) (suc m)
        next_of i (inr e) h d w = next-at i e
        next_of i (inl g) h (inl e) w =
            rw (e, at-end.1, f) (sym (following-new key a (suc l) m (ends-following key a (suc l) m (record { none = λ j b c q. omega (arith, newer j c q) })) (omega (arith, at-end.0)) k))
        next_of i (inl g) h (inr d) (inl e) =
            nexts i g d ∙ o.nexts i g h ∙ rw e (sym (there key a (suc i) m l (omega (arith, newer i g e)) at-end.0 at-end.1))
        next_of i (inl g) h (inr d) (inr e) = nexts i g d ∙ next-other i g h e

        stop-of : (i : ℕ) → (i < m) ⊎ (i ≡ m) → n < key i → (i ≡ l) ⊎ (i ≡ l → ⊥) → next' i ≡ 0
        stop-of i (inr e) h d = ap next' e ∙ z
        stop-of i (inl g) h (inl e) = absurd (omega (arith, at-end.1, ap key e))
        stop-of i (inl g) h (inr d) = nexts i g d ∙ o.stops i g h

        first_of : (x : ℕ) → x ≤ n → (x ≡ a) ⊎ (x ≡ a → ⊥) → first' x ≡ following key x 0 (suc m)
        first_of x g (inl e) = firsts x g ∙ o.firsts x g ∙ rw e (sym (there key a 0 m l (omega arith) at-end.0 at-end.1))
        first_of x g (inr e) = firsts x g ∙ first-other x g e

-- The laws of remembering in a turn, one for each way out. Assumes nothing.
use Rattle.std.proofs.Common.{◌≡◌, ℕ, zero, suc, ◌+◌, ◌*◌, ◌<◌, ◌≤◌, Bool, ◌||◌, ◌⊎◌, List, ◌∷◌, length, take, drop, sym, refl, ap, ◌∙◌, subst, ap₂, inl, inr, add-one, arith, le-leb}
use borrow.Author.Tests.{lt-leb}
use Rattle.spec.specs.Lists.{if, little, some?, total}
use Rattle.spec.specs.Stacks.{cells}
use Rattle.spec.specs.Search.{Met}
use Rattle.lent.specs.Bytes.{Stored}
use Rattle.lent.proofs.Parts.{part-prefix}
use Rattle.lent.proofs.Stored.{read_back}
use Rattle.layout.specs.Seens.{seen_place, T-SYMBOL, T-HEAD, block_at, place_at, cells_at, stamp_at, top_at}
use Rattle.state.specs.Cells.{sym_at, stack_at, Lies}
use Rattle.state.proofs.Syms.{syms-within}
use Rattle.state.proofs.States.{state-lies, lies_within, lies-count}
use Rattle.tables.specs.Chains.{newest, any}
use Rattle.tables.specs.Recording.{short_of}
use Rattle.tables.specs.Rows.{shelf_at, met_at, met_of, seen_met, equal_met, is_met, used_of, MetRow, Shelves, Stamped, Finds, Pushes, Pushed}
use Rattle.tables.specs.Sums.{stamp, bucket_of}
use Rattle.tables.specs.Mets.{Remembers, Packs, Fresh, Memorizes, remembering, Memorized, Heads, Begins, Emptied, Wiped, Forgetting}
use Rattle.tables.specs.declared.Rooms.{Rooms}
use Rattle.tables.specs.declared.Counts.{Counts}
use Rattle.tables.specs.declared.row.Seen.{Seen}
use Rattle.tables.proofs.Chains.{keyed, newest-here, newest-other}
use Rattle.tables.proofs.Orders.{below}
use Rattle.tables.proofs.Shelves.{told-stamp, tells-stamp, told-then, head-told, head-part, head-other}

-- ---- found, or not

mets-any : (t s : List ℕ) (x : Met) (m : ℕ) → any (is_met t s x) m ≡ some? (equal_met x) (met_of t s m)
unfolding any met_of
mets-any t s x zero = refl
mets-any t s x (suc m) = ap (λ (b : Bool). equal_met x (met_at t s m) || b) (mets-any t s x m)

pub met-found : (t s : List ℕ) (x : Seen) (m : ℕ) {r : Bool} → r ≡ any (is_met t s (seen_met s x)) m → r ≡ some? (equal_met (seen_met s x)) (met_of t s m)
met-found t s x m e = e ∙ mets-any t s (seen_met s x) m

module _ {buckets : ℕ} {k : Rooms} {t s : List ℕ} {c : Counts} {x : Seen} where
  pub fresh-finds : {sum : ℕ} → 1 ≤ buckets → Remembers buckets k t s c → Fresh s c x → Stamped s x sum → Finds t s buckets c.rows x sum
  fresh-finds b h f g = record { state = f.state; stamped = g; rows = h.rows; some = b; shelves = h.shelves }

  -- ---- a row more

  pub row-short : Remembers buckets k t s c → k.t < c.rows + 1 → Memorized buckets k t s c x t (record { code = 6; counts = c })
  unfolding short_of if
  row-short h l =
      record {
        code = rw (lt-leb (c.rows + 1) k.t l);
        made = λ e. absurd (omega arith);
        pushed = λ e. absurd (omega arith);
        counts = λ e. absurd (omega arith);
        refused = λ e. (refl, refl);
        remembers = h;
        packs = λ first p. p;
        long = refl;
      }

  module _ {sum : ℕ} (h : Memorizes buckets k t s c x sum) where
    module _ (l : c.rows + 1 ≤ k.t) where
      pub row-pushes : Pushes buckets t c.rows x sum
      row-pushes =
          let r = h.remembers in
          let f = h.fresh in
          record {
            some = h.some;
            shelves = r.shelves;
            in_t = omega arith;
            small = omega arith;
            last = f.last;
            from = omega arith;
            cells = omega arith;
            stamped = h.stamped.small;
          }

      module _ {t' : List ℕ} (p : Pushed buckets t c.rows x sum t') where
        met-same : (i : ℕ) → i < c.rows → met_at t' s i ≡ met_at t s i
        unfolding met_at
        met-same i b = let o = p.rows i b in rw (o.block, o.symbol, o.place, o.cells)

        mets-same : (m : ℕ) → m ≤ c.rows → met_of t' s m ≡ met_of t s m
        unfolding met_of
        mets-same zero b = refl
        mets-same (suc m) b = rw (met-same m b, mets-same m (omega arith))

        used-same : (first m : ℕ) → m ≤ c.rows → used_of t' first m ≡ used_of t first m
        unfolding used_of
        used-same first zero b = refl
        used-same first (suc m) b = ap₂ (λ (u v : ℕ). u + v) (used-same first m (omega arith)) (p.rows m b).cells

        met-new : met_at t' s c.rows ≡ seen_met s x
        unfolding met_at
        met-new = let o = p.tells in rw (o.block, o.symbol, o.place, o.cells)

        row_kept : (i : ℕ) → i < c.rows → MetRow t' s i
        row_kept i b =
            let r = h.remembers.rows i b in
            let o = p.rows i b in
            record {
              in_t = omega (arith, r.in_t, p.long);
              state = rw (o.place, o.cells) r.state;
              stamped = told-stamp o ∙ r.stamped ∙ sym (rw (o.block, o.symbol, o.place, o.cells));
            }

        row_new : MetRow t' s c.rows
        row_new =
            let o = p.tells in
            record {
              in_t = omega (arith, row-pushes.in_t, p.long);
              state = rw (o.place, o.cells) h.fresh.state;
              stamped = tells-stamp o ∙ h.stamped.is ∙ sym (rw (o.block, o.symbol, o.place, o.cells));
            }

        rows_all : (i : ℕ) → (i < c.rows) ⊎ (i ≡ c.rows) → MetRow t' s i
        rows_all i (inl b) = row_kept i b
        rows_all i (inr e) = rw e row_new

        inside-all : (i : ℕ) → (i < c.rows) ⊎ (i ≡ c.rows) → place_at t' i + cells_at t' i ≤ c.used + x.cells
        inside-all i (inl b) = omega (arith, h.remembers.inside i b, (p.rows i b).place, (p.rows i b).cells)
        inside-all i (inr e) = rw e (omega (arith, h.fresh.next, p.tells.place, p.tells.cells))

        remembers-more : Remembers buckets k t' s (remembering c x)
        remembers-more =
            let r = h.remembers in
            record {
              rows = λ i b. rows_all i (below c.rows i (omega arith));
              inside = λ i b. inside-all i (below c.rows i (omega arith));
              shelves = rw add-one p.shelves;
              fits_t = l;
              lent_t = omega (arith, p.long);
              most_t = r.most_t;
              fits_s = omega (arith, h.fresh.next, h.fresh.state.fits);
              most_s = h.fresh.most;
            }

        packs-more : (first : ℕ) → Packs first t c → Packs first t' (remembering c x)
        unfolding used_of
        packs-more first q =
            record { is = rw add-one (omega (arith, used-same first c.rows (omega arith), p.tells.cells, q.is)) }

        mets-more : met_of t' s (c.rows + 1) ≡ seen_met s x ∷ met_of t s c.rows
        unfolding met_of
        mets-more = rw (add-one, met-new, mets-same c.rows (omega arith))

        memorized-so : Memorized buckets k t s c x t' (record { code = 0; counts = remembering c x })
        unfolding short_of if
        memorized-so =
            record {
              code = rw (le-leb (c.rows + 1) k.t l);
              made = λ e. mets-more;
              pushed = λ e. subst (λ (v : ℕ). Pushed buckets t c.rows x v t') h.stamped.is p;
              counts = λ e. refl;
              refused = λ e. absurd (e refl);
              remembers = remembers-more;
              packs = packs-more;
              long = p.long;
            }

        pub memorized : {d : Counts} → d ≡ remembering c x → Memorized buckets k t s c x t' (record { code = 0; counts = d })
        memorized e = rw e memorized-so

-- ---- empty shelves

heads-none : (buckets : ℕ) (t : List ℕ) → Heads buckets t t
heads-none buckets t =
    record {
      told = λ i. record { block = refl; symbol = refl; place = refl; cells = refl; summed = refl; marked = refl; chain = refl };
      parts = λ n i o l. refl;
      tops = λ h l. refl;
      long = refl;
    }

heads-then : {buckets : ℕ} {t t₁ t₂ : List ℕ} (h v : ℕ) → h < buckets → Heads buckets t t₁ → Stored 4 t₁ (seen_place h + T-HEAD) (little 4 v) t₂ → Heads buckets t t₂
heads-then h v b o s =
    record {
      told = λ i. told-then (o.told i) (head-told h v s i);
      parts = λ n i k l. head-part h v s n i k l ∙ o.parts n i k l;
      tops = λ k l. head-other h v s k (λ z. omega arith) ∙ o.tops k l;
      long = s.kept ∙ o.long;
    }

emptied : {buckets : ℕ} {t t' : List ℕ} → Begins buckets t → Heads buckets t t' → ((h : ℕ) → h < buckets → top_at t' h ≡ 0) → Emptied buckets t t'
unfolding newest
emptied b o z =
    record {
      shelves = record {
        some = λ d. absurd (d refl);
        in_t = omega (arith, b.in_t, o.long);
        most_t = omega arith;
        chained = record { links = λ i l. absurd (omega arith); heads = z };
      };
      heads = o;
    }

module _ {buckets : ℕ} {t : List ℕ} where
  -- all of them, before the first turn
  module _ {h : ℕ} {t₁ : List ℕ} (o : Wiped buckets t h t₁) where
    pub wiped-more : {t₂ : List ℕ} → h < buckets → Stored 4 t₁ (seen_place h + T-HEAD) (little 4 0) t₂ → Wiped buckets t (h + 1) t₂
    wiped-more {t₂} l s = record { most = omega arith; zeros = λ k b. go k (below h k (omega arith)); heads = heads-then h 0 l o.heads s }
      where
        go : (k : ℕ) → (k < h) ⊎ (k ≡ h) → top_at t₂ k ≡ 0
        go k (inl b) = head-other h 0 s k (λ z. omega arith) ∙ o.zeros k b
        go k (inr e) = rw e (read_back s (omega arith))

    pub wiped-all : Begins buckets t → buckets ≤ h → Emptied buckets t t₁
    wiped-all b l = emptied b o.heads (λ k c. o.zeros k (omega arith))

  -- those of a turn's rows, when it ends
  module _ {m : ℕ} (c : Shelves buckets t m) where
    pub forgets-none : Forgetting buckets t m 0 t
    unfolding newest
    forgets-none = record { most = omega arith; keeps = λ h l e. refl; zeros = λ h l d. absurd (d refl); heads = heads-none buckets t }

    module _ {i : ℕ} {t₁ : List ℕ} (o : Forgetting buckets t m i t₁) where
      pub forgets-more : {v h : ℕ} {t₂ : List ℕ} → i < m → v ≡ stamp_at t₁ i → h ≡ bucket_of buckets v → h < buckets → Stored 4 t₁ (seen_place h + T-HEAD) (little 4 0) t₂
          → Forgetting buckets t m (i + 1) t₂
      unfolding shelf_at
      forgets-more {v} {h} {t₂} l g e b s =
          record {
            most = omega arith;
            keeps = λ k a z. keeps-of k a (rw add-one at z) (keyed k h);
            zeros = λ k a d. zeros_of k a (λ z. d (rw add-one z)) (keyed k h);
            heads = heads-then h 0 b o.heads s;
          }
        where
          mine : shelf_at buckets t i ≡ h
          mine = ap (bucket_of buckets) (sym (told-stamp (o.heads.told i)) ∙ sym g) ∙ sym e

          other : (k : ℕ) → (k ≡ h → ⊥) → newest (shelf_at buckets t) k (suc i) ≡ newest (shelf_at buckets t) k i
          other k d = newest-other (shelf_at buckets t) k i (λ z. d (sym z ∙ mine))

          keeps-of : (k : ℕ) → k < buckets → newest (shelf_at buckets t) k (suc i) ≡ 0 → (k ≡ h) ⊎ (k ≡ h → ⊥) → top_at t₂ k ≡ top_at t k
          keeps-of k a z (inl q) = absurd (omega (arith, z, newest-here (shelf_at buckets t) k i (mine ∙ sym q)))
          keeps-of k a z (inr q) = head-other h 0 s k q ∙ o.keeps k a (sym (other k q) ∙ z)

          zeros_of : (k : ℕ) → k < buckets → (newest (shelf_at buckets t) k (suc i) ≡ 0 → ⊥) → (k ≡ h) ⊎ (k ≡ h → ⊥) → top_at t₂ k ≡ 0
          zeros_of k a d (inl q) = rw q (read_back s (omega arith))
          zeros_of k a d (inr q) = head-other h 0 s k q ∙ o.zeros k a (λ z. d (other k q ∙ z))

      pub forgets-all : m ≤ i → Emptied buckets t t₁
      forgets-all l =
          emptied (record { in_t = c.in_t }) o.heads (λ k b. go k b (keyed (newest (shelf_at buckets t) k i) 0))
        where
          last : i ≡ m
          last = omega (arith, o.most)

          go : (k : ℕ) → k < buckets → (newest (shelf_at buckets t) k i ≡ 0) ⊎ (newest (shelf_at buckets t) k i ≡ 0 → ⊥) → top_at t₁ k ≡ 0
          go k b (inl z) = o.keeps k b z ∙ c.chained.heads k b ∙ ap (newest (shelf_at buckets t) k) (sym last) ∙ z
          go k b (inr z) = o.zeros k b z

-- ---- what the rows depend on, and what they come to

module _ {buckets : ℕ} {k : Rooms} {t s : List ℕ} {c : Counts} (r : Remembers buckets k t s c) where
  module _ (s' : List ℕ) (front : take (9 * c.used) s' ≡ take (9 * c.used) s) (long : length s ≤ length s') where
    part_same : (i : ℕ) → i < c.rows → take (9 * cells_at t i) (drop (9 * place_at t i) s) ≡ take (9 * cells_at t i) (drop (9 * place_at t i) s')
    part_same i l = sym (part-prefix s' s (9 * c.used) front (9 * cells_at t i) (9 * place_at t i) (omega (arith, r.inside i l)))

    lies_same : (i : ℕ) → i < c.rows → Lies s' (9 * place_at t i) (cells_at t i) (stack_at s (9 * place_at t i) (cells_at t i))
    lies_same i l =
        let fits : 9 * place_at t i + 9 * cells_at t i ≤ length s' = omega (arith, (r.rows i l).state.fits) in
        lies_within (part_same i l) fits (state-lies s (9 * place_at t i) (cells_at t i) (r.rows i l).state)

    upto : (m : ℕ) → m ≤ c.rows → met_of t s' m ≡ met_of t s m
    unfolding met_of met_at
    upto zero l = refl
    upto (suc m) l = rw ((lies_same m l).is, upto m (omega arith))

    pub mets-kept : met_of t s' c.rows ≡ met_of t s c.rows
    mets-kept = upto c.rows (omega arith)

    pub remembers-kept : Remembers buckets k t s' c
    remembers-kept =
        record {
          rows = λ i l. record {
            in_t = (r.rows i l).in_t;
            state = (lies_same i l).state;
            stamped = (r.rows i l).stamped ∙ ap (stamp (block_at t i) (sym_at t (seen_place i + T-SYMBOL))) (syms-within s s' (9 * place_at t i) (9 * place_at t i) (cells_at t i) (part_same i l));
          };
          inside = r.inside;
          shelves = r.shelves;
          fits_t = r.fits_t;
          lent_t = r.lent_t;
          most_t = r.most_t;
          fits_s = omega (arith, r.fits_s);
          most_s = r.most_s;
        }

  cells-upto : (first m : ℕ) → m ≤ c.rows → first + total (λ (x : Met). cells x.stack) (met_of t s m) ≡ used_of t first m
  unfolding met_of met_at used_of
  cells-upto first zero l = omega arith
  cells-upto first (suc m) l =
      omega (arith, cells-upto first m (omega arith), lies-count (state-lies s (9 * place_at t m) (cells_at t m) (r.rows m l).state))

  -- the cells of a first state and of those remembered
  pub mets-cells : (first : ℕ) → Packs first t c → first + total (λ (x : Met). cells x.stack) (met_of t s c.rows) ≡ c.used
  mets-cells first p = cells-upto first c.rows (omega arith) ∙ p.is

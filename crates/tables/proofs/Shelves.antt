-- The laws of a remembered row more, on its shelf. Assumes nothing.
use Rattle.std.proofs.Common.{◌≡◌, ℕ, ◌+◌, ◌*◌, ◌/◌, ◌%◌, ◌^◌, ◌<◌, ◌≤◌, List, take, drop, sym, ap, ◌∙◌, ap₂, add-zero, add-one, arith}
use native.Mathlib.Decide.{dec_lt}
use Rattle.spec.specs.Lists.{little}
use Rattle.spec.specs.Stacks.{Sym}
use Rattle.lent.specs.Bytes.{num_at, Holds, Stored}
use Rattle.lent.proofs.Parts.{part-prefix, part-suffix}
use Rattle.lent.proofs.Numbers.{number-little, num-prefix, num-suffix}
use Rattle.lent.proofs.Stored.{kept-take, kept-drop, kept-part, kept-num, read-num, read_all, read_back, stored-join}
use Rattle.layout.specs.Seens.{seen_place, T-SYMBOL, T-MARK, T-FROM, T-CELLS, T-SUM, T-LINK, T-HEAD, block_at, stamp_at, chain_at, top_at}
use Rattle.state.specs.Symbols.{sym_of}
use Rattle.state.specs.Cells.{sym_at, Put}
use Rattle.tables.specs.Sums.{bucket_of}
use Rattle.tables.specs.Rows.{shelf_at, Tells, SameTold, SeenPut, place_bytes, Tellable, RowPut, Pushes, Pushed}
use Rattle.tables.specs.declared.row.Seen.{Seen}
use Rattle.tables.proofs.Orders.{chained_more}

-- a symbol that a store does not meet
pub sym-kept : {k at : ℕ} {b bs b' : List ℕ} → Stored k b at bs b' → (i : ℕ) → (i < at + k → i + 9 ≤ at) → sym_at b' i ≡ sym_at b i
unfolding sym_at
sym-kept s i h = rw (kept-num s 1 i (λ g. omega (arith, h g)), kept-num s 8 (i + 1) (λ g. omega (arith, h (omega arith))))

-- ---- the stores of a row

pub seen-put : {t t₁ t₂ : List ℕ} {at : ℕ} (last : ℕ) (x : Sym) → last < 2 ^ 16 → Stored 2 t at (little 2 last) t₁ → Put t₁ (at + T-SYMBOL) x t₂ → SeenPut t at last x t₂
seen-put last x h a b = record { stored = stored-join a b.stored; small = h; reads = b.reads }

pub place-stored : (at from cells sum link : ℕ) {t t₁ t₂ t₃ t₄ : List ℕ} → Stored 4 t (at + T-FROM) (little 4 from) t₁
    → Stored 4 t₁ (at + T-CELLS) (little 4 cells) t₂ → Stored 4 t₂ (at + T-SUM) (little 4 sum) t₃ → Stored 4 t₃ (at + T-LINK) (little 4 link) t₄
    → Stored 16 t (at + T-FROM) (place_bytes from cells sum link) t₄
unfolding place_bytes
place-stored at from cells sum link a b c d =
    let e : at + T-CELLS ≡ at + T-FROM + 4 = omega arith in
    let f : at + T-SUM ≡ at + T-FROM + 8 = omega arith in
    let g : at + T-LINK ≡ at + T-FROM + 12 = omega arith in
    stored-join (stored-join (stored-join a (rw e at b)) (rw f at c)) (rw g at d)

module _ (i : ℕ) (x : Seen) (sum link : ℕ) {t t₁ t₂ t₃ : List ℕ} (h : Tellable x sum link) (a : SeenPut t (seen_place i) x.last (sym_of x.symbol) t₁)
    (m : Stored 1 t₁ (seen_place i + T-MARK) (little 1 (sum % 256)) t₂) (b : Stored 16 t₂ (seen_place i + T-FROM) (place_bytes x.from x.cells (sum / 256) link) t₃) where
  block_read : block_at t₁ i ≡ x.last
  unfolding num_at
  block_read = ap (num_at 2 t₁) (sym (add-zero (seen_place i))) ∙ read-num a.stored 2 0 (omega arith) ∙ number-little 2 x.last h.last

  told : Tells t₃ i x sum link
  unfolding place_bytes num_at
  told =
      let p : seen_place i + T-FROM + 0 ≡ seen_place i + T-FROM = omega arith in
      let c : seen_place i + T-FROM + 4 ≡ seen_place i + T-CELLS = omega arith in
      let d : seen_place i + T-FROM + 8 ≡ seen_place i + T-SUM = omega arith in
      let l : seen_place i + T-FROM + 12 ≡ seen_place i + T-LINK = omega arith in
      record {
        block = kept-num b 2 (seen_place i) (λ g. omega arith) ∙ kept-num m 2 (seen_place i) (λ g. omega arith) ∙ block_read;
        symbol = sym-kept b (seen_place i + T-SYMBOL) (λ g. omega arith) ∙ sym-kept m (seen_place i + T-SYMBOL) (λ g. omega arith) ∙ a.reads;
        place = ap (num_at 4 t₃) (sym p) ∙ read-num b 4 0 (omega arith) ∙ number-little 4 x.from h.from;
        cells = ap (num_at 4 t₃) (sym c) ∙ read-num b 4 4 (omega arith) ∙ number-little 4 x.cells h.cells;
        summed = ap (num_at 4 t₃) (sym d) ∙ read-num b 4 8 (omega arith) ∙ number-little 4 (sum / 256) (omega (arith, h.stamped));
        marked = kept-num b 1 (seen_place i + T-MARK) (λ g. omega arith) ∙ read_back m (omega arith);
        chain = ap (num_at 4 t₃) (sym l) ∙ read-num b 4 12 (omega arith) ∙ number-little 4 link h.chain;
      }

  pub row_put : RowPut t i x sum link t₃
  row_put =
      record {
        tells = told;
        seen = kept-part b 11 (seen_place i) (λ g. omega arith) ∙ kept-part m 11 (seen_place i) (λ g. omega arith) ∙ read_all a.stored;
        front = kept-take b (seen_place i) (omega arith) ∙ kept-take m (seen_place i) (omega arith) ∙ kept-take a.stored (seen_place i) (omega arith);
        mark = kept-part b 1 (seen_place i + T-MARK) (λ g. omega arith) ∙ read_all m;
        back = kept-drop b (seen_place i + T-HEAD) (omega arith) ∙ kept-drop m (seen_place i + T-HEAD) (omega arith) ∙ kept-drop a.stored (seen_place i + T-HEAD) (omega arith);
        long = b.kept ∙ m.kept ∙ a.stored.kept;
      }

-- the sum and the mark are one number
pub told-stamp : {t t' : List ℕ} {i : ℕ} → SameTold t t' i → stamp_at t' i ≡ stamp_at t i
unfolding stamp_at
told-stamp s = ap₂ (λ (a b : ℕ). a * 256 + b) s.summed s.marked

pub tells-stamp : {t : List ℕ} {i : ℕ} {x : Seen} {sum link : ℕ} → Tells t i x sum link → stamp_at t i ≡ sum
unfolding stamp_at
tells-stamp s = ap₂ (λ (a b : ℕ). a * 256 + b) s.summed s.marked ∙ omega arith

-- ---- what a row leaves of the others

sym-prefix : (l m : List ℕ) (n i : ℕ) → take n l ≡ take n m → i + 9 ≤ n → sym_at l i ≡ sym_at m i
unfolding sym_at
sym-prefix l m n i e h = rw (num-prefix l m n e 1 i (omega arith), num-prefix l m n e 8 (i + 1) (omega arith))

pub told-then : {t t₁ t₂ : List ℕ} {i : ℕ} → SameTold t t₁ i → SameTold t₁ t₂ i → SameTold t t₂ i
told-then p q =
    record {
      block = q.block ∙ p.block;
      symbol = q.symbol ∙ p.symbol;
      place = q.place ∙ p.place;
      cells = q.cells ∙ p.cells;
      summed = q.summed ∙ p.summed;
      marked = q.marked ∙ p.marked;
      chain = q.chain ∙ p.chain;
    }

-- the head of a shelf
module _ (h v : ℕ) {t t' : List ℕ} (s : Stored 4 t (seen_place h + T-HEAD) (little 4 v) t') where
  pub head-told : (i : ℕ) → SameTold t t' i
  head-told i =
      record {
        block = kept-num s 2 (seen_place i) (λ g. omega arith);
        symbol = sym-kept s (seen_place i + T-SYMBOL) (λ g. omega arith);
        place = kept-num s 4 (seen_place i + T-FROM) (λ g. omega arith);
        cells = kept-num s 4 (seen_place i + T-CELLS) (λ g. omega arith);
        summed = kept-num s 4 (seen_place i + T-SUM) (λ g. omega arith);
        marked = kept-num s 1 (seen_place i + T-MARK) (λ g. omega arith);
        chain = kept-num s 4 (seen_place i + T-LINK) (λ g. omega arith);
      }

  pub head-part : (n i o : ℕ) → o + n ≤ 28 → take n (drop (seen_place i + o) t') ≡ take n (drop (seen_place i + o) t)
  head-part n i o l = kept-part s n (seen_place i + o) (λ g. omega arith)

  pub head-other : (k : ℕ) → (k ≡ h → ⊥) → top_at t' k ≡ top_at t k
  head-other k d = kept-num s 4 (seen_place k + T-HEAD) (λ g. omega arith)

pub shelf-same : (buckets : ℕ) {t t' : List ℕ} {i : ℕ} → SameTold t t' i → shelf_at buckets t' i ≡ shelf_at buckets t i
unfolding shelf_at
shelf-same buckets s = ap (bucket_of buckets) (told-stamp s)

-- ---- on its shelf

module _ {buckets : ℕ} {t : List ℕ} {m : ℕ} {x : Seen} {sum : ℕ} (p : Pushes buckets t m x sum) {h y : ℕ} (e : h ≡ bucket_of buckets sum) (b : h < buckets) (g : Holds 4 t (seen_place h + T-HEAD) y) where
  module _ {t₁ t₂ : List ℕ} (r : RowPut t m x sum y t₁) (s : Stored 4 t₁ (seen_place h + T-HEAD) (little 4 (m + 1)) t₂) where
    row_before : (i : ℕ) → i < m → SameTold t t₁ i
    row_before i l =
        record {
          block = num-prefix t₁ t (seen_place m) r.front 2 (seen_place i) (omega arith);
          symbol = sym-prefix t₁ t (seen_place m) (seen_place i + T-SYMBOL) r.front (omega arith);
          place = num-prefix t₁ t (seen_place m) r.front 4 (seen_place i + T-FROM) (omega arith);
          cells = num-prefix t₁ t (seen_place m) r.front 4 (seen_place i + T-CELLS) (omega arith);
          summed = num-prefix t₁ t (seen_place m) r.front 4 (seen_place i + T-SUM) (omega arith);
          marked = num-prefix t₁ t (seen_place m) r.front 1 (seen_place i + T-MARK) (omega arith);
          chain = num-prefix t₁ t (seen_place m) r.front 4 (seen_place i + T-LINK) (omega arith);
        }

    rows_told : (i : ℕ) → i < m → SameTold t t₂ i
    rows_told i l = told-then (row_before i l) (head-told h (m + 1) s i)

    now-tells : Tells t₂ m x sum y
    now-tells =
        let o = head-told h (m + 1) s m in
        record {
          block = o.block ∙ r.tells.block;
          symbol = o.symbol ∙ r.tells.symbol;
          place = o.place ∙ r.tells.place;
          cells = o.cells ∙ r.tells.cells;
          summed = o.summed ∙ r.tells.summed;
          marked = o.marked ∙ r.tells.marked;
          chain = o.chain ∙ r.tells.chain;
        }

    top-before : (k : ℕ) → top_at t₁ k ≡ top_at t k
    top-before k = go (dec_lt k m)
      where
        go : Dec (k < m) → top_at t₁ k ≡ top_at t k
        go (yes l) = num-prefix t₁ t (seen_place m) r.front 4 (seen_place k + T-HEAD) (omega arith)
        go (no l) = num-suffix t₁ t (seen_place m + T-HEAD) r.back 4 (seen_place k + T-HEAD) (omega arith)

    shelf : shelf_at buckets t₂ m ≡ h
    unfolding shelf_at
    shelf = ap (bucket_of buckets) (tells-stamp now-tells) ∙ sym e

    apart : (k : ℕ) → (k ≡ shelf_at buckets t₂ m → ⊥) → k ≡ h → ⊥
    apart k d z = d (z ∙ sym shelf)

    pub pushed : Pushed buckets t m x sum t₂
    pushed =
        record {
          shelves = record {
            some = λ d. p.some;
            in_t = omega (arith, p.shelves.in_t, r.long, s.kept);
            most_t = omega (arith, p.in_t, r.long, s.kept);
            chained =
                chained_more (shelf_at buckets t₂) (chain_at t₂) (top_at t₂) p.shelves.chained (λ i l. shelf-same buckets (rows_told i l)) (λ i l. (rows_told i l).chain)
                (omega (arith, shelf))
                (now-tells.chain ∙ g.is ∙ ap (top_at t) (sym shelf))
                (ap (top_at t₂) shelf ∙ read_back s p.small ∙ add-one m)
                (λ k c d. head-other h (m + 1) s k (apart k d) ∙ top-before k);
          };
          link = y;
          tells = now-tells;
          rows = rows_told;
          seen = kept-part s 11 (seen_place m) (λ q. omega arith) ∙ r.seen;
          mark = kept-part s 1 (seen_place m + T-MARK) (λ q. omega arith) ∙ r.mark;
          older = λ i l. kept-part s 28 (seen_place i) (λ q. omega arith) ∙ part-prefix t₁ t (seen_place m) r.front 28 (seen_place i) (omega arith);
          later = λ i l. kept-part s 28 (seen_place i) (λ q. omega arith) ∙ part-suffix t₁ t (seen_place m + T-HEAD) r.back 28 (seen_place i) (omega arith);
          tops = λ k l. head-other h (m + 1) s k (λ z. omega arith) ∙ top-before k;
          long = s.kept ∙ r.long;
        }

-- Tables that hold the same records: the bytes that these stand in are the same, and so are the links. Assumes nothing.
use Rattle.std.proofs.Common.{◌≡◌, ℕ, zero, suc, ◌+◌, ◌-◌, ◌*◌, ◌<◌, ◌≤◌, ◌⊎◌, List, [], ◌∷◌, ◌++◌, length, take, drop, sym, refl, ap, ◌∙◌, inl, inr, arith, take_all, eq-eqb, ne_eqb}
use native.Mathlib.Decide.{dec_lt}
use lib.Seq.{take-append-le}
use Rattle.spec.specs.Lists.{total}
use Rattle.spec.specs.Search.{Found, nowhere, found, Rec, kept}
use Rattle.laws.proofs.Branch.{if-true, if-false}
use Rattle.lent.specs.Bytes.{num_at}
use Rattle.lent.proofs.Parts.{drop_more}
use Rattle.lent.proofs.Once.{Bytes, Same, same-num, same-as, same_then, same_rows, same_whole}
use Rattle.layout.specs.Fields.{FIRST-FOUND, LAST-FOUND, COUNT, first_found_at, last_found_at}
use Rattle.layout.specs.Marks.{NOWHERE, to_number}
use Rattle.layout.specs.Parts.{fields_place, list_place, buckets_place, bucket_place, SameRows, PastBuckets}
use Rattle.layout.specs.Records.{record_place, R-TO, R-FREE, start_at, to_at, next_at, link_at, sum_at, energy_at, end_of, kept_of}
use Rattle.layout.proofs.Once.{same-to-list}
use Rattle.state.specs.Cells.{stack_at, Lies}
use Rattle.state.proofs.Syms.{split}
use Rattle.state.proofs.Once.{one_lies}
use Rattle.tables.specs.Addrs.{addrs, path_sum}
use Rattle.tables.specs.Chains.{newest, following}
use Rattle.tables.specs.Records.{bucket_at, path_at, found_at, rec_at, recs_of}
use Rattle.tables.specs.Tables.{Mem, recs, Goes, leads_nowhere, leads, Tables, Stays}
use Rattle.tables.specs.declared.Rooms.{Rooms}
use Rattle.tables.specs.declared.Counts.{Counts}
use Rattle.tables.proofs.Chains.{keyed, newest-same, following-same}
use Rattle.tables.proofs.Links.{bucket-same}
use Rattle.tables.proofs.Frames.{kept-rises, kept-grow}
use Rattle.tables.proofs.Counted.{recs-length, recs-addresses, recs-kept-cells}

-- equal addresses have equal bytes
pub addrs-same : {b d : List ℕ} → Bytes b → Bytes d → length b ≡ length d → (i n : ℕ) → addrs b i n ≡ addrs d i n → Same b d (2 * i) (2 * n)
unfolding addrs
addrs-same p q long i zero e = record { is = refl }
addrs-same {b} {d} p q long i (suc n) e =
    let first : num_at 2 b (2 * i) ≡ num_at 2 d (2 * i) = cc in
    let rest : addrs b (i + 1) n ≡ addrs d (i + 1) n = cc in
    same-as (same_then (same-num p q long 2 (2 * i) first) (addrs-same p q long (i + 1) n rest) (omega arith)) refl (omega arith)

-- ---- tables with the same records: the bytes that these stand in, and the links

module _ (r s : List ℕ) (room i : ℕ) {x : Found} (e : found_at r s room i ≡ x) where
  goes-nowhere : to_at r i ≡ NOWHERE → nowhere ≡ x
  unfolding found_at
  goes-nowhere h = sym (if-true _ _ _ (eq-eqb (to_at r i) NOWHERE h)) ∙ e

  goes-found : (to_at r i ≡ NOWHERE → ⊥) → found (to_at r i) (stack_at s (9 * (room - kept_of r (suc i))) (kept_of r (suc i) - kept_of r i)) ≡ x
  unfolding found_at
  goes-found h = sym (if-false _ _ _ (ne_eqb (to_at r i) NOWHERE h)) ∙ e

  goes_to : to_at r i ≡ to_number x
  goes_to = go (keyed (to_at r i) NOWHERE)
    where
      go : (to_at r i ≡ NOWHERE) ⊎ (to_at r i ≡ NOWHERE → ⊥) → to_at r i ≡ to_number x
      go (inl h) = h ∙ ap to_number (goes-nowhere h)
      go (inr h) = ap to_number (goes-found h)

recs-take : (r q s : List ℕ) (room m i : ℕ) → i ≤ m → take i (recs_of r q s room m) ≡ recs_of r q s room i
unfolding recs_of
recs-take r q s room zero i h = let z : i ≡ 0 = omega arith in rw z
recs-take r q s room (suc m) i h = go (dec_lt i (suc m)) (recs-take r q s room m i)
  where
    go : Dec (i < suc m) → (i ≤ m → take i (recs_of r q s room m) ≡ recs_of r q s room i)
        → take i (recs_of r q s room m ++ rec_at r q s room m ∷ []) ≡ recs_of r q s room i
    go (yes l) ih = take-append-le i (recs_of r q s room m) (rec_at r q s room m ∷ []) (omega (arith, recs-length r q s room m)) ∙ ih (omega arith)
    go (no l) ih =
        let e : i ≡ suc m = omega arith in
        rw e (take_all (suc m) (recs_of r q s room m ++ rec_at r q s room m ∷ []) (omega (arith, recs-length r q s room (suc m))))

kept-zero : (r : List ℕ) → kept_of r 0 ≡ 0
unfolding kept_of
kept-zero r = refl

module _ {n buckets : ℕ} {k : Rooms} {m m' : Mem} {c : Counts} (p : Tables n buckets k m c) (q : Tables n buckets k m' c) (same : recs k m c ≡ recs k m' c) where
  upto : (i : ℕ) → i ≤ c.records → recs_of m.r m.q m.s k.s i ≡ recs_of m'.r m'.q m'.s k.s i
  upto i h = sym (recs-take m.r m.q m.s k.s c.records i h) ∙ ap (take i) same ∙ recs-take m'.r m'.q m'.s k.s c.records i h

  rec : (i : ℕ) → i < c.records → rec_at m.r m.q m.s k.s i ≡ rec_at m'.r m'.q m'.s k.s i
  unfolding recs_of
  rec i h =
      let long : length (recs_of m.r m.q m.s k.s i) ≡ length (recs_of m'.r m'.q m'.s k.s i) =
      recs-length m.r m.q m.s k.s i ∙ sym (recs-length m'.r m'.q m'.s k.s i) in
      let last = (split (recs_of m.r m.q m.s k.s i) (rec_at m.r m.q m.s k.s i ∷ []) (recs_of m'.r m'.q m'.s k.s i)
      (rec_at m'.r m'.q m'.s k.s i ∷ []) long (upto (suc i) h)).1 in
      cc last

  starts : (i : ℕ) → i < c.records → start_at m.r i ≡ start_at m'.r i
  unfolding rec_at
  starts i h = ap (λ (y : Rec). y.start) (rec i h)

  founds : (i : ℕ) → i < c.records → found_at m.r m.s k.s i ≡ found_at m'.r m'.s k.s i
  unfolding rec_at
  founds i h = ap (λ (y : Rec). y.to) (rec i h)

  paths : (i : ℕ) → i < c.records → path_at m.r m.q i ≡ path_at m'.r m'.q i
  unfolding rec_at
  paths i h = ap (λ (y : Rec). y.path) (rec i h)

  energies : (i : ℕ) → i < c.records → energy_at m.r i ≡ energy_at m'.r i
  unfolding rec_at
  energies i h = ap (λ (y : Rec). y.energy) (rec i h)

  tos : (i : ℕ) → i < c.records → to_at m.r i ≡ to_at m'.r i
  tos i h = goes_to m.r m.s k.s i (founds i h) ∙ sym (goes_to m'.r m'.s k.s i refl)

  sums : (i : ℕ) → i < c.records → sum_at m.r i ≡ sum_at m'.r i
  sums i h = (p.rows i h).sum ∙ ap path_sum (paths i h) ∙ sym (q.rows i h).sum

  ends : (i : ℕ) → i ≤ c.records → end_of m.r i ≡ end_of m'.r i
  ends i h =
      sym (recs-addresses m.r m.q m.s k.s {m = i} (λ j l. p.rows j (omega arith))) ∙ ap (total (λ (x : Rec). length x.path)) (upto i h)
      ∙ recs-addresses m'.r m'.q m'.s k.s {m = i} (λ j l. q.rows j (omega arith))

  kepts : (i : ℕ) → i ≤ c.records → kept_of m.r i ≡ kept_of m'.r i
  kepts i h =
      sym (recs-kept-cells m.r m.q m.s k.s p.few {m = i} (λ j l. p.goes j (omega arith))) ∙ ap (total (λ (x : Rec). kept x.to)) (upto i h)
      ∙ recs-kept-cells m'.r m'.q m'.s k.s q.few {m = i} (λ j l. q.goes j (omega arith))

  shelf : (i : ℕ) → i < c.records → bucket_at buckets m.r i ≡ bucket_at buckets m'.r i
  shelf i h = bucket-same buckets m'.r m.r i (sums i h)

  nexts : (i : ℕ) → i < c.records → next_at m.r i ≡ next_at m'.r i
  nexts i l = go (dec_lt n (to_at m.r i))
    where
      go : Dec (n < to_at m.r i) → next_at m.r i ≡ next_at m'.r i
      go (yes h) = p.parents.stops i l h ∙ sym (q.parents.stops i l (omega (arith, tos i l)))
      go (no h) =
          p.parents.nexts i l (omega arith)
          ∙ following-same (to_at m'.r) (to_at m.r) (to_at m.r i) (suc i) c.records tos
          ∙ ap (λ (y : ℕ). following (to_at m'.r) y (suc i) c.records) (tos i l)
          ∙ sym (q.parents.nexts i l (omega (arith, tos i l)))

  links : (i : ℕ) → i < c.records → link_at m.r i ≡ link_at m'.r i
  links i l =
      p.chains.chained.links i l
      ∙ newest-same (bucket_at buckets m'.r) (bucket_at buckets m.r) (bucket_at buckets m.r i) i (λ j h. shelf j (omega arith))
      ∙ ap (λ (y : ℕ). newest (bucket_at buckets m'.r) y i) (shelf i l)
      ∙ sym (q.chains.chained.links i l)

  -- the rows of R but for their free bytes
  module _ (b : Bytes m.r) (d : Bytes m'.r) (long : length m.r ≡ length m'.r) where
    row-bytes : (i : ℕ) → i < c.records → Same m.r m'.r (record_place i) 28
    unfolding end_of kept_of
    row-bytes i l =
        let at : (o : ℕ) → num_at 4 m.r (record_place i + o) ≡ num_at 4 m'.r (record_place i + o) → Same m.r m'.r (record_place i + o) 4 = λ o e. same-num b d long 4 (record_place i + o) e in
        let front : Same m.r m'.r (record_place i) 4 = same_then (same-num b d long 2 (record_place i) (starts i l)) (same-num b d long 2 (record_place i + R-TO) (tos i l)) refl in
        let half : Same m.r m'.r (record_place i) 12 = same_then (same_then front (at 4 (ends (suc i) l)) refl) (at 8 (kepts (suc i) l)) refl in
        same_then (same_then (same_then (same_then half (at 12 (nexts i l)) refl) (at 16 (links i l)) refl) (at 20 (sums i l)) refl) (at 24 (energies i l)) refl

  -- the addresses of Q in use
  module _ (b : Bytes m.q) (d : Bytes m'.q) (long : length m.q ≡ length m'.q) where
    path_bytes : (i : ℕ) → i ≤ c.records → Same m.q m'.q 0 (2 * end_of m.r i)
    unfolding end_of path_at
    path_bytes zero h = record { is = refl }
    path_bytes (suc i) h =
        let path : addrs m.q (end_of m.r i) (end_of m.r (suc i) - end_of m.r i) ≡ addrs m'.q (end_of m.r i) (end_of m.r (suc i) - end_of m.r i) =
        paths i h ∙ rw (ends (suc i) h, ends i (omega arith)) in
        same-as (same_then (path_bytes i (omega arith)) (addrs-same b d long (end_of m.r i) (end_of m.r (suc i) - end_of m.r i) path) (omega arith)) refl
        (omega (arith, (p.rows i h).rises))

  -- the kept cells of S
  state-bytes : (i : ℕ) → i < c.records → Same m.s m'.s (9 * (k.s - kept_of m.r (suc i))) (9 * (kept_of m.r (suc i) - kept_of m.r i))
  state-bytes i h = go (p.goes i h) (q.goes i h)
    where
      go : Goes n k.s m.r m.s i → Goes n k.s m'.r m'.s i
          → Same m.s m'.s (9 * (k.s - kept_of m.r (suc i))) (9 * (kept_of m.r (suc i) - kept_of m.r i))
      go (leads_nowhere e z) g = let none_kept : 9 * (kept_of m.r (suc i) - kept_of m.r i) ≡ 0 = omega arith in rw none_kept (record { is = refl })
      go (leads e t) (leads_nowhere f z) = absurd (omega (arith, tos i h, p.few))
      go (leads e t) (leads f u) =
          let one = goes-found m.r m.s k.s i (founds i h) (omega (arith, p.few)) in
          let two = goes-found m'.r m'.s k.s i refl (omega (arith, p.few)) in
          let stack : stack_at m.s (9 * (k.s - kept_of m.r (suc i))) (kept_of m.r (suc i) - kept_of m.r i)
          ≡ stack_at m'.s (9 * (k.s - kept_of m'.r (suc i))) (kept_of m'.r (suc i) - kept_of m'.r i) = cc (one, two) in
          let other : Lies m'.s (9 * (k.s - kept_of m'.r (suc i))) (kept_of m'.r (suc i) - kept_of m'.r i)
          (stack_at m.s (9 * (k.s - kept_of m.r (suc i))) (kept_of m.r (suc i) - kept_of m.r i)) = record { state = u; is = sym stack } in
          one_lies (record { state = t; is = refl }) (rw (← kepts (suc i) h, ← kepts i (omega arith)) at other)

  kept-bytes : (i : ℕ) → i ≤ c.records → Same m.s m'.s (9 * (k.s - kept_of m.r i)) (9 * kept_of m.r i)
  kept-bytes zero h = let none_kept : kept_of m.r 0 ≡ 0 = kept-zero m.r in rw none_kept (record { is = refl })
  kept-bytes (suc i) h =
      let rises : kept_of m.r i ≤ kept_of m.r (suc i) = kept-rises i (p.goes i h) in
      let most : kept_of m.r (suc i) ≤ k.s = omega (arith, kept-grow p.goes c.records (suc i) h (omega arith), p.kept, p.within.fits_s) in
      same-as (same_then (state-bytes i h) (kept-bytes i (omega arith)) (omega arith)) refl (omega arith)

  -- the first and the last found parent of each address in W, and the heads of the buckets
  module _ (b : Bytes m.w) (d : Bytes m'.w) (long : length m.w ≡ length m'.w) where
    parent-bytes : (a : ℕ) → a ≤ n → Same m.w m'.w (fields_place n a + FIRST-FOUND) 8
    parent-bytes a h =
        let first : first_found_at m.w n a ≡ first_found_at m'.w n a =
        p.parents.firsts a h ∙ following-same (to_at m'.r) (to_at m.r) a 0 c.records tos ∙ sym (q.parents.firsts a h) in
        let last : last_found_at m.w n a ≡ last_found_at m'.w n a =
        p.parents.lasts a h ∙ newest-same (to_at m'.r) (to_at m.r) a c.records tos ∙ sym (q.parents.lasts a h) in
        same_then (same-num b d long 4 (fields_place n a + FIRST-FOUND) first) (same-num b d long 4 (fields_place n a + LAST-FOUND) last) (omega arith)

    bucket-bytes : (h : ℕ) → h < buckets → Same m.w m'.w (bucket_place n h) 4
    bucket-bytes h l =
        same-num b d long 4 (bucket_place n h)
        (p.chains.chained.heads h l ∙ newest-same (bucket_at buckets m'.r) (bucket_at buckets m.r) h c.records shelf ∙ sym (q.chains.chained.heads h l))

-- every buffer holds bytes
pub record AllBytes (m : Mem) : Type 0 where
  pub w : Bytes m.w
  pub r : Bytes m.r
  pub q : Bytes m.q
  pub s : Bytes m.s

-- every buffer is as long
pub record AllLong (m m' : Mem) : Type 0 where
  pub w : length m.w ≡ length m'.w
  pub r : length m.r ≡ length m'.r
  pub q : length m.q ≡ length m'.q
  pub s : length m.s ≡ length m'.s

-- all that the records stand in, and their links, is the same
pub record OneTables (n buckets : ℕ) (k : Rooms) (c : Counts) (m m' : Mem) : Type 0 where
  pub rows : (i : ℕ) → i < c.records → Same m.r m'.r (record_place i) 28
  pub paths : Same m.q m'.q 0 (2 * c.addresses)
  pub states : Same m.s m'.s (9 * (k.s - c.kept)) (9 * c.kept)
  pub parents : (a : ℕ) → a ≤ n → Same m.w m'.w (fields_place n a + FIRST-FOUND) 8
  pub heads : Same m.w m'.w (buckets_place n) (4 * buckets)

pub one-tables : {n buckets : ℕ} {k : Rooms} {m m' : Mem} {c : Counts} → AllBytes m → AllBytes m' → AllLong m m' → Tables n buckets k m c → Tables n buckets k m' c
    → recs k m c ≡ recs k m' c → OneTables n buckets k c m m'
one-tables {n} {buckets} {k} {m} {m'} {c} b d long p q same =
    record {
      rows = row-bytes p q same b.r d.r long.r;
      paths = rw p.ends at (path_bytes p q same b.q d.q long.q c.records (omega arith));
      states = rw p.kept at (kept-bytes p q same c.records (omega arith));
      parents = parent-bytes p q same b.w d.w long.w;
      heads = same_rows (buckets_place n) 4 buckets (bucket-bytes p q same b.w d.w long.w);
    }

-- ---- a record more: where W is the same but for what a record changes in it, all four are the same

module _ {n buckets : ℕ} {k : Rooms} {r₀ q₀ s₀ : List ℕ} {m' m'' : Mem} {c d : Counts} (grew : d.records ≡ c.records + 1) (most : d.kept ≤ k.s)
    (one : OneTables n buckets k d m' m'') (p : Stays k c d r₀ q₀ s₀ m'.r m'.q m'.s) (q : Stays k c d r₀ q₀ s₀ m''.r m''.q m''.s) where
  more-r : Bytes m'.r → Bytes m''.r → m'.r ≡ m''.r
  more-r a b =
      let row : (i : ℕ) → i < c.records → Same m'.r m''.r (0 + record_place i) 32 =
      λ i l.
      let free : Same m'.r m''.r (record_place i + R-FREE) 4 = same-num a b (p.long_r ∙ sym q.long_r) 4 (record_place i + R-FREE) ((p.rows i l).free ∙ sym (q.rows i l).free) in
      same-as (same_then (one.rows i (omega arith)) free refl) (omega arith) refl in
      same_whole (record_place c.records + R-FREE) (same_then (same_rows 0 32 c.records row) (one.rows c.records (omega arith)) (omega arith)) (p.tail ∙ sym q.tail)

  more-q : m'.q ≡ m''.q
  more-q = same_whole (2 * d.addresses) one.paths (p.back_q ∙ sym q.back_q)

  more-s : m'.s ≡ m''.s
  more-s =
      let front : Same m'.s m''.s 0 (9 * (k.s - d.kept)) = record { is = p.front_s ∙ sym q.front_s } in
      let back : drop (9 * (k.s - c.kept)) m'.s ≡ drop (9 * (k.s - c.kept)) m''.s = p.back_s ∙ sym q.back_s in
      same_whole (9 * k.s) (same-as (same_then front one.states (omega arith)) refl (omega arith)) (drop_more m'.s m''.s (9 * (k.s - c.kept)) back (9 * k.s) (omega arith))

  module _ (front : SameRows n m''.w m'.w) (marks : (a : ℕ) → a ≤ n → Same m'.w m''.w (fields_place n a) 4)
      (rests : (a : ℕ) → a ≤ n → Same m'.w m''.w (fields_place n a + COUNT) 8) (work : Same m'.w m''.w (list_place n) (2 * (n + 1)))
      (back : PastBuckets n buckets m''.w m'.w) where
    more-w : m'.w ≡ m''.w
    more-w =
        let upto : Same m'.w m''.w 0 (list_place n) =
        same-to-list front (λ a h. same_then (same_then (marks a h) (one.parents a h) refl) (rests a h) refl) in
        let list : Same m'.w m''.w 0 (buckets_place n) = same-as (same_then upto work (omega arith)) refl (omega arith) in
        same_whole (bucket_place n buckets) (same_then list one.heads (omega arith)) back

    pub one_more : AllBytes m' → AllBytes m'' → m' ≡ m''
    one_more a b =
        let same-r = more-r a.r b.r in
        λ i. record { w = more-w i; r = same-r i; q = more-q i; s = more-s i }

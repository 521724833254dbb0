-- The laws of recording, one for each way out. Assumes nothing.
use Rattle.std.proofs.Common.{◌≡◌, ℕ, suc, ◌+◌, ◌*◌, Bool, true, false, ◌⊎◌, List, [], ◌∷◌, ◌++◌, length, sym, refl, ap, ◌∙◌, inl, inr, add-one, arith, Option, Some, None, unwrap_or}
use Rattle.spec.specs.Lists.{if, total}
use Rattle.spec.specs.Stacks.{cells}
use Rattle.spec.specs.Search.{Found, nowhere, found, Rec, kept, R, Q, Need, St, Turn, in_use, addresses, record_nowhere, record_found}
use Rattle.spec.specs.Rooms.{Lent, or_else, shortage}
use Rattle.theorems.proofs.Older.{clear}
use Rattle.laws.proofs.Branch.{if-true, if-false}
use Rattle.layout.specs.Marks.{NOWHERE}
use Rattle.state.specs.Cells.{stack_at}
use Rattle.state.proofs.States.{state-lies, lies-count}
use Rattle.tables.specs.Addrs.{addrs, Summed}
use Rattle.tables.specs.Records.{has_rec, Seek}
use Rattle.tables.specs.Links.{Beyond}
use Rattle.tables.specs.Tables.{Mem, mem, recs, found_by, new_found, new_rec, Enters, enters_nowhere, enters, Ready, Adds, counted, Stays, Added}
use Rattle.tables.specs.Recording.{Lends, short_of, entry_needs, noted, Holding, recorded?, Recorded}
use Rattle.tables.specs.declared.Rooms.{Rooms}
use Rattle.tables.specs.declared.Counts.{Counts}
use Rattle.tables.specs.declared.Entry.{Entry}
use Rattle.tables.specs.Replies.{Reply}
use Rattle.tables.proofs.Addrs.{addrs-length}
use Rattle.tables.proofs.Chains.{keyed}
use Rattle.tables.proofs.Links.{same-all}
use Rattle.tables.proofs.Shorts.{short-after, or-else-zero, short-rest, short-fits}
use Rattle.tables.proofs.Counted.{recs-length, recs-addresses, recs-at, recs-nowhere}

-- nothing changed
stays_all : (k : Rooms) (c : Counts) (r q s : List ℕ) → Stays k c c r q s r q s
stays_all k c r q s =
    record {
      rows = λ i l. same-all r i;
      tail = refl;
      long_r = refl;
      front_q = refl;
      back_q = refl;
      long_q = refl;
      front_s = refl;
      back_s = refl;
      long_s = refl;
    }

beyond-all : (n buckets : ℕ) (w : List ℕ) → Beyond n buckets w w
beyond-all n buckets w =
    record { apart = record { front = refl; marks = λ a l. refl; rests = λ a l. refl; long = refl }; work = refl; back = refl }

-- where an entry leads
pub new-nowhere : (s : List ℕ) (e : Entry) → e.to ≡ None → new_found s e ≡ nowhere
new-nowhere s e z = ap (λ (o : Option ℕ). found_by o (stack_at s (9 * e.from) e.cells)) z

pub new-at : (s : List ℕ) (e : Entry) {to : ℕ} → e.to ≡ Some to → new_found s e ≡ found to (stack_at s (9 * e.from) e.cells)
new-at s e z = ap (λ (o : Option ℕ). found_by o (stack_at s (9 * e.from) e.cells)) z

module _ {p w r q s : List ℕ} {np n buckets : ℕ} {k : Rooms} {c : Counts} {e : Entry} (y : Ready p np n buckets k (mem w r q s) c e) where
  abbrev path : List ℕ
  path = addrs p 0 np

  abbrev M : Mem
  M = mem w r q s

  -- what looking the path up asks
  pub ready-seek : {sum : ℕ} → Summed path sum → Seek p np w r q n buckets c.records sum
  ready-seek h = record { path = y.path; summed = h; rows = y.tables.rows; chains = y.tables.chains }

  -- what a record more asks
  pub ready-adds : {sum : ℕ} → Summed path sum → 0 ≡ short_of k (entry_needs c np e.cells) → Adds p np n buckets k M c e sum
  ready-adds h f =
      let o = short-fits k c np e.cells (sym f) in
      record { ready = y; summed = h; room_r = o.r; room_q = o.q; room_s = o.s }

  -- ---- the entry in document 01's words: the cells that it keeps, and whether it is recorded already

  new-kept : kept (new_found s e) ≡ e.cells
  new-kept = go y.entry
    where
      go : Enters n s e → kept (new_found s e) ≡ e.cells
      go (enters_nowhere z o) = ap kept (new-nowhere s e z) ∙ sym o
      go (enters z i o) = ap kept (new-at s e z) ∙ sym (lies-count (state-lies s (9 * e.from) e.cells o))

  known : has_rec r q (unwrap_or e.to NOWHERE) path c.records ≡ recorded? (new_found s e) path (recs k M c)
  known = go y.entry
    where
      go : Enters n s e → has_rec r q (unwrap_or e.to NOWHERE) path c.records ≡ recorded? (new_found s e) path (recs k M c)
      go (enters_nowhere z _) =
          ap (λ (o : Option ℕ). has_rec r q (unwrap_or o NOWHERE) path c.records) z
          ∙ sym (ap (λ (x : Found). recorded? x path (recs k M c)) (new-nowhere s e z) ∙ recs-nowhere r q s k.s path c.records)
      go (enters {to} z i _) =
          ap (λ (o : Option ℕ). has_rec r q (unwrap_or o NOWHERE) path c.records) z
          ∙ sym (ap (λ (x : Found). recorded? x path (recs k M c)) (new-at s e z) ∙ recs-at r q s k.s to (λ d. omega (arith, y.tables.few)) path c.records)

  -- ---- what document 01 does

  module _ {t : Turn} {st : St} (h : Holding k M c e.start e.energy t st) where
    count-addresses : addresses st ≡ c.addresses
    count-addresses = ap (total (λ (x : Rec). length x.path)) h.recs ∙ recs-addresses r q s k.s y.tables.rows ∙ y.tables.ends

    count-recs : suc (length st.recs) ≡ c.records + 1
    count-recs = ap suc (ap length h.recs ∙ recs-length r q s k.s c.records) ∙ sym (add-one c.records)

    -- it is made: the needs noted for it, and the record
    record Made : Type 0 where
      more : List Need
      is : noted t (new_found s e) path st ≡ record { recs = st.recs ++ new_rec s e path ∷ []; energy = st.energy; met = st.met; needs = more ++ st.needs }
      short : short_of k more ≡ short_of k (entry_needs c np e.cells)

    known_by : {b : Bool} → has_rec r q (unwrap_or e.to NOWHERE) path c.records ≡ b → recorded? (new_found s e) path st.recs ≡ b
    known_by b = ap (recorded? (new_found s e) path) h.recs ∙ sym known ∙ b

    doc-known : has_rec r q (unwrap_or e.to NOWHERE) path c.records ≡ true → noted t (new_found s e) path st ≡ st
    unfolding record_nowhere record_found
    doc-known b = go y.entry
      where
        go : Enters n s e → noted t (new_found s e) path st ≡ st
        go (enters_nowhere z _) = rw (new-nowhere s e z) (if-true _ _ _ (rw (new-nowhere s e z) at (known_by b)))
        go (enters z i _) = rw (new-at s e z) (if-true _ _ _ (rw (new-at s e z) at (known_by b)))

    doc-made : has_rec r q (unwrap_or e.to NOWHERE) path c.records ≡ false → Made
    unfolding record_nowhere record_found
    doc-made b = go y.entry
      where
        go : Enters n s e → Made
        go (enters_nowhere z o) =
            record {
              more = record { room = Q; units = c.addresses + np } ∷ record { room = R; units = c.records + 1 } ∷ [];
              is = rw (new-nowhere s e z) (if-false _ _ _ (rw (new-nowhere s e z) at (known_by b)) ∙ rw (count-addresses, addrs-length p 0 np, count-recs, h.turn, h.counted));
              short = sym (short-rest k c np e.cells (omega (arith, y.tables.within)));
            }
        go (enters z i o) =
            let count : in_use t st + cells (stack_at s (9 * e.from) e.cells) ≡ c.kept + c.used + e.cells =
            omega (arith, h.cells, lies-count (state-lies s (9 * e.from) e.cells o)) in
            record {
              more = entry_needs c np e.cells;
              is = rw (new-at s e z) (if-false _ _ _ (rw (new-at s e z) at (known_by b)) ∙ rw (count, count-addresses, addrs-length p 0 np, count-recs, h.turn, h.counted));
              short = refl;
            }

  module _ {to : ℕ} (is : to ≡ unwrap_or e.to NOWHERE) {b : Bool} (found_to : b ≡ has_rec r q to path c.records) where
    found_it : b ≡ has_rec r q (unwrap_or e.to NOWHERE) path c.records
    found_it = found_to ∙ ap (λ (a : ℕ). has_rec r q a path c.records) is

    known_so : {v : Bool} → b ≡ v → recorded? (new_found s e) path (recs k M c) ≡ v
    known_so z = sym known ∙ sym found_it ∙ z

    pub recorded_known : b ≡ true → Recorded p np n buckets k M c e.start e.energy (new_found s e) M (record { code = 0; counts = c })
    recorded_known z =
        let old = sym found_it ∙ z in
        record {
          code = λ t st h l o. ap (λ (x : St). shortage l x.needs) (doc-known h old) ∙ sym (or-else-zero (shortage l st.needs));
          made = λ t st h o. ap clear (doc-known h old) ∙ rw h.recs;
          tells = sym (if-true _ _ _ (known_so z));
          holds = λ o. sym (if-true _ _ _ (known_so z));
          counts = λ o. sym (if-true _ _ _ (known_so z));
          known = λ o. refl;
          refused = λ o. absurd (o refl);
          tables = y.tables;
          stays = stays_all k c r q s;
          beyond = beyond-all n buckets w;
        }

    module _ {x : ℕ} (short : x ≡ short_of k (entry_needs c np e.cells)) (z : b ≡ false) where
      noted-code : (t : Turn) (st : St) → Holding k M c e.start e.energy t st → (l : Lent) → Lends l k → shortage l (noted t (new_found s e) path st).needs ≡ or_else (shortage l st.needs) x
      noted-code t st h l o =
          let d = doc-made h (sym found_it ∙ z) in
          ap (λ (x : St). shortage l x.needs) d.is ∙ short-after o d.more st.needs ∙ ap (or_else (shortage l st.needs)) (d.short ∙ sym short)

      noted-tells : x ≡ if (recorded? (new_found s e) path (recs k M c)) 0 (short_of k (entry_needs c np (kept (new_found s e))))
      noted-tells = short ∙ ap (λ (i : ℕ). short_of k (entry_needs c np i)) (sym new-kept) ∙ sym (if-false _ _ _ (known_so z))

      pub recorded-short : (x ≡ 0 → ⊥) → Recorded p np n buckets k M c e.start e.energy (new_found s e) M (record { code = x; counts = c })
      recorded-short o =
          record {
            code = noted-code;
            made = λ t st h i. absurd (o i);
            tells = noted-tells;
            holds = λ i. absurd (o i);
            counts = λ i. absurd (o i);
            known = λ i. refl;
            refused = λ i. (refl, refl);
            tables = y.tables;
            stays = stays_all k c r q s;
            beyond = beyond-all n buckets w;
          }

    pub recorded-made : {m' : Mem} {d : Counts} → 0 ≡ short_of k (entry_needs c np e.cells) → b ≡ false → Added p np n buckets k M c e m' d
        → Recorded p np n buckets k M c e.start e.energy (new_found s e) m' (record { code = 0; counts = d })
    recorded-made short z a =
        record {
          code = noted-code short z;
          made = λ t st h i. ap clear (doc-made h (sym found_it ∙ z)).is ∙ rw (h.recs, a.records);
          tells = noted-tells short z;
          holds = λ i. a.records ∙ sym (if-false _ _ _ (known_so z));
          counts = λ i. a.counts ∙ ap (counted c np) (sym new-kept) ∙ sym (if-false _ _ _ (known_so z));
          known = λ i. let o = known_so z in cc;
          refused = λ i. absurd (i refl);
          tables = a.tables;
          stays = a.stays;
          beyond = a.beyond;
        }

-- ---- for the caller: all is as it was, or there is a record more

abbrev pub Once : Rooms → Mem → Counts → ℕ → Rec → Mem → Counts → Type 0
Once k m c np x m' d =
    ((recs k m' d ≡ recs k m c) × (d ≡ c)) ⊎ ((recs k m' d ≡ recs k m c ++ x ∷ []) × (d ≡ counted c np (kept x.to)))

pub recorded_more : {p : List ℕ} {np n buckets start energy : ℕ} {k : Rooms} {m m' : Mem} {c : Counts} {x : Found} {a : Reply} → Recorded p np n buckets k m c start energy x m' a
    → Once k m c np (record { start = start; to = x; path = addrs p 0 np; energy = energy }) m' a.counts
recorded_more {p} {np} {start = start} {energy = energy} {k = k} {m} {m'} {c} {x} {a} h = go (keyed a.code 0) (recorded? x (addrs p 0 np) (recs k m c)) refl
  where
    go : (a.code ≡ 0) ⊎ (a.code ≡ 0 → ⊥) → (b : Bool) → recorded? x (addrs p 0 np) (recs k m c) ≡ b
        → Once k m c np (record { start = start; to = x; path = addrs p 0 np; energy = energy }) m' a.counts
    go (inl z) true e = inl (h.holds z ∙ if-true _ _ _ e, h.counts z ∙ if-true _ _ _ e)
    go (inl z) false e = inr (h.holds z ∙ if-false _ _ _ e, h.counts z ∙ if-false _ _ _ e)
    go (inr d) b e = inl (rw ((h.refused d).0, (h.refused d).1), (h.refused d).1)

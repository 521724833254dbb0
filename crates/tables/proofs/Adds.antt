-- The laws of a record more. Assumes nothing.
use Rattle.std.proofs.Common.{◌≡◌, ℕ, ◌+◌, ◌-◌, ◌*◌, ◌<◌, ◌≤◌, eqb, ◌⊎◌, List, [], ◌∷◌, ◌++◌, length, take, drop, sym, refl, ap, ◌∙◌, inl, inr, add-one, arith, unwrap_or, ne_eqb}
use Rattle.spec.specs.Lists.{if}
use Rattle.spec.specs.Search.{nowhere, found}
use Rattle.lent.specs.Bytes.{Stored}
use Rattle.lent.proofs.Stored.{kept-take, kept-drop}
use Rattle.layout.specs.Marks.{NOWHERE}
use Rattle.layout.specs.Records.{end_of, kept_of}
use Rattle.state.specs.Cells.{stack_at, State, Lies}
use Rattle.state.proofs.States.{state-lies, lies-copied}
use Rattle.tables.specs.Addrs.{addrs, path_sum}
use Rattle.tables.specs.Records.{path_at, found_at, rec_at, recs_of, Row}
use Rattle.tables.specs.Links.{Linked}
use Rattle.tables.specs.Tables.{mem, Goes, leads_nowhere, leads, Within, Tables, new_found, new_rec, Enters, enters_nowhere, enters, fields, Adds, counted, Added}
use Rattle.tables.specs.declared.Rooms.{Rooms}
use Rattle.tables.specs.declared.Counts.{Counts}
use Rattle.tables.specs.declared.Entry.{Entry}
use Rattle.tables.specs.declared.link.Fields.{Fields}
use Rattle.tables.proofs.Addrs.{addrs-copied}
use Rattle.tables.proofs.Orders.{below}
use Rattle.tables.proofs.Frames.{ends_same, kept_same, row_kept, goes_kept, recs-kept}

module _ {p w r q s : List ℕ} {np n buckets sum : ℕ} {k : Rooms} {c : Counts} {e : Entry} (a : Adds p np n buckets k (mem w r q s) c e sum) where
  adds-path : 2 * (c.addresses + np) ≤ length q
  adds-path = omega (arith, a.room_q, a.ready.tables.within)

  module _ {w' r' q' s' : List ℕ} (l : Linked n buckets w r c.records (fields c np e sum) w' r')
      (tq : Stored (2 * np) q (2 * c.addresses) (take (2 * np) (drop 0 p)) q')
      (ts : Stored (9 * e.cells) s (9 * (k.s - (c.kept + e.cells))) (take (9 * e.cells) (drop (9 * e.from) s)) s') where
    t : Tables n buckets k (mem w r q s) c
    t = a.ready.tables

    -- ---- the ends of the new path and of the new state

    end_before : end_of r' c.records ≡ c.addresses
    end_before = ends_same l.rows c.records (omega arith) ∙ t.ends

    kept-before : kept_of r' c.records ≡ c.kept
    kept-before = kept_same l.rows c.records (omega arith) ∙ t.kept

    front_q : take (2 * c.addresses) q' ≡ take (2 * c.addresses) q
    front_q = kept-take tq (2 * c.addresses) (omega arith)

    back_s : drop (9 * (k.s - c.kept)) s' ≡ drop (9 * (k.s - c.kept)) s
    back_s = kept-drop ts (9 * (k.s - c.kept)) (omega (arith, a.room_s))

    -- ---- the new record

    new-path : path_at r' q' c.records ≡ addrs p 0 np
    unfolding path_at
    new-path =
        let z : c.addresses + np - c.addresses ≡ np = omega arith in
        rw (end_before, l.says.ends, z) (addrs-copied p c.addresses np tq)

    new_row : Row r' q' c.records
    new_row =
        record {
          in_r = omega (arith, a.room_r, t.within, l.long);
          rises = omega (arith, end_before, l.says.ends);
          in_q = omega (arith, adds-path, tq.kept, l.says.ends);
          sum = l.says.sum ∙ a.summed.is ∙ ap path_sum (sym new-path);
        }

    new-state : State s (9 * e.from) e.cells → Lies s' (9 * (k.s - (c.kept + e.cells))) e.cells (stack_at s (9 * e.from) e.cells)
    new-state h = lies-copied ts (state-lies s (9 * e.from) e.cells h)

    count : c.kept + e.cells - c.kept ≡ e.cells
    count = omega arith

    new-goes : Goes n k.s r' s' c.records
    new-goes = go a.ready.entry
      where
        go : Enters n s e → Goes n k.s r' s' c.records
        go (enters_nowhere z y) = leads_nowhere (rw l.says.to (rw z refl)) (omega (arith, l.says.kept, kept-before))
        go (enters z i h) = leads (rw l.says.to (rw z i)) (rw (l.says.kept, kept-before, count) (new-state h).state)

    new-found : found_at r' s' k.s c.records ≡ new_found s e
    unfolding found_at if
    new-found = rw (l.says.to, l.says.kept, kept-before, count) (go a.ready.entry)
      where
        go : Enters n s e
            → if (eqb (unwrap_or e.to NOWHERE) NOWHERE) nowhere (found (unwrap_or e.to NOWHERE) (stack_at s' (9 * (k.s - (c.kept + e.cells))) e.cells)) ≡ new_found s e
        go (enters_nowhere z y) = rw z refl
        go (enters {to} z i h) = rw z (rw (ne_eqb to NOWHERE (λ d. omega (arith, t.few)), (new-state h).is))

    new-rec : rec_at r' q' s' k.s c.records ≡ new_rec s e (addrs p 0 np)
    unfolding rec_at
    new-rec = rw (l.says.start, new-found, new-path, l.says.energy)

    -- ---- all of them

    all-rows : (i : ℕ) → (i < c.records) ⊎ (i ≡ c.records) → Row r' q' i
    all-rows i (inl h) = row_kept l.rows q' t.rows c.addresses (omega (arith, t.ends)) front_q (omega (arith, l.long)) (omega (arith, tq.kept)) i h
    all-rows i (inr h) = rw h new_row

    all-goes : (i : ℕ) → (i < c.records) ⊎ (i ≡ c.records) → Goes n k.s r' s' i
    all-goes i (inl h) = goes_kept l.rows s' t.goes c.kept (omega (arith, t.kept)) (omega (arith, t.within, ts.kept)) (omega (arith, t.within)) back_s i h
    all-goes i (inr h) = rw h new-goes

    within : Within k (mem w' r' q' s') (counted c np e.cells)
    within =
        let i = t.within in
        record {
          fits_r = a.room_r;
          fits_q = a.room_q;
          fits_s = omega (arith, a.room_s);
          lent_r = omega (arith, l.long);
          lent_q = omega (arith, tq.kept);
          lent_s = omega (arith, ts.kept);
          most_r = i.most_r;
          most_q = i.most_q;
          most_s = i.most_s;
        }

    tables_more : Tables n buckets k (mem w' r' q' s') (counted c np e.cells)
    tables_more =
        record {
          few = t.few;
          within = within;
          rows = λ i h. all-rows i (below c.records i (omega arith));
          goes = λ i h. all-goes i (below c.records i (omega arith));
          ends = rw add-one l.says.ends;
          kept = rw add-one l.says.kept;
          chains = rw add-one l.chains;
          parents = rw add-one l.parents;
        }

    recs-more : recs_of r' q' s' k.s (c.records + 1) ≡ recs_of r q s k.s c.records ++ new_rec s e (addrs p 0 np) ∷ []
    unfolding recs_of
    recs-more =
        rw (
          add-one,
          recs-kept q' s' t.few l.rows t.rows t.goes c.addresses (omega (arith, t.ends)) front_q c.kept (omega (arith, t.kept)) (omega (arith, t.within, ts.kept)) (omega (arith, t.within)) back_s,
          new-rec,
        )

    added-counted : Added p np n buckets k (mem w r q s) c e (mem w' r' q' s') (counted c np e.cells)
    added-counted =
        record {
          counts = refl;
          tables = tables_more;
          records = recs-more;
          stays = record {
            rows = l.rows;
            tail = l.tail;
            long_r = l.long;
            front_q = front_q;
            back_q = kept-drop tq (2 * (c.addresses + np)) (omega arith);
            long_q = tq.kept;
            front_s = kept-take ts (9 * (k.s - (c.kept + e.cells))) (omega arith);
            back_s = back_s;
            long_s = ts.kept;
          };
          beyond = l.beyond;
        }

  pub added : {w' r' q' s' : List ℕ} {f : Fields} {d : Counts} → f ≡ fields c np e sum → Linked n buckets w r c.records f w' r'
      → Stored (2 * np) q (2 * c.addresses) (take (2 * np) (drop 0 p)) q'
      → Stored (9 * e.cells) s (9 * (k.s - f.kept)) (take (9 * e.cells) (drop (9 * e.from) s)) s' → d ≡ counted c np e.cells
      → Added p np n buckets k (mem w r q s) c e (mem w' r' q' s') d
  added says l tq ts counts = rw counts (added-counted (rw says at l) tq (rw says at ts))

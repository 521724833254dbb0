-- The laws of following rows of edges: one row, and all rows of a key. Assumes nothing.
use mathlib.Core.Path.{◌≡◌, refl, sym, ap, ◌∙◌}
use mathlib.Core.Logic.{◌⊎◌, inl, inr, ⊎_elim}
use mathlib.Core.Bool.{Bool, true, false, ◌||◌, or_assoc, or_self}
use mathlib.Core.List.{List, [], ◌∷◌}
use Prim.Native.Nat.{ℕ, ◌+◌, ◌-◌, ◌≤◌, ◌<◌}
use native.Mathlib.Decide.{ℕ_discrete, dec_lt}
use native.Mathlib.Omega.{arith}
use lib.Dec.{eqb}
use lib.ListN.{length}
use borrow.Author.Tests.{eqb-true, eq-eqb, ne_eqb}
use Rattle.std.specs.Prelude.{Option, Some, None}
use Rattle.spec.specs.Lists.{if, mem}
use Rattle.spec.specs.Reach.{Edge, edge}
use Rattle.laws.proofs.Branch.{if-true, if-false}
use Rattle.laws.proofs.Members.{In, or_cases}
use Rattle.theorems.proofs.Reached.{Reached, seed, along}
use Rattle.lent.specs.Bytes.{Holds}
use Rattle.layout.specs.Edges.{E-TO, key_at, to_at, link_at}
use Rattle.layout.specs.Fields.{head_at}
use Rattle.layout.specs.Marks.{NOWHERE}
use Rattle.layout.specs.Records.{RECORD, record_place}
use Rattle.reachable.specs.Keys.{offset_of}
use Rattle.reachable.specs.declared.link.By.{By}
use Rattle.reachable.specs.Marks.{flagged}
use Rattle.reachable.specs.Links.{link_of, first_from, edge_at, edges_at}
use Rattle.reachable.specs.Promises.{Address, Took}
use Rattle.reachable.specs.Pruning.{Spread, RowGoing, FollowedRow, RowsGoing, FollowedRows}
use Rattle.reachable.proofs.Tests.{not-both, mem-one}
use Rattle.reachable.proofs.Seeds.{along-more, reached-from}
use Rattle.reachable.proofs.Flags.{flagged-within}
use Rattle.reachable.proofs.Worklist.{more-keeps, more-takes}
use Rattle.reachable.proofs.Entering.{took-none, took-after, took-same}
use Rattle.reachable.proofs.Spreading.{room-kept}
use Rattle.reachable.proofs.EdgeRows.{edge_in, edges-in, FirstOf, first_of}

-- ---- spreading, step by step

pub took-grew : {n when count count' : ℕ} {ts w w' : List ℕ} → Took n when ts w count w' count' → Took n when (flagged w' n) w count w' count'
took-grew {n} {ts} {w} {w'} t = took-same (flagged w' n) t (λ y. rw (t.more.all y) (again (mem y ts) (mem y (flagged w n))))
  where
    again : (a b : Bool) → (a || b) || b ≡ a || b
    again a b = or_assoc a b b ∙ rw (or_self b)

pub spread_none : {es : List Edge} {n count : ℕ} {w : List ℕ} → Spread es n w count w count
spread_none {n} {count} {w} = record { grew = took-grew (took-none n 1 count w); sound = λ y h. seed h }

pub spread-after : {es : List Edge} {n count count₁ count₂ : ℕ} {w w₁ w₂ : List ℕ} → Spread es n w count w₁ count₁ → Spread es n w₁ count₁ w₂ count₂
    → Spread es n w count w₂ count₂
spread-after p q = record { grew = took-grew (took-after p.grew q.grew); sound = λ y h. reached-from p.sound (q.sound y h) }

pub spread-more : {es ds : List Edge} {n count count' : ℕ} {w w' : List ℕ} → ((e : Edge) → In e es → In e ds) → Spread es n w count w' count'
    → Spread ds n w count w' count'
spread-more f p = record { grew = p.grew; sound = λ y h. along-more f (p.sound y h) }

-- ---- one row

module _ {n by i count : ℕ} {w r : List ℕ} (g : RowGoing n by w r i count) where
  pub row-nowhere : {to : ℕ} → Holds 2 r (record_place i + E-TO) to → to ≡ NOWHERE → FollowedRow n by r i w count w count
  row-nowhere h e = record { spread = spread_none; led = λ ne. absurd (ne (sym h.is ∙ e)) }

  module _ (b : By) {other k : ℕ} {is : Bool} (s : k ≡ offset_of b) (q : offset_of b ≡ 4 - by) (held : Holds 2 r (record_place i + k) other) (f : is ≡ mem other (flagged w n)) where
    o : Holds 2 r (record_place i + (4 - by)) other
    o = rw (s ∙ q) at held

    pub row-not-led : is ≡ false → FollowedRow n by r i w count w count
    row-not-led z = record { spread = spread_none; led = λ _ q. not-both q (rw (← o.is, ← f) z) }

    module _ {to count' : ℕ} {w' : List ℕ} (h : Holds 2 r (record_place i + E-TO) to) (ne : to ≡ NOWHERE → ⊥) (yes : is ≡ true) (t : Took n 1 (to ∷ []) w count w' count') where
      -- both keys are flagged
      ends : (mem (key_at r 0 i) (flagged w n) ≡ true) × (mem (key_at r 4 i) (flagged w n) ≡ true)
      ends =
          let two : mem (key_at r (4 - by) i) (flagged w n) ≡ true = rw (← o.is, ← f) yes in
          ⊎_elim (λ q. (rw q at g.got, rw q at two)) (λ q. (rw q at two, rw q at g.got)) g.key.is

      reached : (y : ℕ) → (mem y (to ∷ []) ≡ true) ⊎ (mem y (flagged w n) ≡ true) → Reached (edge_at r i) (flagged w n) y
      reached y (inl p) =
          let q : y ≡ to_at r i = eqb-true y to (sym (mem-one y to) ∙ p) ∙ h.is in
          rw q (along (edge (key_at r 0 i) (key_at r 4 i) (to_at r i)) (edge_in r i (λ e. ne (h.is ∙ e))) (seed ends.0) (seed ends.1))
      reached y (inr p) = seed p

      pub row-led : FollowedRow n by r i w count w' count'
      row-led = record {
        spread = record { grew = took-grew t; sound = λ y p. reached y (or_cases (mem y (to ∷ [])) (mem y (flagged w n)) (sym (t.more.all y) ∙ p)) };
        led = λ _ _. rw (← h.is) (more-takes t.more to (rw (mem-one to to, eq-eqb to to refl)));
      }

-- ---- the rows of a key

-- the rows below `from` are done, and k is the first of the others
pub record Walking (n m by x : ℕ) (r w₀ : List ℕ) (count₀ : ℕ) (w : List ℕ) (count k : ℕ) : Type 0 where
  pub from : ℕ
  pub inside : from ≤ m
  pub is : k ≡ first_from r by x from (m - from)
  pub spread : Spread (edges_at r m) n w₀ count₀ w count
  pub led : (i : ℕ) → i < from → key_at r by i ≡ x → (to_at r i ≡ NOWHERE → ⊥) → mem (key_at r (4 - by) i) (flagged w₀ n) ≡ true → mem (to_at r i) (flagged w n) ≡ true

-- how many rows may be left
abbrev pub steps : ℕ → ℕ → ℕ
steps m k = if (eqb k 0) 0 (m + 1 - k)

module _ {n m by x count₀ : ℕ} {r w₀ : List ℕ} (g : RowsGoing n m by w₀ r x count₀) where
  pub walk-address : Address n w₀ x
  walk-address = record { lent = g.lent; inside = flagged-within w₀ n x g.got }

  walk-first : {k : ℕ} → k ≡ head_at w₀ n by x → Walking n m by x r w₀ count₀ w₀ count₀ k
  walk-first e = record {
    from = 0;
    inside = omega arith;
    is = e ∙ g.chains.heads x (flagged-within w₀ n x g.got);
    spread = spread_none;
    led = λ i h. absurd (omega arith);
  }

  module _ {count k : ℕ} {w : List ℕ} (s : Walking n m by x r w₀ count₀ w count k) where
    first : FirstOf r by x s.from (m - s.from) k
    first = rw s.is (first_of r by x (m - s.from) s.from)

    keeps : (y : ℕ) → mem y (flagged w₀ n) ≡ true → mem y (flagged w n) ≡ true
    keeps = more-keeps s.spread.grew.more

    walk-ended : k ≡ 0 → FollowedRows n m by r x w₀ count₀ w count
    walk-ended z = record { spread = s.spread; led = λ i h q. split i h q (dec_lt i s.from) }
      where
        split : (i : ℕ) → i < m → key_at r by i ≡ x → Dec (i < s.from) → (to_at r i ≡ NOWHERE → ⊥) → mem (key_at r (4 - by) i) (flagged w₀ n) ≡ true
            → mem (to_at r i) (flagged w n) ≡ true
        split i h q (yes l) = s.led i l q
        split i h q (no l) = absurd (first.none z i (omega arith) (omega arith) q)

    module _ (nz : k ≡ 0 → ⊥) where
      high : k ≤ m
      high = omega (arith, first.high, s.inside)

      link-going : RowGoing n by w r (k - 1) count
      link-going = record {
        lent = room-kept s.spread.grew.kept g.lent;
        row = g.rows.each (k - 1) (omega (arith, high));
        key = g.key;
        got = rw (first.has nz) (keeps x g.got);
        few = omega (arith, g.few, s.spread.grew.number);
      }

      module _ {count' k' : ℕ} {w' : List ℕ} (f : FollowedRow n by r (k - 1) w count w' count') (e : k' ≡ link_at r by (k - 1)) where
        next : k' ≡ first_from r by x k (m - k)
        next =
            let back : k - 1 + 1 ≡ k = omega arith in
            e ∙ g.chains.links (k - 1) (omega arith) (omega (arith, high)) ∙ rw (first.has nz, back)

        link-turn : Walking n m by x r w₀ count₀ w' count' k'
        link-turn = record {
          from = k;
          inside = high;
          is = next;
          spread = spread-after s.spread (spread-more (λ d i. edges-in r m (k - 1) (omega (arith, high)) i) f.spread);
          led = λ i h q. split i h q (dec_lt i s.from) (ℕ_discrete i (k - 1));
        }
          where
            split : (i : ℕ) → i < k → key_at r by i ≡ x → Dec (i < s.from) → Dec (i ≡ k - 1) → (to_at r i ≡ NOWHERE → ⊥) → mem (key_at r (4 - by) i) (flagged w₀ n) ≡ true
                → mem (to_at r i) (flagged w' n) ≡ true
            split i h q (yes l) d ne o = more-keeps f.spread.grew.more (to_at r i) (s.led i l q ne o)
            split i h q (no l) (yes d) ne o = rw d (f.led (rw d at ne) (keeps _ (rw d at o)))
            split i h q (no l) (no d) ne o = absurd (first.skips nz i (omega arith) (omega arith) q)

        link-less : steps m k' < steps m k
        link-less = rw (if-false (eqb k 0) 0 (m + 1 - k) (ne_eqb k 0 nz)) (split (ℕ_discrete k' 0))
          where
            after : FirstOf r by x k (m - k) k'
            after = rw next (first_of r by x (m - k) k)

            split : Dec (k' ≡ 0) → steps m k' < m + 1 - k
            split (yes z) = rw (if-true (eqb k' 0) 0 (m + 1 - k') (eq-eqb k' 0 z)) (omega (arith, high))
            split (no z) = rw (if-false (eqb k' 0) 0 (m + 1 - k') (ne_eqb k' 0 z)) (omega (arith, high, after.low z, after.high))

  -- ---- as the loop has them: the next row, if there is one

  pub walk_start : (o : Option ℕ) → link_of o ≡ head_at w₀ n by x → Walking n m by x r w₀ count₀ w₀ count₀ (link_of o)
  walk_start o e = walk-first e

  module _ {count : ℕ} {o : Option ℕ} {w : List ℕ} (s : Walking n m by x r w₀ count₀ w count (link_of o)) where
    pub walk-done : o ≡ None → FollowedRows n m by r x w₀ count₀ w count
    walk-done e = walk-ended s (ap link_of e)

    module _ {row : ℕ} (e : o ≡ Some row) where
      some-left : link_of o ≡ 0 → ⊥
      some-left z = omega (arith, ap link_of e)

      back : link_of o - 1 ≡ row
      back = omega (arith, ap link_of e)

      pub walk-going : RowGoing n by w r row count
      walk-going = rw back at (link-going s some-left)

      pub walk-room : record_place row + RECORD ≤ length r
      walk-room = walk-going.row.room

      module _ {count' : ℕ} (o' : Option ℕ) {w' : List ℕ} (f : FollowedRow n by r row w count w' count') (q : link_of o' ≡ link_at r by row) where
        pub walk_turn : Walking n m by x r w₀ count₀ w' count' (link_of o')
        walk_turn = link-turn s some-left {count' = count'} {w' = w'} (rw back f) (rw back q)

        pub walk-less : steps m (link_of o') < steps m (link_of o)
        walk-less = link-less s some-left {count' = count'} {w' = w'} (rw back f) (rw back q)

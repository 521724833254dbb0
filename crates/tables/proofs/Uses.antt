-- What the tables come to as document 01 counts it, and what keeps them while other bytes change. Assumes nothing.
use Rattle.std.proofs.Common.{◌≡◌, ℕ, ◌+◌, ◌-◌, ◌*◌, ◌<◌, ◌≤◌, List, length, drop, sym, refl, ap, ◌∙◌, arith}
use Rattle.spec.specs.Lists.{total}
use Rattle.spec.specs.Stacks.{cells}
use Rattle.spec.specs.Search.{Rec, Met, kept, St, Turn, in_use}
use Rattle.layout.specs.Fields.{newest_at}
use Rattle.layout.specs.Marks.{NOWHERE}
use Rattle.layout.specs.Records.{to_at, link_at, end_of, kept_of}
use Rattle.tables.specs.Chains.{newest, following}
use Rattle.tables.specs.Records.{bucket_at, recs_of}
use Rattle.tables.specs.Rows.{met_of}
use Rattle.tables.specs.Mets.{Remembers, Packs}
use Rattle.tables.specs.Tables.{Mem, mem, recs, Within, Tables, SameLinks, NoLinks, in_turn}
use Rattle.tables.specs.declared.Rooms.{Rooms}
use Rattle.tables.specs.declared.Counts.{Counts}
use Rattle.tables.proofs.Orders.{chained_same, ordered_same}
use Rattle.tables.proofs.Links.{same-all}
use Rattle.tables.proofs.Frames.{goes_kept, recs-kept}
use Rattle.tables.proofs.Counted.{recs-kept-cells}
use Rattle.tables.proofs.Turns.{mets-cells}

-- ---- the cells of S in use

pub cells-in-use : {n buckets shelves first : ℕ} {k : Rooms} {m : Mem} {t : List ℕ} {c : Counts} (turn : Turn) (st : St)
    → Tables n buckets k m c → Remembers shelves k t m.s c → Packs first t c
    → st.recs ≡ recs k m c → st.met ≡ met_of t m.s c.rows → cells turn.first ≡ first → in_use turn st ≡ c.kept + c.used
cells-in-use {first = first} {k} {m} {c = c} turn st a r p e f g =
    let kept-cells = ap (total (λ (x : Rec). kept x.to)) e ∙ recs-kept-cells m.r m.q m.s k.s a.few a.goes ∙ a.kept in
    let met-cells = ap (total (λ (x : Met). cells x.stack)) f in
    omega (arith, kept-cells, met-cells, mets-cells r first p)

-- ---- other bytes of W, and cells of S that are not kept, may change

module _ {n buckets : ℕ} {k : Rooms} {w r q s : List ℕ} {c : Counts} (a : Tables n buckets k (mem w r q s) c) (w' s' : List ℕ)
    (links : SameLinks n buckets w w') (back : drop (9 * (k.s - c.kept)) s' ≡ drop (9 * (k.s - c.kept)) s) (long : length s' ≡ length s) where
  pub tables-kept : (used rows : ℕ) → c.kept + used ≤ k.s → Tables n buckets k (mem w' r q s') (in_turn c used rows)
  tables-kept used rows fits =
      let i = a.within in
      record {
        few = a.few;
        within = record {
          fits_r = i.fits_r;
          fits_q = i.fits_q;
          fits_s = fits;
          lent_r = i.lent_r;
          lent_q = i.lent_q;
          lent_s = omega (arith, i.lent_s);
          most_r = i.most_r;
          most_q = i.most_q;
          most_s = i.most_s;
        };
        rows = a.rows;
        goes = λ j l. goes_kept (λ x b. same-all r x) s' a.goes c.kept (omega (arith, a.kept)) (omega (arith, i.lent_s)) (omega (arith, i.fits_s)) back j l;
        ends = a.ends;
        kept = a.kept;
        chains = record {
          some = a.chains.some;
          in_w = omega (arith, a.chains.in_w, links.long);
          in_r = a.chains.in_r;
          chained = chained_same (bucket_at buckets r) (link_at r) (newest_at w' n) a.chains.chained (λ x l. refl) (λ x l. refl) links.heads;
        };
        parents = ordered_same a.parents (λ x l. refl) (λ x l. refl) links.firsts links.lasts;
      }

  pub recs-stay : recs_of r q s' k.s c.records ≡ recs_of r q s k.s c.records
  recs-stay =
      let i = a.within in
      recs-kept q s' a.few (λ x b. same-all r x) a.rows a.goes c.addresses (omega (arith, a.ends)) refl c.kept (omega (arith, a.kept)) (omega (arith, i.lent_s)) (omega (arith, i.fits_s)) back

-- ---- no record yet

pub tables-none : {n buckets : ℕ} {k : Rooms} {w r q s : List ℕ} {c : Counts} → n < NOWHERE → Within k (mem w r q s) c → NoLinks n buckets w
    → c.records ≡ 0 → c.addresses ≡ 0 → c.kept ≡ 0 → Tables n buckets k (mem w r q s) c
unfolding newest following end_of kept_of
tables-none {r = r} {c = c} few i o e f g =
    record {
      few = few;
      within = i;
      rows = λ j l. absurd (omega arith);
      goes = λ j l. absurd (omega arith);
      ends = ap (end_of r) e ∙ sym f;
      kept = ap (kept_of r) e ∙ sym g;
      chains = record {
        some = o.some;
        in_w = o.in_w;
        in_r = omega arith;
        chained = record { links = λ j l. absurd (omega arith); heads = λ h l. o.heads h l ∙ sym (ap (newest _ h) e) };
      };
      parents = record {
        nexts = λ j l. absurd (omega arith);
        stops = λ j l. absurd (omega arith);
        firsts = λ x l. o.firsts x l ∙ sym (ap (following (to_at r) x 0) e);
        lasts = λ x l. o.lasts x l ∙ sym (ap (newest (to_at r) x) e);
      };
    }

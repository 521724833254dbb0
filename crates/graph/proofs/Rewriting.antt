-- The laws of the rewriting: a record becomes a row of edges, and then all records. Assumes nothing.
use mathlib.Core.Path.{◌≡◌, refl, sym, ◌∙◌}
use mathlib.Core.Bool.{Bool, true, false}
use mathlib.Core.List.{List}
use Prim.Native.Nat.{ℕ, ◌+◌, ◌-◌, ◌*◌, ◌≤◌, ◌<◌}
use native.Mathlib.Decide.{ℕ_discrete}
use native.Mathlib.Omega.{arith}
use lib.ListN.{length, take, drop}
use lib.Dec.{eqb}
use borrow.Author.Tests.{eq-eqb, ne_eqb, eqb-true, eqb-false}
use Rattle.spec.specs.Lists.{little}
use Rattle.laws.proofs.Branch.{if-true, if-false}
use Rattle.lent.specs.Bytes.{num_at, Holds, Stored}
use Rattle.lent.proofs.Parts.{drop_more, part-prefix, part-suffix}
use Rattle.lent.proofs.Numbers.{num-prefix, num-suffix}
use Rattle.lent.proofs.Stored.{kept-take, kept-drop, kept-num, read_back, kept-part}
use Rattle.layout.specs.Edges.{E-TO, E-WITNESS, E-OWN, E-ENDS}
use Rattle.layout.specs.Marks.{NOWHERE}
use Rattle.layout.specs.Records.{RECORD, record_place, R-TO, R-ENDS, start_at}
use Rattle.layout.specs.Rows.{tag_at}
use Rattle.graph.specs.Notes.{edge_to}
use Rattle.graph.specs.Promises.{EdgeIs, EdgePut, RewritesRow, EdgeFrom, RewroteRow, Rewrites, Rewrote}

-- ---- the destination of an edge

module _ (kind to : ℕ) where
  pub to-dynamic : kind ≡ 5 → edge_to kind to ≡ to
  unfolding edge_to
  to-dynamic e = if-true _ _ _ (eq-eqb kind 5 e)

  pub to-other : (kind ≡ 5 → ⊥) → edge_to kind to ≡ NOWHERE
  unfolding edge_to
  to-other h = if-false _ _ _ (ne_eqb kind 5 h)

module _ {a to : ℕ} {w : List ℕ} {b : Bool} (k : b ≡ eqb (tag_at w a) 5) where
  pub edge-dynamic : to < 65536 → b ≡ true → EdgeIs w a to to
  edge-dynamic h e = record { is = sym (to-dynamic (tag_at w a) to (eqb-true (tag_at w a) 5 (sym k ∙ e))); small = h }

  pub edge_other : b ≡ false → EdgeIs w a to NOWHERE
  edge_other e = record { is = sym (to-other (tag_at w a) to (eqb-false (tag_at w a) 5 (sym k ∙ e))); small = omega arith }

-- ---- one record

pub put-edge : {i to last own end : ℕ} {r r₁ r₂ r₃ r₄ : List ℕ} → to < 65536 → last < 65536 → own < 65536 → end < 4294967296
    → Stored 2 r (record_place i + E-TO) (little 2 to) r₁ → Stored 2 r₁ (record_place i + E-WITNESS) (little 2 last) r₂ → Stored 2 r₂ (record_place i + E-OWN) (little 2 own) r₃
    → Stored 4 r₃ (record_place i + E-ENDS) (little 4 end) r₄ → EdgePut r i to last own end r₄
put-edge {i} ht hl ho he s₁ s₂ s₃ s₄ = record {
  start = kept-num s₄ 2 (record_place i) (λ _. omega arith) ∙ kept-num s₃ 2 (record_place i) (λ _. omega arith) ∙ kept-num s₂ 2 (record_place i) (λ _. omega arith)
      ∙ kept-num s₁ 2 (record_place i) (λ _. omega arith);
  edge = kept-num s₄ 2 (record_place i + E-TO) (λ _. omega arith) ∙ kept-num s₃ 2 (record_place i + E-TO) (λ _. omega arith) ∙ kept-num s₂ 2 (record_place i + E-TO) (λ _. omega arith)
      ∙ read_back s₁ ht;
  witness = kept-num s₄ 2 (record_place i + E-WITNESS) (λ _. omega arith) ∙ kept-num s₃ 2 (record_place i + E-WITNESS) (λ _. omega arith) ∙ read_back s₂ hl;
  leads = kept-num s₄ 2 (record_place i + E-OWN) (λ _. omega arith) ∙ read_back s₃ ho;
  ends = read_back s₄ he;
  rest = kept-part s₄ 12 (record_place i + 20) (λ l. omega arith) ∙ kept-part s₃ 12 (record_place i + 20) (λ l. omega arith) ∙ kept-part s₂ 12 (record_place i + 20) (λ l. omega arith)
      ∙ kept-part s₁ 12 (record_place i + 20) (λ l. omega arith);
  before = kept-take s₄ (record_place i) (omega arith) ∙ kept-take s₃ (record_place i) (omega arith) ∙ kept-take s₂ (record_place i) (omega arith) ∙ kept-take s₁ (record_place i) (omega arith);
  past = kept-drop s₄ (record_place (i + 1)) (omega arith) ∙ kept-drop s₃ (record_place (i + 1)) (omega arith) ∙ kept-drop s₂ (record_place (i + 1)) (omega arith)
      ∙ kept-drop s₁ (record_place (i + 1)) (omega arith);
  long = s₄.kept ∙ s₃.kept ∙ s₂.kept ∙ s₁.kept;
}

pub rewrote-row : {i a to end last edge : ℕ} {w r q r' : List ℕ} → Holds 2 r (record_place i) a → Holds 2 r (record_place i + R-TO) to → Holds 4 r (record_place i + R-ENDS) end
    → Holds 2 q (2 * (end - 1)) last → EdgeIs w a to edge → EdgePut r i edge last to end r' → RewroteRow w r q i r'
rewrote-row ha ht he hl e p = record {
  row = record {
    start = p.start;
    edge = p.edge ∙ e.is ∙ rw (ha.is, ht.is);
    last = p.witness ∙ hl.is ∙ rw he.is;
    to = p.leads ∙ ht.is;
    end = p.ends ∙ he.is;
    rest = p.rest;
  };
  before = p.before;
  past = p.past;
  long = p.long;
}

-- ---- all records

-- the first i are rewritten, and all from there on is as it was
pub record Rewriting (m : ℕ) (w r₀ q r : List ℕ) (i : ℕ) : Type 0 where
  pub rows : (j : ℕ) → j < i → EdgeFrom w r₀ q j r
  pub back : drop (record_place i) r ≡ drop (record_place i) r₀
  pub long : length r ≡ length r₀
  pub inside : i ≤ m

pub rewrite-start : {m : ℕ} {w r q : List ℕ} → Rewriting m w r q r 0
rewrite-start = record { rows = λ j h. absurd (omega arith); back = refl; long = refl; inside = omega arith }

-- a row before those that change
edge_kept : {w r₀ q r r' : List ℕ} {j i : ℕ} → take (record_place i) r' ≡ take (record_place i) r → j < i → EdgeFrom w r₀ q j r → EdgeFrom w r₀ q j r'
edge_kept {r} {r'} {j} {i} e h g =
    let same : (k o : ℕ) → o + k ≤ RECORD → num_at k r' (record_place j + o) ≡ num_at k r (record_place j + o) = λ k o l. num-prefix r' r (record_place i) e k (record_place j + o) (omega arith) in
    record {
      start = num-prefix r' r (record_place i) e 2 (record_place j) (omega arith) ∙ g.start;
      edge = same 2 2 (omega arith) ∙ g.edge;
      last = same 2 4 (omega arith) ∙ g.last;
      to = same 2 6 (omega arith) ∙ g.to;
      end = same 4 16 (omega arith) ∙ g.end;
      rest = part-prefix r' r (record_place i) e 12 (record_place j + 20) (omega arith) ∙ g.rest;
    }

module _ {m i : ℕ} {w r₀ q r : List ℕ} (g : Rewriting m w r₀ q r i) where
  -- the fields of record i are still the first ones
  same : (k o : ℕ) → num_at k r (record_place i + o) ≡ num_at k r₀ (record_place i + o)
  same k o = num-suffix r r₀ (record_place i) g.back k (record_place i + o) (omega arith)

  same_start : start_at r i ≡ start_at r₀ i
  same_start = num-suffix r r₀ (record_place i) g.back 2 (record_place i) (omega arith)

  pub rewrite-row : Rewrites m w r₀ q → i < m → RewritesRow w r q i
  rewrite-row a h = let x = a.each i h in record {
    in_r = omega (arith, x.in_r, g.long);
    in_w = rw same_start x.in_w;
    some = rw (same 4 R-ENDS) x.some;
    in_q = rw (same 4 R-ENDS) x.in_q;
  }

  pub rewrite-turn : {r' : List ℕ} → i < m → RewroteRow w r q i r' → Rewriting m w r₀ q r' (i + 1)
  rewrite-turn {r'} h t = record {
    rows = λ j l. split j l (ℕ_discrete j i);
    back = t.past ∙ drop_more r r₀ (record_place i) g.back (record_place (i + 1)) (omega arith);
    long = t.long ∙ g.long;
    inside = omega arith;
  }
    where
      new : EdgeFrom w r₀ q i r'
      new = record {
        start = t.row.start ∙ same_start;
        edge = t.row.edge ∙ rw (same_start, same 2 2);
        last = t.row.last ∙ rw (same 4 4);
        to = t.row.to ∙ same 2 2;
        end = t.row.end ∙ same 4 4;
        rest = t.row.rest ∙ part-suffix r r₀ (record_place i) g.back 12 (record_place i + 20) (omega arith);
      }

      split : (j : ℕ) → j < i + 1 → Dec (j ≡ i) → EdgeFrom w r₀ q j r'
      split j l (yes e) = rw e new
      split j l (no e) = edge_kept {i = i} t.before (omega arith) (g.rows j (omega arith))

  pub rewrite-done : m ≤ i → Rewrote m w r₀ q r
  rewrite-done h =
      let all : i ≡ m = omega (arith, g.inside) in
      record { rows = λ j l. g.rows j (omega arith); beyond = rw all at g.back; long = g.long }

-- The laws of `prune`: what wiping, linking by both keys and the loop leave together. Assumes nothing.
use mathlib.Core.Path.{◌≡◌, refl, sym, ◌∙◌}
use mathlib.Core.List.{List}
use Prim.Native.Nat.{ℕ, ◌+◌, ◌≤◌, ◌<◌}
use native.Mathlib.Omega.{arith}
use lib.ListN.{take, drop, replicate}
use Rattle.lent.proofs.Parts.{drop_more}
use Rattle.lent.proofs.Stored.{kept-drop}
use Rattle.layout.specs.Edges.{E-LINKS, E-ENDS, key_at}
use Rattle.layout.specs.Fields.{COUNT, FLAG, LAST, HEADS, mark_at, flag_at}
use Rattle.layout.specs.Parts.{ROW, fields_place, list_place, buckets_place, SameRows}
use Rattle.layout.specs.Records.{record_place}
use Rattle.reachable.specs.Promises.{Begun}
use Rattle.reachable.specs.Pruning.{Chains, Links, Linked, Pruning, PrunedFrom, Prunes, RowsStay, LinkedBoth, Pruned}
use Rattle.reachable.proofs.Flags.{flagged-none}
use Rattle.reachable.proofs.Frames.{num-in, part_in}
use Rattle.reachable.proofs.Rows.{within-sides, sides-kept, edges-kept}
use Rattle.reachable.proofs.Marks.{begun-num, begun-part, begun-rows}
use Rattle.reachable.proofs.Entering.{sets-fresh}
use Rattle.reachable.proofs.EdgeRows as rows
use Rattle.reachable.proofs.EdgeRows.{place-key, witness-key, SameRow}
use Rattle.reachable.proofs.Chaining.{same_row, rows_kept, chains-kept}
use Rattle.reachable.proofs.Pruned.{heads-kept}

module _ {n m : ℕ} {w r w₁ : List ℕ} (p : Prunes n m w r) (b : Begun n w w₁) where
  pub links-places : Links n m 0 w₁ r
  links-places = record {
    lent = record { short = p.lent.short; room = omega (arith, p.lent.room, b.wipes.kept) };
    rows = p.rows;
    key = place-key;
    clear = λ x h. begun-num b 4 (fields_place n x + (HEADS + 0)) (omega arith) (omega arith);
  }

  module _ {w₂ r₁ : List ℕ} (c : Linked n m 0 w₁ r w₂ r₁) where
    pub links-witnesses : Links n m 4 w₂ r₁
    links-witnesses = record {
      lent = record { short = p.lent.short; room = omega (arith, links-places.lent.room, c.heads.long) };
      rows = rows_kept c.links p.rows;
      key = witness-key;
      clear = λ x h. num-in w₂ w₁ 12 (fields_place n x + 8) (c.heads.after x h) 4 (fields_place n x + (HEADS + 4)) (omega arith) (omega arith)
          ∙ begun-num b 4 (fields_place n x + (HEADS + 4)) (omega arith) (omega arith);
    }

    module _ {w₃ r₂ : List ℕ} (d : Linked n m 4 w₂ r₁ w₃ r₂) where
      -- the rows stay
      same : (i : ℕ) → i < m → SameRow r r₂ i
      same i h =
          let p₁ = same_row c.links i h in
          let p₂ = same_row d.links i h in
          record { place = p₂.place ∙ p₁.place; witness = p₂.witness ∙ p₁.witness; to = p₂.to ∙ p₁.to; long = p₂.long ∙ p₁.long }

      same_rows : SameRows n w w₃
      same_rows = d.heads.rows ∙ c.heads.rows ∙ begun-rows b

      -- past the first rows all is 0
      rest : (k a x : ℕ) → x ≤ n → fields_place n x + COUNT ≤ a → a + k ≤ fields_place n x + ROW → take k (drop a w₃) ≡ replicate k 0
      rest k a x h lo hi =
          part_in w₃ w₂ 8 (fields_place n x + COUNT) (d.heads.after x h) k a lo (omega arith)
          ∙ part_in w₂ w₁ 12 (fields_place n x + 8) (c.heads.after x h) k a (omega arith) (omega arith)
          ∙ begun-part b k a (omega arith) (omega arith)

      no_flag : (x : ℕ) → x ≤ n → flag_at w₃ n x ≡ 0
      no_flag x h =
          num-in w₃ w₂ 8 (fields_place n x + COUNT) (d.heads.after x h) 1 (fields_place n x + FLAG) (omega arith) (omega arith)
          ∙ num-in w₂ w₁ 12 (fields_place n x + 8) (c.heads.after x h) 1 (fields_place n x + FLAG) (omega arith) (omega arith)
          ∙ begun-num b 1 (fields_place n x + FLAG) (omega arith) (omega arith)

      no-mark : (x : ℕ) → x ≤ n → mark_at w₃ n x ≡ 0
      no-mark x h =
          num-in w₃ w₂ 8 (fields_place n x) (d.heads.before x h) 4 (fields_place n x) (omega arith) (omega arith)
          ∙ num-in w₂ w₁ 4 (fields_place n x) (c.heads.before x h) 4 (fields_place n x) (omega arith) (omega arith)
          ∙ begun-num b 4 (fields_place n x) (omega arith) (omega arith)

      places : (keys : List ℕ) → ((i : ℕ) → i < m → key_at keys 0 i ≡ key_at r 0 i) → Chains n m 0 keys w₃ r₂ 0
      places keys k =
          chains-kept keys w₃ r₂ c.chains k
          (λ x h. num-in w₃ w₂ 8 (fields_place n x) (d.heads.before x h) 4 (fields_place n x + (HEADS + 0)) (omega arith) (omega arith))
          (λ i h. num-in r₂ r₁ 12 (record_place i) (d.links.before i h) 4 (record_place i + (E-LINKS + 0)) (omega arith) (omega arith))

      witnesses : (keys : List ℕ) → ((i : ℕ) → i < m → key_at keys 4 i ≡ key_at r 4 i) → Chains n m 4 keys w₃ r₂ 0
      witnesses keys k = chains-kept keys w₃ r₂ d.chains (λ i h. k i h ∙ sym (same_row c.links i h).witness) (λ x h. refl) (λ i h. refl)

      pruning : Pruning n m w₃ r₂
      pruning = record {
        lent = record { short = p.lent.short; room = omega (arith, links-witnesses.lent.room, d.heads.long) };
        within = within-sides (sides-kept w w₃ n same_rows) p.within;
        rows = rows_kept d.links links-witnesses.rows;
        places = places r₂ (λ i h. (same i h).place);
        witnesses = witnesses r₂ (λ i h. (same i h).witness);
      }

      stay : RowsStay m r r₂
      stay = record {
        before = λ i h. part_in r₂ r₁ 12 (record_place i) (d.links.before i h) 8 (record_place i) (omega arith) (omega arith) ∙ c.links.before i h;
        after = λ i h. d.links.after i h ∙ part_in r₁ r 20 (record_place i + 12) (c.links.after i h) 16 (record_place i + E-ENDS) (omega arith) (omega arith);
        beyond = d.links.beyond ∙ c.links.beyond;
        long = d.links.long ∙ c.links.long;
      }

      pub linked-both : LinkedBoth n m w r w₃ r₂
      linked-both = record {
        pruning = pruning;
        none = flagged-none w₃ n no_flag;
        marks = no-mark;
        flags = no_flag;
        places = places r (λ i h. refl);
        witnesses = witnesses r (λ i h. refl);
        fields = λ x h. rest 6 (fields_place n x + COUNT) x h (omega arith) (omega arith);
        spare = λ x h. rest 1 (fields_place n x + LAST) x h (omega arith) (omega arith);
        rows = same_rows;
        beyond = d.heads.beyond ∙ c.heads.beyond ∙ kept-drop b.wipes (list_place n) (omega arith);
        long = d.heads.long ∙ c.heads.long ∙ b.wipes.kept;
        edges = rows.edges-kept r r₂ m same;
        stay = stay;
      }

pub pruned : {n m flags : ℕ} {w r w₁ r₁ w' : List ℕ} → LinkedBoth n m w r w₁ r₁ → PrunedFrom n m r₁ w₁ w' flags → Pruned n m w r w' r₁ flags
pruned {n} {m} {w = w} {r} {w₁} {r₁} {w'} l f = record {
  reached = λ x. f.reached x ∙ rw (edges-kept w w₁ n l.rows, l.edges, l.none);
  fresh = sets-fresh l.none l.marks l.flags f.sets;
  places = chains-kept r w' r₁ l.places (λ i h. refl) (heads-kept f.kept 0 (omega arith)) (λ i h. refl);
  witnesses = chains-kept r w' r₁ l.witnesses (λ i h. refl) (heads-kept f.kept 4 (omega arith)) (λ i h. refl);
  fields = λ x h. part_in w' w₁ 14 (fields_place n x + HEADS) (f.kept.fields x h) 6 (fields_place n x + COUNT) (omega arith) (omega arith) ∙ l.fields x h;
  spare = λ x h. f.kept.spare x h ∙ l.spare x h;
  rows = f.kept.rows ∙ l.rows;
  beyond = f.kept.beyond ∙ drop_more w₁ w (list_place n) l.beyond (buckets_place n) (omega arith);
  long = f.kept.long ∙ l.long;
  stay = l.stay;
  count = f.count;
}

-- What the calls of `graph` leave together. Assumes nothing.
use mathlib.Core.Path.{◌≡◌, refl, sym, ap, subst, ◌∙◌}
use mathlib.Core.List.{List, map}
use Prim.Native.Nat.{ℕ, zero, suc, ◌+◌, ◌≤◌, ◌<◌}
use native.Mathlib.Omega.{arith}
use lib.ListN.{length, take, drop}
use Rattle.spec.specs.Opcodes.{in_mode}
use Rattle.spec.specs.Stacks.{Stack}
use Rattle.spec.specs.Search.{Rec, found}
use Rattle.spec.specs.Ending.{Final, finals}
use Rattle.spec.specs.Answer.{prepared}
use Rattle.laws.proofs.Members.{In, here}
use Rattle.lent.specs.Bytes.{num_at}
use Rattle.layout.specs.Edges.{E-WITNESS, E-OWN, E-LINKS, E-ENDS, end_at}
use Rattle.layout.specs.Records.{record_place, end_of, start_at, to_at, R-ENERGY, energy_at}
use Rattle.initial.specs.Rows.{blocks_at}
use Rattle.initial.proofs.Rows.{blocks-prefix}
use Rattle.tables.specs.Records.{path_at, rec_at, recs_of}
use Rattle.lent.proofs.Parts.{drop_more, part-prefix}
use Rattle.lent.proofs.Numbers.{num-prefix}
use Rattle.layout.specs.Parts.{ROW, row_place, rows_end, list_place, buckets_place, PastList}
use Rattle.layout.specs.Rows.{tag_at}
use Rattle.tables.proofs.Counted.{recs-length}
use Rattle.reachable.specs.Pruning.{Pruned}
use Rattle.reachable.proofs.Frames.{num-in, part_in}
use Rattle.reachable.proofs.Chaining.{chains-kept}
use Rattle.reachable.proofs.Finals.{pruning-edges}
use Rattle.graph.specs.Border.{EdgeOf, Finished}
use Rattle.graph.specs.Notes.{note_of, merged_block, merged_row, edge_to}
use Rattle.graph.specs.Promises.{MergedAll, Rewrote, Fits, Graphed, EdgeFrom, Graphs}
use Rattle.graph.proofs.Finals.{note-of, finals-blocks}
use Rattle.graph.proofs.Recs.{rec-in, in-rec, rec-at, rec-destination}
use Rattle.graph.proofs.Edges.{RowOf, same_edges}
use Rattle.graph.proofs.Asking.{start-lies, rec-last, row_of}

module _ {mode : ℕ} {code s : List ℕ} {room m flags : ℕ} {w r q w₁ r₁ w₂ r₂ : List ℕ} (f : Fits mode code s room (length code) m w r q) (t : MergedAll (length code) m w r w₁)
    (e : Rewrote m w₁ r q r₁) (p : Pruned (length code) m w₁ r₁ w₂ r₂ flags) where
  all : List Rec
  all = recs_of r q s room m

  merged-blocks : blocks_at w₁ (length code) ≡ map (λ (x : Final). x.block) (finals (prepared (in_mode mode) code) all)
  unfolding all
  merged-blocks =
      t.blocks ∙ ap (map (merged_block (length code) (λ (a : ℕ). note_of r a m))) f.blocks
      ∙ sym (finals-blocks (length code) f.lent.short (recs_of r q s room m) (λ (a : ℕ). note_of r a m) (λ a. note-of r q s room a m) (λ x u i. (f.lie x i).to u) (prepared (in_mode mode) code))

  -- a field before the links, and the end of a path after them
  front : (i : ℕ) → i < m → (o : ℕ) → o ≤ E-OWN → num_at 2 r₂ (record_place i + o) ≡ num_at 2 r₁ (record_place i + o)
  front i h o g = num-in r₂ r₁ E-LINKS (record_place i) (p.stay.before i h) 2 (record_place i + o) (omega arith) (omega arith)

  ends : (i : ℕ) → i ≤ m → end_at r₂ i ≡ end_of r i
  unfolding end_at end_of
  ends zero h = refl
  ends (suc i) h = num-in r₂ r₁ 16 (record_place i + E-ENDS) (p.stay.after i (omega arith)) 4 (record_place i + E-ENDS) (omega arith) (omega arith) ∙ (e.rows i (omega arith)).end

  edge-lands : (i : ℕ) → i < m → (u : ℕ) (v : Stack) → (rec_at r q s room i).to ≡ found u v → u ≤ length code
  edge-lands i h u v d = (f.lie (rec_at r q s room i) (rec-in r q s room m i h)).to u (rw d here)

  -- the number stays where it was recorded
  number : (i : ℕ) → i < m → energy_at r₂ i ≡ energy_at r i
  number i h =
      num-in r₂ r₁ 16 (record_place i + E-ENDS) (p.stay.after i h) 4 (record_place i + R-ENERGY) (omega arith) (omega arith)
      ∙ num-in r₁ r 12 (record_place i + 20) (e.rows i h).rest 4 (record_place i + R-ENERGY) (omega arith) (omega arith)

  edge_of : (i : ℕ) → i < m → EdgeOf (length code) w₂ r₂ q i (rec_at r q s room i)
  unfolding rec_at path_at
  edge_of i h = record {
    start = num-in r₂ r₁ E-LINKS (record_place i) (p.stay.before i h) 2 (record_place i) (omega arith) (omega arith) ∙ (e.rows i h).start;
    to = front i h E-OWN (omega arith) ∙ (e.rows i h).to ∙ sym (rec-destination r q s room i);
    last = front i h E-WITNESS (omega arith) ∙ (e.rows i h).last ∙ sym (rec-last f i h);
    path = rw (ends i (omega arith), ends (suc i) (omega arith));
    energy = number i h;
    rises = rw (ends i (omega arith), ends (suc i) (omega arith)) (f.rows i h).rises;
    in_q = rw (ends (suc i) (omega arith)) (f.rows i h).in_q;
    in_r = omega (arith, (f.rows i h).in_r, e.long, p.stay.long);
    starts = start-lies f i h;
    lands = edge-lands i h;
  }

  rows-found : (i : ℕ) → i < m → (x : Rec) × In x all × RowOf w₁ r₁ i x
  unfolding all
  rows-found i h = (rec_at r q s room i, rec-in r q s room m i h, row_of f t e i h)

  recs-found : (x : Rec) → In x all → (i : ℕ) × (i < m) × RowOf w₁ r₁ i x
  unfolding all
  recs-found x j = let g = in-rec r q s room m j in (g.0, g.1, subst (RowOf w₁ r₁ g.0) (sym g.2) (row_of f t e g.0 g.1))

  finish : Finished mode code (recs_of r q s room m) w₂ r₂ q
  unfolding all
  finish =
      let long : length (recs_of r q s room m) ≡ m = recs-length r q s room m in
      record {
        blocks = blocks-prefix w₂ w₁ (length code) p.rows ∙ merged-blocks;
        rows = λ i h x rest d. subst (EdgeOf (length code) w₂ r₂ q i) (sym (rec-at r q s room m i (rw long at h) d)) (edge_of i (rw long at h));
        kept = λ a h. p.reached a
            ∙ pruning-edges w₁ r₁ (length code) m (finals (prepared (in_mode mode) code) all) merged-blocks
            (same_edges w₁ r₁ (length code) m (prepared (in_mode mode) code) all f.lent.short merged-blocks (λ x i. ((f.lie x i).start, (f.lie x i).to)) rows-found recs-found) a;
        places = rw long (chains-kept r₂ w₂ r₂ p.places (λ i h. front i h 0 (omega arith)) (λ x h. refl) (λ i h. refl));
        lent = record { short = f.lent.short; room = omega (arith, f.lent.room, t.long, p.long) };
        few = rw long (omega (arith, f.few));
        away = omega (arith, f.lent.short);
      }

-- ---- the bytes, whatever code it is

module _ {n m flags : ℕ} {w r q w₁ r₁ w₂ r₂ : List ℕ} (a : Graphs n m w r q) (t : MergedAll n m w r w₁) (e : Rewrote m w₁ r q r₁) (p : Pruned n m w₁ r₁ w₂ r₂ flags) where
  merged-row : (x : ℕ) → x ≤ n → take ROW (drop (row_place x) w₂) ≡ merged_row n (note_of r x m) w x
  merged-row x h = part-prefix w₂ w₁ (rows_end n) p.rows 20 (row_place x) (omega arith) ∙ t.bytes x h

  field : (i : ℕ) → i < m → (k o : ℕ) → o + k ≤ 8 → num_at k r₂ (record_place i + o) ≡ num_at k r₁ (record_place i + o)
  field i h k o g = num-in r₂ r₁ 8 (record_place i) (p.stay.before i h) k (record_place i + o) (omega arith) (omega arith)

  edge-from : (i : ℕ) → i < m → EdgeFrom w₂ r q i r₂
  edge-from i h =
      let x = e.rows i h in
      let tag : tag_at w₂ (start_at r i) ≡ tag_at w₁ (start_at r i) =
      num-prefix w₂ w₁ (rows_end n) p.rows 1 (row_place (start_at r i)) (omega (arith, start-lies a.fits i h)) in
      record {
        start = num-in r₂ r₁ 8 (record_place i) (p.stay.before i h) 2 (record_place i) (omega arith) (omega arith) ∙ x.start;
        edge = field i h 2 2 (omega arith) ∙ x.edge ∙ ap (λ (y : ℕ). edge_to y (to_at r i)) (sym tag);
        last = field i h 2 4 (omega arith) ∙ x.last;
        to = field i h 2 6 (omega arith) ∙ x.to;
        end = num-in r₂ r₁ 16 (record_place i + 16) (p.stay.after i h) 4 (record_place i + 16) (omega arith) (omega arith) ∙ x.end;
        rest = part_in r₂ r₁ 16 (record_place i + 16) (p.stay.after i h) 12 (record_place i + 20) (omega arith) (omega arith) ∙ x.rest;
      }

  past-worklist : PastList n w w₂
  past-worklist = p.beyond ∙ drop_more w₁ w (list_place n) t.beyond (buckets_place n) (omega arith)

-- ---- together

pub graphed : {n m flags : ℕ} {w r q w₁ r₁ w₂ r₂ : List ℕ} → Graphs n m w r q → MergedAll n m w r w₁ → Rewrote m w₁ r q r₁ → Pruned n m w₁ r₁ w₂ r₂ flags
    → Graphed n m w r q w₂ r₂ flags
graphed {n} {m} {flags} {w} {r} {q} {w₁} {r₁} {w₂} {r₂} a t e p = record {
  finished = λ mode code s room f.
      subst (λ (k : ℕ). Fits mode code s room k m w r q → MergedAll k m w r w₁ → Pruned k m w₁ r₁ w₂ r₂ flags → Finished mode code (recs_of r q s room m) w₂ r₂ q) f.size
      (λ g u v. finish g u e v) f t p;
  rows = merged-row a t e p;
  fresh = p.fresh;
  edges = edge-from a t e p;
  places = chains-kept r₂ w₂ r₂ p.places (λ i h. field a t e p i h 2 0 (omega arith)) (λ x h. refl) (λ i h. refl);
  witnesses = chains-kept r₂ w₂ r₂ p.witnesses (λ i h. field a t e p i h 2 4 (omega arith)) (λ x h. refl) (λ i h. refl);
  fields = p.fields;
  spare = p.spare;
  beyond_w = past-worklist a t e p;
  beyond_r = p.stay.beyond ∙ e.beyond;
  long_w = p.long ∙ t.long;
  long_r = p.stay.long ∙ e.long;
  count = p.count;
}

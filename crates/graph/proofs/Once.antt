-- The contract of `graph` leaves no choice: two results of one call are the same, all but the worklist in W, which is scratch. Assumes nothing.
use mathlib.Core.Path.{◌≡◌, refl, sym, ap, ◌∙◌}
use mathlib.Core.Bool.{Bool}
use mathlib.Core.List.{List}
use Prim.Native.Nat.{ℕ, ◌+◌, ◌*◌, ◌≤◌, ◌<◌}
use native.Mathlib.Nat.{add-zero}
use native.Mathlib.Omega.{arith}
use lib.ListN.{length}
use Rattle.spec.specs.Lists.{if, mem}
use Rattle.lent.proofs.Numbers.{num-prefix}
use Rattle.lent.proofs.Once.{Bytes, Same, Outside, same-num, same-both, same-as, same_then, same_rows, same_whole}
use Rattle.layout.specs.Edges.{E-TO, E-WITNESS, E-OWN, E-LINKS, E-ENDS, key_at}
use Rattle.layout.specs.Fields.{COUNT, LAST, HEADS, flag_at}
use Rattle.layout.specs.Parts.{row_place, rows_end, fields_place, list_place}
use Rattle.layout.specs.Records.{record_place, start_at, to_at}
use Rattle.layout.specs.Rows.{tag_at}
use Rattle.reachable.specs.Marks.{flagged}
use Rattle.reachable.specs.Pruning.{Chains}
use Rattle.reachable.proofs.Flags.{flagged-same}
use Rattle.reachable.proofs.Chaining.{chains-kept}
use Rattle.reachable.proofs.Once.{but-worklist}
use Rattle.graph.specs.Notes.{edge_to}
use Rattle.graph.specs.Promises.{Graphs, Graphed}
use Rattle.graph.proofs.Asking.{start-lies}

module _ {n m count count' : ℕ} {w r q v s u t : List ℕ} (a : Graphs n m w r q) (p : Graphed n m w r q v s count) (f : Graphed n m w r q u t count') where
  rows : Same v u 0 (rows_end n)
  rows = same_rows 0 20 (n + 1) (λ x h. same-as (same-both (row_place x) 20 (p.rows x (omega arith)) (f.rows x (omega arith))) (omega arith) refl)

  tags : (x : ℕ) → x ≤ n → tag_at v x ≡ tag_at u x
  tags x h = num-prefix v u (rows_end n) rows.is 1 (row_place x) (omega arith)

  reached : (x : ℕ) → x ≤ n → mem x (flagged v n) ≡ mem x (flagged u n)
  reached x h =
      let l : x ≤ length a.code = omega (arith, a.fits.size) in
      let one = (p.finished a.mode a.code a.states a.room a.fits).kept x l in
      let two = (f.finished a.mode a.code a.states a.room a.fits).kept x l in
      rw a.fits.size at (one ∙ sym two)

  marked : (x : ℕ) → x ≤ n → ◌≡◌ {A = ℕ} (if (mem x (flagged v n)) 1 0) (if (mem x (flagged u n)) 1 0)
  marked x h = ap (λ (is : Bool). if is 1 0) (reached x h)

  flags : (x : ℕ) → x ≤ n → flag_at v n x ≡ flag_at u n x
  flags x h = p.fresh.flags x h ∙ marked x h ∙ sym (f.fresh.flags x h)

  -- ---- the links, by the keys of the first

  places : Chains n m 0 s u t 0
  places =
      chains-kept s u t f.places (λ i h. let e : key_at s 0 i ≡ key_at t 0 i = rw add-zero ((p.edges i h).start ∙ sym (f.edges i h).start) in e) (λ x h. refl) (λ i h. refl)

  witnesses : Chains n m 4 s u t 0
  witnesses = chains-kept s u t f.witnesses (λ i h. (p.edges i h).last ∙ sym (f.edges i h).last) (λ x h. refl) (λ i h. refl)

  -- ---- W

  module _ (b : Bytes v) (d : Bytes u) where
    heads : (x : ℕ) → x ≤ n → Same v u (fields_place n x + HEADS) 14
    heads x h =
        let long : length v ≡ length u = p.long_w ∙ sym f.long_w in
        let first : Same v u (fields_place n x + HEADS) 4 = same-num b d long 4 (fields_place n x + HEADS) (p.places.heads x h ∙ sym (places.heads x h)) in
        let second : Same v u (fields_place n x + 8) 4 = same-num b d long 4 (fields_place n x + 8) (p.witnesses.heads x h ∙ sym (witnesses.heads x h)) in
        same_then (same_then first second (omega arith)) (same-both (fields_place n x + COUNT) 6 (p.fields x h) (f.fields x h)) (omega arith)

    graphed-w : Outside (list_place n) (2 * (n + 1)) v u
    graphed-w =
        but-worklist b d (p.long_w ∙ sym f.long_w) rows.is (λ x h. p.fresh.marks x h ∙ marked x h ∙ sym (f.fresh.marks x h)) heads
        flags (λ x h. same-both (fields_place n x + LAST) 1 (p.spare x h) (f.spare x h))
        (p.beyond_w ∙ sym f.beyond_w)

  -- ---- R

  module _ (b : Bytes s) (d : Bytes t) where
    edge : (i : ℕ) → i < m → Same s t (record_place i) 32
    edge i h =
        let long : length s ≡ length t = p.long_r ∙ sym f.long_r in
        let x = p.edges i h in
        let y = f.edges i h in
        let start : Same s t (record_place i) 2 = same-num b d long 2 (record_place i) (x.start ∙ sym y.start) in
        let to : Same s t (record_place i + E-TO) 2 =
        same-num b d long 2 (record_place i + E-TO) (x.edge ∙ ap (λ (k : ℕ). edge_to k (to_at r i)) (tags (start_at r i) (start-lies a.fits i h)) ∙ sym y.edge) in
        let last : Same s t (record_place i + E-WITNESS) 2 = same-num b d long 2 (record_place i + E-WITNESS) (x.last ∙ sym y.last) in
        let own : Same s t (record_place i + E-OWN) 2 = same-num b d long 2 (record_place i + E-OWN) (x.to ∙ sym y.to) in
        let place : Same s t (record_place i + E-LINKS) 4 = same-num b d long 4 (record_place i + E-LINKS) (p.places.links i (omega arith) h ∙ sym (places.links i (omega arith) h)) in
        let witness : Same s t (record_place i + (E-LINKS + E-WITNESS)) 4 = same-num b d long 4 (record_place i + (E-LINKS + E-WITNESS)) (p.witnesses.links i (omega arith) h ∙ sym (witnesses.links i (omega arith) h)) in
        let end : Same s t (record_place i + E-ENDS) 4 = same-num b d long 4 (record_place i + E-ENDS) (x.end ∙ sym y.end) in
        let rest : Same s t (record_place i + 20) 12 = same-both (record_place i + 20) 12 x.rest y.rest in
        let fields : Same s t (record_place i) 8 = same_then (same_then (same_then start to refl) last refl) own refl in
        same_then (same_then (same_then (same_then fields place refl) witness refl) end refl) rest refl

    graphed-r : s ≡ t
    graphed-r = same_whole (record_place m) (same_rows 0 32 m (λ i h. same-as (edge i h) (omega arith) refl)) (p.beyond_r ∙ sym f.beyond_r)

  pub one-graphed : Bytes v → Bytes u → Bytes s → Bytes t → Outside (list_place n) (2 * (n + 1)) v u × (s ≡ t) × (count ≡ count')
  one-graphed b d e g = (graphed-w b d, graphed-r e g, p.count ∙ ap (λ (l : List ℕ). length l) (flagged-same u v n flags) ∙ sym f.count)

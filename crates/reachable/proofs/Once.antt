-- The contracts leave no choice: two results of one call are the same, all but the worklist in W, which is scratch. Assumes nothing.
use mathlib.Core.Path.{◌≡◌, refl, sym, ap, ◌∙◌}
use mathlib.Core.Bool.{Bool}
use mathlib.Core.List.{List}
use Prim.Native.Nat.{ℕ, ◌+◌, ◌*◌, ◌≤◌, ◌<◌}
use native.Mathlib.Omega.{arith}
use lib.ListN.{length}
use Rattle.spec.specs.Lists.{if, mem}
use Rattle.lent.proofs.Once.{Bytes, Same, Outside, same-num, same-both, same-as, same_then, same_rows, same_whole, same-outside}
use Rattle.layout.specs.Edges.{E-ENDS}
use Rattle.layout.specs.Fields.{COUNT, HIGHEST, FLAG, LAST, HEADS, mark_at, flag_at}
use Rattle.layout.specs.Parts.{ROW, fields_place, list_place, buckets_place, SameRows, PastList}
use Rattle.layout.specs.Records.{record_place}
use Rattle.layout.proofs.Once.{same-to-list}
use Rattle.reachable.specs.Marks.{flagged, remark}
use Rattle.reachable.specs.Promises.{Marked, KeptBut, Highest, Raised, Expanded, Reaches}
use Rattle.reachable.specs.Pruning.{Pruned}
use Rattle.reachable.proofs.Flags.{flagged-same}
use Rattle.reachable.proofs.Raising.{highest-once}

pub one-marked : {n a when : ℕ} {w v u : List ℕ} → Marked n w a when v → Marked n w a when u → v ≡ u
one-marked p q = p.is ∙ sym q.is

-- ---- all but the worklist: the rows, the twenty bytes of each address, and what is past the worklist

module _ {n : ℕ} {v u : List ℕ} (p : Bytes v) (q : Bytes u) (long : length v ≡ length u) (rows : SameRows n u v)
    (marks : (x : ℕ) → x ≤ n → mark_at v n x ≡ mark_at u n x) (fields : (x : ℕ) → x ≤ n → Same v u (fields_place n x + HEADS) 14)
    (flags : (x : ℕ) → x ≤ n → flag_at v n x ≡ flag_at u n x) (spare : (x : ℕ) → x ≤ n → Same v u (fields_place n x + LAST) 1)
    (beyond : PastList n u v) where
  address : (x : ℕ) → x ≤ n → Same v u (fields_place n x) ROW
  address x h =
      let mark : Same v u (fields_place n x) 4 = same-num p q long 4 (fields_place n x) (marks x h) in
      let flag : Same v u (fields_place n x + FLAG) 1 = same-num p q long 1 (fields_place n x + FLAG) (flags x h) in
      same_then (same_then (same_then mark (fields x h) refl) flag (omega arith)) (spare x h) (omega arith)

  pub but-worklist : Outside (list_place n) (2 * (n + 1)) v u
  but-worklist = same-outside (buckets_place n) (same-to-list rows address) beyond (omega arith) long

-- ---- the highest parents

-- the fields of others, and the highest parents, which the marks and the rows say
module _ {n : ℕ} {w v u : List ℕ} (b : Bytes v) (d : Bytes u) (p : KeptBut n w v) (q : KeptBut n w u) (marks : (x : ℕ) → x ≤ n → mark_at v n x ≡ mark_at u n x) where
  fields-same : Highest n v → Highest n u → (x : ℕ) → x ≤ n → Same v u (fields_place n x + HEADS) 14
  fields-same i j x h =
      let others : Same v u (fields_place n x + HEADS) 12 = same-both (fields_place n x + HEADS) 12 (p.fields x h) (q.fields x h) in
      let high : Same v u (fields_place n x + HIGHEST) 2 =
      same-num b d (p.long ∙ sym q.long) 2 (fields_place n x + HIGHEST) (highest-once (p.rows ∙ sym q.rows) (λ y g ne z. ne (marks y g ∙ z)) (λ y g ne z. ne (sym (marks y g) ∙ z)) i j x h) in
      same_then others high (omega arith)

pub one-raised : {n a : ℕ} {ts w v u : List ℕ} → Bytes v → Bytes u → Raised n ts w a v → Raised n ts w a u → v ≡ u
one-raised {n} {v = v} {u} b d p q = same_whole (list_place n) (same-to-list (p.rows ∙ sym q.rows) address) (p.beyond ∙ sym q.beyond)
  where
    address : (x : ℕ) → x ≤ n → Same v u (fields_place n x) ROW
    address x h =
        let before : Same v u (fields_place n x) HIGHEST = same-both (fields_place n x) HIGHEST (p.before x h) (q.before x h) in
        let high : Same v u (fields_place n x + HIGHEST) 2 = same-num b d (p.long ∙ sym q.long) 2 (fields_place n x + HIGHEST) (p.highs x h ∙ sym (q.highs x h)) in
        let after : Same v u (fields_place n x + FLAG) 2 = same-both (fields_place n x + FLAG) 2 (p.after x h) (q.after x h) in
        same_then (same_then before high refl) after (omega arith)

-- ---- the closures

pub one-expanded : {n when : ℕ} {w seeds v u : List ℕ} → Bytes v → Bytes u → Expanded n w seeds when v → Expanded n w seeds when u
    → Outside (list_place n) (2 * (n + 1)) v u
one-expanded {n} {when} {w} {seeds} {v} {u} b d p q =
    but-worklist b d (p.kept.long ∙ sym q.kept.long) (p.kept.rows ∙ sym q.kept.rows) marks (fields-same b d p.kept q.kept marks p.high q.high)
    (λ x h. p.sets.flags x h ∙ ap (λ (is : Bool). remark 1 (mem x (flagged w n)) is (flag_at w n x)) (same x) ∙ sym (q.sets.flags x h))
    (λ x h. same-both (fields_place n x + LAST) 1 (p.kept.spare x h) (q.kept.spare x h))
    (p.kept.beyond ∙ sym q.kept.beyond)
  where
    same : (x : ℕ) → mem x (flagged v n) ≡ mem x (flagged u n)
    same x = p.reached x ∙ sym (q.reached x)

    marks : (x : ℕ) → x ≤ n → mark_at v n x ≡ mark_at u n x
    marks x h = p.sets.marks x h ∙ ap (λ (is : Bool). remark when (mem x (flagged w n)) is (mark_at w n x)) (same x) ∙ sym (q.sets.marks x h)

pub one-reaches : {n : ℕ} {w v u : List ℕ} → Bytes v → Bytes u → Reaches n w v → Reaches n w u → Outside (list_place n) (2 * (n + 1)) v u
one-reaches {n} {w} {v} {u} b d p q =
    but-worklist b d (p.kept.long ∙ sym q.kept.long) (p.kept.rows ∙ sym q.kept.rows) marks (fields-same b d p.kept q.kept marks p.high q.high)
    (λ x h. p.fresh.flags x h ∙ ap (λ (is : Bool). if is 1 0) (same x) ∙ sym (q.fresh.flags x h))
    (λ x h. same-both (fields_place n x + LAST) 1 (p.kept.spare x h) (q.kept.spare x h))
    (p.kept.beyond ∙ sym q.kept.beyond)
  where
    same : (x : ℕ) → mem x (flagged v n) ≡ mem x (flagged u n)
    same x = p.reached x ∙ sym (q.reached x)

    marks : (x : ℕ) → x ≤ n → mark_at v n x ≡ mark_at u n x
    marks x h = p.fresh.marks x h ∙ ap (λ (is : Bool). if is 1 0) (same x) ∙ sym (q.fresh.marks x h)

-- ---- pruning: so in W; R is the same in every byte, and so is the number

module _ {n m flags flags' : ℕ} {w r v s u t : List ℕ} (p : Pruned n m w r v s flags) (q : Pruned n m w r u t flags') where
  pruned-same : (x : ℕ) → ◌≡◌ {A = ℕ} (if (mem x (flagged v n)) 1 0) (if (mem x (flagged u n)) 1 0)
  pruned-same x = ap (λ (is : Bool). if is 1 0) (p.reached x ∙ sym (q.reached x))

  pruned-flags : (x : ℕ) → x ≤ n → flag_at v n x ≡ flag_at u n x
  pruned-flags x h = p.fresh.flags x h ∙ pruned-same x ∙ sym (q.fresh.flags x h)

  module _ (b : Bytes v) (d : Bytes u) where
    pruned-heads : (x : ℕ) → x ≤ n → Same v u (fields_place n x + HEADS) 14
    pruned-heads x h =
        let long : length v ≡ length u = p.long ∙ sym q.long in
        let first : Same v u (fields_place n x + HEADS) 4 = same-num b d long 4 (fields_place n x + HEADS) (p.places.heads x h ∙ sym (q.places.heads x h)) in
        let second : Same v u (fields_place n x + 8) 4 = same-num b d long 4 (fields_place n x + 8) (p.witnesses.heads x h ∙ sym (q.witnesses.heads x h)) in
        same_then (same_then first second (omega arith)) (same-both (fields_place n x + COUNT) 6 (p.fields x h) (q.fields x h)) (omega arith)

    pruned-w : Outside (list_place n) (2 * (n + 1)) v u
    pruned-w =
        but-worklist b d (p.long ∙ sym q.long) (p.rows ∙ sym q.rows) (λ x h. p.fresh.marks x h ∙ pruned-same x ∙ sym (q.fresh.marks x h)) pruned-heads
        pruned-flags (λ x h. same-both (fields_place n x + LAST) 1 (p.spare x h) (q.spare x h))
        (p.beyond ∙ sym q.beyond)

  pruned-row : Bytes s → Bytes t → (i : ℕ) → i < m → Same s t (record_place i) 32
  pruned-row b d i h =
      let long : length s ≡ length t = p.stay.long ∙ sym q.stay.long in
      let place : Same s t (record_place i + 8) 4 = same-num b d long 4 (record_place i + 8) (p.places.links i (omega arith) h ∙ sym (q.places.links i (omega arith) h)) in
      let witness : Same s t (record_place i + 12) 4 = same-num b d long 4 (record_place i + 12) (p.witnesses.links i (omega arith) h ∙ sym (q.witnesses.links i (omega arith) h)) in
      same_then (same_then (same_then (same-both (record_place i) 8 (p.stay.before i h) (q.stay.before i h)) place refl) witness (omega arith)) (same-both (record_place i + E-ENDS) 16 (p.stay.after i h) (q.stay.after i h)) (omega arith)

  pub one-pruned : Bytes v → Bytes u → Bytes s → Bytes t → Outside (list_place n) (2 * (n + 1)) v u × (s ≡ t) × (flags ≡ flags')
  one-pruned b d e f = (
    pruned-w b d,
    same_whole (record_place m) (same_rows 0 32 m (λ i h. same-as (pruned-row e f i h) (omega arith) refl)) (p.stay.beyond ∙ sym q.stay.beyond),
    p.count ∙ ap (λ (l : List ℕ). length l) (flagged-same u v n pruned-flags) ∙ sym q.count,
  )

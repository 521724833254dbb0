-- The rows that a block lists, along their links: one or none more, and how few bytes they take in all. Assumes nothing.
use mathlib.Core.Path.{◌≡◌, sym, ap, ◌∙◌}
use mathlib.Core.Bool.{Bool, true, false}
use mathlib.Core.List.{List, [], ◌∷◌, ◌++◌, append_assoc, append-nil}
use Prim.Native.Nat.{ℕ, suc, ◌+◌, ◌*◌, ◌^◌, ◌≤◌}
use native.Mathlib.Omega.{arith}
use Rattle.std.specs.Prelude.{Option, Some, None}
use lib.ListN.{length}
use Rattle.spec.specs.Lists.{keep, total}
use Rattle.layout.specs.Edges.{link_at}
use Rattle.layout.specs.Fields.{head_at}
use Rattle.layout.specs.Records.{RECORD, record_place}
use Rattle.laws.proofs.Totals.{total-append, total-keep}
use Rattle.entries.specs.Rows.{upto, steps_of, mine, listed, chosen, left_of}
use Rattle.output.specs.declared.Output.{Output}
use Rattle.output.specs.Promises.{PutsFew}
use Rattle.entries.specs.Links.{link_of}
use Rattle.entries.specs.Promises.{RowsIn, LinkedAt}
use Rattle.entries.proofs.Keeping.{keep_append, keep-on, keep-off}
use Rattle.output.proofs.Puts.{puts_none, few-join, few-less}
use Rattle.entries.proofs.Sizes.{end_low}
use Rattle.entries.proofs.Most.{rows-total}
use Rattle.entries.proofs.Walks.{OnChain, first_on, first-left, walk_inside, walk-room, next-on, next-left}
use Rattle.json_text.specs.Rows.{lined, mark, next, way_text}
use Rattle.json_text.specs.Promises.{PutsWay}
use Rattle.json_text.proofs.Lines.{lined-next}
use Rattle.json_text.proofs.Ways.{way-some}

-- ---- one row

pub row-far : {r q : List ℕ} {i : ℕ} {bs : List ℕ} {o o' : Output} → PutsWay r q i o.end 23 → PutsFew 1 o bs o' → PutsWay r q i o'.end 22
row-far h p = record { row = h.row; far = omega (arith, h.far, p.few, p.puts.next) }

module _ (r q : List ℕ) (tag i begin : ℕ) {is : Bool} (f : is ≡ listed r tag i) {o : Output} where
  pub row_on : {o₁ o₂ : Output} → is ≡ true → PutsFew 1 o (mark begin o.end) o₁
      → PutsFew (22 + 6 * steps_of r i) o₁ (way_text r q i) o₂
      → PutsFew (23 + 6 * steps_of r i) o (next begin o.end (way_text r q) (keep (listed r tag) (i ∷ []))) o₂
  unfolding next
  row_on e p s = rw (keep-on (listed r tag) i (sym f ∙ e)) (few-less (few-join p s) (omega arith))

  pub row-off : is ≡ false → PutsFew (23 + 6 * steps_of r i) o (next begin o.end (way_text r q) (keep (listed r tag) (i ∷ []))) o
  unfolding next
  row-off e = rw (keep-off (listed r tag) i (sym f ∙ e)) record { puts = puts_none o; few = omega arith }

-- ---- how few bytes rows take

-- a row takes no more, with its comma
abbrev pub weight : List ℕ → ℕ → ℕ
weight r i = 23 + 6 * steps_of r i

rows_few : {r q : List ℕ} {m : ℕ} → RowsIn r q m → (a : ℕ) → total (weight r) (keep (mine r a) (upto 0 m)) ≤ 2 ^ 36
rows_few {r} {q} {m} rows a = omega (arith, rows-total rows 23 6, total-keep (weight r) (mine r a) (upto 0 m), rows.few, rows.small)

-- ---- along the links

-- the rows that are done, and those that are left, are the block's
pub record Walking (r q : List ℕ) (m a tag : ℕ) (o₀ o : Output) (k : ℕ) : Type 0 where
  pub on : OnChain r m a k
  pub done : List ℕ
  pub puts : PutsFew (total (weight r) done) o₀ (lined (way_text r q) (keep (listed r tag) done)) o
  pub rest : done ++ left_of r m a k ≡ keep (mine r a) (upto 0 m)

module _ {n m a : ℕ} {w r q : List ℕ} (l : LinkedAt n m w r a) (rows : RowsIn r q m) where
  pub walk_start : (tag : ℕ) {k : ℕ} (o : Output) → k ≡ head_at w n 0 a → Walking r q m a tag o o k
  unfolding lined
  walk_start tag o e = record { on = first_on l e; done = []; puts = record { puts = puts_none o; few = omega arith }; rest = first-left l e }

  module _ {tag k : ℕ} {o₀ o : Output} (g : Walking r q m a tag o₀ o k) where
    walk-few : total (weight r) g.done ≤ 2 ^ 36
    walk-few = omega (arith, rows_few rows a, ap (total (weight r)) g.rest, total-append (weight r) g.done (left_of r m a k))

  module _ {tag i : ℕ} {o₀ o : Output} {x : Option ℕ} (at_row : x ≡ Some i) (g : Walking r q m a tag o₀ o (link_of x)) where
    walk-at : Walking r q m a tag o₀ o (suc i)
    walk-at = rw at_row at g

    pub link-room : record_place i + RECORD ≤ length r
    link-room = walk-room l walk-at.on

    pub walk-row : o₀.end ≤ 2 ^ 61 → PutsWay r q i o.end 23
    walk-row h =
        let inside = walk_inside l walk-at.on in
        record {
          row = rows.each i inside;
          far = omega (arith, end_low rows (suc i) (omega arith), rows.small, walk-at.puts.puts.next, walk-at.puts.few, walk-few walk-at);
        }

    pub walk_turn : {k : ℕ} {o' : Output} → PutsFew (23 + 6 * steps_of r i) o (next o₀.end o.end (way_text r q) (keep (listed r tag) (i ∷ []))) o'
        → k ≡ link_at r 0 i → Walking r q m a tag o₀ o' k
    walk_turn {k} p e =
        let so : List ℕ = keep (listed r tag) walk-at.done in
        let more : lined (way_text r q) (keep (listed r tag) (walk-at.done ++ i ∷ [])) ≡ lined (way_text r q) so ++ next o₀.end o.end (way_text r q) (keep (listed r tag) (i ∷ []))
        = rw (keep_append (listed r tag) walk-at.done (i ∷ [])) (lined-next (way_text r q) (way-some r q) (listed r tag) so i o₀.end)
        ∙ ap (λ (e : ℕ). lined (way_text r q) so ++ next o₀.end e (way_text r q) (keep (listed r tag) (i ∷ []))) (sym walk-at.puts.puts.next) in
        record {
          on = next-on l walk-at.on e;
          done = walk-at.done ++ i ∷ [];
          puts = rw more (few-less (few-join walk-at.puts p) (omega (arith, total-append (weight r) walk-at.done (i ∷ []))));
          rest = append_assoc walk-at.done (i ∷ []) (left_of r m a k) ∙ sym (ap (λ (xs : List ℕ). walk-at.done ++ xs) (next-left l walk-at.on e)) ∙ walk-at.rest;
        }

  pub walk-done : {tag : ℕ} {o₀ o : Output} {x : Option ℕ} → x ≡ None → Walking r q m a tag o₀ o (link_of x) → PutsFew (2 ^ 36) o₀ (lined (way_text r q) (chosen r m a tag)) o
  unfolding left_of chosen
  walk-done {tag} {o₀} {o} z g =
      let end : Walking r q m a tag o₀ o 0 = rw z at g in
      let all : end.done ≡ keep (mine r a) (upto 0 m) = rw append-nil at end.rest in
      rw (← all) (few-less end.puts (walk-few end))

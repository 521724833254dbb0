-- The contracts leave no choice: two results of one call are the same; of `prepare`, all but what the runs leave in their part of W. Assumes nothing.
use mathlib.Core.Path.{◌≡◌, refl, sym, ap, ◌∙◌}
use mathlib.Core.List.{List}
use Prim.Native.Nat.{ℕ, suc, ◌+◌, ◌-◌}
use native.Mathlib.Numerals.{add-one}
use native.Mathlib.Omega.{arith}
use lib.ListN.{length}
use Rattle.lent.proofs.Once.{Same, Outside, same-both, same-as, same_then, same_rows, same-outside}
use Rattle.layout.specs.Parts.{row_place}
use Rattle.exec.specs.Owns.{room_of}
use Rattle.parents.specs.Links.{Turn, Takers, no_taker, next_taker}
use Rattle.parents.specs.Promises.{Lent, Wrote, Number, Prepared}

pub one_number : {r s v k : ℕ} → Number r v k → Number s v k → r ≡ s
one_number p q = p.is ∙ sym q.is

pub one-wrote : {w w' w'' v : List ℕ} → Wrote w w' v → Wrote w w'' v → w' ≡ w''
one-wrote p q = p.is ∙ sym q.is

-- how many take turns
count-takers : {w : List ℕ} {n many : ℕ} {ks : List Turn} → Takers w n many ks → many ≡ length ks
count-takers no_taker = refl
count-takers (next_taker {i} r s p) = add-one i ∙ ap suc (count-takers p)

-- the count, and all outside the part for runs
pub one-prepared : {mode : ℕ} {code w v u : List ℕ} {end r s : ℕ} → Lent code w end → Prepared mode code w end v r → Prepared mode code w end u s
    → (r ≡ s) × Outside (end - room_of code) (room_of code) v u
one-prepared {mode} {code} {w} {v} {u} {end} lent p q =
    let n : ℕ = length code + 1 in
    let rows : Same v u 0 (row_place n) = same_rows 0 20 n (λ a h. same-as (same-both (row_place a) 20 (p.row a (omega arith)) (q.row a (omega arith))) (omega arith) refl) in
    let between : Same v u (row_place n) (end - room_of code - row_place n) = same-both (row_place n) (end - room_of code - row_place n) p.beside.between q.beside.between in
    let front : Same v u 0 (end - room_of code) = same-as (same_then rows between (omega arith)) refl (omega (arith, lent.room)) in (
      count-takers p.known.takers ∙ sym (count-takers q.known.takers),
      same-outside end front (p.beside.past ∙ sym q.beside.past) (omega (arith, lent.room)) (p.beside.kept ∙ sym q.beside.kept),
    )

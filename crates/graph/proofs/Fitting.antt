-- What `graph` asks follows from what the search leaves: its tables, and document 01's records in them. Assumes nothing.
use mathlib.Core.Path.{◌≡◌, subst, ◌∙◌}
use mathlib.Core.List.{List, [], ◌∷◌, map}
use Prim.Native.Nat.{ℕ, ◌≤◌}
use native.Mathlib.Omega.{arith}
use lib.Dec.{eqb}
use lib.ListN.{length}
use borrow.Author.Tests.{eq-eqb}
use Rattle.spec.specs.Opcodes.{in_mode}
use Rattle.spec.specs.Search.{Node, Rec, dest, search}
use Rattle.spec.specs.Answer.{prepared}
use Rattle.laws.proofs.Branch.{if-true}
use Rattle.laws.proofs.Members.{In}
use Rattle.layout.specs.Fields.{note_at}
use Rattle.layout.specs.Marks.{NOWHERE}
use Rattle.layout.specs.Records.{to_at}
use Rattle.theorems.proofs.Counts.{lawful}
use Rattle.theorems.proofs.Passing.{record-passes}
use Rattle.initial.specs.Rows.{blocks_at}
use Rattle.tables.specs.Records.{rec_at}
use Rattle.tables.specs.Tables.{mem, recs, Goes, leads_nowhere, leads, Tables}
use Rattle.tables.specs.declared.Rooms.{Rooms}
use Rattle.tables.specs.declared.Counts.{Counts}
use Rattle.reachable.specs.Promises.{Room}
use Rattle.graph.specs.Promises.{Fits}
use Rattle.graph.proofs.Finals.{dest-at}
use Rattle.graph.proofs.Recs.{in-rec, rec-destination}
use Rattle.graph.proofs.Edges.{dest-is}

-- a record's destination, as the tables have it
goes-within : (n room : ℕ) (r q s : List ℕ) (i : ℕ) → Goes n room r s i → (t : ℕ) → In t (dest (rec_at r q s room i).to) → t ≤ n
unfolding rec_at
goes-within n room r q s i (leads_nowhere e k) t j =
    elim (subst (In t) (dest-at r q s room i ∙ if-true (eqb (to_at r i) NOWHERE) [] (to_at r i ∷ []) (eq-eqb (to_at r i) NOWHERE e)) j) [ ]
goes-within n room r q s i (leads h k) t j = omega (arith, dest-is (rec_at r q s room i).to j, rec-destination r q s room i)

pub search-fits : (mode limit : ℕ) (code : List ℕ) {n buckets : ℕ} {k : Rooms} {c : Counts} {w r q s : List ℕ} → Tables n buckets k (mem w r q s) c → length code ≡ n
    → blocks_at w n ≡ map (λ (x : Node). x.block) (prepared (in_mode mode) code) → Room n w → recs k (mem w r q s) c ≡ (search limit (prepared (in_mode mode) code)).recs → ((a : ℕ) → a ≤ n → note_at w n a ≡ 0)
    → Fits mode code s k.s n c.records w r q
search-fits mode limit code {n} {k} {c} {r} {q} {s} t z b l e u = record {
  size = z;
  blocks = b;
  lent = l;
  few = omega (arith, t.within.fits_r, t.within.most_r);
  rows = t.rows;
  unnoted = u;
  lie = λ x i.
      let g = in-rec r q s k.s c.records i in
      let p = record-passes (in_mode mode) lawful limit code x (subst (In x) e i) in
      record {
        start = omega (arith, p.start, z);
        to = λ v j. goes-within n k.s r q s g.0 (t.goes g.0 g.1) v (subst (λ (y : Rec). In v (dest y.to)) g.2 j);
        some = p.along.some;
        path = λ a j. omega (arith, p.along.within a j, z);
      };
}

-- The rows of edges have the edges that the final blocks follow, where W holds those blocks and each row is a record's. Assumes nothing.
use mathlib.Core.Path.{◌≡◌, refl, sym, ap, subst, ◌∙◌}
use mathlib.Core.Logic.{◌↔◌}
use mathlib.Core.Bool.{true, not}
use mathlib.Core.List.{List, [], ◌∷◌, map}
use Prim.Native.Nat.{ℕ, ◌≤◌, ◌<◌}
use native.Mathlib.Decide.{ℕ_discrete}
use native.Mathlib.Omega.{arith}
use lib.Dec.{eqb}
use borrow.Author.Tests.{eqb-true, eq-eqb}
use Rattle.spec.specs.Lists.{last_of, keep, gather}
use Rattle.spec.specs.Blocks.{Kind, terminate, jump, jumpi, dynamic_jump, dynamic_jumpi, Block}
use Rattle.spec.specs.Reach.{Edge, edge}
use Rattle.spec.specs.Search.{Node, Found, nowhere, found, Rec, is_nowhere, dest, dests}
use Rattle.spec.specs.Ending.{Final, all_are, merged, ended, entries_of, finals, followed}
use Rattle.spec.specs.Rooms.{longest}
use Rattle.laws.proofs.Branch.{both}
use Rattle.laws.proofs.Members.{In, here, in-only, in-keep, keep-in, in-gather, in_map}
use Rattle.layout.specs.Edges.{key_at, to_at}
use Rattle.layout.specs.Marks.{NOWHERE, to_number}
use Rattle.layout.specs.Rows.{tag_at}
use Rattle.initial.specs.Rows.{block_at, blocks_at}
use Rattle.initial.proofs.Types.{kind-dynamic_jump}
use Rattle.graph.proofs.Merging.{five}
use Rattle.initial.proofs.Rows as laid
use Rattle.reachable.specs.Links.{edge_at, edges_at}
use Rattle.reachable.proofs.Rows.{gather-in, map-in}
use Rattle.reachable.proofs.EdgeRows.{in-edges, edge_in, edges-in}
use Rattle.reachable.proofs.Finals.{follows}
use Rattle.graph.specs.Notes.{edge_to}
use Rattle.graph.proofs.Rewriting.{to-dynamic, to-other}

-- ---- destinations

pub dest-in : (f : Found) → (to_number f ≡ NOWHERE → ⊥) → In (to_number f) (dest f)
dest-in nowhere h = absurd (h refl)
dest-in (found t s) h = here

pub dest-is : (f : Found) {t : ℕ} → In t (dest f) → t ≡ to_number f
dest-is nowhere i = elim i [ ]
dest-is (found u s) i = in-only i

dest-found : (f : Found) {t : ℕ} → In t (dest f) → not (is_nowhere f) ≡ true
dest-found nowhere i = elim i [ ]
dest-found (found u s) i = refl

-- ---- a block that is still a DynamicJump

-- it has the entries with a destination
record Stays (b : Block) (es : List Rec) (f : Final) : Type 0 where
  start : f.block.start ≡ b.start
  entries : f.block.kind ≡ dynamic_jump → f.entries ≡ keep (λ (x : Rec). not (is_nowhere x.to)) es

merged-stays : (b : Block) (es : List Rec) (ts : List ℕ) → Stays b es (merged b (keep (λ (x : Rec). not (is_nowhere x.to)) es) ts)
merged-stays b es [] = record { start = refl; entries = λ _. refl }
merged-stays b es (t ∷ ts) = both (Stays b es) (all_are t ts) (λ _. record { start = refl; entries = λ e. cc }) (λ _. record { start = refl; entries = λ _. refl })

ended-stays : (b : Block) (es : List Rec) (k : Kind) → Stays b es (ended b es k)
ended-stays b es (terminate success) = record { start = refl; entries = λ e. cc }
ended-stays b es (jump t) = record { start = refl; entries = λ e. cc }
ended-stays b es (jumpi t f) = record { start = refl; entries = λ e. cc }
ended-stays b es dynamic_jump = merged-stays b es (dests es)
ended-stays b es (dynamic_jumpi f) = record { start = refl; entries = λ e. cc }

module _ (ns : List Node) (recs : List Rec) {f : Final} (i : In f (finals ns recs)) (k : f.block.kind ≡ dynamic_jump) where
  final-entries : f.entries ≡ keep (λ (x : Rec). not (is_nowhere x.to)) (entries_of f.block.start recs)
  final-entries =
      let g = in_map (λ (n : Node). ended n.block (entries_of n.block.start recs) n.block.kind) ns i in
      let s : Stays g.0.block (entries_of g.0.block.start recs) f =
      subst (Stays g.0.block (entries_of g.0.block.start recs)) (sym g.2) (ended-stays g.0.block (entries_of g.0.block.start recs) g.0.block.kind) in
      s.entries k ∙ ap (λ (a : ℕ). keep (λ (x : Rec). not (is_nowhere x.to)) (entries_of a recs)) (sym s.start)

  pub entry_in : {x : Rec} {t : ℕ} → In x recs → f.block.start ≡ x.start → In t (dest x.to) → In x f.entries
  entry_in {x} j e d =
      rw final-entries
      (keep-in (λ (y : Rec). not (is_nowhere y.to)) (dest-found x.to d) (keep-in (λ (y : Rec). eqb f.block.start y.start) (eq-eqb _ _ e) j))

  pub in_entry : {x : Rec} → In x f.entries → (f.block.start ≡ x.start) × In x recs
  in_entry {x} j =
      let p = in-keep (λ (y : Rec). not (is_nowhere y.to)) (entries_of f.block.start recs) (rw final-entries at j) in
      let g = in-keep (λ (y : Rec). eqb f.block.start y.start) recs p.1 in
      (eqb-true _ _ g.0, g.1)

-- ---- what it follows

record FollowedBy (a : ℕ) (k : Kind) (es : List Rec) (d : Edge) : Type 0 where
  kind : k ≡ dynamic_jump
  by : Rec
  among : In by es
  leads : In d (map (edge a (last_of by.path)) (dest by.to))

followed-by : (a : ℕ) (k : Kind) (es : List Rec) {d : Edge} → In d (followed a k es) → FollowedBy a k es d
followed-by a (terminate success) es i = elim i [ ]
followed-by a (jump t) es i = elim i [ ]
followed-by a (jumpi t f) es i = elim i [ ]
followed-by a dynamic_jump es i =
    let g = in-gather (λ (x : Rec). map (edge a (last_of x.path)) (dest x.to)) es i in
    record { kind = refl; by = g.0; among = g.1; leads = g.2 }
followed-by a (dynamic_jumpi f) es i = elim i [ ]

follow-in : (a : ℕ) (k : Kind) {es : List Rec} {x : Rec} {t : ℕ} → k ≡ dynamic_jump → In x es → In t (dest x.to) → In (edge a (last_of x.path) t) (followed a k es)
follow-in a k {x} e i j = rw e (gather-in (λ (y : Rec). map (edge a (last_of y.path)) (dest y.to)) i (map-in (edge a (last_of x.path)) j))

-- ---- the rows

-- row i is the record's
pub record RowOf (w r : List ℕ) (i : ℕ) (x : Rec) : Type 0 where
  pub place : key_at r 0 i ≡ x.start
  pub witness : key_at r 4 i ≡ last_of x.path
  pub to : to_at r i ≡ edge_to (tag_at w x.start) (to_number x.to)

-- a row that leads on is of a DynamicJump, and of a record with a destination
pub leading : {w r : List ℕ} {i : ℕ} {x : Rec} → RowOf w r i x → (to_at r i ≡ NOWHERE → ⊥) → (tag_at w x.start ≡ 5) × (to_number x.to ≡ NOWHERE → ⊥) × (to_at r i ≡ to_number x.to)
leading {w} {r} {i} {x} o ne = split (ℕ_discrete (tag_at w x.start) 5)
  where
    split : Dec (tag_at w x.start ≡ 5) → (tag_at w x.start ≡ 5) × (to_number x.to ≡ NOWHERE → ⊥) × (to_at r i ≡ to_number x.to)
    split (yes e) = let s = o.to ∙ to-dynamic (tag_at w x.start) (to_number x.to) e in (e, λ z. ne (s ∙ z), s)
    split (no e) = absurd (ne (o.to ∙ to-other (tag_at w x.start) (to_number x.to) e))

edge_is : (d : Edge) {p v t : ℕ} → d.place ≡ p → d.witness ≡ v → d.to ≡ t → edge p v t ≡ d
edge_is d e f g = rw (← e, ← f, ← g)

row-edge : (r : List ℕ) (i : ℕ) (d : Edge) → d.place ≡ key_at r 0 i → d.witness ≡ key_at r 4 i → d.to ≡ to_at r i → (to_at r i ≡ NOWHERE → ⊥) → In d (edge_at r i)
row-edge r i d p v t ne = subst (λ (h : Edge). In h (edge_at r i)) (edge_is d p v t) (edge_in r i ne)

module _ (w r : List ℕ) (n m : ℕ) (ns : List Node) (recs : List Rec) (short : n ≤ longest)
    (b : blocks_at w n ≡ map (λ (f : Final). f.block) (finals ns recs))
    (lie : (x : Rec) → In x recs → (x.start ≤ n) × ((t : ℕ) → In t (dest x.to) → t ≤ n))
    (rows : (i : ℕ) → i < m → (x : Rec) × In x recs × RowOf w r i x) (finds : (x : Rec) → In x recs → (i : ℕ) × (i < m) × RowOf w r i x) where
  to-follows : (d : Edge) → In d (edges_at r m) → In d (gather follows (finals ns recs))
  unfolding follows
  to-follows d j =
      let e = in-edges r m j in
      let x = rows e.0 e.1 in
      let a : ℕ = x.0.start in
      let l = leading x.2 e.2.leads in
      let at : In (block_at w a) (blocks_at w n) = laid.block_in w n a (lie x.0 x.1).0 (λ z. omega (arith, l.0)) in
      let k = in_map (λ (f : Final). f.block) (finals ns recs) (subst (λ (bs : List Block). In (block_at w a) bs) b at) in
      let start : k.0.block.start ≡ a = sym (ap (λ (c : Block). c.start) k.2) in
      let kind : k.0.block.kind ≡ dynamic_jump = sym (ap (λ (c : Block). c.kind) k.2) ∙ kind-dynamic_jump _ _ l.0 in
      let to : In (to_number x.0.to) (dest x.0.to) = dest-in x.0.to l.1 in
      let is : edge k.0.block.start (last_of x.0.path) (to_number x.0.to) ≡ d =
      edge_is d (e.2.place ∙ x.2.place ∙ sym start) (e.2.witness ∙ x.2.witness) (e.2.to ∙ l.2) in
      gather-in follows k.1
      (subst (λ (c : Edge). In c (followed k.0.block.start k.0.block.kind k.0.entries)) is
      (follow-in k.0.block.start k.0.block.kind kind (entry_in ns recs k.1 kind x.1 start to) to))

  from-follows : (d : Edge) → In d (gather follows (finals ns recs)) → In d (edges_at r m)
  unfolding follows
  from-follows d j =
      let g = in-gather follows (finals ns recs) j in
      let f : Final = g.0 in
      let v : FollowedBy f.block.start f.block.kind f.entries d = followed-by f.block.start f.block.kind f.entries g.2 in
      let c = in_entry ns recs g.1 v.kind v.among in
      let at = laid.found w n (subst (λ (bs : List Block). In f.block bs) (sym b) (map-in (λ (h : Final). h.block) g.1)) in
      let tag : tag_at w f.block.start ≡ 5 = five _ _ _ (sym (ap (λ (h : Block). h.kind) at.1.same) ∙ v.kind) in
      let i = finds v.by c.1 in
      let t = in_map (edge f.block.start (last_of v.by.path)) (dest v.by.to) v.leads in
      let to : to_at r i.0 ≡ t.0 =
      i.2.to ∙ to-dynamic (tag_at w v.by.start) (to_number v.by.to) (rw (← c.0) tag) ∙ sym (dest-is v.by.to t.1) in
      edges-in r m i.0 i.1
      (row-edge r i.0 d (ap (λ (h : Edge). h.place) t.2 ∙ c.0 ∙ sym i.2.place) (ap (λ (h : Edge). h.witness) t.2 ∙ sym i.2.witness)
      (ap (λ (h : Edge). h.to) t.2 ∙ sym to) (λ z. omega (arith, (lie v.by c.1).1 t.0 t.1, to, z)))

  pub same_edges : (d : Edge) → In d (edges_at r m) ↔ In d (gather follows (finals ns recs))
  same_edges d = (to-follows d, from-follows d)

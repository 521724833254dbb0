-- Document 01, "What changes shape": "panic! and assert!: shown never to occur". Here what resolver.rs and reachable.rs assert and unwrap of paths, weights
-- and reached blocks, at every parent that the search counts (`counts` in Records); a block's end is in Cutting, a stack's bottom in `source`.
-- Assumes nothing.
use Prim.Native.Nat.{ℕ, ◌≤◌}
use native.Mathlib.Omega.{arith}
use mathlib.Core.Path.{◌≡◌, refl, sym, ap, subst, ◌∙◌}
use mathlib.Core.List.{List, [], ◌∷◌, ◌++◌}
use Rattle.spec.specs.Lists.{last_of}
use Rattle.spec.specs.Opcodes.{Rules}
use Rattle.spec.specs.Walk.{Ins}
use Rattle.spec.specs.Blocks.{Block}
use Rattle.spec.specs.Search.{Node, nodes, Parent, Rec, Level, reached_by, search}
use Rattle.theorems.proofs.Each.{Each, each_map}
use Rattle.theorems.proofs.Records.{Stored, Live, Parented, Opens, first-level, deeper-level, Recorded, arrives, is_lost, too-heavy, Came, search-history}
use Rattle.theorems.proofs.Replay.{ReplaysRec, without, kept, parent-replays, record-replays}

-- `assert!(path_weight <= MAX_PATH_WEIGHT)`: the weight of every level that opens, with parents or with none (`opens` in Records)
pub weight-within : {ns : List Node} {reached : List ℕ} {recs : List Rec} {start w : ℕ} {l : Level} → Opens ns reached recs start w l → w ≤ 256
weight-within (first-level i e h) = omega arith
weight-within (deeper-level o light h e) = light

last-append : (xs : List ℕ) (y : ℕ) (ys : List ℕ) → last_of (xs ++ y ∷ ys) ≡ last_of (y ∷ ys)
last-append [] y ys = refl
last-append (x ∷ []) y ys = refl
last-append (x ∷ z ∷ xs) y ys = last-append (z ∷ xs) y ys

module _ (rules : Rules) (code : List ℕ) (is : List Ins) (bs : List Block) where
  abbrev ns : List Node
  ns = nodes rules code is bs

  -- a path is never empty: of a stored parent, reached or not, where get_parents takes `path[path.len() - 1]`
  pub parent-has-last : (recs : List Rec) → Each (λ _. ReplaysRec rules code is bs) recs → {p : Parent} → Stored ns recs p → (b : ℕ) × (rest : List ℕ) × (p.path ≡ b ∷ rest)
  parent-has-last recs all h = let r = parent-replays rules code is bs recs all h in (r.first, r.rest, r.path-is)

  -- and of a record
  pub has_last : (r : Rec) → ReplaysRec rules code is bs r → (b : ℕ) × (rest : List ℕ) × (r.path ≡ b ∷ rest)
  has_last r (without e h) = (h.first, h.rest, h.path-is)
  has_last r (kept e h) = (h.first, h.rest, h.path-is)

  -- `assert!(self.reachable0.contains(&ls))`: the last block of the path that a parent makes of a level's is reached, recorded already or not
  pub last-live : (reached : List ℕ) (recs : List Rec) → Each (λ _. ReplaysRec rules code is bs) recs → (l : Level) (p : Parent) → Parented ns reached recs l p
      → Live ns reached recs (last_of (l.path ++ p.path))
  last-live reached recs all l p h =
      let e = parent-has-last recs all h.stored in
      subst (Live ns reached recs) (sym (ap (λ (q : List ℕ). last_of (l.path ++ q)) e.2 ∙ last-append l.path e.0 e.1 ∙ ap last_of (sym e.2))) h.live

  recorded-live : (reached : List ℕ) (recs : List Rec) → Each (λ _. ReplaysRec rules code is bs) recs → {r : Rec} → Recorded ns reached recs r → Live ns reached recs (last_of r.path)
  recorded-live reached recs all (arrives o w h e) = last-live reached recs all _ _ h
  recorded-live reached recs all (is_lost o w h e) = last-live reached recs all _ _ h
  recorded-live reached recs all (too-heavy o h) = last-live reached recs all _ _ h

  -- of a record, with those before it: its path has a last block, which was reached in the round that began with the `older` ones
  pub record LastReached (before : List Rec) (r : Rec) : Type 0 where
    pub replays : ReplaysRec rules code is bs r
    pub older : List Rec
    pub since : List Rec
    pub is-before : before ≡ older ++ since
    pub live : Live ns (reached_by ns older) before (last_of r.path)

  -- A recorded path's last block is reached when it is recorded.
  pub last-reached : (limit : ℕ) → Each LastReached (search limit ns).recs
  last-reached limit = each_map made (search-history limit ns)
    where
      made : (before : List Rec) (r : Rec) → Each LastReached before → Came ns before r → LastReached before r
      made before r all h =
          let replayed = each_map (λ b q known k. k.replays) all in
          record {
            replays = record-replays rules code is bs before replayed _ r h.made;
            older = h.older;
            since = h.since;
            is-before = h.is;
            live = recorded-live _ before replayed h.made;
          }

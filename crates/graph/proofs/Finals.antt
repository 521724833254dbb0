-- The final blocks are the blocks merged by the notes of the records. Assumes nothing.
use mathlib.Core.Path.{◌≡◌, refl, sym, ap, ap₂, ◌∙◌}
use mathlib.Core.Bool.{Bool, true, false, ◌&&◌, and_assoc}
use mathlib.Core.List.{List, [], ◌∷◌, ◌++◌, map, append-nil}
use Prim.Native.Nat.{ℕ, zero, suc, ◌+◌, ◌-◌, ◌≤◌}
use native.Mathlib.Omega.{arith}
use lib.Dec.{eqb}
use borrow.Author.Tests.{eqb-true, eqb-false}
use Rattle.spec.specs.Lists.{if, keep}
use Rattle.spec.specs.Blocks.{Kind, terminate, jump, jumpi, dynamic_jump, dynamic_jumpi, Block, with_kind}
use Rattle.spec.specs.Search.{Node, Rec, dest, dests}
use Rattle.spec.specs.Ending.{Final, final, all_are, merged, ended, entries_of, finals}
use Rattle.spec.specs.Rooms.{longest}
use Rattle.laws.proofs.Members.{In, here, gather_append, in-gather, in-keep}
use Rattle.layout.specs.Marks.{NOWHERE}
use Rattle.layout.specs.Records.{start_at, to_at}
use Rattle.tables.specs.Records.{found_at, rec_at, recs_of}
use Rattle.tables.proofs.Counted.{dest-if}
use Rattle.graph.specs.Notes.{several, joined, stepped, note_of, by_note, merged_kind, merged_by, merged_block}
use Rattle.graph.proofs.Notes.{join_first, join-same, join-other}
use Rattle.graph.proofs.Merging.{by-none, by_one, by-several}

-- ---- the note of a list of destinations

unfoldable pub one_of : List ℕ → ℕ
one_of [] = 0
one_of (t ∷ ts) = if (all_are t ts) (t + 1) several

none_of : one_of [] ≡ 0
unfolding one_of
none_of = refl

all_end : (t u : ℕ) (ts : List ℕ) → all_are t (ts ++ u ∷ []) ≡ all_are t ts && eqb t u
all_end t u [] = one (eqb t u)
  where
    one : (b : Bool) → b && true ≡ b
    one true = refl
    one false = refl
all_end t u (x ∷ ts) = rw (all_end t u ts) (sym (and_assoc (eqb t x) (all_are t ts) (eqb t u)))

one_more : (ds : List ℕ) (u : ℕ) → joined (one_of ds) u ≡ one_of (ds ++ u ∷ [])
unfolding one_of if
one_more [] u = sym (join_first 0 u refl)
one_more (t ∷ ts) u = rw (all_end t u ts) (go (all_are t ts) (eqb t u) refl)
  where
    go : (a b : Bool) → eqb t u ≡ b → joined (if a (t + 1) several) u ≡ if (a && b) (t + 1) several
    go true true e = let q : t ≡ u = eqb-true t u e in sym (join-same (t + 1) u (λ z. omega arith) (omega arith))
    go true false e = let q : t ≡ u → ⊥ = eqb-false t u e in sym (join-other (t + 1) u (λ z. omega arith) (λ z. q (omega arith)))
    go false b e = other (eqb several (u + 1)) refl
      where
        other : (c : Bool) → eqb several (u + 1) ≡ c → joined several u ≡ several
        other true q = sym (join-same several u (λ z. omega arith) (eqb-true several (u + 1) q))
        other false q = sym (join-other several u (λ z. omega arith) (eqb-false several (u + 1) q))

-- ---- the note of the records

keep_append : {A : Type 0} (f : A → Bool) (xs ys : List A) → keep f (xs ++ ys) ≡ keep f xs ++ keep f ys
unfolding if
keep_append f [] ys = refl
keep_append {A} f (x ∷ xs) ys = rw (keep_append f xs ys) (go (f x))
  where
    go : (b : Bool) → if b (x ∷ (keep f xs ++ keep f ys)) (keep f xs ++ keep f ys) ≡ if b (x ∷ keep f xs) (keep f xs) ++ keep f ys
    go true = refl
    go false = refl

module _ (r q s : List ℕ) (room : ℕ) where
  -- the destinations of one record, as it stands in R
  pub dest-at : (i : ℕ) → dest (found_at r s room i) ≡ if (eqb (to_at r i) NOWHERE) [] (to_at r i ∷ [])
  unfolding found_at
  dest-at i = dest-if (eqb (to_at r i) NOWHERE) (to_at r i) _

  last-dests : (a i : ℕ) → dests (entries_of a (rec_at r q s room i ∷ [])) ≡ if (eqb a (start_at r i)) (if (eqb (to_at r i) NOWHERE) [] (to_at r i ∷ [])) []
  unfolding rec_at if
  last-dests a i = go (eqb a (start_at r i))
    where
      go : (b : Bool) → dests (if b (rec_at r q s room i ∷ []) []) ≡ if b (if (eqb (to_at r i) NOWHERE) [] (to_at r i ∷ [])) []
      go true = append-nil (dest (found_at r s room i)) ∙ dest-at i
      go false = refl

  step-one : (a i : ℕ) (ds : List ℕ) → stepped r i a (one_of ds) ≡ one_of (ds ++ if (eqb a (start_at r i)) (if (eqb (to_at r i) NOWHERE) [] (to_at r i ∷ [])) [])
  unfolding stepped if
  step-one a i ds = go (eqb a (start_at r i)) (eqb (to_at r i) NOWHERE)
    where
      go : (b c : Bool) → if b (if c (one_of ds) (joined (one_of ds) (to_at r i))) (one_of ds) ≡ one_of (ds ++ if b (if c [] (to_at r i ∷ [])) [])
      go true true = sym (ap one_of (append-nil ds))
      go true false = one_more ds (to_at r i)
      go false c = sym (ap one_of (append-nil ds))

  pub note-of : (a m : ℕ) → note_of r a m ≡ one_of (dests (entries_of a (recs_of r q s room m)))
  unfolding note_of recs_of
  note-of a zero = sym none_of
  note-of a (suc m) =
      ap (stepped r m a) (note-of a m) ∙ step-one a m (dests (entries_of a (recs_of r q s room m)))
      ∙ sym (ap one_of (
      ap dests (keep_append (λ (x : Rec). eqb a x.start) (recs_of r q s room m) (rec_at r q s room m ∷ []))
      ∙ gather_append (λ (x : Rec). dest x.to) (entries_of a (recs_of r q s room m)) (entries_of a (rec_at r q s room m ∷ []))
      ∙ ap (λ (l : List ℕ). dests (entries_of a (recs_of r q s room m)) ++ l) (last-dests a m)
      ))

-- ---- a block is merged by its destinations

module _ (n : ℕ) (short : n ≤ longest) (b : Block) where
  merged-block : (es : List Rec) (ds : List ℕ) → ((t : ℕ) → In t ds → t ≤ n) → (merged b es ds).block ≡ with_kind (by_note n (one_of ds)) b
  unfolding one_of if
  merged-block es [] h = sym (ap (λ (k : Kind). with_kind k b) (by-none n 0 refl))
  merged-block es (t ∷ ts) h = go (all_are t ts)
    where
      go : (c : Bool) → (if c (final (jump t) b []) (final dynamic_jump b es)).block ≡ with_kind (by_note n (if c (t + 1) several)) b
      go true =
          let back : t + 1 - 1 ≡ t = omega arith in
          sym (ap (λ (k : Kind). with_kind k b) (by_one n (t + 1) (λ z. omega arith) (omega (arith, h t here)) ∙ ap jump back))
      go false = sym (ap (λ (k : Kind). with_kind k b) (by-several n several (omega arith)))

  ended-block : (es : List Rec) (k : Kind) → ((t : ℕ) → In t (dests es) → t ≤ n) → (ended b es k).block ≡ with_kind (merged_kind n (one_of (dests es)) k) b
  ended-block es (terminate success) h = refl
  ended-block es (jump t) h = refl
  ended-block es (jumpi t f) h = refl
  ended-block es dynamic_jump h = merged-block _ (dests es) h
  ended-block es (dynamic_jumpi f) h = refl

-- ---- all blocks

module _ (n : ℕ) (short : n ≤ longest) (recs : List Rec) (notes : ℕ → ℕ) (is : (a : ℕ) → notes a ≡ one_of (dests (entries_of a recs)))
    (lie : (x : Rec) (t : ℕ) → In x recs → In t (dest x.to) → t ≤ n) where
  dests-lie : (a t : ℕ) → In t (dests (entries_of a recs)) → t ≤ n
  dests-lie a t i =
      let g = in-gather (λ (x : Rec). dest x.to) (entries_of a recs) i in
      lie g.0 t (in-keep (λ (x : Rec). eqb a x.start) recs g.1).1 g.2

  pub finals-blocks : (ns : List Node) → map (λ (f : Final). f.block) (finals ns recs) ≡ map (merged_block n notes) (map (λ (x : Node). x.block) ns)
  finals-blocks [] = refl
  finals-blocks (x ∷ ns) =
      ap₂ {C = List Block} (λ (b : Block) (bs : List Block). b ∷ bs)
      (ended-block n short x.block (entries_of x.block.start recs) x.block.kind (dests-lie x.block.start)
      ∙ ap (λ (note : ℕ). merged_by n note x.block) (sym (is x.block.start)))
      (finals-blocks ns)

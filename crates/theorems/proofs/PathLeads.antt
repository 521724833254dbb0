-- Document 02, No. 7, of any path whatever: where the symbol that the first-named block's jump takes is Jumpdest(t), once each Before(n) in it is replaced by
-- position n of the block that ran before, along the path, there the path leads to t. Assumes nothing.
use Prim.Native.Nat.{ℕ, ◌+◌}
use native.Mathlib.Omega.{arith}
use mathlib.Core.Path.{◌≡◌, refl, sym, ap, subst, ◌∙◌}
use mathlib.Core.Bool.{true}
use mathlib.Core.Option.{Option, some}
use mathlib.Core.List.{List, [], ◌∷◌, ◌++◌}
use lib.ListN.{length, get_or, length-append}
use Rattle.spec.specs.Opcodes.{Rules}
use Rattle.spec.specs.Stacks.{Sym, before, constant, jumpdest, other, Stack, read, through, Ran, own}
use Rattle.spec.specs.Meaning.{executes, Means, Holds, Jump, no_jump, jumps_to, Faithful}
use Rattle.spec.specs.PathMeaning.{fetched, all_known, unaware, Runs, along, Asks, Leads}
use Rattle.laws.proofs.Members.{In, mem-in}
use Rattle.theorems.proofs.Blockwise.{faithful-block}
use Rattle.theorems.proofs.Aware.{asked}
use Rattle.theorems.proofs.Marks.{Mark, marks_block, mark-through}
use Rattle.theorems.proofs.Counts.{Lawful}

module _ (rules : Rules) (ok : Lawful rules.row) where
  -- what is true of words that a parent leaves is true, through its stack, of those that it found
  means-through : {ws mid : List ℕ} {p : Stack} → Holds ws p mid → (x : Sym) (w : ℕ) → Means mid x w → Means ws (through p x) w
  unfolding through
  means-through {ws} {p} h (before n) w m = subst (Means ws (read p n)) (sym m.1) (h.truth.at n m.0)
  means-through h (constant v) w m = m
  means-through h (jumpdest v) w m = m
  means-through h (other pc) w m = m

  -- the word that a jump pops
  pub jump-means : {ws : List ℕ} {x : Sym} {g : Option Sym} {e : Option ℕ} → Jump ws g e → g ≡ some x → (w : ℕ) × (e ≡ some w) × Means ws x w
  jump-means no_jump q = absurd (let z : ◌≡◌ {A = ℕ} 0 1 = cc in omega arith)
  jump-means {ws} {x} (jumps_to {x = y} {w} m) q = let same : y ≡ x = cc in (w, refl, subst (λ (z : Sym). Means ws z w) same m)

  module _ (code : List ℕ) where
    -- the run on symbols of the block at b, walked afresh from there
    abbrev pub alone : ℕ → Ran
    alone = own rules code

    -- a symbol, with each Before replaced along the path
    unfoldable pub replayed : Sym → List ℕ → Sym
    replayed x [] = x
    replayed x (b ∷ bs) = replayed (through (alone b).stack x) bs

    pub replayed-append : (x : Sym) (bs cs : List ℕ) → replayed x (bs ++ cs) ≡ replayed (replayed x bs) cs
    unfolding replayed
    replayed-append x [] cs = refl
    replayed-append x (b ∷ bs) cs = replayed-append (through (alone b).stack x) bs cs

    pub faithful-alone : (supply : ℕ → ℕ → ℕ) (b : ℕ) (st : List ℕ) → Runs rules supply b (fetched code b) unaware st → Faithful st (alone b) (executes rules.row supply b (fetched code b) st)
    faithful-alone supply b st r = faithful-block rules ok code supply b (fetched code b) st (asked rules code supply b (fetched code b) st r)

    -- what is true of the words that a path's run leaves is true, replayed, of those that it found
    means-replayed : (supply : ℕ → ℕ → ℕ → ℕ) (bs st : List ℕ) → Asks rules code supply bs st → (x : Sym) (w : ℕ) → Means (along rules.row code supply bs st).words x w
        → Means st (replayed x bs) w
    unfolding replayed
    means-replayed supply [] st a x w m = m
    means-replayed supply (b ∷ bs) st a x w m =
        means-replayed supply bs st a.0 (through (alone b).stack x) w (means-through (faithful-alone (supply (length bs)) b _ a.1).stack x w m)

    mark-replayed : (x : Sym) (bs : List ℕ) → Mark code x → Mark code (replayed x bs)
    unfolding replayed
    mark-replayed x [] m = m
    mark-replayed x (b ∷ bs) m = mark-replayed (through (alone b).stack x) bs (mark-through code (marks_block code rules b (fetched code b)).stack x m)

    -- the symbol that the first-named block's jump takes, replayed along the blocks behind it
    pub record Sees (path : List ℕ) (y : Sym) : Type 0 where
      pub first : ℕ
      pub rest : List ℕ
      pub path-is : path ≡ first ∷ rest
      pub symbol : Sym
      pub goes : (alone first).goes ≡ some symbol
      pub sees : replayed symbol rest ≡ y

    pub sees-lands : {path : List ℕ} {t : ℕ} → Sees path (jumpdest t) → get_or code t 0 ≡ 0x5B
    sees-lands s =
        subst (Mark code) s.sees (mark-replayed s.symbol s.rest ((marks_block code rules s.first (fetched code s.first)).goes s.symbol s.goes))

    sees-pops : {path : List ℕ} {t : ℕ} → Sees path (jumpdest t) → (supply : ℕ → ℕ → ℕ → ℕ) (st : List ℕ) → Asks rules code supply path st
        → (along rules.row code supply path st).popped ≡ some t
    sees-pops {t} s = subst (λ (p : List ℕ). (supply : ℕ → ℕ → ℕ → ℕ) (st : List ℕ) → Asks rules code supply p st → (along rules.row code supply p st).popped ≡ some t) (sym s.path-is) go
      where
        go : (supply : ℕ → ℕ → ℕ → ℕ) (st : List ℕ) → Asks rules code supply (s.first ∷ s.rest) st → (along rules.row code supply (s.first ∷ s.rest) st).popped ≡ some t
        go supply st a =
            let p = jump-means (faithful-alone (supply (length s.rest)) s.first _ a.1).jump s.goes in
            p.1 ∙ ap some (subst (λ (y : Sym). Means st y p.0) s.sees (means-replayed supply s.rest st a.0 s.symbol p.0 p.2))

    -- The path leads where its replayed symbol says.
    pub path-leads : {path : List ℕ} {t : ℕ} → ((c : ℕ) → In c path → all_known rules.row c (fetched code c) ≡ true) → Sees path (jumpdest t) → Leads rules code path t
    path-leads known s = record { has_runs = λ c i. known c (mem-in c _ i); pops = sees-pops s; lands = sees-lands s }

    -- ---- a path in two parts: the second runs first

    module _ (supply : ℕ → ℕ → ℕ → ℕ) (ys st : List ℕ) where
      -- the words in between, and what is supplied from there on
      abbrev pub middle : List ℕ
      middle = (along rules.row code supply ys st).words

      abbrev pub on : ℕ → ℕ → ℕ → ℕ
      on n = supply (n + length ys)

      pub words_append : (xs : List ℕ) → (along rules.row code supply (xs ++ ys) st).words ≡ (along rules.row code on xs middle).words
      words_append [] = refl
      words_append (x ∷ xs) = rw (length-append xs ys, words_append xs)

      pub popped-append : (xs : List ℕ) {x : ℕ} {rest : List ℕ} → xs ≡ x ∷ rest → (along rules.row code supply (xs ++ ys) st).popped ≡ (along rules.row code on xs middle).popped
      popped-append [] e = cc
      popped-append (x ∷ xs) e = rw (length-append xs ys, words_append xs)

-- What a search names lies within the code: the starts and paths of its records, their destinations and states. Assumes nothing.
use Prim.Native.Nat.{ℕ, ◌<◌}
use native.Mathlib.Omega.{arith}
use mathlib.Core.Path.{◌≡◌, sym, subst, ◌∙◌}
use mathlib.Core.Logic.{◌⊎◌, inl, inr}
use mathlib.Core.List.{List, [], ◌∷◌, ◌++◌}
use lib.ListN.{length, length-append}
use Rattle.spec.specs.Opcodes.{Rules}
use Rattle.spec.specs.Walk.{instructions}
use Rattle.spec.specs.Blocks.{Block, blocks}
use Rattle.spec.specs.Stacks.{jumpdest, Stack, read, run, compose}
use Rattle.spec.specs.Search.{Node, node, sides, Parent, parent, direct, Found, nowhere, found, Rec, dest, leads, found_parents, Level, search}
use Rattle.spec.specs.Answer.{prepared}
use Rattle.laws.proofs.Members.{In, here, in-only, in-cases, in_map, in-gather}
use Rattle.theorems.proofs.Each.{Each, each_map, each_in}
use Rattle.theorems.proofs.Counts.{Lawful}
use Rattle.theorems.proofs.Cutting.{made}
use Rattle.theorems.proofs.Records.{Stored, Opens, first-level, deeper-level, Recorded, arrives, is_lost, too-heavy, search-history}
use Rattle.theorems.proofs.Replay.{turned}
use Rattle.theorems.proofs.Landing.{Sound, run_ends, lands-read, compose-sound}
use Rattle.theorems.proofs.Sides.{Within, node-within}

-- ---- the blocks

-- a block of the search, with its own run
pub record Inner (n : ℕ) (x : Node) : Type 0 where
  pub start : x.block.start < n
  pub kind : Within n x.block.kind
  pub stack : Sound n x.own.stack

pub inner : (rules : Rules) → Lawful rules.row → (code : List ℕ) (x : Node) → In x (prepared rules code) → Inner (length code) x
unfolding prepared
inner rules ok code x i =
    let g = in_map (λ (b : Block). node b (run rules code (instructions code) b.start)) (blocks rules.row code (instructions code)) i in
    rw g.2
    record {
      start = omega (arith, (made ok code g.1).start_inside);
      kind = node-within rules ok code g.1;
      stack = (run_ends rules code (instructions code) g.0.start).stack;
    }

-- ---- paths, and the states along them

-- a path has an address, and all lie below n
pub record Along (n : ℕ) (path : List ℕ) : Type 0 where
  pub some : 0 < length path
  pub within : (a : ℕ) → In a path → a < n

along_one : {n a : ℕ} → a < n → Along n (a ∷ [])
along_one h = record { some = omega arith; within = λ b i. omega (arith, in-only i) }

along-both : {n : ℕ} {xs ys : List ℕ} → Along n xs → Along n ys → Along n (xs ++ ys)
along-both {n} {xs} {ys} p q = record { some = omega (arith, length-append xs ys, p.some); within = λ a i. split a (in-cases xs i) }
  where
    split : (a : ℕ) → In a xs ⊎ In a ys → a < n
    split a (inl i) = p.within a i
    split a (inr i) = q.within a i

record Good (n : ℕ) (path : List ℕ) (s : Stack) : Type 0 where
  along : Along n path
  state : Sound n s

good-one : {n a : ℕ} {s : Stack} → a < n → Sound n s → Good n (a ∷ []) s
good-one h o = record { along = along_one h; state = o }

good-both : {n : ℕ} {xs ys : List ℕ} {s t : Stack} → Good n xs s → Good n ys t → Good n (xs ++ ys) (compose s t)
good-both p q = record { along = along-both p.along q.along; state = compose-sound q.state p.state }

landed : {n t : ℕ} {s : Stack} → Sound n s → (i : ℕ) → read s i ≡ jumpdest t → t < n
landed o i e = rw e at (lands-read o i)

-- ---- records

-- the state that is kept with a destination
abbrev Kept : ℕ → Found → Type 0
Kept n nowhere = Unit {0}
Kept n (found t s) = Sound n s

-- a record that starts within, goes along such a path, and ends within
pub record Passes (n : ℕ) (r : Rec) : Type 0 where
  pub start : r.start < n
  pub along : Along n r.path
  pub lands : (t : ℕ) → In t (dest r.to) → t < n
  kept : Kept n r.to

leads-good : {n : ℕ} (path : List ℕ) (f : Found) {p : Parent} → Along n path → Kept n f → In p (leads path f) → Good n p.path p.stack
leads-good path nowhere a k i = elim i [ ]
leads-good path (found t s) a k i = rw (in-only i) (record { along = a; state = k })

module _ (n : ℕ) (ns : List Node) (inside : (x : Node) → In x ns → Inner n x) where
  direct_good : {p : Parent} → In p (direct ns) → Good n p.path p.stack
  direct_good i =
      let g = in-gather _ ns i in
      let k = in_map (λ (t : ℕ). parent t (g.0.block.start ∷ []) g.0.own.stack) (sides g.0.block.kind) g.2 in
      let h = inside g.0 g.1 in
      rw k.2 (good-one h.start h.stack)

  module _ (reached : List ℕ) (recs : List Rec) (all : (r : Rec) → In r recs → Passes n r) where
    stored-good : {p : Parent} → Stored ns recs p → Good n p.path p.stack
    stored-good {p} i = split (in-cases (direct ns) i)
      where
        split : In p (direct ns) ⊎ In p (found_parents recs) → Good n p.path p.stack
        split (inl j) = direct_good j
        split (inr j) =
            let g = in-gather (λ (r : Rec). leads r.path r.to) recs j in
            let h = all g.0 g.1 in
            leads-good g.0.path g.0.to h.along h.kept g.2

    opens-good : {start w : ℕ} {l : Level} → Opens ns reached recs start w l → (start < n) × Good n l.path l.state
    opens-good (first-level {k} i e h) =
        let g = turned i in
        let h = inside g.0 g.1 in
        let t = good-one (subst (λ (b : ℕ). b < n) (sym g.2.start ∙ e) h.start) (subst (Sound n) (sym g.2.first) h.stack) in
        (t.along.within _ here, t)
    opens-good (deeper-level o w h e) = let g = opens-good o in (g.0, good-both g.1 (stored-good h.stored))

    recorded-passes : {r : Rec} → Recorded ns reached recs r → Passes n r
    recorded-passes (arrives {l} o w h e) =
        let f = opens-good o in
        let p = stored-good h.stored in
        let g = good-both f.1 p in
        record { start = f.0; along = g.along; lands = λ u i. omega (arith, landed p.state l.position e, in-only i); kept = g.state }
    recorded-passes (is_lost o w h e) =
        let f = opens-good o in record { start = f.0; along = (good-both f.1 (stored-good h.stored)).along; lands = λ u i. elim i [ ]; kept = tt }
    recorded-passes (too-heavy o h) =
        let f = opens-good o in record { start = f.0; along = (good-both f.1 (stored-good h.stored)).along; lands = λ u i. elim i [ ]; kept = tt }

  search-passes : (limit : ℕ) → Each (λ _. Passes n) (search limit ns).recs
  search-passes limit = each_map (λ before r known c. recorded-passes _ before (λ q i. (each_in known i).1) c.made) (search-history limit ns)

pub record-passes : (rules : Rules) → Lawful rules.row → (limit : ℕ) (code : List ℕ) (r : Rec) → In r (search limit (prepared rules code)).recs → Passes (length code) r
record-passes rules ok limit code r i = (each_in (search-passes (length code) (prepared rules code) (inner rules ok code) limit) i).1

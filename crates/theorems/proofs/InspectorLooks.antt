-- Document 02, No. 12: "replaying it". Looking a symbol up along a path, block by block, gives what is read of the blocks' composed state, in either order of
-- composing. Assumes nothing.
use Prim.Native.Nat.{ℕ}
use native.Mathlib.Nat.{zero-add}
use mathlib.Core.Path.{◌≡◌, refl, sym, ap, ◌∙◌}
use mathlib.Core.List.{List, [], ◌∷◌}
use Rattle.spec.specs.Opcodes.{Rules}
use Rattle.spec.specs.Stacks.{Sym, before, constant, jumpdest, other, Stack, entry, read, through, own, compose}
use Rattle.spec.specs.Inspector.{looked}
use Rattle.theorems.proofs.Composing.{read-compose, through-through}
use Rattle.theorems.proofs.PathLeads.{replayed, Sees}
use Rattle.theorems.proofs.Counts.{Lawful}

-- a symbol of the entry stack is that symbol
through-entry : (x : Sym) → through entry x ≡ x
unfolding through read
through-entry (before n) = rw zero-add
through-entry (constant v) = refl
through-entry (jumpdest v) = refl
through-entry (other pc) = refl

module _ (rules : Rules) (ok : Lawful rules.row) where
  module _ (code : List ℕ) where
    -- the state that a path's blocks compose to: each child's, then its parent's
    unfoldable pub composed : List ℕ → Stack
    composed [] = entry
    composed (b ∷ bs) = compose (own rules code b).stack (composed bs)

    -- Any symbol, as the one that a jump takes, looked up along the blocks behind it.
    pub looked-composed : (x : Sym) (bs : List ℕ) → looked rules code x bs ≡ through (composed bs) x
    unfolding looked composed
    looked-composed x [] = sym (through-entry x)
    looked-composed x (b ∷ bs) = looked-composed (through (own rules code b).stack x) bs ∙ through-through (own rules code b).stack (composed bs) x

    -- A Before(n) is what stands at position n of the blocks' state.
    pub looked-reads : (n : ℕ) (bs : List ℕ) → looked rules code (before n) bs ≡ read (composed bs) n
    unfolding through
    looked-reads n bs = looked-composed (before n) bs

    -- the state as the search forms it: "the path's state composed with the parent's"
    unfoldable pub grown : Stack → List ℕ → Stack
    grown s [] = s
    grown s (b ∷ bs) = grown (compose s (own rules code b).stack) bs

    -- What is read of it, at every position, is the state's symbol looked up along the blocks that it was composed with.
    pub looked-grown : (s : Stack) (n : ℕ) (bs : List ℕ) → looked rules code (read s n) bs ≡ read (grown s bs) n
    unfolding looked grown
    looked-grown s n [] = refl
    looked-grown s n (b ∷ bs) = ap (λ (x : Sym). looked rules code x bs) (sym (read-compose s (own rules code b).stack n)) ∙ looked-grown (compose s (own rules code b).stack) n bs

    -- It is what No. 7's theorems call replayed.
    pub looked-replayed : (x : Sym) (bs : List ℕ) → looked rules code x bs ≡ replayed rules ok code x bs
    unfolding looked replayed
    looked-replayed x [] = refl
    looked-replayed x (b ∷ bs) = looked-replayed (through (own rules code b).stack x) bs

    -- So the symbol that a path sees at its jump is the jump's own, read through the composed state of the blocks behind it.
    pub sees-composed : {path : List ℕ} {y : Sym} (s : Sees rules ok code path y) → through (composed s.rest) s.symbol ≡ y
    sees-composed s = sym (looked-composed s.symbol s.rest) ∙ looked-replayed s.symbol s.rest ∙ s.sees

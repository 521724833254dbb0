-- Document 01: "Left out ... the tables states, deep_states, replayed_paths and the replay in materialize_path_state, on two facts to be proved: a block run
-- from any identity depth trims to the same stack, and resolve_with_parent is associative in its stored form." From them, over the lists of Exec and with no
-- cache: `exec` of a block of the cut gives the block's run, and what is replayed of a path is the state that is stored for it. Assumes nothing.
use Prim.Native.Nat.{ℕ}
use mathlib.Core.Path.{◌≡◌, refl, sym, ap, ◌∙◌}
use mathlib.Core.List.{List, [], ◌∷◌}
use lib.Dec.{ltb}
use lib.ListN.{drop}
use Rattle.spec.specs.Lists.{if}
use Rattle.spec.specs.Opcodes.{Row, Rules}
use Rattle.spec.specs.Walk.{Ins, from, walk, instructions}
use Rattle.spec.specs.Blocks.{Block, blocks}
use Rattle.spec.specs.Stacks.{Stack, entry, cells, Ran, runs, trimmed, run, compose}
use Rattle.laws.proofs.Branch.{both}
use Rattle.laws.proofs.Members.{In}
use Rattle.theorems.proofs.Walking.{walks_from}
use Rattle.theorems.proofs.Cutting.{block-afresh}
use Rattle.theorems.proofs.Counts.{Lawful}
use Rattle.theorems.proofs.Trimming.{identity, run-any-depth}
use Rattle.theorems.proofs.Replay.{own, composed-on, Replays}
use Rattle.source.proofs.Stored.{stored}
use Rattle.source.proofs.Exec.{out, exec, plainly, exec-stored}

-- Of a block of the cut, from `State::new()`, `exec` never panics: it leaves the stored form of the stack that `run` gives and returns the run's symbol.
pub exec-block : {row : ℕ → Row} → Lawful row → (code : List ℕ) {b : Block} → In b (blocks row code (instructions code))
    → exec row code b.start (walk (drop b.start code) b.start 0) (stored entry)
    ≡ out (stored (run (plainly row) code (instructions code) b.start).stack) (run (plainly row) code (instructions code) b.start).goes
unfolding run
exec-block ok code {b} n = rw (block-afresh ok code n) (exec-stored ok b.start (walks_from code b.start) entry)

module _ (rules : Rules) (code : List ℕ) (is : List Ins) where
  -- get_state_with_depth: the block run from an identity depth, trimmed
  abbrev pub deep-stack : ℕ → ℕ → Stack
  deep-stack d b = (trimmed (runs rules code b (from b is) (identity d))).stack

  -- the loop of materialize_path_state; `depth` is how deep the next block is run, by the state so far
  abbrev pub replayed-on : (Stack → ℕ) → Stack → List ℕ → Stack
  replayed-on depth s [] = s
  replayed-on depth s (b ∷ bs) = replayed-on depth (compose s (deep-stack (depth s) b)) bs

  -- materialize_path_state, of a path that has a first block: the summary if it is long enough, else the replay
  abbrev pub path-state : (Stack → ℕ) → ℕ → ℕ → List ℕ → Stack → Stack
  path-state depth required b bs summary = if (ltb required (cells summary)) summary (replayed-on depth (deep-stack required b) bs)

  deep-own : (d b : ℕ) → deep-stack d b ≡ own rules code is b
  unfolding run
  deep-own d b = ap (λ (r : Ran). r.stack) (run-any-depth rules code b (from b is) d)

  replayed-composed : (depth : Stack → ℕ) (s : Stack) (bs : List ℕ) → replayed-on depth s bs ≡ composed-on rules code is s bs
  unfolding composed-on
  replayed-composed depth s [] = refl
  replayed-composed depth s (b ∷ bs) = rw (deep-own (depth s) b) (replayed-composed depth (compose s (own rules code is b)) bs)

  -- What the Rust materializes of a path, at any depth and by any rule of depths, is the stack that the path's blocks compose to.
  pub materialized-same : (depth : Stack → ℕ) (required : ℕ) {path : List ℕ} {s : Stack} (h : Replays rules code is path s)
      → path-state depth required h.first h.rest s ≡ s
  materialized-same depth required {s} h =
      both (λ (t : Stack). t ≡ s) _ (λ _. refl)
      (λ _. rw (deep-own required h.first) (replayed-composed depth (own rules code is h.first) h.rest ∙ sym h.stack_is))

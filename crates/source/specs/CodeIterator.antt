-- src/evm/code_iterator.rs. The rows of the bytes are a parameter. Assumes nothing.
use Rattle.std.specs.Prelude.{ℕ, zero, suc, ◌+◌, min, List, [], ◌∷◌, leb, ltb, length}
use Rattle.std.proofs.Math.Option.{Option, none, some}
use Rattle.std.proofs.Math.ListN.{get_elem?}
use Rattle.spec.specs.Lists.{if}
use Rattle.spec.specs.Opcodes.{Row}
use Rattle.spec.specs.Walk.{Ins, big}
use Rattle.laws.specs.Options.{and_then}
use Rattle.source.specs.Collections.{slice}

-- lines 5 to 10: an item is `(pc, CodeOp { op, opi, arg })`, here the definitions' Ins of pc, op, and arg as the number that its bytes spell; opi is the row of op

module _ (row : ℕ → Row) (code : List ℕ) (pc_limit : ℕ) where
  -- lines 24 to 43: all that the closure yields from pc on, in at most n calls
  unfoldable pub yields : ℕ → ℕ → Option (List Ins)
  yields zero pc = none
  yields (suc n) pc =
      let more =
      and_then (get_elem? code pc) (λ op.
      let size = (row op).size in
      let item =
      and_then (slice code (pc + 1) (pc + size)) (λ arg.
      and_then (yields n (pc + size)) (λ later.
      some (record { pc = pc; op = op; arg = big 0 arg } ∷ later))) in
      if (ltb (length code) (pc + size)) (some []) item) in
      if (leb pc_limit pc) (some []) more

-- lines 19 to 23
abbrev pub limit_of : List ℕ → Option ℕ → ℕ
limit_of code none = length code
limit_of code (some v) = min (v + 1) (length code)

-- lines 12 to 44
abbrev pub iterate_code : (ℕ → Row) → List ℕ → ℕ → Option ℕ → Option (List Ins)
iterate_code row code start_pc end_pc = yields row code (limit_of code end_pc) (suc (length code)) start_pc

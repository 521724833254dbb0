-- src/control_flow_graph/mod.rs, its functions. Assumes nothing.
use Rattle.std.specs.Prelude.{ℕ, List}
use Rattle.std.proofs.Math.Option.{Option, none, some}
use Rattle.spec.specs.Lists.{mem, keep}
use Rattle.spec.specs.Opcodes.{Row}
use Rattle.laws.specs.Options.{and_then}
use Rattle.source.specs.Op.{info}
use Rattle.source.specs.Types.{RustBlock, Blocks}
use Rattle.source.specs.Initial.{initial_blocks}
use Rattle.source.specs.Reachable.{get_reachable_nodes}
use Rattle.source.specs.Resolver.{resolve_dynamic_jumps}

module _ (row : ℕ → Row) (code : List ℕ) where
  -- lines 96 to 98
  abbrev pub basic_blocks : Option Blocks
  basic_blocks = initial_blocks row code

  -- lines 100 to 111
  abbrev pub control_flow_graph : Blocks → Option Blocks
  control_flow_graph blocks =
      and_then (resolve_dynamic_jumps row code blocks) (λ bs.
      and_then (get_reachable_nodes bs 0 none) (λ reachable.
      some (keep (λ (e : ℕ × RustBlock). mem e.0 reachable) bs)))

-- lines 96 to 98 and 100 to 111, by the Rust's table of opcodes: what `blocks` of rust/oracle/src/lib.rs does
unfoldable pub rust : List ℕ → Option Blocks
rust code = and_then (basic_blocks info code) (control_flow_graph info code)

-- `resolved` meets its contract. Assumes nothing.
use Rattle.state.proofs.Composing.{resolve-asks, resolve-before}
use Rattle.state.proofs.compose.resolved.Goals as goal

pub symbol_at-requires : goal.symbol_at-requires
symbol_at-requires c = search resolve-asks

pub returns-in-Before : goal.returns-in-Before
returns-in-Before c = search resolve-before

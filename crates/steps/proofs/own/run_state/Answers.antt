-- `run_state`: the run, and its state held. Assumes nothing.
use Rattle.steps.proofs.Helds.{own-holds}
use Rattle.steps.proofs.own.run_state.Goals as goal

-- src/own.rt:98:5
pub hold-requires : goal.hold-requires
hold-requires c = search own-holds

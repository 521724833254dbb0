-- `hand_all`: the destinations from `since` on are expanded, batch after batch. Assumes nothing.
use Rattle.resolver.proofs.SettleLoop.{settle-start, settle-hands, settle-turn}
use borrow.Author.Rules.{rules}
use Rattle.resolver.proofs.settle.hand_all.Goals as goal

pub loop-i-init : goal.loop-i-init
loop-i-init c = search settle-start

pub hand_over-i-requires : goal.hand_over-i-requires
hand_over-i-requires c = record { hands_over = search settle-hands; from_lt_records = search rules }

pub loop-i-preserved : goal.loop-i-preserved
loop-i-preserved c = search settle-turn

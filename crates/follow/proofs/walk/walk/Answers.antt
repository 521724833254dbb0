use Rattle.follow.proofs.Following.{follow-start, follow-on, follow-off, follow-ends}
use Rattle.follow.proofs.walk.walk.Goals as goal

pub loop-i-init : goal.loop-i-init
loop-i-init c = follow-start c.args.code.now c.args.log.now c.requires.finds.ready c.requires.zeroed

pub returns-in_default : goal.returns-in_default
returns-in_default c = search follow-off

pub loop-i-preserved : goal.loop-i-preserved
loop-i-preserved c = search follow-on

pub returns : goal.returns
returns c = search follow-ends

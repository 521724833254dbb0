-- `add_head`: an item for each kind. Assumes nothing.
use Rattle.entries.proofs.Heads.{terminate-put, jump-put, jumpi-put, dynamic_jump-put, dynamic_jumpi-put}
use Rattle.entries.proofs.found.Found.add_head.Goals as goal

pub returns-in-Terminate : goal.returns-in-Terminate
returns-in-Terminate c = search terminate-put

pub returns-in-Jump : goal.returns-in-Jump
returns-in-Jump c = search jump-put

pub returns-in-Jumpi : goal.returns-in-Jumpi
returns-in-Jumpi c = search jumpi-put

pub returns-in-DynamicJump : goal.returns-in-DynamicJump
returns-in-DynamicJump c = search dynamic_jump-put

pub returns-in-DynamicJumpi : goal.returns-in-DynamicJumpi
returns-in-DynamicJumpi c = search dynamic_jumpi-put

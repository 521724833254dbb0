-- `add_type`: each kind. Assumes nothing.
use Rattle.json_text.proofs.Types.{failure-put, success-put, jump-put, jumpi-put, dynamic_jump-put, dynamic_jumpi-put}
use Rattle.json_text.proofs.block.add_type.Goals as goal

pub returns-in-Terminate-false : goal.returns-in-Terminate-false
returns-in-Terminate-false c = search failure-put

pub returns-in-Terminate-true : goal.returns-in-Terminate-true
returns-in-Terminate-true c = search success-put

pub returns-in-Jump : goal.returns-in-Jump
returns-in-Jump c = search jump-put

pub returns-in-Jumpi : goal.returns-in-Jumpi
returns-in-Jumpi c = search jumpi-put

pub returns-in-DynamicJump : goal.returns-in-DynamicJump
returns-in-DynamicJump c = search dynamic_jump-put

pub returns-in-DynamicJumpi : goal.returns-in-DynamicJumpi
returns-in-DynamicJumpi c = search dynamic_jumpi-put

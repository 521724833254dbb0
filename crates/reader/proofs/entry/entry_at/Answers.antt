-- `entry_at` meets its contract: an entry of each kind is its body's. Assumes nothing.
use Rattle.reader.proofs.Leads.{sum-6, lead-room, entry-sorted, entry-none, entry-cut}
use Rattle.reader.proofs.entry.entry_at.Goals as goal

pub overflow_add-body : goal.overflow_add-body
overflow_add-body c = search sum-6

pub head-requires : goal.head-requires
head-requires c = search lead-room

pub terminate-requires : goal.terminate-requires
terminate-requires c = search lead-room

pub jump-requires : goal.jump-requires
jump-requires c = search lead-room

pub jumpi-requires : goal.jumpi-requires
jumpi-requires c = search lead-room

pub dynamic_jump-requires : goal.dynamic_jump-requires
dynamic_jump-requires c = search lead-room

pub dynamic_jumpi-requires : goal.dynamic_jumpi-requires
dynamic_jumpi-requires c = search lead-room

pub way-requires : goal.way-requires
way-requires c = search lead-room

pub record-requires : goal.record-requires
record-requires c = search lead-room

pub numbered-requires : goal.numbered-requires
numbered-requires c = search lead-room

pub returns-in-Some-Head : goal.returns-in-Some-Head
returns-in-Some-Head c = search entry-sorted

pub returns-in-Some-Terminate : goal.returns-in-Some-Terminate
returns-in-Some-Terminate c = search entry-sorted

pub returns-in-Some-Jump : goal.returns-in-Some-Jump
returns-in-Some-Jump c = search entry-sorted

pub returns-in-Some-Jumpi : goal.returns-in-Some-Jumpi
returns-in-Some-Jumpi c = search entry-sorted

pub returns-in-Some-DynamicJump : goal.returns-in-Some-DynamicJump
returns-in-Some-DynamicJump c = search entry-sorted

pub returns-in-Some-DynamicJumpi : goal.returns-in-Some-DynamicJumpi
returns-in-Some-DynamicJumpi c = search entry-sorted

pub returns-in-Some-Way : goal.returns-in-Some-Way
returns-in-Some-Way c = search entry-sorted

pub returns-in-Some-Record : goal.returns-in-Some-Record
returns-in-Some-Record c = search entry-sorted

pub returns-in-Some-Numbered : goal.returns-in-Some-Numbered
returns-in-Some-Numbered c = search entry-sorted

pub returns-in-None : goal.returns-in-None
returns-in-None c = search entry-none

pub returns-in_default : goal.returns-in_default
returns-in_default c = search entry-cut

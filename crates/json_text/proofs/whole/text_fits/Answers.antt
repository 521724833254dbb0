-- `text_fits`: the longest text fits, or the whole is counted. Assumes nothing.
use borrow.Author.Rules.{rules}
use Prim.Native.Nat.{◌^◌, ◌≤◌}
use native.Mathlib.Omega.{arith}
use Rattle.entries.proofs.Writing.{writes-room, writes-all, flags-few}
use Rattle.json_text.proofs.Ended.{fits-surely, fits-counted}
use Rattle.json_text.proofs.whole.text_fits.Goals as goal

pub begin_of-ends-requires : goal.begin_of-ends-requires
begin_of-ends-requires c = search writes-room

pub overflow_mul-found : goal.overflow_mul-found
overflow_mul-found c = let few : c.args.found.now.flags ≤ 2 ^ 30 = flags-few c.requires.writes c.requires.flags in omega arith

pub overflow_add-found : goal.overflow_add-found
overflow_add-found c = let few : c.args.found.now.flags ≤ 2 ^ 30 = flags-few c.requires.writes c.requires.flags in omega arith

pub overflow_add-found-2 : goal.overflow_add-found-2
overflow_add-found-2 c = let few : c.args.found.now.flags ≤ 2 ^ 30 = flags-few c.requires.writes c.requires.flags in omega arith

pub overflow_add-found-3 : goal.overflow_add-found-3
overflow_add-found-3 c = let few : c.args.found.now.flags ≤ 2 ^ 30 = flags-few c.requires.writes c.requires.flags in omega arith

pub returns-then-found-ends : goal.returns-then-found-ends
returns-then-found-ends c = search fits-surely

pub add_map-requires : goal.add_map-requires
add_map-requires c = (search writes-all, search rules, search rules)

pub returns : goal.returns
returns c = search fits-counted

-- `step` meets its contract: each arm is a law of the step; the default stands in three gaps between the ranges. Assumes nothing.
use mathlib.Core.Path.{◌≡◌}
use native.Mathlib.Omega.{arith}
use borrow.Author.Rules.{rules}
use Rattle.spec.specs.Stacks.{halts, plain, does}
use Rattle.exec.specs.Modes.{mode_of}
use Rattle.exec.proofs.Decides.{does-halts, halts-key, plain-low, plain-mid, plain-high, trades-halts, trades-plain}
use Rattle.exec.proofs.Turns.{steps-ready, steps-dups, steps-deepens, steps-pushes, on_value, on-zero, on-pc, on-dup, on-swap, on_and, on-add, on-plain, ends-halts, leaps-jump, leaps-jumpi, on-lands, ends-lands}
use Rattle.exec.proofs.step.step.Goals as goal
use Rattle.exec.proofs.step.step.Goals.{in_default-via-then-op-lt95, in_default-via-else-op-lt95+else-op-lt100+then-op-lt128, in_default-via-else-op-lt95+else-op-lt100+else-op-lt128+else-op-lt144+else-op-lt160+then-op-lt253, in-0-1, in_default+else-op-lt95+else-op-lt100+else-op-lt128+else-op-lt144+else-op-lt160+else-op-lt253}

pub push_zero-requires : goal.push_zero-requires
push_zero-requires c = search steps-ready

pub push_pc-requires : goal.push_pc-requires
push_pc-requires c = search steps-ready

pub and-requires : goal.and-requires
and-requires c = search steps-ready

pub add-requires : goal.add-requires
add-requires c = search steps-ready

pub jumped-requires : goal.jumped-requires
jumped-requires c = (search rules, search rules)

pub jumped-requires-in-87 : goal.jumped-requires-in-87
jumped-requires-in-87 c = (search rules, search rules)

pub returns-then-pc-start : goal.returns-then-pc-start
returns-then-pc-start c = search on-lands

pub push_value-requires : goal.push_value-requires
push_value-requires c = search steps-pushes

pub dup-requires : goal.dup-requires
dup-requires c = search steps-dups

pub swapped-requires : goal.swapped-requires
swapped-requires c = search steps-deepens

pub trade-requires : goal.trade-requires
trade-requires c =
    let d : does (mode_of c.args.mode) c.args.instruction.op ≡ plain = elim c.in_default.branch [
      | in_default-via-then-op-lt95 w ↦ search plain-low
      | in_default-via-else-op-lt95+else-op-lt100+then-op-lt128 w ↦ search plain-mid
      | in_default-via-else-op-lt95+else-op-lt100+else-op-lt128+else-op-lt144+else-op-lt160+then-op-lt253 w ↦ search plain-high
    ] in
    record { ready = search steps-ready; one = (trades-plain _ _ (omega arith) d).0 }

pub trade-requires-in-0 : goal.trade-requires-in-0
trade-requires-in-0 c =
    let d : does (mode_of c.args.mode) c.args.instruction.op ≡ halts = elim c.in-0-1.branch [
      | in-0-1 w ↦ search halts-key
      | in_default+else-op-lt95+else-op-lt100+else-op-lt128+else-op-lt144+else-op-lt160+else-op-lt253 w ↦ search (does-halts, arith)
    ] in
    record { ready = search steps-ready; one = (trades-halts _ _ (omega arith) d).0 }

pub returns-in-95 : goal.returns-in-95
returns-in-95 c = search on-zero

pub returns-in-88 : goal.returns-in-88
returns-in-88 c = search on-pc

pub returns-in-22 : goal.returns-in-22
returns-in-22 c = search on_and

pub returns-in-1 : goal.returns-in-1
returns-in-1 c = search on-add

pub returns-in-86 : goal.returns-in-86
returns-in-86 c = search leaps-jump

pub returns-in-87 : goal.returns-in-87
returns-in-87 c = search leaps-jumpi

pub returns-else-pc-start : goal.returns-else-pc-start
returns-else-pc-start c = search ends-lands

pub returns-in-96-to-99 : goal.returns-in-96-to-99
returns-in-96-to-99 c = search on_value

pub returns-in-128-to-143 : goal.returns-in-128-to-143
returns-in-128-to-143 c = search on-dup

pub returns-in-144-to-159 : goal.returns-in-144-to-159
returns-in-144-to-159 c = search on-swap

pub returns-in_default : goal.returns-in_default
returns-in_default c =
    let d : does (mode_of c.args.mode) c.args.instruction.op ≡ plain = elim c.in_default.branch [
      | in_default-via-then-op-lt95 w ↦ search plain-low
      | in_default-via-else-op-lt95+else-op-lt100+then-op-lt128 w ↦ search plain-mid
      | in_default-via-else-op-lt95+else-op-lt100+else-op-lt128+else-op-lt144+else-op-lt160+then-op-lt253 w ↦ search plain-high
    ] in
    search on-plain

pub returns-in-0 : goal.returns-in-0
returns-in-0 c =
    let d : does (mode_of c.args.mode) c.args.instruction.op ≡ halts = elim c.in-0-1.branch [
      | in-0-1 w ↦ search halts-key
      | in_default+else-op-lt95+else-op-lt100+else-op-lt128+else-op-lt144+else-op-lt160+else-op-lt253 w ↦ search (does-halts, arith)
    ] in
    search ends-halts

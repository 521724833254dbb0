-- `evm::rows::words_of` meets its contract: at the bytes of each arm the list says what the arm gives. Assumes nothing.
use mathlib.Core.Logic.{⊎_elim}
use Prim.Native.Nat.{◌+◌, ◌-◌}
use Rattle.spec.specs.Lists.{if}
use Rattle.spec.specs.Opcodes.{row}
use Rattle.std.specs.Prelude.{Option, None}
use Rattle.evm.specs.declared.rows.Words.{Words}
use Rattle.evm.specs.Rows.{each}
use Rattle.evm.proofs.Table.{◌both◌, each_of, every, zero-below}
use Rattle.evm.proofs.Listed.{among, named-or, keyed, within, ranged}
use Rattle.evm.proofs.rows.words_of.Goals as goal
use Rattle.evm.proofs.rows.words_of.Goals.{in-240-1, in-32-1, in-48-1, in-85-1, in_default+else-op-lt73+else-op-lt80+then-op-lt84, in_default+then-op-lt73+else-op-lt8+else-op-lt10+else-op-lt12+else-op-lt16+else-op-lt30+else-op-lt48+else-op-lt53+else-op-lt65, in_default+then-op-lt73+else-op-lt8+else-op-lt10+else-op-lt12+else-op-lt16+else-op-lt30+else-op-lt48+else-op-lt53+then-op-lt65, in_default+then-op-lt73+else-op-lt8+else-op-lt10+else-op-lt12+else-op-lt16+else-op-lt30+else-op-lt48+then-op-lt53, in_default+then-op-lt73+else-op-lt8+else-op-lt10+else-op-lt12+else-op-lt16+then-op-lt30, in_default+then-op-lt73+else-op-lt8+else-op-lt10+then-op-lt12, in_default+then-op-lt73+else-op-lt8+then-op-lt10, in_default+then-op-lt73+then-op-lt8}

abbrev unknown : Option Words
unknown = None

pub returns-in-0 : goal.returns-in-0
unfolding among named-or each_of every row if ◌both◌
returns-in-0 c = search (keyed (each 0 0) 0 tt)

pub returns-in-55 : goal.returns-in-55
unfolding among named-or each_of every row if ◌both◌
returns-in-55 c = search (keyed (each 3 0) 5 tt)

pub returns-in-60 : goal.returns-in-60
unfolding among named-or each_of every row if ◌both◌
returns-in-60 c = search (keyed (each 4 0) 6 tt)

pub returns-in-80 : goal.returns-in-80
unfolding among named-or each_of every row if ◌both◌
returns-in-80 c = search (keyed (each 1 0) 7 tt)

pub returns-in-244 : goal.returns-in-244
unfolding among named-or each_of every row if ◌both◌
returns-in-244 c = search (keyed (each 6 1) 9 tt)

pub returns-in-245 : goal.returns-in-245
unfolding among named-or each_of every row if ◌both◌
returns-in-245 c = search (keyed (each 4 1) 10 tt)

pub returns-in-88-to-90 : goal.returns-in-88-to-90
unfolding among named-or each_of every row if ◌both◌
returns-in-88-to-90 c = search (ranged (λ x. each 0 1) 0x54 44 tt)

pub returns-in-128-to-143 : goal.returns-in-128-to-143
unfolding among named-or each_of every row if ◌both◌
returns-in-128-to-143 c = search (within (λ x. each (x - 0x80 + 1) (x - 0x80 + 1 + 1)) 0x80 16 tt)

pub returns-in-144-to-159 : goal.returns-in-144-to-159
unfolding among named-or each_of every row if ◌both◌
returns-in-144-to-159 c = search (within (λ x. each (x - 0x90 + 1 + 1) (x - 0x90 + 1 + 1)) 0x90 16 tt)

pub returns-in-241 : goal.returns-in-241
unfolding among named-or each_of every row if ◌both◌
returns-in-241 c = search (ranged (λ x. each 7 1) 0xF0 3 tt)

pub returns-in_default : goal.returns-in_default
unfolding among named-or each_of every row if ◌both◌
returns-in_default c = search (within (λ x. unknown) 0x0C 4 tt)

pub returns-in_default-2 : goal.returns-in_default-2
unfolding among named-or each_of every row if ◌both◌
returns-in_default-2 c = search (ranged (λ x. unknown) 0x1E 18 tt)

pub returns-in_default-3 : goal.returns-in_default-3
unfolding among named-or each_of every row if ◌both◌
returns-in_default-3 c = search (ranged (λ x. unknown) 0x49 7 tt)

pub returns-in_default-4 : goal.returns-in_default-4
unfolding among named-or each_of every row if ◌both◌
returns-in_default-4 c = search (within (λ x. unknown) 0xA5 75 tt)

pub returns-in_default-5 : goal.returns-in_default-5
unfolding among named-or each_of every row if ◌both◌
returns-in_default-5 c = search (ranged (λ x. unknown) 0xF3 13 tt)

pub returns-in-82 : goal.returns-in-82
unfolding among named-or each_of every row if ◌both◌
returns-in-82 c =
    elim c.in-82-1.branch [
      | in-85-1 w ↦ search (keyed (each 2 0) 8 tt)
      | in_default+else-op-lt73+else-op-lt80+then-op-lt84 w ↦ search (ranged (λ x. each 2 0) 0x50 4 tt)
    ]

pub returns-in-48 : goal.returns-in-48
unfolding among named-or each_of every row if ◌both◌
returns-in-48 c =
    elim c.in-48-1.branch [
      | in-48-1 w ↦ search (keyed (each 0 1) 4 tt)
      | in_default+then-op-lt73+else-op-lt8+else-op-lt10+else-op-lt12+else-op-lt16+else-op-lt30+else-op-lt48+then-op-lt53 w ↦ search (ranged (λ x. each 0 1) 0x30 5 tt)
      | in_default+then-op-lt73+else-op-lt8+else-op-lt10+else-op-lt12+else-op-lt16+else-op-lt30+else-op-lt48+else-op-lt53+else-op-lt65 w ↦ search (within (λ x. each 0 1) 0x41 8 tt)
    ]

-- The two ways into the arm are cited by no name of a byte, so that a wrong byte there is refused for what the arm gives.
pub returns-in-21 : goal.returns-in-21
unfolding among named-or each_of every row if ◌both◌
returns-in-21 c = ⊎_elim (λ w. search (keyed (each 1 1) 3 tt)) (λ w. search (ranged (λ x. each 1 1) 0x35 12 tt)) c.in-21-1.branch-raw

pub returns-in-8 : goal.returns-in-8
unfolding among named-or each_of every row if ◌both◌
returns-in-8 c =
    elim c.in-8-1.branch [
      | in-240-1 w ↦ search (keyed (each 3 1) 2 tt)
      | in_default+then-op-lt73+else-op-lt8+then-op-lt10 w ↦ search (within (λ x. each 3 1) 0x08 2 tt)
    ]

pub returns-in-1-to-7 : goal.returns-in-1-to-7
unfolding among named-or each_of every row if ◌both◌
returns-in-1-to-7 c =
    elim c.in-1-to-7-1.branch [
      | in-32-1 w ↦ search (keyed (each 2 1) 1 tt)
      | in_default+then-op-lt73+then-op-lt8 w ↦ search (ranged (λ x. each 2 1) 0x00 8 tt, zero-below)
      | in_default+then-op-lt73+else-op-lt8+else-op-lt10+then-op-lt12 w ↦ search (within (λ x. each 2 1) 0x0A 2 tt)
      | in_default+then-op-lt73+else-op-lt8+else-op-lt10+else-op-lt12+else-op-lt16+then-op-lt30 w ↦ search (ranged (λ x. each 2 1) 0x10 14 tt)
    ]

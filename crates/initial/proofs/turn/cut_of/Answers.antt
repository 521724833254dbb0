-- `cut_of` meets its contract: a byte that is a key, the two that fail, those of the wide range, and the rest by what is known of them. Assumes nothing.
use Rattle.initial.proofs.Bytes.{far-below, cut-success, cut-fails, cut-common, cut-other, cut-unknown}
use Rattle.spec.specs.Lists.{if}
use Rattle.initial.proofs.turn.cut_of.Goals as goal
use Rattle.initial.proofs.turn.cut_of.Goals.{in_default-via-then-op-lt95, in_default-via-else-op-lt95+else-op-lt160+then-op-lt253}

pub returns-in-91 : goal.returns-in-91
unfolding if
returns-in-91 c = rw c.in-91.is

pub returns-in-87 : goal.returns-in-87
unfolding if
returns-in-87 c = rw c.in-87.is

pub returns-in-86 : goal.returns-in-86
unfolding if
returns-in-86 c = rw c.in-86.is

pub returns-in-0 : goal.returns-in-0
returns-in-0 c = search cut-success

pub returns-in-95-to-159 : goal.returns-in-95-to-159
returns-in-95-to-159 c = search cut-common

pub returns-in-253 : goal.returns-in-253
returns-in-253 c = search cut-fails

pub returns-then-known : goal.returns-then-known
returns-then-known c =
    elim c.in_default.branch [
      | in_default-via-then-op-lt95 w ↦ search (cut-other, far-below)
      | in_default-via-else-op-lt95+else-op-lt160+then-op-lt253 w ↦ search cut-other
    ]

pub returns-else-known : goal.returns-else-known
returns-else-known c =
    elim c.in_default.branch [
      | in_default-via-then-op-lt95 w ↦ search (cut-unknown, far-below)
      | in_default-via-else-op-lt95+else-op-lt160+then-op-lt253 w ↦ search cut-unknown
    ]

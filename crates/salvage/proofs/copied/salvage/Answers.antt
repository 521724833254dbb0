-- `salvage` meets its contract: a buffer is short, or what was judged is copied and printed. Assumes nothing.
use borrow.Author.Rules.{rules}
use Rattle.salvage.proofs.Printed.{copy-fits, short-out, short-report, written}
use Rattle.salvage.proofs.copied.salvage.Goals as goal
use Rattle.salvage.proofs.copied.salvage.Goals.{then-out-judged-via-then-out-judged, then-out-judged-via-else-out-judged+then-report-lt-PRINTED}

pub returns-then-out-judged : goal.returns-then-out-judged
returns-then-out-judged c =
    elim c.then-out-judged.branch [
      | then-out-judged-via-then-out-judged w ↦ search short-out
      | then-out-judged-via-else-out-judged+then-report-lt-PRINTED w ↦ search short-report
    ]

pub copy-requires : goal.copy-requires
copy-requires c = search (rules, copy-fits)

pub returns : goal.returns
returns c = search written

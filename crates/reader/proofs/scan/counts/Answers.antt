-- `counts` meets its contract. Assumes nothing.
use Rattle.reader.proofs.Resting.{count-blocks, count-records, count-right}
use Rattle.reader.proofs.scan.counts.Goals.{else-blocks-scan-via-then-blocks-scan+else-records-scan, else-blocks-scan-via-else-blocks-scan}
use Rattle.reader.proofs.scan.counts.Goals as goal

pub returns-then-records-scan : goal.returns-then-records-scan
returns-then-records-scan c = search count-right

pub returns : goal.returns
returns c =
    elim c.else-blocks-scan.branch [
      | else-blocks-scan-via-then-blocks-scan+else-records-scan w ↦ search count-records
      | else-blocks-scan-via-else-blocks-scan w ↦ search count-blocks
    ]

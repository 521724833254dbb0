-- `skipped`: one block on the path, and no path that was found. Assumes nothing.
use Rattle.enter.proofs.Skipping.{skip-found, skip-direct}
use Rattle.enter.proofs.enter.skipped.Goals as goal

pub returns-then-at-ge-FOUND : goal.returns-then-at-ge-FOUND
returns-then-at-ge-FOUND c = search skip-found

pub returns : goal.returns
returns c = search skip-direct

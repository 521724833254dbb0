-- `path_sort` meets its contract: each way out is its line of the definitions' table. Assumes nothing.
use Rattle.reader.proofs.Sorting.{path-way, path-record, path-numbered, path-none}
use Rattle.reader.proofs.kind.path_sort.Goals as goal

pub returns-then-kind-way : goal.returns-then-kind-way
returns-then-kind-way c = search path-way

pub returns-then-kind-plain : goal.returns-then-kind-plain
returns-then-kind-plain c = search path-record

pub returns-then-kind-numbered : goal.returns-then-kind-numbered
returns-then-kind-numbered c = search path-numbered

pub returns-else-kind-numbered : goal.returns-else-kind-numbered
returns-else-kind-numbered c = search path-none

-- `judge` meets its contract: each way out is a law of its own. Assumes nothing.
use borrow.Author.Rules.{rules}
use Rattle.inspector.proofs.Passing.{judged-empty, judged-unsound, judged-other, judged-tables, judged-begins, judged-along}
use Rattle.inspector.proofs.path.judge.Goals as goal

pub returns-then-path-eq0 : goal.returns-then-path-eq0
returns-then-path-eq0 c = search judged-empty

pub returns-then-not-is_sound : goal.returns-then-not-is_sound
returns-then-not-is_sound c = search judged-unsound

pub returns-then-owner-first : goal.returns-then-owner-first
returns-then-owner-first c = search judged-other

pub along-requires : goal.along-requires
along-requires c = record { tables = search judged-tables; in_path = search rules; begins = search judged-begins }

pub returns : goal.returns
returns c = search judged-along

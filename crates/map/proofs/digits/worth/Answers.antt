-- `worth`: range by range. Assumes nothing.
use Rattle.map.proofs.Worths.{worth-under, worth-figure, worth-between, worth-upper, worth-past, worth-lower, worth-over}
use Rattle.map.proofs.digits.worth.Goals as goal

pub returns-then-character-lt48 : goal.returns-then-character-lt48
returns-then-character-lt48 c = search worth-under

pub returns-then-character-le57 : goal.returns-then-character-le57
returns-then-character-le57 c = search worth-figure

pub returns-then-character-lt65 : goal.returns-then-character-lt65
returns-then-character-lt65 c = search worth-between

pub returns-then-character-le70 : goal.returns-then-character-le70
returns-then-character-le70 c = search worth-upper

pub returns-then-character-lt97 : goal.returns-then-character-lt97
returns-then-character-lt97 c = search worth-past

pub returns-then-character-le102 : goal.returns-then-character-le102
returns-then-character-le102 c = search worth-lower

pub returns : goal.returns
returns c = search worth-over

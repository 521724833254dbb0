-- `character`: a figure or a letter. Assumes nothing.
use Rattle.map.proofs.Hexes.{spells-figure, spells-letter}
use Rattle.map.proofs.lines.character.Goals as goal

pub returns-then-value-le9 : goal.returns-then-value-le9
returns-then-value-le9 c = search spells-figure

pub returns : goal.returns
returns c = search spells-letter

-- `fits`: a sum, a last block, a symbol, a length or a cell tells a row from what is looked up. Assumes nothing.
use Rattle.std.proofs.Common.{not, ap, ◌∙◌}
use Rattle.tables.proofs.Stamps.{eq-symbol}
use Rattle.tables.proofs.Seeks.{compare, row-sum, row_last, row-symbol, row-cells, row_same}
use Rattle.tables.proofs.row.StateLookupChain.fits.Goals as goal

pub returns-then-stamp_at-self : goal.returns-then-stamp_at-self
returns-then-stamp_at-self c = search (row-sum (compare c.requires.held c.requires.below))

pub returns-then-get16-self : goal.returns-then-get16-self
returns-then-get16-self c = search (row_last (compare c.requires.held c.requires.below))

pub returns-then-ne : goal.returns-then-ne
returns-then-ne c =
    row-symbol (compare c.requires.held c.requires.below) _ c.get_cell.ensures (c.ne.ensures ∙ ap not (eq-symbol c.args.self.now.seen.symbol c.get_cell.result))
    c.if-ne.true

pub returns-then-get32-self : goal.returns-then-get32-self
returns-then-get32-self c = search (row-cells (compare c.requires.held c.requires.below))

pub returns : goal.returns
returns c =
    row_same (compare c.requires.held c.requires.below) c.get32.ensures c.if-get32-self.false c.get32-2.ensures _ c.get16.ensures c.if-get16-self.false c.get_cell.ensures
    (c.ne.ensures ∙ ap not (eq-symbol c.args.self.now.seen.symbol c.get_cell.result)) c.if-ne.false c.same_state.ensures

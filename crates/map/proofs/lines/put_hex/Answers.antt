-- `put_hex`: after i turns the digits of the first i bytes are stored. Assumes nothing.
use native.Mathlib.Omega.{arith}
use borrow.Author.Rules.{rules}
use Rattle.lent.proofs.Stored.{stored-none}
use Rattle.map.proofs.Hexes.{hex-more, hex-done}
use Rattle.map.proofs.lines.put_hex.Goals as goal

pub loop-i-init : goal.loop-i-init
loop-i-init c = (search rules, stored-none _ _ (omega arith))

pub loop-i-preserved : goal.loop-i-preserved
loop-i-preserved c = (search rules, hex-more _ _ _ c.loop-i.invariant.1 (omega arith) c.get8.ensures c.put_digits.ensures)

pub returns : goal.returns
returns c = search hex-done

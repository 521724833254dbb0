-- `decode`: after i turns i bytes are decoded. Assumes nothing.
use Rattle.map.proofs.DecodeLoop.{Decoding}
use Rattle.map.proofs.digits.decode.Given as goal

abbrev pub invariant-loop-i : goal.invariant-loop-i
invariant-loop-i l = Decoding l.text l.initial.code l.code l.i

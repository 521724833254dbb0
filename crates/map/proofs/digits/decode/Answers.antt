-- `decode`: two characters more, and how it ends. Assumes nothing.
use Rattle.map.proofs.DecodeLoop.{decoding-none, decoding-more, first_bad, second-bad, decoding-done, line-feed, odd, decodes-long}
use native.Mathlib.Omega.{arith}
use mathlib.Core.Path.{◌≡◌}
use Prim.Native.Nat.{◌+◌, ◌*◌, ◌/◌, ◌<◌}
use lib.ListN.{length}
use Rattle.map.proofs.digits.decode.Goals as goal

pub returns-then-size-gt1025 : goal.returns-then-size-gt1025
returns-then-size-gt1025 c = search decodes-long

pub loop-i-init : goal.loop-i-init
loop-i-init c = decoding-none _ _

pub returns-in_default : goal.returns-in_default
returns-in_default c = let more : 2 * c.loop-i.i + 1 < length c.args.text.now = omega arith in search first_bad

pub returns-in_default-worth : goal.returns-in_default-worth
returns-in_default-worth c = let more : 2 * c.loop-i.i + 1 < length c.args.text.now = omega arith in search second-bad

pub loop-i-preserved : goal.loop-i-preserved
loop-i-preserved c = let more : 2 * c.loop-i.i + 1 < length c.args.text.now = omega arith in search decoding-more

pub returns-then-count-size : goal.returns-then-count-size
returns-then-count-size c = let all : c.loop-i.i ≡ length c.args.text.now / 2 = omega (arith, c.loop-i.auto.i-end) in
    rw (← all) (decoding-done c.loop-i.invariant (omega arith) (omega arith))

pub returns-then-get8-eq10 : goal.returns-then-get8-eq10
returns-then-get8-eq10 c = let all : c.loop-i.i ≡ length c.args.text.now / 2 = omega (arith, c.loop-i.auto.i-end) in
    rw (← all) (line-feed c.loop-i.invariant (omega arith) (λ e. c.if-count-size.false (rw (← all) e)) (rw (← all) at c.get8.ensures) c.if-get8-eq10.true (omega arith))

pub returns : goal.returns
returns c = let all : c.loop-i.i ≡ length c.args.text.now / 2 = omega (arith, c.loop-i.auto.i-end) in
    odd c.loop-i.invariant (omega arith) (λ e. c.if-count-size.false (rw (← all) e)) (rw (← all) at c.get8.ensures) c.if-get8-eq10.false

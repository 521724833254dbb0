use Rattle.std.proofs.Common.{◌≡◌, ◌+◌, ◌-◌, ◌*◌, length}
use Rattle.follow.specs.Blocks.{many_in}
use Rattle.follow.specs.Places.{CanChoose, distinct_left}
use Rattle.follow.proofs.place.DistinctIterator.next.Given as goal

abbrev pub invariant-loop-to : goal.invariant-loop-to
invariant-loop-to l = CanChoose l.self × (distinct_left l.initial.self ≡ distinct_left l.self)

abbrev pub decreases-loop-to : goal.decreases-loop-to
decreases-loop-to l = length l.self.map.now + 6 * many_in l.self.rest.sides - l.self.rest.at

use Rattle.std.proofs.Common.{arith, ap, length, ◌∙◌}
use Rattle.follow.proofs.Placing.{choose-over, choose_on, choose-passed, choose-less, choose-new, choose-old}
use Rattle.follow.proofs.place.DistinctIterator.next.Goals as goal

pub overflow_add-self : goal.overflow_add-self
overflow_add-self c = search choose-passed

pub returns-then-new-clause-steps : goal.returns-then-new-clause-steps
returns-then-new-clause-steps c =
    let i = c.loop-to.invariant in
    i.1 ∙ choose-new i.0 c.dest_of.ensures c.in-Some.is c.fresh-new.ensures c.if-new.true

pub returns-then-new-clause-goes : goal.returns-then-new-clause-goes
returns-then-new-clause-goes c =
    let i = c.loop-to.invariant in
    let e = i.1 ∙ choose-new i.0 c.dest_of.ensures c.in-Some.is c.fresh-new.ensures c.if-new.true in
    let can = choose_on i.0 c.dest_of.ensures c.in-Some.is in
    record { on = λ _. (can, tt, omega (arith, ap length e)); keeps = can; rests = λ _. tt }

pub loop-to-smaller : goal.loop-to-smaller
loop-to-smaller c = let i = c.loop-to.invariant in choose-less i.0 c.dest_of.ensures c.in-Some.is

pub loop-to-preserved : goal.loop-to-preserved
loop-to-preserved c =
    let i = c.loop-to.invariant in
    (choose_on i.0 c.dest_of.ensures c.in-Some.is, i.1 ∙ choose-old i.0 c.dest_of.ensures c.in-Some.is c.fresh-new.ensures c.if-new.false)

pub returns-clause-steps : goal.returns-clause-steps
returns-clause-steps c =
    let i = c.loop-to.invariant in
    let none = choose-over i.0 c.dest_of.ensures c.in_default.is in
    (i.1 ∙ none, none)

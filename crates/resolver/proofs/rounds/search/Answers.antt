-- `search`: what is reached at the start, and the rounds from there. Assumes nothing.
use Rattle.std.proofs.lemmas.Result.{err_from_is_err_and}
use Rattle.resolver.proofs.SearchBegins.{known-within, search-asks, search-done, search-refused}
use Rattle.resolver.proofs.rounds.search.Goals as goal

pub reach-requires-clause-sides_within : goal.reach-requires-clause-sides_within
reach-requires-clause-sides_within c = search known-within

pub rounds-requires : goal.rounds-requires
rounds-requires c = search-asks c.rooms_of.ensures c.plan_of-plan.ensures c.requires c.reach.ensures c.wipe_part.ensures c.begin_rows.ensures c.begin-run.ensures

pub returns-in_err-rounds-clause-searched : goal.returns-in_err-rounds-clause-searched
returns-in_err-rounds-clause-searched c =
    let p = err_from_is_err_and c.from_residual.result c.from_residual.ensures.1 in
    rw (p.1, p.2)
    (search-refused c.rounds.new.run c.in_err-rounds.field-0.0
    (search-done c.rooms_of.ensures c.plan_of-plan.ensures c.requires c.reach.ensures c.wipe_part.ensures c.begin_rows.ensures c.begin-run.ensures c.in_err-rounds.ensures.rounds))

pub returns-clause-searched : goal.returns-clause-searched
returns-clause-searched c =
    search-done c.rooms_of.ensures c.plan_of-plan.ensures c.requires c.reach.ensures c.wipe_part.ensures c.begin_rows.ensures c.begin-run.ensures c.in_ok-rounds.ensures.rounds

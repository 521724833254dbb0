-- `arrive`: the symbol says whether a level opens or the path ends. Assumes nothing.
use Rattle.std.proofs.lemmas.Result.{err_from_is_err_and}
use Rattle.enter.proofs.ArriveWays.{arrived-before, arrived-ended, arriving-lands}
use Rattle.enter.proofs.PathEnds.{ended-in}
use Rattle.enter.proofs.enter.arrive.Goals as goal

pub returns-in-Before-clause-arrived : goal.returns-in-Before-clause-arrived
returns-in-Before-clause-arrived c = search arrived-before

pub landed-requires : goal.landed-requires
landed-requires c = arriving-lands c.requires c.entry_of-entry.ensures

pub returns-in_err-landed : goal.returns-in_err-landed
returns-in_err-landed c =
    let p = err_from_is_err_and c.from_residual.result c.from_residual.ensures.1 in
    let landed = c.in_err-landed.ensures in
    rw (p.1, p.2) (record {
      lent = landed.lent;
      same = landed.same;
      arrived = arrived-ended c.requires c.in_default.not-Before c.entry_of-entry.ensures landed.landed.noted (ended-in landed.landed);
    })

pub returns : goal.returns
returns c =
    let landed = c.in_ok-landed.ensures in
    record {
      lent = landed.lent;
      same = landed.same;
      arrived = arrived-ended c.requires c.in_default.not-Before c.entry_of-entry.ensures landed.landed.noted (ended-in landed.landed);
    }

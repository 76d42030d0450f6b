use Rattle.station_link.proofs.Refusals.{admits, refuses_unknown, refuses_full}
use Rattle.station_link.proofs.request.enlist.Goals as goal

pub returns-in-Ok-clause-admitted : goal.returns-in-Ok-clause-admitted
returns-in-Ok-clause-admitted g c =
    admits c.args.desk.now.stations c.args.name.now c.in-Ok.pass (λ h. let r = c.enlist.ensures.unknown.1 h in cc) c.in-Ok.ensures.station c.in-Ok.ensures.changes

pub returns-in-Err-UnknownStation-clause-refused : goal.returns-in-Err-UnknownStation-clause-refused
returns-in-Err-UnknownStation-clause-refused g c = refuses_unknown c.args.desk.now.stations c.args.name.now (c.enlist.ensures.unknown.0 (cc))

pub returns-in-Err-TooManyPasses-clause-refused : goal.returns-in-Err-TooManyPasses-clause-refused
returns-in-Err-TooManyPasses-clause-refused g c = refuses_full c.args.desk.now.stations c.args.name.now (λ h. let r = c.enlist.ensures.unknown.1 h in cc)

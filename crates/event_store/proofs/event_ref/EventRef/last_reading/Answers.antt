use Rattle.std.proofs.Common.{rules, ◌≡◌, Some, sym}
use Rattle.ledger_model.specs.Deltas.{last_reading}
use Rattle.event_store.proofs.Lasts.{last_toward}
use Rattle.event_store.proofs.event_ref.EventRef.last_reading.Goals as goal

pub returns-in-Some : goal.returns-in-Some
returns-in-Some c =
    let last : last_reading c.args.self.now.1.event.readings ≡ Some c.in-Some.reading = search rules in
    let is : c.in-Some.reading.direction ≡ c.args.direction = search rules in
    sym (last_toward c.args.direction c.args.self.now.1.event.readings c.in-Some.reading last is)

use Rattle.std.proofs.Common.{refl, ap}
use Rattle.transaction_event.specs.MessageMeaning.{asking}
use Rattle.script_ledgers.{specs.declared.detail.Detail.TheVariants.Reply, specs.Received.TakesMessage, specs.Script.sent_to, specs.State.script_of, proofs.Answered.{ok_told, written_whole}, proofs.Named.{is_none, is_of, received, some_of}}
use Rattle.script_ledgers.proofs.opened_script.OpenedScript.receive_ahead.Goals as goal

pub returns-in-Some-clause-step : goal.returns-in-Some-clause-step
returns-in-Some-clause-step g c = λ text asks.
    let s = c.args.self.now in
    let of = is_of s.draft s.cells.items s.books.items s.tallies.items s.running c.args.sent.station c.in-Some.number c.station_number.result c.station_number.ensures c.in-Some.is in
    let old = script_of s in
    let new = script_of c.deliver.new.self in
    let m = asking c.args.sent.delivery in
    let reply = c.deliver.new.reply.items in
    ok_told c.deliver.result _ _
    (λ h.
    let took = some_of _ of.at.station (λ t. TakesMessage Reply old new t m reply) of.at.there h in
    received Reply old new _ of.at.station m reply text c.args.sent.station refl refl of.named (asks.1 s.draft.moment) took)
    c.deliver.ensures.takes

pub returns-in-None-clause-step : goal.returns-in-None-clause-step
returns-in-None-clause-step g c = λ text asks.
    let s = c.args.self.now in
    let none = is_none s.draft s.cells.items s.books.items s.tallies.items s.running c.args.sent.station c.station_number.result c.station_number.ensures c.in-None.is in
    written_whole c.put_fault.result (script_of s) _ c.args.reply.now.items c.put_fault.new.reply.items _ (ap (λ o. sent_to o (script_of s) text) none) c.requires.empty c.put_fault.ensures

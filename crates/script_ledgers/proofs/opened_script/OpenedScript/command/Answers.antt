use Rattle.std.proofs.Common.{refl, ap}
use Rattle.script_ledgers.{specs.Running.Settles, specs.Script.commanded_to, specs.State.script_of, proofs.Answered.written_whole, proofs.Named.{commanded, is_none, is_of, some_of}}
use Rattle.script_lines.specs.Texts.{answer_text, ended_line}
use Rattle.script_ledgers.proofs.opened_script.OpenedScript.command.Goals as goal

pub returns-in-Some-clause-step : goal.returns-in-Some-clause-step
returns-in-Some-clause-step g c =
    let s = c.args.self.now in
    let of = is_of s.draft s.cells.items s.books.items s.tallies.items s.running c.args.name.now c.in-Some.number c.station.result c.station.ensures c.in-Some.is in
    let did = some_of _ of.at.station (λ t. Settles (script_of s) _ t c.args.command c.settle-answer.result) of.at.there c.settle-answer.ensures.settled in
    let old = script_of s in
    let new = script_of c.settle-answer.new.self in
    written_whole c.put_answer.result new (ended_line (answer_text c.settle-answer.result)) c.args.reply.now.items c.put_answer.new.reply.items _
    (commanded old new _ of.at.station c.args.command c.settle-answer.result refl of.named did) c.requires.empty c.put_answer.ensures

pub returns-in-None-clause-step : goal.returns-in-None-clause-step
returns-in-None-clause-step g c =
    let s = c.args.self.now in
    let none = is_none s.draft s.cells.items s.books.items s.tallies.items s.running c.args.name.now c.station.result c.station.ensures c.in-None.is in
    written_whole c.put_fault.result (script_of s) _ c.args.reply.now.items c.put_fault.new.reply.items
    _ (ap (λ o. commanded_to o (script_of s) c.args.command) none) c.requires.empty c.put_fault.ensures

use Rattle.std.proofs.Common.{◌≡◌, ◌++◌, [], List, ℕ, Option, None, Some, option_map, ap, subst, sym, ◌∙◌, rules}
use Rattle.ledger_model.specs.declared.answer.Answer.{Answer}
use Rattle.script_ledgers.specs.Detail.{message_text}
use Rattle.station_link.specs.Answer.{Outcomes}
use Rattle.running_desk.proofs.running.Running.take_text.Goals as goal

pub returns-in-Ok-clause-line : goal.returns-in-Ok-clause-line
returns-in-Ok-clause-line g c =
    let a = c.answer_text-answered in
    let texts : option_map (λ t. t.now) c.map-text.result ≡ option_map (λ t. t.bytes) a.result.text = search rules in
    let empty = c.requires.empty in
    record {
      moment = c.present-now.result;
      outcome = a.result.outcome;
      text = option_map (λ t. t.bytes) a.result.text;
      memory = a.result.memory;
      outcomes = subst (λ ps. Outcomes g.S.Delivers.gives ps c.args.pass.now c.args.text.now c.present-now.result a.result.outcome (option_map (λ t. t.bytes) a.result.text) a.new.pass a.result.seen a.result.memory)
          (sym c.args.self.now.stations) a.ensures.outcome;
      is = c.in-Ok.ensures ∙ (λ i. empty i ++ message_text c.args.detail a.result.outcome (texts i));
    }

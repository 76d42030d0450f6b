use Rattle.std.proofs.Common.{sym, ◌∙◌}
use Rattle.ledger_model.{specs.Complete.{kinds_of, starts_and_ends}, specs.Gaps.{numbers_of, missing}}
use Rattle.event_chain.specs.Chains.{stored}
use Rattle.station_ledger.proofs.EndNumbers.{none_missing, some_missing}
use Rattle.station_ledger.proofs.standing.is_whole.Goals as goal

pub returns-then-lacking-ne0 : goal.returns-then-lacking-ne0
returns-then-lacking-ne0 c =
    let es = stored c.args.chains.now in
    some_missing (starts_and_ends (kinds_of c.args.tx.now es)) (missing (numbers_of c.args.tx.now es)) (λ none. c.if-lacking-ne0.true (c.requires ∙ none))

pub returns : goal.returns
returns c =
    let es = stored c.args.chains.now in
    c.has_ends.ensures ∙ none_missing (starts_and_ends (kinds_of c.args.tx.now es)) (missing (numbers_of c.args.tx.now es)) (sym c.requires ∙ c.if-lacking-ne0.false)

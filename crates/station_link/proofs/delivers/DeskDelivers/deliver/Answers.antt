use Rattle.station_link.proofs.delivers.DeskDelivers.deliver.Goals as goal

pub returns-clause-submitted : goal.returns-clause-submitted
returns-clause-submitted g c = record {
  settled = λ at there. (c.submit-answer.result.1, c.submit-answer.ensures.settled at there);
  stranger = λ none. let unknown = c.submit-answer.ensures.stranger none in (unknown.0, unknown.1.pass);
}

use Rattle.journal_server.proofs.serving.ServingServes.command.Goals as goal

pub returns-clause-given : goal.returns-clause-given
returns-clause-given g c at there = (_, _, _, c.submit-answer.ensures.received at there)

pub returns-clause-settled : goal.returns-clause-settled
returns-clause-settled g c at there = (c.submit-answer.result.1, c.submit-answer.ensures.settled at there)

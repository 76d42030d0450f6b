use Rattle.std.{proofs.Common.{List, [], ap, ◌∙◌, map, refl}, specs.Prelude.{codes, filter}, specs.List.zip}
use Rattle.ledger_model.{specs.Admissible.key_of, specs.declared.answer.Answer.Answer, specs.Content.empty_content, specs.Examples.narrow_limits, specs.Laws.answers, proofs.ListedRuns.{told_all, told_from_empty}}
use Rattle.transaction_laws.{specs.Alone.belongs_to, specs.Examples.crowded, specs.Transcript.{Exchange, commands_in, own_in}}
use Rattle.transaction_laws.proofs.examples.examples_of_answers.Goals as goal

-- the part of the first transaction, by the answers
own_by : List Answer → List Exchange
own_by given = own_in (codes "t1") (zip crowded given)

pub returns-clause-among : goal.returns-clause-among
unfolding own_by
returns-clause-among c = ap (λ given. map (λ l. l.1) (own_by given)) (told_from_empty narrow_limits crowded) ∙ refl

pub returns-clause-alone : goal.returns-clause-alone
unfolding own_by
returns-clause-alone c =
    ap (λ given. answers narrow_limits empty_content (commands_in (own_by given))) (told_from_empty narrow_limits crowded)
    ∙ told_from_empty narrow_limits (commands_in (own_by (told_all narrow_limits ([], 0) crowded))) ∙ refl

pub returns-clause-with_refused : goal.returns-clause-with_refused
returns-clause-with_refused c = told_from_empty narrow_limits (filter (λ command. belongs_to (codes "t1") (key_of command)) crowded) ∙ refl

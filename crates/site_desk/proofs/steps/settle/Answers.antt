use Rattle.std.proofs.Common.{rules, refl, ◌∙◌}
use Rattle.ledger_model.{specs.declared.answer.Answer.TheVariants.{Repeat, Refused}, specs.Board.figures_by, specs.Content.entries}
use Rattle.site_desk.{specs.Cell.held, proofs.Settled.{book_posted, known_after, tied_after}}
use Rattle.site_desk.proofs.steps.settle.Goals as goal

pub returns-in-Accepted : goal.returns-in-Accepted
returns-in-Accepted g c =
    let book =
    book_posted c.args.book.now c.post-told.new.self c.change-answer.new.self c.change-answer.result c.in-Accepted.field-0 c.row.result c.figures.result c.post-told.ensures.posted c.row.ensures
    (c.figures.ensures.value ∙ (λ i. figures_by (c.ledger.ensures.order i) (entries (c.ledger.ensures.content i)))) c.in-Accepted.is in
    record {
      answer = c.change-answer.ensures.answer;
      cell = c.change-answer.ensures.cell;
      pass = c.change-answer.ensures.pass;
      spent = c.change-answer.ensures.spent;
      bound = c.change-answer.ensures.bound;
      book = book;
      told = search rules;
      known = known_after c.args.cell.now c.change-answer.new.self (held c.args.tally.now c.args.work.now) (held c.change-answer.new.tally c.change-answer.new.work) c.args.command _ c.change-answer.ensures.cell c.change-answer.ensures.pass c.change-answer.ensures.answer c.requires.known;
      tied = tied_after _ _ (held c.args.tally.now c.args.work.now) _ _ c.args.command _ c.change-answer.ensures.cell book c.change-answer.ensures.answer c.requires.tied;
    }

pub returns-in-Repeat : goal.returns-in-Repeat
returns-in-Repeat g c = record {
  answer = c.in-Repeat.ensures.answer;
  cell = c.change-answer.ensures.cell;
  pass = c.in-Repeat.ensures.pass;
  spent = c.in-Repeat.ensures.spent;
  bound = c.change-answer.ensures.bound;
  book = refl;
  told = refl;
  known = known_after c.args.cell.now c.change-answer.new.self (held c.args.tally.now c.args.work.now) (held c.change-answer.new.tally c.change-answer.new.work) c.args.command Repeat c.change-answer.ensures.cell c.in-Repeat.ensures.pass c.in-Repeat.ensures.answer c.requires.known;
  tied = tied_after _ _ (held c.args.tally.now c.args.work.now) c.args.book.now c.args.book.now c.args.command Repeat c.change-answer.ensures.cell refl c.in-Repeat.ensures.answer c.requires.tied;
}

pub returns-in-Refused : goal.returns-in-Refused
returns-in-Refused g c = record {
  answer = c.in-Refused.ensures.answer;
  cell = c.change-answer.ensures.cell;
  pass = c.in-Refused.ensures.pass;
  spent = c.in-Refused.ensures.spent;
  bound = c.change-answer.ensures.bound;
  book = refl;
  told = refl;
  known = known_after c.args.cell.now c.change-answer.new.self (held c.args.tally.now c.args.work.now) (held c.change-answer.new.tally c.change-answer.new.work) c.args.command (Refused c.in-Refused.why) c.change-answer.ensures.cell c.in-Refused.ensures.pass c.in-Refused.ensures.answer c.requires.known;
  tied = tied_after _ _ (held c.args.tally.now c.args.work.now) c.args.book.now c.args.book.now c.args.command (Refused c.in-Refused.why) c.change-answer.ensures.cell refl c.in-Refused.ensures.answer c.requires.tied;
}

use Rattle.board_report.proofs.running.running_board.Goals as goal

pub running_text-requires-clause-opened : goal.running_text-requires-clause-opened
running_text-requires-clause-opened g c = record { places = c.args.desk.now.stations; opened = c.requires.opened; of_site = c.in-Ok.ensures.boards }

pub returns-in-Ok-running_text-clause-text : goal.returns-in-Ok-running_text-clause-text
returns-in-Ok-running_text-clause-text g c = record { boards = c.in-Ok.shown.0.items; of_site = c.in-Ok.ensures.boards; is = c.in-Ok-running_text.ensures }

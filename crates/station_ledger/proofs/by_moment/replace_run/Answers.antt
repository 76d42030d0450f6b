use Rattle.station_ledger.proofs.Rows.{few_room}
use Rattle.station_ledger.proofs.by_moment.replace_run.Goals as goal

pub move_row-more-requires-clause-may : goal.move_row-more-requires-clause-may
move_row-more-requires-clause-may c = c.requires.room c.move_row-less.new.quarters c.move_row-less.ensures.quarters

pub move_row-more-requires-clause-few : goal.move_row-more-requires-clause-few
move_row-more-requires-clause-few c = few_room (c.requires.room c.move_row-less.new.quarters c.move_row-less.ensures.quarters)

pub returns : goal.returns
returns c = record { left = c.move_row-less.new.quarters; meanwhile = c.move_row-less.new.work; taken = c.move_row-less.ensures; added = c.move_row-more.ensures }

use Rattle.std.proofs.Common.{◌+◌, refl, arith}
use Rattle.site_desk.{proofs.Looks.{looks_more, looks_of_all}, proofs.Operators.{all_noted, boards_more, none_noted, noted_more}}
use Rattle.site_desk.proofs.operator.site_boards_of.Goals as goal

pub loop-number-preserved : goal.loop-number-preserved
loop-number-preserved g c = record {
  boards = boards_more c.args.places.now c.args.site c.loop-number.number c.index-places-number.result c.loop-number.boards.items
      c.add_board.new.boards.items (omega arith) c.index-places-number.is c.loop-number.invariant.boards
      c.in_ok-add_board.ensures.other c.in_ok-add_board.ensures.own;
  held = noted_more _ c.args.places.now c.args.site c.loop-number.number c.index-places-number.result c.loop-number.boards.items
      c.add_board.new.boards.items (omega arith) c.index-places-number.is c.loop-number.invariant.held
      c.in_ok-add_board.ensures.other c.in_ok-add_board.ensures.held;
  looks = looks_more c.args.places.now c.args.site c.loop-number.number c.index-places-number.result c.args.work.now c.loop-number.work c.add_board.new.work
      (omega arith) c.index-places-number.is c.loop-number.invariant.looks c.in_ok-add_board.ensures.work;
  end = refl;
}

pub returns-clause-held : goal.returns-clause-held
returns-clause-held g c =
    all_noted _ c.args.places.now c.args.site c.loop-number.number c.loop-number.boards.items (let end = c.loop-number.invariant.end in omega (arith, end)) c.loop-number.invariant.held

pub returns-clause-work : goal.returns-clause-work
returns-clause-work g c = looks_of_all c.args.places.now c.args.site c.loop-number.number c.args.work.now c.loop-number.work c.loop-number.invariant.looks

pub returns-in_err-add_board-clause-work : goal.returns-in_err-add_board-clause-work
returns-in_err-add_board-clause-work g c =
    looks_of_all c.args.places.now c.args.site (c.loop-number.number + 1) c.args.work.now c.add_board.new.work
    (looks_more c.args.places.now c.args.site c.loop-number.number c.index-places-number.result c.args.work.now c.loop-number.work c.add_board.new.work
    (omega arith) c.index-places-number.is c.loop-number.invariant.looks c.add_board.ensures.work)

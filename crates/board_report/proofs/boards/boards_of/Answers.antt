use Rattle.std.{proofs.Common.{◌≡◌, ◌+◌, take, subst, ap, ◌∙◌, arith}, proofs.lemmas.List.take_all}
use Rattle.board_report.{specs.Plans.AreBoardsWithin, specs.Boards.site_boards, proofs.Looks.{over_more, over_prefix}}
use Rattle.station_ledger.proofs.Looking.{at_most}
use Rattle.site_desk.specs.Parts.{limits_at}
use Rattle.board_report.proofs.boards.boards_of.Goals as goal

pub returns-clause-boards : goal.returns-clause-boards
returns-clause-boards c =
    let stations = c.args.plan.now.stations.items in
    let all : take c.loop-number.number stations ≡ stations = take_all _ stations (omega (arith, c.loop-number-test.false, c.len-number-end.ensures.value)) in
    c.loop-number.invariant.0 ∙ ap (λ l. site_boards c.args.plan.now.sites.items l c.args.cells.now c.args.site) all

pub returns-clause-within : goal.returns-clause-within
returns-clause-within c =
    let stations = c.args.plan.now.stations.items in
    let all : take c.loop-number.number stations ≡ stations = take_all _ stations (omega (arith, c.loop-number-test.false, c.len-number-end.ensures.value)) in
    subst (λ l. AreBoardsWithin (limits_at l c.args.site) c.loop-number.boards.items) all c.loop-number.invariant.1

pub loop-number-preserved : goal.loop-number-preserved
loop-number-preserved c =
    let xs = c.args.plan.now.stations.items in (
      c.in_ok-add_board.ensures.boards,
      c.in_ok-add_board.ensures.within,
      c.loop-number.invariant.2,
      over_more xs c.args.cells.now c.args.site c.loop-number.number c.args.work.now c.loop-number.work c.add_board.new.work c.loop-number.invariant.3 c.in_ok-add_board.ensures.work,
    )

pub returns-in_err-add_board-clause-work : goal.returns-in_err-add_board-clause-work
returns-in_err-add_board-clause-work c =
    let xs = c.args.plan.now.stations.items in let cells = c.args.cells.now in let site = c.args.site in
    at_most _ _ c.args.work.now c.add_board.new.work (over_prefix xs cells site (c.loop-number.number + 1))
    (over_more xs cells site c.loop-number.number c.args.work.now c.loop-number.work c.add_board.new.work c.loop-number.invariant.3 c.add_board.ensures.work)

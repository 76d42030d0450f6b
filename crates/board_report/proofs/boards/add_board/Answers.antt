use Rattle.std.{proofs.Common.{◌∷◌, [], ◌++◌, length, take, get_or, refl, subst, ap, sym, ◌∙◌, arith}, proofs.lemmas.Option.slice_get_read}
use Rattle.ledger_model.{specs.Board.board_by, specs.Content.entries, specs.Figures.AreWithin}
use Rattle.site_desk.{specs.Plan.{order_at, period_at}, specs.Parts.limits_at, proofs.Rows.limits_more_yes}
use Rattle.board_report.{specs.Plans.AreBoardsWithin, proofs.Looks.{looks_of_cell, looks_of_own}, proofs.SiteBoards.{by_own, boards_more_no, boards_more_yes, stands, within_more}}
use Rattle.board_report.proofs.boards.add_board.Goals as goal

pub returns-then-station-site-clause-boards : goal.returns-then-station-site-clause-boards
returns-then-station-site-clause-boards c =
    let xs = c.args.plan.now.stations.items in
    let cells = c.args.cells.now in
    let x = c.index-stations-number.result in
    let read = c.index-stations-number.is ∙ ap (λ l. get_or l c.args.number x) c.as_slice-stations.ensures.value in
    let at = slice_get_read xs (length xs) c.args.number x refl c.requires.there read in
    let cell = stands cells c.args.number (omega (arith, c.requires.there, c.requires.cells.count)) in
    c.requires.boards ∙ sym
    (boards_more_no (order_at c.args.plan.now.sites.items c.args.site) (period_at c.args.plan.now.sites.items c.args.site) xs cells
    c.args.site c.args.number x cell.0 at cell.1 c.if-station-site.true)

pub returns-clause-boards : goal.returns-clause-boards
returns-clause-boards c =
    let xs = c.args.plan.now.stations.items in
    let cells = c.args.cells.now in
    let x = c.index-stations-number.result in
    let read = c.index-stations-number.is ∙ ap (λ l. get_or l c.args.number x) c.as_slice-stations.ensures.value in
    let at = slice_get_read xs (length xs) c.args.number x refl c.requires.there read in
    let stands = slice_get_read cells (length cells) c.args.number c.index-cells-number.result refl (omega (arith, c.requires.there, c.requires.cells.count)) c.index-cells-number.is in
    let period = c.ledger.ensures.period ∙ c.requires.cells.periods c.args.number x c.index-cells-number.result at stands ∙ ap (period_at c.args.plan.now.sites.items) c.if-station-site.false in
    let order = c.ledger.ensures.order ∙ c.requires.cells.orders c.args.number x c.index-cells-number.result at stands ∙ ap (order_at c.args.plan.now.sites.items) c.if-station-site.false in
    let shown = c.in_ok-board.ensures.board ∙ (λ i. board_by (order i) (period i) (entries (c.ledger.ensures.content i))) in
    c.in_ok-push.ensures.items ∙ (λ i. c.requires.boards i ++ (c.copied.ensures i, shown i) ∷ [])
    ∙ sym (boards_more_yes (order_at c.args.plan.now.sites.items c.args.site) (period_at c.args.plan.now.sites.items c.args.site) xs
    cells c.args.site c.args.number x c.index-cells-number.result at stands c.if-station-site.false)

pub returns-clause-within : goal.returns-clause-within
returns-clause-within c =
    let xs = c.args.plan.now.stations.items in
    let cells = c.args.cells.now in
    let x = c.index-stations-number.result in
    let read = c.index-stations-number.is ∙ ap (λ l. get_or l c.args.number x) c.as_slice-stations.ensures.value in
    let at = slice_get_read xs (length xs) c.args.number x refl c.requires.there read in
    let stands = slice_get_read cells (length cells) c.args.number c.index-cells-number.result refl (omega (arith, c.requires.there, c.requires.cells.count)) c.index-cells-number.is in
    let limits = c.ledger.ensures.limits ∙ c.requires.cells.limits c.args.number x c.index-cells-number.result at stands in
    let more = limits_more_yes xs c.args.site c.args.number x c.requires.there read c.if-station-site.false in
    subst (λ l. AreBoardsWithin l c.push.new.self.items) (sym more)
    (subst (AreBoardsWithin (limits_at (take c.args.number xs) c.args.site ++ x.limits ∷ [])) (sym c.in_ok-push.ensures.items)
    (within_more (limits_at (take c.args.number xs) c.args.site) c.args.boards.now.items x.limits (c.copied.result, c.in_ok-board.board) c.requires.within
    (record {
      entries = entries c.ledger.result.now.content;
      order = c.ledger.result.now.order;
      is = by_own c.in_ok-board.board c.ledger.result.now.order c.ledger.result.now.period (entries c.ledger.result.now.content) c.in_ok-board.ensures.board;
      within = subst (λ l. AreWithin l c.in_ok-board.board.figures) limits c.in_ok-board.ensures.within;
    })))

pub returns-in_err-board-clause-work : goal.returns-in_err-board-clause-work
returns-in_err-board-clause-work c =
    let xs = c.args.plan.now.stations.items in
    let cells = c.args.cells.now in
    let x = c.index-stations-number.result in
    let cell = c.index-cells-number.result in
    let read = c.index-stations-number.is ∙ ap (λ l. get_or l c.args.number x) c.as_slice-stations.ensures.value in
    let at = slice_get_read xs (length xs) c.args.number x refl c.requires.there read in
    let stands = slice_get_read cells (length cells) c.args.number cell refl (omega (arith, c.requires.there, c.requires.cells.count)) c.index-cells-number.is in
    let ledger = c.ledger.result.now in
    looks_of_own xs cells c.args.site c.args.number x cell c.args.work.now c.board.new.work at stands c.if-station-site.false
    (looks_of_cell cell ledger.period ledger.order ledger.content c.args.work.now c.board.new.work c.ledger.ensures.period c.ledger.ensures.order c.ledger.ensures.content c.board.ensures.looks)

pub returns-in_err-push-clause-work : goal.returns-in_err-push-clause-work
returns-in_err-push-clause-work c =
    let xs = c.args.plan.now.stations.items in
    let cells = c.args.cells.now in
    let x = c.index-stations-number.result in
    let cell = c.index-cells-number.result in
    let read = c.index-stations-number.is ∙ ap (λ l. get_or l c.args.number x) c.as_slice-stations.ensures.value in
    let at = slice_get_read xs (length xs) c.args.number x refl c.requires.there read in
    let stands = slice_get_read cells (length cells) c.args.number cell refl (omega (arith, c.requires.there, c.requires.cells.count)) c.index-cells-number.is in
    let ledger = c.ledger.result.now in
    looks_of_own xs cells c.args.site c.args.number x cell c.args.work.now c.board.new.work at stands c.if-station-site.false
    (looks_of_cell cell ledger.period ledger.order ledger.content c.args.work.now c.board.new.work c.ledger.ensures.period c.ledger.ensures.order c.ledger.ensures.content c.board.ensures.looks)

pub returns-clause-work : goal.returns-clause-work
returns-clause-work c =
    let xs = c.args.plan.now.stations.items in
    let cells = c.args.cells.now in
    let x = c.index-stations-number.result in
    let cell = c.index-cells-number.result in
    let read = c.index-stations-number.is ∙ ap (λ l. get_or l c.args.number x) c.as_slice-stations.ensures.value in
    let at = slice_get_read xs (length xs) c.args.number x refl c.requires.there read in
    let stands = slice_get_read cells (length cells) c.args.number cell refl (omega (arith, c.requires.there, c.requires.cells.count)) c.index-cells-number.is in
    let ledger = c.ledger.result.now in
    looks_of_own xs cells c.args.site c.args.number x cell c.args.work.now c.board.new.work at stands c.if-station-site.false
    (looks_of_cell cell ledger.period ledger.order ledger.content c.args.work.now c.board.new.work c.ledger.ensures.period c.ledger.ensures.order c.ledger.ensures.content c.board.ensures.looks)

use Rattle.std.proofs.Common.{◌≡◌, rules}
use Rattle.site_desk.proofs.Operators.{added_of_cell}
use Rattle.site_desk.proofs.operator.add_board.Goals as goal

pub returns-clause-held : goal.returns-clause-held
returns-clause-held g c =
    let stands = c.stands_at.ensures c.if-not-stands_at.false in
    let name : c.copied.result ≡ c.args.place.now.name = search rules in
    added_of_cell c.put_board.result _ c.args.number c.args.place.now c.args.site c.in-Some.cell.now c.copied.result c.in-Ok.board
    c.args.boards.now.items c.put_board.new.boards.items c.in-Some.ensures stands name c.in-Ok.ensures.shown c.put_board.ensures.put

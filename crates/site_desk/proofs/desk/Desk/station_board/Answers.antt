use Rattle.std.{proofs.Common.{ap, ◌∙◌, bytes_eq, get_or, subst}, specs.List.list_any}
use Rattle.site_desk.{specs.declared.roster.StationPlace.StationPlace, specs.Roster.IsNamed, proofs.Ends.known_not, proofs.Looks.looks_of_name, proofs.Submits.board_named}
use Rattle.site_desk.proofs.desk.Desk.station_board.Goals as goal

pub returns-in-Ok-clause-unknown : goal.returns-in-Ok-clause-unknown
returns-in-Ok-clause-unknown g c =
    known_not _ _ _ (λ e. cc) (c.in-Some.ensures.known ∙ ap (list_any (λ (p : StationPlace). bytes_eq c.args.name.now p.name)) (c.deref.ensures.value ∙ ap (λ r. r.stations) c.self.view_is))

pub returns-clause-unknown : goal.returns-clause-unknown
returns-clause-unknown g c =
    known_not _ _ _ (λ e. cc) (c.in-Some.ensures.known ∙ ap (list_any (λ (p : StationPlace). bytes_eq c.args.name.now p.name)) (c.deref.ensures.value ∙ ap (λ r. r.stations) c.self.view_is))

pub returns-then-not-stands_at-clause-unknown : goal.returns-then-not-stands_at-clause-unknown
returns-then-not-stands_at-clause-unknown g c =
    known_not _ _ _ (λ e. cc) (c.in-Some.ensures.known ∙ ap (list_any (λ (p : StationPlace). bytes_eq c.args.name.now p.name)) (c.deref.ensures.value ∙ ap (λ r. r.stations) c.self.view_is))

pub returns-in-Ok-clause-board : goal.returns-in-Ok-clause-board
returns-in-Ok-clause-board g c =
    let name = c.args.name.now in
    let number = c.in-Some.number in
    let at = c.index-2.result.now in
    let same = ap (λ r. r.stations) c.self.view_is in
    let named = subst (λ ps. IsNamed ps name number) (c.deref.ensures.value ∙ same) c.in-Some.ensures.named in
    let place = c.index-2.ensures ∙ ap (λ ps. get_or ps number at) same in
    let stands = c.stands_at.ensures c.if-not-stands_at.false in
    board_named c.args.self.now.stations name number at c.cell-cell.result.now c.in-Ok.board named place stands c.in-Ok.ensures.board

pub returns-in-Ok-clause-work : goal.returns-in-Ok-clause-work
returns-in-Ok-clause-work g c =
    let number = c.in-Some.number in
    let at = c.index-2.result.now in
    let same = ap (λ r. r.stations) c.self.view_is in
    let named = subst (λ ps. IsNamed ps c.args.name.now number) (c.deref.ensures.value ∙ same) c.in-Some.ensures.named in
    let place = c.index-2.ensures ∙ ap (λ ps. get_or ps number at) same in
    looks_of_name c.args.self.now.stations c.args.name.now number at c.cell-cell.result.now c.args.work.now c.board_of.new.work named place
    (c.stands_at.ensures c.if-not-stands_at.false) c.board_of.ensures.work

pub returns-clause-work : goal.returns-clause-work
returns-clause-work g c =
    let number = c.in-Some.number in
    let at = c.index-2.result.now in
    let same = ap (λ r. r.stations) c.self.view_is in
    let named = subst (λ ps. IsNamed ps c.args.name.now number) (c.deref.ensures.value ∙ same) c.in-Some.ensures.named in
    let place = c.index-2.ensures ∙ ap (λ ps. get_or ps number at) same in
    looks_of_name c.args.self.now.stations c.args.name.now number at c.cell-cell.result.now c.args.work.now c.board_of.new.work named place
    (c.stands_at.ensures c.if-not-stands_at.false) c.board_of.ensures.work

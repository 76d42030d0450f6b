use Rattle.std.{proofs.Common.{◌≡◌, ◌<◌, length, get_or, slice_get, ap, sym, ◌∙◌, subst, arith}, proofs.lemmas.Option.{slice_get_within, get_or_from_slice_get}}
use Rattle.ledger_model.{specs.Board.figures_by, specs.Content.entries, specs.Posts.row_after}
use Rattle.site_book.specs.Book.{Book}
use Rattle.site_desk.{specs.Cell.Cell, specs.Close.Ended, proofs.Ends.{tied_at, book_at}}
use Rattle.site_desk.proofs.closed.Closed.row.Goals as goal

pub index-requires : goal.index-requires
index-requires g c =
    let less : c.args.station < length c.self.inside.cells.items = subst (λ (e : Ended). c.args.station < length e.cells) (sym c.self.view_is) c.requires in
    let t = tied_at c.self.inside.cells.items c.self.inside.books.items c.args.station c.index-cell.result.now c.self.invariant less c.index-cell.ensures in
    let low = slice_get_within c.self.inside.books.items c.index-cell.result.now.site t.book t.there in
    omega (arith, low, c.site.ensures, c.self.inside.books.ok.0)

pub row-requires-2 : goal.row-requires-2
row-requires-2 g c =
    let less : c.args.station < length c.self.inside.cells.items = subst (λ (e : Ended). c.args.station < length e.cells) (sym c.self.view_is) c.requires in
    let t = tied_at c.self.inside.cells.items c.self.inside.books.items c.args.station c.index-cell.result.now c.self.invariant less c.index-cell.ensures in
    let same = book_at c.self.inside.books.items c.index-cell.result.now c.index.result.now t (c.index.ensures ∙ ap (λ n. get_or c.self.inside.books.items n c.index.result.now) c.site.ensures) in
    let low = slice_get_within t.book.limits c.index-cell.result.now.row c.index-cell.result.now.limits t.held in
    let limits : length c.index.result.now.limits ≡ length t.book.limits = ap (λ (b : Book). length b.limits) same in
    omega (arith, low, limits, c.row.ensures)

pub returns : goal.returns
returns g c =
    let less : c.args.station < length c.self.inside.cells.items = subst (λ (e : Ended). c.args.station < length e.cells) (sym c.self.view_is) c.requires in
    let t = tied_at c.self.inside.cells.items c.self.inside.books.items c.args.station c.index-cell.result.now c.self.invariant less c.index-cell.ensures in
    let same = book_at c.self.inside.books.items c.index-cell.result.now c.index.result.now t (c.index.ensures ∙ ap (λ n. get_or c.self.inside.books.items n c.index.result.now) c.site.ensures) in
    λ d at.
    let cell : c.index-cell.result.now ≡ d =
    c.index-cell.ensures ∙ get_or_from_slice_get c.self.inside.cells.items c.args.station d c.index-cell.result.now
    (ap (λ (e : Ended). slice_get e.cells c.args.station) c.self.view_is ∙ at) in
    c.row-2.ensures ∙ ap (λ n. row_after n c.index.result.now.posts) c.row.ensures
    ∙ ap (λ (b : Book). row_after c.index-cell.result.now.row b.posts) same ∙ t.tied
    ∙ ap (λ (x : Cell). figures_by x.order (entries x.content)) cell

use Rattle.std.{proofs.Common.{◌≡◌, ◌≢◌, ℕ, ◌+◌, ◌<◌, [], ◌∷◌, ◌++◌, set, length-set, Some, refl, ap, sym, ◌∙◌, subst, ⊎_elim, arith, length, get_or}, specs.Prelude.slice_get, proofs.lemmas.Bool.cases_eq, proofs.lemmas.Option.{slice_get_read, slice_get-get_or, slice_get_within}}
use Rattle.ledger_model.{specs.Board.figures_by, specs.Content.entries}
use Rattle.site_book.specs.Book.{Book}
use Rattle.site_desk.{specs.Cell.Cell, specs.Parts.{AreHeld, AreRowsKept, HaveFewPosts, IsTied}, proofs.Posted.{held_still, posts_still, rows_still, some_book, some_cell, tied_now, tied_still}}
use Rattle.site_desk.proofs.parts.post_all.Goals as goal

pub bounds-books-site : goal.bounds-books-site
bounds-books-site g c =
    let k = c.loop-cell.cell-index in
    let cells = c.args.cells.now in
    let d = c.cell-item.result in
    let at = slice_get_read cells (length cells) k d refl c.loop-cell-test.true c.cell-item.is in
    let held = c.loop-cell.invariant.held k d at in
    let less = slice_get_within c.loop-cell.books d.site held.book held.there in
    omega (arith, less, c.site.ensures)

pub post_figures-requires-clause-held : goal.post_figures-requires-clause-held
post_figures-requires-clause-held g c =
    let k = c.loop-cell.cell-index in
    let cells = c.args.cells.now in
    let d = c.cell-item.result in
    let at = slice_get_read cells (length cells) k d refl c.loop-cell-test.true c.cell-item.is in
    let held = c.loop-cell.invariant.held k d at in
    let less = slice_get_within c.loop-cell.books d.site held.book held.there in
    let book : get_or c.loop-cell.books c.site.result c.index-books-site.result ≡ held.book =
    some_book _ _ (sym (slice_get-get_or c.loop-cell.books c.site.result c.index-books-site.result (omega (arith, less, c.site.ensures)))
    ∙ ap (slice_get c.loop-cell.books) c.site.ensures ∙ held.there) in
    ap (λ (b : Book). slice_get b.limits d.row) book ∙ held.held

pub post_figures-requires-clause-room : goal.post_figures-requires-clause-room
post_figures-requires-clause-room g c =
    let k = c.loop-cell.cell-index in
    let cells = c.args.cells.now in
    let d = c.cell-item.result in
    let at = slice_get_read cells (length cells) k d refl c.loop-cell-test.true c.cell-item.is in
    let held = c.loop-cell.invariant.held k d at in
    let less = slice_get_within c.loop-cell.books d.site held.book held.there in
    let there = slice_get-get_or c.loop-cell.books c.site.result c.index-books-site.result (omega (arith, less, c.site.ensures)) in
    let few = c.loop-cell.invariant.few c.site.result (get_or c.loop-cell.books c.site.result c.index-books-site.result) there in
    omega (arith, few, c.loop-cell-test.true, c.requires.few)

pub loop-cell-preserved : goal.loop-cell-preserved
loop-cell-preserved g c =
    let k = c.loop-cell.cell-index in
    let cells = c.args.cells.now in
    let books = c.loop-cell.books in
    let d = c.cell-item.result in
    let i = c.loop-cell.invariant in
    let at = slice_get_read cells (length cells) k d refl c.loop-cell-test.true c.cell-item.is in
    let held = i.held k d at in
    let less = slice_get_within books d.site held.book held.there in
    let b = get_or books c.site.result c.index-books-site.result in
    let there : slice_get books d.site ≡ Some b = ap (slice_get books) (sym c.site.ensures) ∙ slice_get-get_or books c.site.result c.index-books-site.result (omega (arith, less, c.site.ensures)) in
    let same : b ≡ held.book = some_book b held.book (sym there ∙ held.there) in
    let later = c.post_figures.new.book in
    let posted : later ≡ record b { posts = b.posts ++ (d.row, figures_by d.order (entries d.content)) ∷ [] } = c.post_figures.ensures in
    let P : ℕ → Type 0 = λ n. record {
      held : AreHeld cells (set books n later);
      rows : AreRowsKept c.args.books.now (set books n later);
      few : HaveFewPosts (set books n later) (k + 1);
      tied : (j : ℕ) (e : Cell) → j < k + 1 → slice_get cells j ≡ Some e → IsTied (set books n later) e;
      count : length (set books n later) ≡ length c.args.books.now;
    } in
    let next : P d.site = record {
      held = λ j e here. held_still cells books k d b later at there posted e (i.held j e here);
      rows = rows_still cells books k d b later at there posted c.args.books.now i.rows;
      few = posts_still cells books k d b later at there posted k i.few;
      tied = λ j e within here. ⊎_elim
          (λ (one : j ≡ k).
          subst (IsTied (set books d.site later)) (some_cell d e (sym at ∙ ap (slice_get cells) (sym one) ∙ here))
          (tied_now cells books k d b later at there posted (ap (λ (x : Book). slice_get x.limits d.row) same ∙ held.held)))
          (λ (other : j ≢ k). tied_still cells books k d b later at there posted c.requires.apart j e other here (i.tied j e (below j k within other) here))
          (cases_eq j k);
      count = length-set books d.site later ∙ i.count;
    } in
    subst P (sym c.site.ensures) next
  where
    below : (j k : ℕ) → j < k + 1 → j ≢ k → j < k
    below j k within other = omega arith

pub returns-clause-tied : goal.returns-clause-tied
returns-clause-tied g c k d at =
    let within = slice_get_within c.args.cells.now k d at in
    c.loop-cell.invariant.tied k d (omega (arith, within, c.loop-cell-test.false)) at

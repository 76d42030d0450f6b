use Rattle.std.{proofs.Common.{◌≡◌, ◌++◌, arith, drop, length, sym, subst, take, take_all, ◌∙◌}, proofs.lemmas.List.take-append-le}
use Rattle.site_desk.{specs.Parts.{AreApart, AreBooksOf, AreHeld, AreNewBooks, AreRowsKept, HaveFewPosts}, proofs.Posted.{apart_of_plan, books_of_plan, held_of_plan, none_posted}}
use Rattle.site_desk.proofs.parts.Parts.over.Goals as goal

pub post_all-requires-clause-held : goal.post_all-requires-clause-held
post_all-requires-clause-held g c =
    let sites = c.args.plan.now.sites.items in
    let stations = c.args.plan.now.stations.items in
    let books = c.in_ok-books.books.items in
    let made : AreNewBooks stations (length sites) books = subst (λ t. AreNewBooks t (length sites) books) c.as_slice-stations.ensures.value
    (subst (λ t. AreNewBooks c.as_slice-stations.result.now (length t) books) c.as_slice-sites.ensures.value c.in_ok-books.ensures.books) in
    subst (λ t. AreHeld t c.deref_mut.result.now) (sym c.deref.ensures.value)
    (subst (AreHeld c.args.cells.items) (sym c.deref_mut.ensures.value) (held_of_plan sites stations c.args.cells.items c.requires.cells books c.requires.faultless made))

pub post_all-requires-clause-apart : goal.post_all-requires-clause-apart
post_all-requires-clause-apart g c =
    subst AreApart (sym c.deref.ensures.value) (apart_of_plan c.args.plan.now.sites.items c.args.plan.now.stations.items c.args.cells.items c.requires.cells)

pub post_all-requires-clause-none : goal.post_all-requires-clause-none
post_all-requires-clause-none g c =
    subst (λ t. HaveFewPosts t 0) (sym c.deref_mut.ensures.value) (none_posted _ _ c.in_ok-books.books.items c.in_ok-books.ensures.books)

pub returns-clause-rows : goal.returns-clause-rows
returns-clause-rows g c =
    let sites = c.args.plan.now.sites.items in
    let stations = c.args.plan.now.stations.items in
    let books = c.in_ok-books.books.items in
    let later = c.post_all.new.books in
    let made : AreNewBooks stations (length sites) books = subst (λ t. AreNewBooks t (length sites) books) c.as_slice-stations.ensures.value
    (subst (λ t. AreNewBooks c.as_slice-stations.result.now (length t) books) c.as_slice-sites.ensures.value c.in_ok-books.ensures.books) in
    let kept : AreRowsKept books later = subst (λ t. AreRowsKept t later) c.deref_mut.ensures.value c.post_all.ensures.rows in
    let count : length later ≡ length books = subst (λ t. length later ≡ length t) c.deref_mut.ensures.value c.post_all.ensures.count in
    let len = c.in_ok-books.books.len in
    let whole : take len (later ++ drop (length later) books) ≡ later =
    take-append-le len later (drop (length later) books) (omega (arith, count, c.in_ok-books.books.ok.0)) ∙ take_all len later (omega (arith, count, c.in_ok-books.books.ok.0)) in
    subst (AreBooksOf stations (length sites)) (sym (c.of-2.ensures ∙ whole)) (books_of_plan stations (length sites) books later made kept count)

use Rattle.std.{proofs.Common.{rules, arith, ◌≡◌, set, None, Some, ap, sym, ◌∙◌, subst}, proofs.lemmas.Grind.elements}
use Rattle.site_book.{specs.Tables.NamedBy, proofs.Named.set_back}
use Rattle.site_book.proofs.book.SiteBook.open.Goals as goal

pub returns-in-Err-clause-stays : goal.returns-in-Err-clause-stays
returns-in-Err-clause-stays g c =
    let old = c.args.tables.now in
    let at = c.args.site in
    c.put_back.ensures
    ∙ ap (λ t. set t at (Some c.viewers.new.self)) c.take-unused.ensures.taken
    ∙ ap (λ u. set (set old at None) at (Some u)) c.viewers.ensures.same
    ∙ set_back old at (Some c.take-unused.result) None c.take-unused.ensures.table

pub returns-in-Err-clause-named : goal.returns-in-Err-clause-named
returns-in-Err-clause-named g c =
    let old = c.args.tables.now in
    let at = c.args.site in
    let same : c.put_back.new.self ≡ old = c.put_back.ensures
    ∙ ap (λ t. set t at (Some c.viewers.new.self)) c.take-unused.ensures.taken
    ∙ ap (λ u. set (set old at None) at (Some u)) c.viewers.ensures.same
    ∙ set_back old at (Some c.take-unused.result) None c.take-unused.ensures.table in
    subst (NamedBy g.J.Naming.table) (sym same) c.requires.named

pub invariant_of-book : goal.invariant_of-book
invariant_of-book g c = record {
  named = search rules;
  sits = search rules;
  me_is = search rules;
  count = search rules;
  totals_are = search rules;
  rows_are = grind (arith, elements);
}

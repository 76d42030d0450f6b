use Rattle.std.{proofs.Common.{◌≡◌, ◌+◌, List, length, ap, sym, ◌∙◌, subst, refl, rules, [], ◌∷◌, ◌++◌}, proofs.lemmas.List.length_push, proofs.lemmas.Option.get_or_from_slice_get, proofs.Math.Seq.map-set_same}
use Rattle.site_book.{specs.declared.row.BookRow.BookRow, specs.Kept.AreRows, specs.Book.Admits, specs.Rule.{writing, seeing}, proofs.Books.{admitted, rows-posted, totals-posted, totals-part}, proofs.Totals.{totals-words, part-at_most}}
use Rattle.ledger_model.{specs.Figures.figure_list, specs.Posts.{Post, totals_after}}
use Rattle.site_book.proofs.book.SiteBook.post.Goals as goal

pub replaced-totals-requires-clause-words : goal.replaced-totals-requires-clause-words
replaced-totals-requires-clause-words g c =
    let i = c.self.invariant in
    let a = admitted c.self.inside.rows.items c.args.row c.args.figures
    _ (subst (λ b. Admits b.limits c.args.row c.args.figures) (sym c.self.view_is) c.requires.admitted)
    c.index_mut-kept.ensures.value in
    totals-words _ _ c.index_mut-kept.result.now _ _ i.rows_are i.totals_are a.1

pub replaced-totals-requires-clause-old : goal.replaced-totals-requires-clause-old
replaced-totals-requires-clause-old g c =
    let i = c.self.invariant in
    let a = admitted c.self.inside.rows.items c.args.row c.args.figures
    _ (subst (λ b. Admits b.limits c.args.row c.args.figures) (sym c.self.view_is) c.requires.admitted)
    c.index_mut-kept.ensures.value in
    part-at_most _ _ _ (totals-part _ c.args.row _ _ c.args.figures i.totals_are (i.rows_are.figures c.args.row _ a.0))

pub announce-requires-clause-totals : goal.announce-requires-clause-totals
announce-requires-clause-totals g c =
    let i = c.self.invariant in
    let a = admitted c.self.inside.rows.items c.args.row c.args.figures
    _ (subst (λ b. Admits b.limits c.args.row c.args.figures) (sym c.self.view_is) c.requires.admitted)
    c.index_mut-kept.ensures.value in
    ap figure_list (totals-posted _ c.args.row _ _ c.args.figures _ i.totals_are (i.rows_are.figures c.args.row _ a.0) c.replaced-totals.ensures)

pub invariant_of-self : goal.invariant_of-self
invariant_of-self g c =
    let i = c.self.invariant in
    let log = c.self.inside.seat.me.0.log in
    let now = log ++ (c.args.row, c.args.figures) ∷ [] in
    let a = admitted c.self.inside.rows.items c.args.row c.args.figures
    _ (subst (λ b. Admits b.limits c.args.row c.args.figures) (sym c.self.view_is) c.requires.admitted)
    c.index_mut-kept.ensures.value in
    let me = c.share.ensures.same ∙ c.announce.ensures.posted in
    let grown : c.share.new.seat.me.0.log ≡ now = ap (λ m. m.0.log) me in
    record {
      named = i.named;
      sits = search rules;
      me_is = me ∙ ap (λ (l : List Post). (writing l [] [] 0, [])) (sym grown);
      count = ap (λ n. n + 1) i.count ∙ sym (length_push log (c.args.row, c.args.figures)) ∙ ap length (sym grown);
      totals_are = totals-posted log c.args.row _ _ c.args.figures _ i.totals_are (i.rows_are.figures c.args.row _ a.0) c.replaced-totals.ensures ∙ ap totals_after (sym grown);
      rows_are = subst (AreRows _) (sym grown) (rows-posted c.self.inside.rows.items log c.args.row c.index_mut-kept.result.now _ c.args.figures i.rows_are a.0 refl refl);
    }

pub invariant_of-result : goal.invariant_of-result
invariant_of-result g c =
    let i = c.self.invariant in
    let log = c.self.inside.seat.me.0.log in
    let now = log ++ (c.args.row, c.args.figures) ∷ [] in
    let a = admitted c.self.inside.rows.items c.args.row c.args.figures
    _ (subst (λ b. Admits b.limits c.args.row c.args.figures) (sym c.self.view_is) c.requires.admitted)
    c.index_mut-kept.ensures.value in
    let grown : c.announce.new.seat.me.0.log ≡ now = ap (λ m. m.0.log) c.announce.ensures.posted in
    let told : c.share.result.me.0.log ≡ c.announce.new.seat.me.0.log = ap (λ m. m.0.log) c.share.ensures.known in
    let all = told ∙ grown in
    record {
      named = search rules;
      me_is = c.share.ensures.known ∙ ap (λ (l : List Post). (seeing l [], [])) (sym told);
      count = ap (λ n. n + 1) i.count ∙ sym (length_push log (c.args.row, c.args.figures)) ∙ ap length (sym all);
      totals_are = totals-posted log c.args.row _ _ c.args.figures _ i.totals_are (i.rows_are.figures c.args.row _ a.0) c.replaced-totals.ensures ∙ ap totals_after (sym all);
    }

pub returns-clause-posted : goal.returns-clause-posted
returns-clause-posted g c =
    let is = c.self.view_is in
    let rows = c.self.inside.rows.items in
    let r = c.index_mut-kept.result.now in
    let a = admitted rows c.args.row c.args.figures _ (subst (λ b. Admits b.limits c.args.row c.args.figures) (sym c.self.view_is) c.requires.admitted) c.index_mut-kept.ensures.value in
    let limits = map-set_same (λ (q : BookRow). q.limits) rows c.args.row _ r (ap (λ (q : BookRow). q.limits) (sym (get_or_from_slice_get rows c.args.row r r a.0))) ∙ ap (λ b. b.limits) is in
    let posts = ap (λ m. m.0.log) (c.share.ensures.same ∙ c.announce.ensures.posted) ∙ ap (λ b. b.posts ++ (c.args.row, c.args.figures) ∷ []) is in
    λ i. record { site = (is i).site; limits = limits i; posts = posts i }

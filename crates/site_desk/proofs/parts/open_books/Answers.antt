use Rattle.std.{proofs.Common.{◌≡◌, length, append-nil, ◌+◌, ◌∷◌, [], ◌++◌, ap, sym, ◌∙◌, subst, arith}, specs.Prelude.replicate, proofs.lemmas.List.drop_all}
use Rattle.site_book.{specs.Book.{ArePlanned, known}, specs.Tables.HasTable, proofs.Named.has-others}
use Rattle.site_desk.{specs.Parts.{AreNewBooks, new_viewers, viewed_by}, proofs.NewParts.{books_more, length_viewed, planned_at, seats_by, viewers_more}}
use Rattle.site_desk.proofs.parts.open_books.Goals as goal

pub open-requires-clause-planned : goal.open-requires-clause-planned
open-requires-clause-planned g c =
    subst ArePlanned (sym (c.as_slice.ensures.value ∙ c.limits_of-limits.ensures)) (planned_at c.args.sites.now c.args.stations.now c.loop-site.site (omega arith) c.requires.faultless)

pub loop-site-preserved : goal.loop-site-preserved
loop-site-preserved g c =
    let n = c.loop-site.site in
    let i = c.loop-site.invariant in
    let opened = c.in_ok-book.ensures in
    record {
      named = opened.named;
      there = λ other least less. subst (λ ts. HasTable ts other) (sym opened.taken) (has-others c.loop-site.tables n other (λ e. absurd (omega (arith, e))) (i.there other (omega arith) less));
      books = subst (AreNewBooks c.args.stations.now (n + 1))
          (sym (c.in_ok-push.ensures.items
          ∙ ap (λ b. c.loop-site.books.items ++ b ∷ []) (opened.book ∙ ap (λ ls. record { site = n; limits = ls; posts = [] }) (c.as_slice.ensures.value ∙ c.limits_of-limits.ensures))))
          (books_more c.args.stations.now c.loop-site.books.items n i.books);
      viewers =
          let each = c.args.viewers_each in
          let d = c.index-sites-site.result in
          let same : length (viewed_by each c.args.sites.now) ≡ length c.args.sites.now = length_viewed each c.args.sites.now in
          viewers_more (viewed_by each c.args.sites.now) n d c.loop-site.viewers.items c.add_viewers.new.viewers.items _ c.in_ok-book.seats.items (omega (arith, same)) i.viewers
          (opened.viewers ∙ ap (λ v. replicate v (known n [])) (c.unwrap_or.ensures ∙ sym (seats_by each c.args.sites.now n d (omega arith)))) c.in_ok-add_viewers.ensures;
    }

pub returns-clause-viewers : goal.returns-clause-viewers
returns-clause-viewers g c =
    let all = viewed_by c.args.viewers_each c.args.sites.now in
    let same : length all ≡ length c.args.sites.now = length_viewed c.args.viewers_each c.args.sites.now in
    sym (append-nil c.loop-site.viewers.items)
    ∙ ap (λ l. c.loop-site.viewers.items ++ new_viewers c.loop-site.site l) (sym (drop_all c.loop-site.site all (omega (arith, same))))
    ∙ c.loop-site.invariant.viewers

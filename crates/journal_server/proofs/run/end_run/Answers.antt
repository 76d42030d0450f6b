use Rattle.std.proofs.Common.{◌++◌, ℕ, List, Option, All, ap, length, refl, subst, sym, ◌∙◌}
use Rattle.site_book.specs.Prefix.{IsPrefix}
use Rattle.board_report.{specs.Closed.boards_text, proofs.ClosedSites.closed_of}
use Rattle.kept_desk.specs.Journal.{IsWritten}
use Rattle.site_desk.specs.Close.{changes_of}
use Rattle.journal_script.proofs.Declaring.{all_back}
use Rattle.journal_server.proofs.Ends.{all_front, begin_those}
use Rattle.journal_server.proofs.run.end_run.Goals as goal

pub write_boards-requires-clause-closed : goal.write_boards-requires-clause-closed
write_boards-requires-clause-closed g c =
    closed_of c.args.plan.now.sites.items c.args.plan.now.stations.items c.args.kept c.in-Ok.closed.closed c.args.ran.passes.items
    c.args.ran.viewers.items c.requires.sites c.requires.opened c.in-Ok.ensures.stations c.in-Ok.ensures.sites c.in-Ok.ensures.whole

pub returns : goal.returns
returns g c =
    let sites = c.args.plan.now.sites.items in
    let stations = c.args.plan.now.stations.items in
    let ended = c.in-Ok.closed in
    let kept = c.in-Ok.ensures.kept in
    let contents = g.W.Write.contents in
    let buffer = c.into_parts-journal.result.1.items in
    let handed = c.seen_of-ended.result.1.items in
    let texts = c.args.ran.answers.items in
    let all = subst (λ ms. All (λ m. IsPrefix m kept.log) ms) (c.in_ok-moments.ensures ∙ ap (λ ms. ms ++ c.args.ran.boards.items) c.in_ok-more.ensures) kept.begins in
    let begins = all_front (λ m. IsPrefix m kept.log) (handed ++ texts) c.args.ran.boards.items all in
    let closed = closed_of sites stations c.args.kept ended.closed c.args.ran.passes.items c.args.ran.viewers.items c.requires.sites
    c.requires.opened c.in-Ok.ensures.stations c.in-Ok.ensures.sites c.in-Ok.ensures.whole in
    record {
      cells = ended.closed.cells;
      seen = c.in_ok-moments.moments.items;
      written = record {
        log = kept.log;
        written = subst (λ (o : Option (List ℕ)). IsWritten ended.is_broken g.K.Opening.before o buffer kept.log) (sym (ap contents c.into_parts-journal.ensures.inner))
            (subst (λ (b : List ℕ). IsWritten ended.is_broken g.K.Opening.before (contents ended.writer.inner) b kept.log) (sym c.into_parts-journal.ensures.buffer) kept.written);
        spoken = kept.spoken;
        left = kept.left;
        begins = kept.begins;
      };
      texts = record {
        moments = c.args.ran.answers.items;
        begin = all_back (λ m. IsPrefix m kept.log) handed texts begins;
        each = c.requires.answered;
      };
      browsed = record {
        places = c.args.kept.stations;
        placed = c.requires.opened;
        moments = c.args.ran.boards.items;
        begin = all_back (λ m. IsPrefix m kept.log) (handed ++ texts) c.args.ran.boards.items all;
        each = c.requires.browsed;
      };
      told = (
        refl,
        c.seen_of-ended.ensures.well,
        begin_those c.args.ran.ended (λ seen. seen.items) handed kept.log c.seen_of-ended.ensures.seen
            (all_front (λ m. IsPrefix m kept.log) handed texts begins),
      );
      given = λ k d at. (c.in-Ok.ensures.whole.whole k d at).counted.changes ∙ ap (changes_of k) (sym (c.into_passes.ensures ∙ c.in-Ok.ensures.given));
      count = c.in-Ok.ensures.stations ∙ c.requires.opened.count;
      limits = closed.cells.limits;
      is = c.in_default.ensures.text ∙ ap (λ l. l ++ boards_text sites stations ended.closed.cells (length sites)) c.new-boards.ensures.items;
    }

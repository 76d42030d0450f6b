use Rattle.std.proofs.Common.{◌∙◌, ap, sym}
use Rattle.script_lines.specs.Lines.{ended}
use Rattle.journal_script.proofs.LinesRead.{is_other, listens, no_more, one_more}
use Rattle.journal_script.proofs.source.Source.next.Goals as goal

pub returns-in-Feed-clause-takes : goal.returns-in-Feed-clause-takes
returns-in-Feed-clause-takes g c =
    let t = rw c.in-Feed.is at c.in_ok-next_line.ensures.takes in
    let p = t.2 in
    let most = c.args.self.now.lines.max_line_bytes in
    let held = c.next_line.new.self.held.items in
    let line = c.line.ensures ∙ ap (λ m. ended m held) c.next_line.ensures.max_line_bytes in (
      t.0,
      t.1,
      record {
        raw = p.1.0;
        feedless = p.1.1;
        is = p.1.2;
        kept = p.1.3;
        counted = p.0;
        last = λ e. listens most held p.1.0 p.1.3 (sym line ∙ c.is_listen.ensures.0 (no_more c.is_listen.result e));
        other = λ e. is_other most held _ c.is_listen.result (one_more c.is_listen.result e) c.is_listen.ensures.1 line;
      },
    )

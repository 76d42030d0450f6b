use Rattle.journal_script.proofs.Feeds.{is_feedless}
use Rattle.journal_script.proofs.lines.is_line.Goals as goal

pub returns : goal.returns
returns c = is_feedless c.args.bytes.now c.memchr.result _ c.memchr.ensures c.is_none.ensures

use Rattle.site_book.proofs.Named.{named-made}
use Rattle.journal_script.proofs.UpToListen.{refuses, restores}
use Rattle.journal_script.proofs.restoring.restore.Goals as goal

pub restore_script-requires-clause-named : goal.restore_script-requires-clause-named
restore_script-requires-clause-named g c = named-made _

pub returns-clause-restored : goal.returns-clause-restored
returns-clause-restored g c = restores _ _ c.in_ok-restored.restored c.in_ok-restored.is_marked c.in_ok-restored.ensures.reads c.if-not-is_marked.false

pub returns-then-not-is_marked-clause-unmarked : goal.returns-then-not-is_marked-clause-unmarked
returns-then-not-is_marked-clause-unmarked g c is = refuses _ _ c.in_ok-restored.restored c.in_ok-restored.is_marked c.in_ok-restored.ensures.reads c.if-not-is_marked.true

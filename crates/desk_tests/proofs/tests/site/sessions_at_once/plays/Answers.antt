use Rattle.site_book.proofs.Named.{named-made}
use Rattle.desk_tests.proofs.tests.site.sessions_at_once.plays.Goals as goal

pub changes_of_both-requires-clause-named : goal.changes_of_both-requires-clause-named
changes_of_both-requires-clause-named g c κs lives = named-made _

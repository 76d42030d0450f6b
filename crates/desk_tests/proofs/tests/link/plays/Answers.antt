use Rattle.site_book.proofs.Named.{named-made}
use Rattle.desk_tests.proofs.tests.link.plays.Goals as goal

pub at_desk-requires-clause-named : goal.at_desk-requires-clause-named
at_desk-requires-clause-named g c κs lives = named-made _

use Rattle.site_book.proofs.Named.{named-made}
use Rattle.desk_tests.proofs.tests.desk.book.plays.Goals as goal

pub at_book-requires-clause-named : goal.at_book-requires-clause-named
at_book-requires-clause-named g c κs lives = named-made _

use Rattle.std.proofs.Common.{length}
use Rattle.ocpp_board.proofs.station_words.+first_bad.Given as goal

abbrev pub decreases-first_bad : goal.decreases-first_bad
decreases-first_bad l = length l.words.now

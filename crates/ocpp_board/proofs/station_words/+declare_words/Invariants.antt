use Rattle.std.proofs.Common.{length}
use Rattle.ocpp_board.proofs.station_words.+declare_words.Given as goal

abbrev pub decreases-declare_words : goal.decreases-declare_words
decreases-declare_words l = length l.words.now

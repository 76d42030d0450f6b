use Rattle.reading_decimal.proofs.ClockTexts.{moment_reading-text_of}
use Rattle.reading_decimal.proofs.laws.reads_back.Goals as goal

pub returns : goal.returns
returns c = moment_reading-text_of

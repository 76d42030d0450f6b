use Rattle.reading_decimal.proofs.PartsLemmas.{parts-AreWritten}
use Rattle.reading_decimal.proofs.laws.reads_parts.Goals as goal

pub returns : goal.returns
returns c = parts-AreWritten

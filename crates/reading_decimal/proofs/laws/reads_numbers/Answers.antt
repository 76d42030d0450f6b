use Rattle.reading_decimal.proofs.GrammarLemmas.{is_decimal-IsNumber, IsNumber-is_decimal}
use Rattle.reading_decimal.proofs.laws.reads_numbers.Goals as goal

pub returns : goal.returns
returns c token = (is_decimal-IsNumber token, IsNumber-is_decimal token)

use Rattle.ledger_model.{proofs.GapLemmas.{gaps-AreGaps, gaps-only, missing-fills}, proofs.NumberLemmas.numbers-AreRising}
use Rattle.ledger_model.proofs.laws.board.gaps_are_missing_numbers.Goals as goal

pub returns : goal.returns
returns c = record { gaps = gaps-AreGaps; only = gaps-only; missing = missing-fills; rising = numbers-AreRising }

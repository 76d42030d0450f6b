use Rattle.std.{proofs.Math.Nat.div-mul-le_self, proofs.lemmas.Nat.le-div}
use Rattle.reading_decimal.{specs.Decimal.{tens_left, right_side}, proofs.Scaling.ten_pos}
use Rattle.reading_decimal.proofs.laws.rounds_down.Goals as goal

pub returns : goal.returns
returns c p multiplier unit = record {
  within = div-mul-le_self (right_side p multiplier unit) _;
  greatest = λ m h. le-div m (right_side p multiplier unit) _ (ten_pos (tens_left p multiplier)) h;
}

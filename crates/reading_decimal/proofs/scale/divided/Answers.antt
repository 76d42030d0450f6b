use Rattle.std.proofs.Common.{arith}
use Rattle.reading_decimal.proofs.Scaling.{ten_pos}
use Rattle.reading_decimal.proofs.scale.divided.Goals as goal

pub nonzero_div-result : goal.nonzero_div-result
nonzero_div-result c = omega (arith, ten_pos c.args.tens, c.in-Some.ensures)

use Rattle.std.proofs.Common.{ap, arith}
use lib.Count.{count_trailing_zeros}
use Rattle.memchr.specs.Find.{is_byte2}
use Rattle.marked_json.proofs.Lanes.{first_in_lanes, near_in_lanes}
use Rattle.marked_json.proofs.marking.near_stop.Goals as goal

pub returns-clause-first : goal.returns-clause-first
returns-clause-first c =
    first_in_lanes (is_byte2 34 92) c.args.bytes.now 32 _ (omega arith) (omega arith) (omega (arith, c.stops-found.ensures)) (ap (count_trailing_zeros 64) c.stops-found.ensures)

pub returns-clause-near : goal.returns-clause-near
returns-clause-near c = (
  near_in_lanes (is_byte2 34 92) c.args.bytes.now 32 _ (omega arith) (omega arith) (omega (arith, c.stops-found.ensures)) (ap (count_trailing_zeros 64) c.stops-found.ensures),
  omega arith,
)

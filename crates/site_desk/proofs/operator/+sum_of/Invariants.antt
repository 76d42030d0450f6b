use Rattle.std.proofs.Common.{length}
use Rattle.site_desk.proofs.operator.+sum_of.Given as goal

abbrev pub decreases-sum_of : goal.decreases-sum_of
decreases-sum_of l = length l.boards.now

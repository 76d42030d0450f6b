use Rattle.std.proofs.Common.{length}
use Rattle.journal_script.proofs.head.+are_in_order.Given as goal

abbrev pub decreases-are_in_order : goal.decreases-are_in_order
decreases-are_in_order l = length l.stations.now

use Rattle.std.proofs.Common.{arith}
use Rattle.transaction_map.proofs.map.TransactionMap.len.Goals as goal

pub overflow_cast-result : goal.overflow_cast-result
overflow_cast-result g c = omega (arith, c.len.ensures, c.self.invariant.within, c.self.invariant.fits)

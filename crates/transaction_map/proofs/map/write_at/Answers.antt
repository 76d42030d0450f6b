use Rattle.std.proofs.Common.{arith}
use Rattle.transaction_map.proofs.Places.{at_within, written}
use Rattle.transaction_map.proofs.map.write_at.Goals as goal

pub index_mut-requires : goal.index_mut-requires
index_mut-requires g c = omega (arith, at_within _ _ _ c.requires, c.args.rows.now.ok)

pub returns-clause-items : goal.returns-clause-items
returns-clause-items g c = written _ _ _ c.index_mut.result.now _ c.args.value c.requires c.index_mut.ensures.value c.set.ensures

use Rattle.std.proofs.Common.{◌≡◌, ◌-◌, ◌≤◌, [], length, vec_capacity}
use Rattle.event_chain.{proofs.TableKept.AreFrom, specs.TableKept.AreSpare}
use Rattle.event_chain.proofs.table.TransactionTable.open.Given as goal

abbrev pub invariant-loop-handed : goal.invariant-loop-handed
invariant-loop-handed l = record {
  spare : AreSpare l.capacity [] l.spare.items;
  from : AreFrom (l.capacity - l.handed) l.spare.items;
  long : length l.spare.items ≡ l.handed;
  room : l.capacity ≤ vec_capacity l.spare;
}

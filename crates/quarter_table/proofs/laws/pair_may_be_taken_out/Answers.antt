use Rattle.quarter_table.proofs.Held.{pair_counted, pair_held, last_pair}
use Rattle.quarter_table.proofs.laws.pair_may_be_taken_out.Goals as goal

pub returns : goal.returns
returns c front f back = record { there = pair_counted front f.0 f.1 back; within = pair_held front f.0 f.1 back; last = last_pair front f.0 f.1 back }

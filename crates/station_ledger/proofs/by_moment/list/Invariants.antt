use Rattle.std.proofs.Common.{◌≡◌, vec_capacity}
use Rattle.reading_index.specs.Ranks.{owner}
use Rattle.station_ledger.{specs.ByMoment.{listed_of, put_each, ranked_from}, proofs.MomentListed.IsListing}
use Rattle.station_ledger.proofs.by_moment.list.Given as goal

-- the readings that are left are put into the list so far, and their ranks are new
abbrev pub invariant-loop-reading : goal.invariant-loop-reading
invariant-loop-reading l = record {
  listing : IsListing (owner l.slot l.direction) l.key.seq l.place l.left l.listed.items (vec_capacity l.listed);
  items : put_each (ranked_from (owner l.slot l.direction) l.key.seq l.place l.left) l.listed.items ≡ listed_of l.slot l.direction l.chains l.key;
}

use Rattle.std.proofs.Common.{take}
use Rattle.journal_script.{specs.Cuts.run_begins, specs.Head.{Adds, sites_meanings, stations_meanings}}
use Rattle.journal_script.proofs.head.journal_head.Given as goal

abbrev pub invariant-loop-station : goal.invariant-loop-station
invariant-loop-station l = Adds run_begins l.head.items (stations_meanings l.sites (take l.station-index l.station-items))

abbrev pub invariant-loop-site : goal.invariant-loop-site
invariant-loop-site l = Adds l.initial.head.items l.head.items (sites_meanings (take l.site-index l.sites))

use Rattle.station_ledger.{specs.Sides.sides_between, proofs.Both.{may_first, may_second, did_both}}
use Rattle.station_ledger.proofs.pairs.move_both.Goals as goal

pub move_own-import-requires-clause-may : goal.move_own-import-requires-clause-may
move_own-import-requires-clause-may c = may_first c.args.period (sides_between c.args.place.now c.args.chains.now c.args.key.now) c.args.quarters.now c.args.way c.requires.may

pub move_own-export-requires-clause-may : goal.move_own-export-requires-clause-may
move_own-export-requires-clause-may c =
    may_second c.args.period (sides_between c.args.place.now c.args.chains.now c.args.key.now) c.args.quarters.now c.args.way c.requires.may c.move_own-import.ensures

pub returns : goal.returns
returns c = did_both c.args.way (sides_between c.args.place.now c.args.chains.now c.args.key.now) c.move_own-import.ensures c.move_own-export.ensures

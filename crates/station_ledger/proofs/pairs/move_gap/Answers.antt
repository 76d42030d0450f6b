use Rattle.station_ledger.{specs.Sides.sides_across, proofs.Both.{may_first, may_second, did_both}}
use Rattle.station_ledger.proofs.pairs.move_gap.Goals as goal

pub move_across-import-requires : goal.move_across-import-requires
move_across-import-requires c = may_first c.args.period (sides_across c.args.place.now) c.args.quarters.now c.args.way c.requires

pub move_across-export-requires : goal.move_across-export-requires
move_across-export-requires c = may_second c.args.period (sides_across c.args.place.now) c.args.quarters.now c.args.way c.requires c.move_across-import.ensures

pub returns : goal.returns
returns c = did_both c.args.way (sides_across c.args.place.now) c.move_across-import.ensures c.move_across-export.ensures

use Rattle.std.proofs.Common.{length, rules}
use Rattle.site_desk.{specs.Parts.{AreNewBooks, AreNewCells}, proofs.Ties.{new_apart, new_tied}}
use Rattle.site_desk.proofs.parts.open_parts.Goals as goal

pub returns-clause-tied : goal.returns-clause-tied
returns-clause-tied g c =
    let plan = c.args.plan.now in
    let cells : AreNewCells plan.sites.items plan.stations.items c.of.result = search rules in
    let books : AreNewBooks plan.stations.items (length plan.sites.items) c.of-2.result = search rules in
    new_tied plan.sites.items plan.stations.items c.of.result c.of-2.result c.requires.faultless cells books

pub returns-clause-apart : goal.returns-clause-apart
returns-clause-apart g c =
    let plan = c.args.plan.now in
    let cells : AreNewCells plan.sites.items plan.stations.items c.of.result = search rules in
    new_apart plan.sites.items plan.stations.items c.of.result cells

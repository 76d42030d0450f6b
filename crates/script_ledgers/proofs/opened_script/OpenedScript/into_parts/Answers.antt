use Rattle.script_ledgers.{proofs.Parted.{cells_of, faultless}, proofs.Passes.their_passes}
use Rattle.script_ledgers.proofs.opened_script.OpenedScript.into_parts.Goals as goal

pub returns-clause-faultless : goal.returns-clause-faultless
returns-clause-faultless g c =
    let s = c.args.self in
    faultless s.draft.sites s.draft.stations s.running.plan

pub returns-clause-placed : goal.returns-clause-placed
returns-clause-placed g c =
    let s = c.args.self in
    cells_of s.draft.sites s.draft.stations s.cells.items s.books.items s.tallies.items s.running

pub returns-clause-passes : goal.returns-clause-passes
returns-clause-passes g c =
    let s = c.args.self in
    their_passes s.draft.sites s.draft.stations s.cells.items s.books.items s.tallies.items s.running c.in_ok-passes.passes.items c.in_ok-passes.ensures

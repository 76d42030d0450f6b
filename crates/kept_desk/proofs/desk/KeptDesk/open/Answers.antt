use Rattle.std.proofs.Common.{length, sym, ap, ◌∙◌, subst, arith}
use Rattle.ledger_model.specs.declared.command.Command.{Command}
use Rattle.kept_desk.{specs.Journal.Ledger, specs.Opened.AreFirst, proofs.Names.named_places}
use Rattle.kept_desk.proofs.desk.KeptDesk.open.Goals as goal

pub open-log-requires-clause-table : goal.open-log-requires-clause-table
open-log-requires-clause-table g c = c.requires.table

pub open-log-requires-clause-before : goal.open-log-requires-clause-before
open-log-requires-clause-before g c = c.requires.before

pub keep_cells-requires-clause-first : goal.keep_cells-requires-clause-first
keep_cells-requires-clause-first g c = subst (AreFirst g.K.Opening.first) (sym c.into_vec.ensures) c.requires.first

pub keep_cells-requires-clause-log : goal.keep_cells-requires-clause-log
keep_cells-requires-clause-log g c = (ap (λ (l : Ledger). l.entries) c.open-log.ensures, ap (λ (l : Ledger). l.shares) c.open-log.ensures)

pub over-requires-clause-faultless : goal.over-requires-clause-faultless
over-requires-clause-faultless g c = c.requires.faultless

pub over-requires-clause-cells : goal.over-requires-clause-cells
over-requires-clause-cells g c = c.in_ok-cells.cells.ok.0 ∙ ap length (c.in_ok-cells.ensures ∙ c.into_vec.ensures) ∙ c.requires.cells

pub over-requires-clause-books : goal.over-requires-clause-books
over-requires-clause-books g c = c.into_vec-2.result.ok.0 ∙ ap length c.into_vec-2.ensures ∙ c.requires.books

pub invariant_of-kept : goal.invariant_of-kept
invariant_of-kept g c = record {
  names = named_places g.K.Opening.name c.args.plan.now.sites.items c.args.plan.now.stations.items c.in_ok-desk.desk.stations c.requires.names c.in_ok-desk.ensures.stations;
  none = c.in_ok-spare.ensures.len;
  few = omega (arith, c.in_ok-desk.ensures.stations.count, c.len.ensures.value, c.len.ensures.fits);
  room_for_all = omega (arith, c.in_ok-desk.ensures.stations.count, c.in_ok-spare.ensures.capacity, c.len.ensures.value);
}

pub returns-clause-stations : goal.returns-clause-stations
returns-clause-stations g c = c.in_ok-desk.ensures.stations

pub returns-clause-sites : goal.returns-clause-sites
returns-clause-sites g c = c.in_ok-desk.ensures.sites

pub returns-clause-viewers : goal.returns-clause-viewers
returns-clause-viewers g c = c.into_vec-viewers.ensures

pub returns-clause-given : goal.returns-clause-given
returns-clause-given g c = c.in_ok-desk.ensures.given ∙ c.len-2.ensures ∙ c.into_vec-viewers.result.ok.0

use Rattle.std.proofs.Common.{◌∙◌}
use Rattle.ledger_model.{specs.Board.figures_by, specs.Content.entries, specs.declared.reading.Direction.TheVariants.{Import, Export}, specs.Energy.energy_by}
use Rattle.site_desk.proofs.operator.totals_of.Goals as goal

pub returns : goal.returns
returns c = record {
  content = c.args.cell.now.content;
  reached = c.ledger-ledger.ensures.reached;
  figures = c.figures.ensures.value ∙ (λ i. figures_by (c.ledger-ledger.ensures.order i) (entries (c.ledger-ledger.ensures.content i)));
  imported = c.energy.ensures ∙ (λ i. energy_by (c.ledger-ledger.ensures.order i) Import (entries (c.ledger-ledger.ensures.content i)));
  exported = c.export.ensures ∙ (λ i. energy_by (c.ledger-ledger.ensures.order i) Export (entries (c.ledger-ledger.ensures.content i)));
}

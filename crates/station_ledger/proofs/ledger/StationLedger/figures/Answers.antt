use Rattle.std.proofs.Common.{sym, ap, subst, ◌∙◌}
use Rattle.energy_flow.specs.Flow.{Energy}
use Rattle.ledger_model.{specs.Board.figures_by, specs.Content.entries, specs.declared.reading.Direction.TheVariants.{Import, Export}, specs.Figures.AreWithin, proofs.Callers.figures_within}
use Rattle.station_ledger.{specs.Kept.content_in, specs.Ledger.Ledger, specs.Sums.order_in}
use Rattle.station_ledger.proofs.ledger.StationLedger.figures.Goals as goal

pub returns-clause-value : goal.returns-clause-value
returns-clause-value c =
    let k = c.self.invariant in let s = k.summed in
    let up = c.up.ensures ∙ ap (λ (e : Energy). e.up) (s.energies_are Import) in
    let down = c.down.ensures ∙ ap (λ (e : Energy). e.down) (s.energies_are Import) in
    let export_up = c.up-2.ensures ∙ ap (λ (e : Energy). e.up) (s.energies_are Export) in
    let export_down = c.down-2.ensures ∙ ap (λ (e : Energy). e.down) (s.energies_are Export) in
    (λ i. record {
      events = s.counts.events i;
      voided = k.voided_are i;
      transactions = s.counts.transactions i;
      complete = s.counts.complete i;
      missing = s.counts.missing_are i;
      up = up i;
      down = down i;
      export_up = export_up i;
      export_down = export_down i;
    })
    ∙ ap (λ (l : Ledger). figures_by l.order (entries l.content)) c.self.view_is

pub returns-clause-within : goal.returns-clause-within
returns-clause-within c =
    let l = c.self.inside in
    subst (AreWithin c.args.self.now.limits) (sym (returns-clause-value c)) (subst (λ (x : Ledger). AreWithin x.limits (figures_by x.order (entries x.content))) c.self.view_is
    (figures_within (order_in l.sums) l.limits l.changes (content_in l.chains l.changes) c.self.invariant.reached))

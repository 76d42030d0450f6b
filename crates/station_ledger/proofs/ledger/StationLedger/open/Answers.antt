use Rattle.std.{proofs.Common.{◌≡◌, List, [], count_by, sym, ap, subst, ◌∙◌}, specs.FinMap.FinMap}
use Rattle.std.specs.FinMap as finite
use Rattle.ledger_model.{specs.Content.{Entry, Stored}, specs.Key.key_cmp, proofs.ListedRuns.none_listed}
use Rattle.station_ledger.specs.Sums.{AreSummed}
use Rattle.station_ledger.proofs.ledger.StationLedger.open.Goals as goal

pub invariant_of-result : goal.invariant_of-result
invariant_of-result c =
    let chains = c.in_ok-open.field-0 in let sums = c.in_ok-open-2.field-0 in
    let empty : finite.entries chains.events ≡ [] = ap (λ (m : FinMap key_cmp Stored). finite.entries m) c.in_ok-open.ensures.empty ∙ none_listed in
    record {
      limits_are = c.in_ok-open.ensures.limits;
      reached = λ i. record { events = c.in_ok-open.ensures.empty i; changes = 0 };
      summed = subst (λ (es : List Entry). AreSummed c.args.limits es sums) (sym empty) c.in_ok-open-2.ensures.summed;
      voided_are = c.in_ok-open-2.ensures.voided ∙ sym (ap (count_by (λ (e : Entry). e.1.voided)) empty);
      few_transactions = c.in_ok-open.ensures.transactions;
      few_events = c.in_ok-open.ensures.events;
      few_readings = c.in_ok-open.ensures.readings;
    }

use Rattle.std.proofs.Common.{List, ap, ◌∙◌}
use Rattle.event_chain.specs.Chains.{stored}
use Rattle.ledger_model.{specs.Energy.{Pair, all_pairs_by}, specs.declared.reading.Direction.Direction, specs.declared.reading.Direction.TheVariants.{Import, Export}}
use Rattle.station_ledger.{specs.Shares.with_shares, specs.Sums.order_in, proofs.Sharing.rows_shared}
use Rattle.station_ledger.proofs.shares.shared_rows.Goals as goal

pub returns-clause-rows : goal.returns-clause-rows
returns-clause-rows c =
    let n = c.args.sums.now.period.length in let all : Direction → List Pair = λ d. all_pairs_by (order_in c.args.sums.now) d (stored c.args.chains.now) in
    rows_shared n (all Import) (all Export) c.share_direction.new.table.rows _
    (c.in_ok-share_direction.ensures.rows ∙ ap (λ t. with_shares n Import (all Import) t.rows) c.in_ok-table.ensures) c.in_ok-share_direction-2.ensures.rows

use Rattle.std.{proofs.Common.{◌++◌, ◌∷◌, [], List, ℕ, map, option_map, sym, ap, ◌∙◌, arith}, proofs.lemmas.List.{length-map, take_all}}
use Rattle.event_chain.specs.Chains.{stored}
use Rattle.ledger_model.specs.Board.{shown_by}
use Rattle.station_ledger.{specs.declared.standing.Standing.Standing, specs.Sums.order_in, proofs.TransactionLines.{kept_ids, found_at, line_more}}
use Rattle.station_ledger.proofs.lines.transaction_lines.Goals as goal

-- what has an id is kept
pub transaction_line-requires-clause-kept : goal.transaction_line-requires-clause-kept
transaction_line-requires-clause-kept c =
    let at = sym c.id_at.ensures ∙ ap (option_map (λ id. id.now)) c.unwrap-tx.ensures in
    found_at (order_in c.args.sums.now) c.args.chains.now.limits c.args.chains.now c.args.sums.now.kept c.requires.standing c.loop-place.place c.unwrap-tx.result.now at

-- the line of the next id
pub loop-place-preserved : goal.loop-place-preserved
loop-place-preserved c =
    let at = sym c.id_at.ensures ∙ ap (option_map (λ id. id.now)) c.unwrap-tx.ensures in
    c.in_ok-push.ensures.items ∙ (λ i. c.loop-place.invariant i ++ c.in_ok-transaction_line.ensures i ∷ [])
    ∙ sym (line_more (shown_by (order_in c.args.sums.now) (stored c.args.chains.now)) (map (λ (r : List ℕ × Standing). r.0) c.args.sums.now.kept.rows) c.loop-place.place c.unwrap-tx.result.now at)

-- past the last id these are all, and the ids are those of the transactions
pub returns : goal.returns
returns c =
    let ids = map (λ (r : List ℕ × Standing). r.0) c.args.sums.now.kept.rows in
    let long = length-map c.args.sums.now.kept.rows (λ (r : List ℕ × Standing). r.0) in
    c.loop-place.invariant
    ∙ ap (map (shown_by (order_in c.args.sums.now) (stored c.args.chains.now)))
    (take_all c.loop-place.place ids (omega (arith, long, c.loop-place-test.false, c.len-place-end.ensures.len))
    ∙ kept_ids (order_in c.args.sums.now) c.args.chains.now.limits c.args.chains.now c.args.sums.now.kept c.requires.standing)

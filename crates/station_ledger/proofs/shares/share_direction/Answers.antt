use Rattle.std.{proofs.Common.{◌≡◌, ◌≤◌, ◌+◌, List, ℕ, length, map, option_map, take, sym, ap, subst, ◌∙◌, arith}, specs.List.flat_map, proofs.lemmas.List.{length-append, length-map, take_all}}
use Rattle.event_chain.specs.Chains.{stored}
use Rattle.ledger_model.specs.Energy.{followed, pairs_by}
use Rattle.station_ledger.{specs.declared.standing.Standing.Standing, specs.Quarters.IsWork, specs.Shares.with_shares, specs.Sums.order_in, proofs.Looking.{and_then, at_most, flat_map-take}, proofs.Sharing.{placed_readings, shares-append, taken_more}, proofs.TransactionLines.kept_ids}
use Rattle.reading_index.specs.declared.placed.PlacedReading.{PlacedReading}
use Rattle.station_ledger.proofs.shares.share_direction.Goals as goal

-- the shares of the next transaction
pub loop-place-preserved : goal.loop-place-preserved
loop-place-preserved c =
    let order = order_in c.args.sums.now in let d = c.args.direction in let es = stored c.args.chains.now in let n = c.args.sums.now.period.length in
    let ids = map (λ (r : List ℕ × Standing). r.0) c.args.sums.now.kept.rows in
    let tx = c.unwrap-tx.result.now in
    let at = sym c.id_at.ensures ∙ ap (option_map (λ id. id.now)) c.unwrap-tx.ensures in
    let so_far = flat_map (λ t. pairs_by order d t es) (take c.loop-place.place ids) in
    let readings = ap (λ (rs : List PlacedReading). map (λ r. r.reading) rs) (c.deref.ensures.value ∙ c.in_ok-readings.ensures) ∙ placed_readings order d tx es in
    let more = taken_more (λ t. pairs_by order d t es) ids c.loop-place.place tx at in
    let count = ap length more ∙ length-append so_far (pairs_by order d tx es) in
    let own = ap (λ rs. length (followed rs)) readings in
    let both = and_then (length so_far) (length (pairs_by order d tx es)) c.args.work.now c.loop-place.work c.share_row.new.work c.loop-place.invariant.looks
    (subst (λ n. IsWork n c.loop-place.work c.share_row.new.work) own c.in_ok-share_row.ensures.work) in
    record {
      rows = c.in_ok-share_row.ensures.rows
          ∙ (λ i. with_shares (c.length.ensures.value i) d (followed (readings i)) (c.loop-place.invariant.rows i))
          ∙ sym (shares-append n d so_far (pairs_by order d tx es) c.args.table.now.rows)
          ∙ sym (ap (λ ps. with_shares n d ps c.args.table.now.rows) more);
      looks = subst (λ n. IsWork n c.args.work.now c.share_row.new.work) (sym count) both;
    }

-- past the last id these are all
pub returns-clause-rows : goal.returns-clause-rows
returns-clause-rows c =
    let order = order_in c.args.sums.now in let d = c.args.direction in let es = stored c.args.chains.now in
    let ids = map (λ (r : List ℕ × Standing). r.0) c.args.sums.now.kept.rows in
    let long = length-map c.args.sums.now.kept.rows (λ (r : List ℕ × Standing). r.0) in
    c.loop-place.invariant.rows
    ∙ ap (λ ts. with_shares c.args.sums.now.period.length d (flat_map (λ t. pairs_by order d t es) ts) c.args.table.now.rows)
    (take_all c.loop-place.place ids (omega (arith, long, c.loop-place-test.false, c.len-place-end.ensures.len))
    ∙ kept_ids order c.args.chains.now.limits c.args.chains.now c.args.sums.now.kept c.requires.standing)

-- the looks at the pairs of all transactions
pub returns-clause-work : goal.returns-clause-work
returns-clause-work c =
    let order = order_in c.args.sums.now in let d = c.args.direction in let es = stored c.args.chains.now in
    let ids = map (λ (r : List ℕ × Standing). r.0) c.args.sums.now.kept.rows in
    let few = flat_map-take (λ t. pairs_by order d t es) c.loop-place.place ids in
    let all = ap (λ ts. length (flat_map (λ t. pairs_by order d t es) ts)) (kept_ids order c.args.chains.now.limits c.args.chains.now c.args.sums.now.kept c.requires.standing) in
    at_most _ _ c.args.work.now c.loop-place.work (omega (arith, few, all)) c.loop-place.invariant.looks

pub returns-in_err-readings-clause-work : goal.returns-in_err-readings-clause-work
returns-in_err-readings-clause-work c =
    let order = order_in c.args.sums.now in let d = c.args.direction in let es = stored c.args.chains.now in
    let ids = map (λ (r : List ℕ × Standing). r.0) c.args.sums.now.kept.rows in
    let few = flat_map-take (λ t. pairs_by order d t es) c.loop-place.place ids in
    let all = ap (λ ts. length (flat_map (λ t. pairs_by order d t es) ts)) (kept_ids order c.args.chains.now.limits c.args.chains.now c.args.sums.now.kept c.requires.standing) in
    at_most _ _ c.args.work.now c.loop-place.work (omega (arith, few, all)) c.loop-place.invariant.looks

pub returns-in_err-share_row-clause-work : goal.returns-in_err-share_row-clause-work
returns-in_err-share_row-clause-work c =
    let order = order_in c.args.sums.now in let d = c.args.direction in let es = stored c.args.chains.now in
    let ids = map (λ (r : List ℕ × Standing). r.0) c.args.sums.now.kept.rows in
    let tx = c.unwrap-tx.result.now in
    let at = sym c.id_at.ensures ∙ ap (option_map (λ id. id.now)) c.unwrap-tx.ensures in
    let so_far = flat_map (λ t. pairs_by order d t es) (take c.loop-place.place ids) in
    let readings = ap (λ (rs : List PlacedReading). map (λ r. r.reading) rs) (c.deref.ensures.value ∙ c.in_ok-readings.ensures) ∙ placed_readings order d tx es in
    let count = ap length (taken_more (λ t. pairs_by order d t es) ids c.loop-place.place tx at) ∙ length-append so_far (pairs_by order d tx es) in
    let own = ap (λ rs. length (followed rs)) readings in
    let both = and_then (length so_far) (length (pairs_by order d tx es)) c.args.work.now c.loop-place.work c.share_row.new.work c.loop-place.invariant.looks
    (subst (λ n. IsWork n c.loop-place.work c.share_row.new.work) own c.share_row.ensures.work) in
    let few = flat_map-take (λ t. pairs_by order d t es) (c.loop-place.place + 1) ids in
    let all = ap (λ ts. length (flat_map (λ t. pairs_by order d t es) ts)) (kept_ids order c.args.chains.now.limits c.args.chains.now c.args.sums.now.kept c.requires.standing) in
    at_most _ _ c.args.work.now c.share_row.new.work (omega (arith, few, all, count)) both

use Rattle.std.{proofs.Common.{◌≡◌, ◌≤◌, List, None, length, map, sym, ap, ◌∙◌, arith}, proofs.lemmas.List.nil_from_length}
use Rattle.ledger_model.{specs.Deltas.pairs_between, specs.Event.MeterReading}
use Rattle.reading_index.specs.declared.placed.PlacedReading.{PlacedReading}
use Rattle.station_ledger.{specs.Shares.with_shares, proofs.Looking.looked, proofs.Sharing.{followed_between, none_left, stepped}, proofs.Walks.first_and_more}
use Rattle.station_ledger.proofs.shares.share_row.Goals as goal

readings : List PlacedReading → List MeterReading
readings rs = map (λ (r : PlacedReading). r.reading) rs

pub loop-left-preserved : goal.loop-left-preserved
unfolding readings
loop-left-preserved c =
    let r = c.first-item.result in let steps = first_and_more c.loop-left.left.now r c.in-len1-up.len_at_least c.first-item.is in
    let was = c.loop-left.invariant in
    record {
      rows = stepped c.args.period c.args.direction c.loop-left.last r.reading (readings c.loop-left.left.now) _ c.loop-left.table.rows
          c.share_across.new.table.rows _ (ap readings steps) c.in_ok-share_across.ensures.rows was.rows;
      looks = looked c.loop-left.last r.reading (readings c.loop-left.left.now) _ c.loop-left.work c.share_across.new.work _ (ap readings steps)
          c.in_ok-share_across.ensures.work was.looks;
      grows = omega (arith, was.grows, c.in_ok-share_across.ensures.work.grows);
    }

pub returns-clause-rows : goal.returns-clause-rows
unfolding readings
returns-clause-rows c =
    let n = c.args.period in let d = c.args.direction in let rows = c.loop-left.table.rows in let last = c.loop-left.last in
    sym (ap (λ ps. with_shares n d ps rows) (none_left last))
    ∙ ap (λ rs. with_shares n d (pairs_between last (readings rs) None) rows) (sym (nil_from_length c.loop-left.left.now (omega (arith, c.in_default.len_below))))
    ∙ c.loop-left.invariant.rows
    ∙ ap (λ ps. with_shares n d ps c.args.table.now.rows) (sym (followed_between (readings c.args.readings.now)))

pub returns-clause-work : goal.returns-clause-work
unfolding readings
returns-clause-work c =
    let was = c.loop-left.invariant in let all = ap length (followed_between (readings c.args.readings.now)) in
    record { bound = omega (arith, was.looks, all); grows = was.grows }

pub returns-in_err-share_across-clause-work : goal.returns-in_err-share_across-clause-work
unfolding readings
returns-in_err-share_across-clause-work c =
    let r = c.first-item.result in let steps = first_and_more c.loop-left.left.now r c.in-len1-up.len_at_least c.first-item.is in
    let was = c.loop-left.invariant in let is = c.share_across.ensures.work in let all = ap length (followed_between (readings c.args.readings.now)) in
    let bound = looked c.loop-left.last r.reading (readings c.loop-left.left.now) _ c.loop-left.work c.share_across.new.work _ (ap readings steps) is was.looks in
    record { bound = omega (arith, bound, all); grows = omega (arith, was.grows, is.grows) }

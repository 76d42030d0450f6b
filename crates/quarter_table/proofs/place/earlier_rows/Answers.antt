use Rattle.std.{proofs.Common.{◌+◌, ◌-◌, ◌/◌, ◌<◌, ◌≤◌, length, get_or, subst, arith}, proofs.lemmas.Bool.Decides.nat_tests}
use Rattle.quarter_table.{specs.declared.row.QuarterRow.QuarterRow, proofs.Orders.{place_within, place_more, place_less}}
use Rattle.quarter_table.proofs.place.earlier_rows.Goals as goal

pub loop-low-init : goal.loop-low-init
loop-low-init c =
    let rs = c.args.rows.now.items in let all = place_within c.number-number.result rs in
    record { lower = omega arith; upper = omega (arith, all, c.len-high.ensures); within = omega (arith, c.len-high.ensures) }

pub loop-low-preserved-then-number : goal.loop-low-preserved-then-number
loop-low-preserved-then-number c =
    let rs = c.args.rows.now.items in let q = c.number-number.result in let r = c.index.result.now in let was = c.loop-low.invariant in
    let m = c.loop-low.low + (c.loop-low.high - c.loop-low.low) / 2 in
    let inside : m < length rs = omega (arith, was.within, c.loop-low-test.true) in
    let small : r.quarter < q = grind (arith, nat_tests, c.number.ensures.value, c.if-number.true) in
    let found : (get_or rs m r).quarter < q = subst (λ (x : QuarterRow). x.quarter < q) c.index.ensures small in
    let more = place_more q rs m r c.requires inside found in
    record { lower = omega (arith, more); upper = was.upper; within = was.within }

pub loop-low-preserved : goal.loop-low-preserved
loop-low-preserved c =
    let rs = c.args.rows.now.items in let q = c.number-number.result in let r = c.index.result.now in let was = c.loop-low.invariant in
    let m = c.loop-low.low + (c.loop-low.high - c.loop-low.low) / 2 in
    let inside : m < length rs = omega (arith, was.within, c.loop-low-test.true) in
    let great : q ≤ r.quarter = grind (arith, nat_tests, c.number.ensures.value, c.if-number.false) in
    let found : q ≤ (get_or rs m r).quarter = subst (λ (x : QuarterRow). q ≤ x.quarter) c.index.ensures great in
    let less = place_less q rs m r c.requires inside found in
    record { lower = was.lower; upper = less; within = omega (arith, inside) }

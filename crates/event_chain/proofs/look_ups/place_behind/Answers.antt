use Rattle.std.proofs.Common.{◌≡◌, ◌+◌, ap, sym, ◌∙◌, arith}
use Rattle.event_chain.{specs.Edits.at_home, proofs.Cuts.{behind_seg, behind_last}}
use Rattle.event_chain.proofs.look_ups.place_behind.Goals as goal

pub returns-then-number-eq-GREATEST_NUMBER : goal.returns-then-number-eq-GREATEST_NUMBER
returns-then-number-eq-GREATEST_NUMBER c =
    sym (behind_last c.transaction-slot.result c.number-number.result c.args.key c.args.index.now.entries c.transaction-slot.ensures c.number-number.ensures c.if-number-eq-GREATEST_NUMBER.true)

pub returns : goal.returns
returns c =
    let r = c.args.key in let es = c.args.index.now.entries in let t = c.transaction-slot.result in let n = c.new.result in
    let up : n ≡ r + 1 = omega (arith, c.new.ensures, c.number-number.ensures, c.transaction-slot.ensures) in
    c.own.ensures ∙ ap (at_home t) c.at_or_after.ensures.first ∙ behind_seg t r n es c.at_or_after.ensures.rising c.transaction-slot.ensures up

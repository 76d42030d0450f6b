use Rattle.std.proofs.Common.{◌≡◌, sym, ap, ◌∙◌, arith}
use Rattle.quarter_table.{specs.declared.row.QuarterRow.QuarterRow, proofs.Places.stands_there}
use Rattle.quarter_table.proofs.place.place_near.Goals as goal

pub returns-then-number-clause-stands : goal.returns-then-number-clause-stands
returns-then-number-clause-stands c =
    let rs = c.args.rows.now.items in let r = c.index.result.now in
    let here : r.quarter ≡ c.args.quarter = sym c.number.ensures.value ∙ c.if-number.true ∙ c.number-then-near-len.ensures.value in
    stands_there c.args.quarter rs c.args.near r c.requires (omega (arith, c.if-near-len.true, c.len.ensures)) (sym (ap (λ (x : QuarterRow). x.quarter) c.index.ensures) ∙ here)

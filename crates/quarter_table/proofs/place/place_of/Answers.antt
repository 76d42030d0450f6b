use Rattle.std.{proofs.Common.{◌≡◌, ◌≢◌, ◌<◌, length, get_or, subst, sym, ap, ◌∙◌, arith}, proofs.lemmas.List.get_or_default}
use Rattle.quarter_table.{specs.declared.row.QuarterRow.QuarterRow, specs.Rows.{no_row, earlier}, specs.Kept.{StandsAt, BelongsAt}, proofs.Places.{stands, belongs}, proofs.place.place_of.Goals.{else-at-len-via-then-at-len+else-number, else-at-len-via-else-at-len}}
use Rattle.quarter_table.proofs.place.place_of.Goals as goal

pub returns-then-number-clause-stands : goal.returns-then-number-clause-stands
returns-then-number-clause-stands c =
    let rs = c.args.rows.now.items in let q = c.args.quarter in let r = c.index.result.now in let e = c.earlier_rows-at.ensures in
    let within : length (earlier q rs) < length rs = omega (arith, e, c.if-at-len.true, c.len.ensures) in
    let here : r.quarter ≡ q = sym c.number.ensures.value ∙ c.if-number.true ∙ c.number-then-at-len.ensures.value in
    let found : (get_or rs (length (earlier q rs)) r).quarter ≡ q = ap (λ n. (get_or rs n r).quarter) (sym e) ∙ ap (λ (x : QuarterRow). x.quarter) (sym c.index.ensures) ∙ here in
    subst (StandsAt q rs) (sym e) (stands q rs r c.requires within found)

pub returns-else-at-len-clause-belongs : goal.returns-else-at-len-clause-belongs
returns-else-at-len-clause-belongs c =
    let rs = c.args.rows.now.items in let q = c.args.quarter in let e = c.earlier_rows-at.ensures in
    let none : length (earlier q rs) < length rs → (get_or rs (length (earlier q rs)) (no_row q)).quarter ≢ q = λ within is. elim c.else-at-len.branch [
      | else-at-len-via-then-at-len+else-number w ↦
          let r = w.index.result.now in
          let here : r ≡ get_or rs (length (earlier q rs)) (no_row q) = w.index.ensures ∙ ap (λ n. get_or rs n r) e ∙ get_or_default rs (length (earlier q rs)) r (no_row q) within in
          w.if-number.false (w.number.ensures.value ∙ ap (λ (x : QuarterRow). x.quarter) here ∙ is ∙ sym w.number-then-at-len.ensures.value)
      | else-at-len-via-else-at-len w ↦ absurd (omega (arith, e, within, w.if-at-len.false, c.len.ensures))
    ] in
    subst (BelongsAt q rs) (sym e) (belongs q rs (no_row q) c.requires none)

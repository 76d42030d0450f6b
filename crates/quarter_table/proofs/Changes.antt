-- What a pair added or taken out does to the rows, at the place of its period.
use Rattle.std.{proofs.Common.{◌≡◌, ℕ, ◌+◌, ◌-◌, ◌<◌, List, get_or, set, unwrap_or, sym, ap, ◌∙◌, arith}, specs.List.{insert, remove}, proofs.lemmas.Option.unwrap_or-slice_get}
use Rattle.energy_flow.specs.Flow.{Energy}
use Rattle.ledger_model.{specs.ByDirection.{minus_flows, plus_flows}, specs.declared.by_direction.ByDirection.ByDirection}
use Rattle.quarter_table.{specs.declared.row.QuarterRow.QuarterRow, specs.Rows.{no_row, row_at, with_pair, without_pair, set_row}, specs.Kept.{StandsAt, BelongsAt}, proofs.Parts.plus_none, proofs.Replaced.{row_written, row_inserted, row_removed}}

-- The row read at the place of a period is the period's.
pub row_read : (q : ℕ) (rs : List QuarterRow) (at : ℕ) (r : QuarterRow) → StandsAt q rs at → r ≡ get_or rs at r → r ≡ row_at q rs
row_read q rs at r s read = read ∙ sym (unwrap_or-slice_get rs at r) ∙ ap (λ o. unwrap_or o r) s.row

-- A pair more in a row.
pub added_there : (q : ℕ) (flow : ByDirection Energy) (rs : List QuarterRow) (at : ℕ) (r : QuarterRow) (sum : ByDirection Energy) → StandsAt q rs at
    → r ≡ get_or rs at r → sum ≡ plus_flows r.energy flow
    → set rs at (record { quarter = q; pairs = r.pairs + 1; energy = sum }) ≡ set_row (with_pair flow (row_at q rs)) rs
added_there q flow rs at r sum s read is =
    let same = row_read q rs at r s read in
    let whole : sum ≡ plus_flows (row_at q rs).energy flow = is ∙ ap (λ (x : QuarterRow). plus_flows x.energy flow) same in
    let written : record { quarter = q; pairs = r.pairs + 1; energy = sum } ≡ with_pair flow (row_at q rs) =
    λ i. record { quarter = sym s.quarter_is i; pairs = (same i).pairs + 1; energy = whole i } in
    ap (set rs at) written ∙ row_written q (with_pair flow (row_at q rs)) rs at s s.quarter_is (omega arith)

-- The first pair of a period.
pub added_new : (q : ℕ) (flow : ByDirection Energy) (rs : List QuarterRow) (at : ℕ) (sum : ByDirection Energy) → BelongsAt q rs at → sum ≡ flow
    → insert rs at (record { quarter = q; pairs = 1; energy = sum }) ≡ set_row (with_pair flow (row_at q rs)) rs
added_new q flow rs at sum b is =
    let whole = is ∙ sym (plus_none flow) in
    let written : record { quarter = q; pairs = 1; energy = sum } ≡ with_pair flow (no_row q) = λ i. record { quarter = q; pairs = 1; energy = whole i } in
    ap (insert rs at) (written ∙ ap (with_pair flow) (sym b.absent)) ∙ row_inserted q (with_pair flow (row_at q rs)) rs at b (ap (λ (x : QuarterRow). x.quarter) b.absent) (omega arith)

-- A pair less in a row that has more.
pub removed_there : (q : ℕ) (flow : ByDirection Energy) (rs : List QuarterRow) (at : ℕ) (r : QuarterRow) (sum : ByDirection Energy) → StandsAt q rs at
    → r ≡ get_or rs at r → sum ≡ minus_flows r.energy flow → 1 < (row_at q rs).pairs
    → set rs at (record { quarter = q; pairs = r.pairs - 1; energy = sum }) ≡ set_row (without_pair flow (row_at q rs)) rs
removed_there q flow rs at r sum s read is more =
    let same = row_read q rs at r s read in
    let whole : sum ≡ minus_flows (row_at q rs).energy flow = is ∙ ap (λ (x : QuarterRow). minus_flows x.energy flow) same in
    let written : record { quarter = q; pairs = r.pairs - 1; energy = sum } ≡ without_pair flow (row_at q rs) =
    λ i. record { quarter = sym s.quarter_is i; pairs = (same i).pairs - 1; energy = whole i } in
    ap (set rs at) written ∙ row_written q (without_pair flow (row_at q rs)) rs at s s.quarter_is (omega arith)

-- The last pair of a period.
pub removed_last : (q : ℕ) (flow : ByDirection Energy) (rs : List QuarterRow) (at : ℕ) → StandsAt q rs at → (row_at q rs).pairs ≡ 1 → remove rs at ≡ set_row (without_pair flow (row_at q rs)) rs
removed_last q flow rs at s one = row_removed q (without_pair flow (row_at q rs)) rs at s s.quarter_is (omega arith)

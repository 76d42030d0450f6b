use Rattle.std.{specs.Prelude.{◌≡◌, ◌≢◌, ℕ, ◌≤◌, List, [], length, sum, Some, slice_get, refl}, specs.Coded.{Coded, code_by, coded×, coded_list, coded_ℕ}}
use Rattle.ledger_model.{specs.Periods.{Periods, periods_code}, specs.declared.order.Order.Order, specs.Limits.Bounds, specs.Content.{Content, empty_content}, specs.Step.Reached}
use Rattle.ledger_model.specs.contracts.order.Order as orders
use Rattle.station_ledger.specs.Ledger.{bounds_code, content_code}

-- How many passes a station may give out.
abbrev pub most_passes : ℕ
most_passes = 65_536

-- A station's cell: the station's number in the plan, its site's number, its row in the site's
-- book, its limits, its settlement periods, the order of its readings, its content, and how many
-- changes each of its passes made.
pub record Cell : Type 0 where
  pub station : ℕ
  pub site : ℕ
  pub row : ℕ
  pub limits : Bounds
  pub period : Periods
  pub order : Order
  pub content : Content
  pub counts : List ℕ

-- A pass: its station's number, its place among that station's passes, how many changes it made, and how many looks at
-- levels its commands took.
pub record Held : Type 0 where
  pub station : ℕ
  pub slot : ℕ
  pub changes : ℕ
  pub work : ℕ

-- The count of a pass at its station's cell: the station's number, the pass's place among that station's passes, and how
-- many changes it made.
pub record Tallied : Type 0 where
  pub station : ℕ
  pub slot : ℕ
  pub changes : ℕ

-- The pass of a tally, with so many looks.
abbrev pub held : Tallied → ℕ → Held
held t work = record { station = t.station; slot = t.slot; changes = t.changes; work = work }

-- The tally of a pass.
abbrev pub tally_of : Held → Tallied
tally_of p = record { station = p.station; slot = p.slot; changes = p.changes }

-- The number of no station, which a cell out of service has.
abbrev pub no_station : ℕ
no_station = 65_535

-- The cell is in service: it may belong to a station of a desk.
abbrev pub IsInService : Cell → Type 0
IsInService c = c.station ≢ no_station

-- A cell is kept as the tuple of its parts.
abbrev pub cell_code : Coded Cell
cell_code =
    code_by (ℕ × (ℕ × (ℕ × (Bounds × (Periods × (Order × (Content × List ℕ)))))))
    (coded× coded_ℕ (coded× coded_ℕ (coded× coded_ℕ (coded× bounds_code (coded× periods_code (coded× orders.the_row.coded (coded× content_code (coded_list coded_ℕ))))))))
    (λ c. (c.station, (c.site, (c.row, (c.limits, (c.period, (c.order, (c.content, c.counts))))))))
    (λ p. record { station = p.0; site = p.1.0; row = p.1.1.0; limits = p.1.1.1.0; period = p.1.1.1.1.0; order = p.1.1.1.1.1.0; content = p.1.1.1.1.1.1.0; counts = p.1.1.1.1.1.1.1 })
    (λ _. refl)

-- The cell of a station without events, which has given out no pass.
abbrev pub new_cell : ℕ → ℕ → ℕ → Bounds → Periods → Order → Cell
new_cell station site row limits period order = record { station = station; site = site; row = row; limits = limits; period = period; order = order; content = empty_content; counts = [] }

-- A tally that counts no change yet.
abbrev pub new_tally : ℕ → ℕ → Tallied
new_tally station slot = record { station = station; slot = slot; changes = 0 }

-- A pass that made no change yet.
abbrev pub new_pass : ℕ → ℕ → Held
new_pass station slot = record { station = station; slot = slot; changes = 0; work = 0 }

-- The tally is one of the cell's, and the cell counts as many changes for it.
pub record Knows (c : Cell) (t : Tallied) : Type 0 where
  pub station : t.station ≡ c.station
  pub count : slice_get c.counts t.slot ≡ Some t.changes

-- What a cell keeps: as many accepted commands as its passes made lead from the empty content to
-- its own; there is room for all its passes.
pub record IsCell (limits : Bounds) (content : Content) (counts : List ℕ) (room : ℕ) : Type 0 where
  pub reached : Reached limits content.changes content
  pub counted : sum counts ≡ content.changes
  pub few : length counts ≤ most_passes
  pub fits : most_passes ≤ room

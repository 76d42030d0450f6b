-- How many looks at levels a list or a board takes.
use Rattle.std.specs.Prelude.{ℕ, zero, suc, ◌+◌, ◌-◌, ◌==◌, List, [], ◌∷◌, Option, None, Some, length, if◌then◌else◌}
use Rattle.ledger_model.{specs.Content.entries, specs.Event.MeterReading}
use Rattle.reading_index.specs.declared.placed.PlacedReading.{PlacedReading}
use Rattle.site_desk.{specs.declared.plan.StationPlan.StationPlan, specs.Cell.Cell}
use Rattle.station_ledger.{specs.Looks.most_looks, specs.declared.listing.TxListing.TxListing}

-- How many pairs so many readings make behind the one before, if there is one.
abbrev pub pairs_behind : Option MeterReading → ℕ → ℕ
pairs_behind None readings = readings - 1
pairs_behind (Some before) readings = readings

-- The looks that the lines of readings in a row take: one for each reading, and one for each pair.
abbrev pub reading_looks : List PlacedReading → ℕ
reading_looks readings = length readings + pairs_behind None (length readings)

-- The looks that the list of a transaction's readings takes.
abbrev pub listing_looks : TxListing → ℕ
listing_looks l = reading_looks l.imported + reading_looks l.exported

-- The most looks that the board of a cell's station takes.
abbrev pub cell_looks : Cell → ℕ
cell_looks c = most_looks c.period.rule c.order (entries c.content)

-- The most looks that the boards of the stations of the site of this number take: the sum over their cells.
abbrev pub looks_over : List StationPlan → List Cell → ℕ → ℕ
looks_over [] cells site = 0
looks_over (s ∷ stations) [] site = 0
looks_over (s ∷ stations) (c ∷ cells) site = if s.site == site then cell_looks c + looks_over stations cells site else looks_over stations cells site

-- The most looks that the boards of the first so many sites take.
abbrev pub all_looks : List StationPlan → List Cell → ℕ → ℕ
all_looks stations cells zero = 0
all_looks stations cells (suc site) = all_looks stations cells site + looks_over stations cells site

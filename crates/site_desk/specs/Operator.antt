-- The parts of a running desk that an operator reads.
use Rattle.std.{specs.Prelude.{◌≡◌, ℕ, ◌==◌, ⊤, List, [], ◌∷◌, count_by, filter, sum_by, take, Some, slice_get}, specs.Str.bytes_eq}
use Rattle.energy_flow.specs.Flow.{Energy}
use Rattle.ledger_model.{specs.declared.figures.Figures.Figures, specs.declared.order.Order.Order, specs.Board.{Board, board_by, figures_by}, specs.declared.reading.Direction.TheVariants.{Import, Export}, specs.Energy.energy_by, specs.Content.{Content, entries}, specs.Figures.AreWithin, specs.Limits.Bounds, specs.Periods.Periods, specs.Step.Reached}
use Rattle.site_desk.{specs.declared.roster.StationPlace.StationPlace, specs.Roster.{IsNamed, StandsAt}, specs.Submit.IsBoardWithin, specs.Cell.Cell}
use Rattle.station_ledger.{specs.Listing.listing_by, specs.Looks.looks_within, specs.declared.listing.TxListing.TxListing}

-- Some content that accepted commands reach under these limits has these figures and these imported
-- and exported energies, in this order of readings.
pub record AreTotalsWithin (limits : Bounds) (order : Order) (f : Figures) (e x : Energy) : Type 0 where
  pub content : Content
  pub reached : Reached limits content.changes content
  pub figures : f ≡ figures_by order (entries content)
  pub imported : e ≡ energy_by order Import (entries content)
  pub exported : x ≡ energy_by order Export (entries content)

-- They belong to the station of this name: some content has them that accepted commands reach under
-- the limits of the station's place, in that place's order.
pub record AreTotalsOfName (places : List StationPlace) (name : List ℕ) (f : Figures) (e x : Energy) : Type 0 where
  pub number : ℕ
  pub named : IsNamed places name number
  pub totals : AreTotalsWithin named.place.limits named.place.order f e x

-- Some content that accepted commands reach under these limits has these events and readings of a transaction, by this
-- order and these settlement periods.
pub record IsListingWithin (limits : Bounds) (order : Order) (period : Periods) (tx : List ℕ) (l : TxListing) : Type 0 where
  pub content : Content
  pub reached : Reached limits content.changes content
  pub is : l ≡ listing_by order period tx (entries content)

-- They belong to the station of this name: some content has them that accepted commands reach under the limits of the
-- station's place, by that place's order and period.
pub record IsListingOfName (places : List StationPlace) (name tx : List ℕ) (l : TxListing) : Type 0 where
  pub number : ℕ
  pub named : IsNamed places name number
  pub listing : IsListingWithin named.place.limits named.place.order named.place.period tx l

-- The most looks that the board of the station of this place takes, by its settlement periods and its limits.
abbrev pub place_looks : StationPlace → ℕ
place_looks p = looks_within p.period.rule p.limits.readings

-- The most looks that the board of the station of this name takes.
abbrev pub named_looks : List StationPlace → List ℕ → ℕ
named_looks places name = sum_by place_looks (filter (λ p. bytes_eq name p.name) places)

-- The most looks that the boards of the stations of the site of this number take: the sum over them.
abbrev pub site_looks : List StationPlace → ℕ → ℕ
site_looks places site = sum_by place_looks (filter (λ p. p.site == site) places)

-- The board of the station of this place, under its name: it is the board of some content that
-- accepted commands reach under the place's limits, by the place's period and order.
pub record IsBoardAt (p : StationPlace) (b : List ℕ × Board) : Type 0 where
  pub name : b.0 ≡ p.name
  pub board : IsBoardWithin p.limits p.period p.order b.1
  pub within : AreWithin p.limits b.1.figures

-- As many boards as places; each board is of the station of the place at the same position.
abbrev pub AreBoardsOf : List StationPlace → List (List ℕ × Board) → Type 0
AreBoardsOf [] [] = ⊤
AreBoardsOf [] (b ∷ boards) = ⊥
AreBoardsOf (p ∷ places) [] = ⊥
AreBoardsOf (p ∷ places) (b ∷ boards) = IsBoardAt p b × AreBoardsOf places boards

-- The boards of the stations of the site of this number: each of its stations once, in the plan's order.
abbrev pub AreBoardsAt : List StationPlace → ℕ → List (List ℕ × Board) → Type 0
AreBoardsAt places site boards = AreBoardsOf (filter (λ p. p.site == site) places) boards

-- The board of the station of this number and place, under its name, is the board of this cell's
-- content, by the place's period and order.
pub record IsBoardOfCell (k : ℕ) (p : StationPlace) (c : Cell) (b : List ℕ × Board) : Type 0 where
  pub stands : StandsAt k p c
  pub name : b.0 ≡ p.name
  pub shown : b.1 ≡ board_by p.order p.period (entries c.content)

-- The cell is one of these.
abbrev pub IsAmong : List Cell → Cell → Type 0
IsAmong cells c = (i : ℕ) × (slice_get cells i ≡ Some c)

-- How many of the stations before this number are at this site.
abbrev pub before_at : List StationPlace → ℕ → ℕ → ℕ
before_at places site k = count_by (λ p. p.site == site) (take k places)

-- The board of the station of this number and place, among those of its site, shows a cell for which this
-- holds.
pub record IsNotedBoard (Is : Cell → Type 0) (k : ℕ) (p : StationPlace) (boards : List (List ℕ × Board)) (i : ℕ) : Type 0 where
  pub cell : Cell
  pub noted : Is cell
  pub board : List ℕ × Board
  pub there : slice_get boards i ≡ Some board
  pub is : IsBoardOfCell k p cell board

-- The boards are those of the stations of the site of this number, in the plan's order; each shows a cell for which
-- this holds.
abbrev pub AreNotedBoards : (Cell → Type 0) → List StationPlace → ℕ → List (List ℕ × Board) → Type 0
AreNotedBoards Is places site boards = (k : ℕ) (p : StationPlace) → slice_get places k ≡ Some p → p.site ≡ site → IsNotedBoard Is k p boards (before_at places site k)

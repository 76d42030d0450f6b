use Rattle.std.specs.Prelude.{◌≡◌, ℕ, List, [], Option, None, Some, slice_get}
use Rattle.ledger_model.specs.Content.{Content, empty_content}
use Rattle.site_desk.{specs.declared.plan.StationPlan.StationPlan, specs.Cell.Cell}

-- The content of a cell, if there is the cell.
abbrev pub content_or_empty : Option Cell → Content
content_or_empty None = empty_content
content_or_empty (Some c) = c.content

-- What each of these cells holds, by its place.
abbrev pub contents_of : List Cell → ℕ → Content
contents_of cells k = content_or_empty (slice_get cells k)

-- The name of a station of a plan, if there is the station.
abbrev pub name_or_none : Option StationPlan → List ℕ
name_or_none None = []
name_or_none (Some s) = s.name

-- The names of a plan's stations, by their number.
abbrev pub names_of : List StationPlan → ℕ → List ℕ
names_of stations k = name_or_none (slice_get stations k)

-- Each cell is that of the station of its place, and holds that station's first content.
abbrev pub AreFirst : (ℕ → Content) → List Cell → Type 0
AreFirst first cells = (k : ℕ) (c : Cell) → slice_get cells k ≡ Some c → (c.station ≡ k) × (c.content ≡ first k)

-- The names are those of the plan's stations.
abbrev pub AreNames : (ℕ → List ℕ) → List StationPlan → Type 0
AreNames name stations = (k : ℕ) (s : StationPlan) → slice_get stations k ≡ Some s → name k ≡ s.name

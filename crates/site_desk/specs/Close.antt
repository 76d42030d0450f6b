use Rattle.std.{specs.Prelude.{◌≡◌, ℕ, ◌<◌, ◌==◌, if◌then◌else◌, List, filter, map, length, count_by, sum_by, Some, slice_get, refl}, specs.Coded.{Coded, code_by, coded×, coded_list, coded_ℕ}}
use Rattle.ledger_model.{specs.declared.figures.Figures.Figures, specs.Figures.{figure_list, figures_from}, specs.Board.{figures_by, plus_figures, sum_of_figures}, specs.Content.entries, specs.Limits.Bounds, specs.Posts.{Post, totals_after}, specs.Step.Reached}
use Rattle.site_book.{specs.Book.{Book, Known}, specs.Prefix.IsPrefix}
use Rattle.site_desk.{specs.declared.roster.StationPlace.StationPlace, specs.Parts.IsTied, specs.Roster.StandsAt, specs.Cell.{Cell, Held, cell_code}}
use Rattle.station_ledger.specs.Ledger.{bounds_code}

-- A closed desk: the cells of all stations and the books of all sites, in the plan's order, and the passes that were
-- given out.
pub record Ended : Type 0 where
  pub cells : List Cell
  pub books : List Book
  pub passes : List Held

-- Figures are kept as their list.
abbrev pub figures_code : Coded Figures
figures_code = code_by (List ℕ) (coded_list coded_ℕ) figure_list figures_from (λ _. refl)

-- A book is kept as the tuple of its parts.
abbrev pub book_code : Coded Book
book_code = code_by (ℕ × (List Bounds × List Post))
    (coded× coded_ℕ (coded× (coded_list bounds_code) (coded_list (coded× coded_ℕ figures_code)))) (λ b. (b.site, (b.limits, b.posts)))
    (λ p. record { site = p.0; limits = p.1.0; posts = p.1.1 }) (λ _. refl)

-- A pass is kept as the tuple of its parts.
abbrev pub held_code : Coded Held
held_code = code_by (ℕ × (ℕ × (ℕ × ℕ))) (coded× coded_ℕ (coded× coded_ℕ (coded× coded_ℕ coded_ℕ)))
    (λ h. (h.station, (h.slot, (h.changes, h.work)))) (λ p. record { station = p.0; slot = p.1.0; changes = p.1.1.0; work = p.1.1.1 })
    (λ _. refl)

-- They are kept as the tuple of these lists.
abbrev pub ended_code : Coded Ended
ended_code = code_by (List Cell × (List Book × List Held))
    (coded× (coded_list cell_code) (coded× (coded_list book_code) (coded_list held_code))) (λ e. (e.cells, (e.books, e.passes)))
    (λ p. record { cells = p.0; books = p.1.0; passes = p.1.1 }) (λ _. refl)

-- How many of these passes belong to a station.
abbrev pub passes_of : ℕ → List Held → ℕ
passes_of number passes = count_by (λ p. p.station == number) passes

-- How many changes a station's passes made.
abbrev pub changes_of : ℕ → List Held → ℕ
changes_of number passes = sum_by (λ p. if p.station == number then p.changes else 0) passes

-- The figures of a site: the sums over its stations.
abbrev pub figures_at : List Cell → ℕ → Figures
figures_at cells site = sum_of_figures (map (λ c. figures_by c.order (entries c.content)) (filter (λ c. c.site == site) cells))

-- These figures, with the cell's added if it belongs to the site.
abbrev pub figures_with : Cell → ℕ → Figures → Figures
figures_with c site sum = if c.site == site then plus_figures (figures_by c.order (entries c.content)) sum else sum

-- The cell is that of the station of this number, at the place that the plan has.
pub record IsPlaced (places : List StationPlace) (number : ℕ) (c : Cell) : Type 0 where
  pub place : StationPlace
  pub there : slice_get places number ≡ Some place
  pub stands : StandsAt number place c

-- As many accepted commands as the station's passes made lead from the empty content to this one.
pub record IsCounted (passes : List Held) (number : ℕ) (c : Cell) : Type 0 where
  pub changes : c.content.changes ≡ changes_of number passes
  pub reached : Reached c.limits (changes_of number passes) c.content

-- The cell is where the plan has it, its content is what its passes made, and its row is tied.
pub record IsWhole (places : List StationPlace) (books : List Book) (passes : List Held) (number : ℕ) (c : Cell) : Type 0 where
  pub placed : IsPlaced places number c
  pub counted : IsCounted passes number c
  pub tied : IsTied books c

-- The book is that of the site of this number, and its totals are the sums over the site's stations.
pub record IsSummed (cells : List Cell) (site : ℕ) (b : Book) : Type 0 where
  pub number : b.site ≡ site
  pub totals : totals_after b.posts ≡ figures_at cells site

-- The posts that the viewer knew are the first of its site's book.
pub record Saw (books : List Book) (v : Known) : Type 0 where
  pub book : Book
  pub there : slice_get books v.site ≡ Some book
  pub prefix : IsPrefix v.posts book.posts

-- All passes that the cells gave out are here.
abbrev pub AreAllPasses : List Cell → List Held → Type 0
AreAllPasses cells passes = (k : ℕ) (c : Cell) → slice_get cells k ≡ Some c → passes_of k passes ≡ length c.counts

-- Each cell is whole: placed, counted and tied.
abbrev pub AreWhole : List StationPlace → List Book → List Held → List Cell → Type 0
AreWhole places books passes cells = (k : ℕ) (c : Cell) → slice_get cells k ≡ Some c → IsWhole places books passes k c

-- Each book's totals are the sums over its site's stations.
abbrev pub AreSummed : List Cell → List Book → Type 0
AreSummed cells books = (site : ℕ) (b : Book) → slice_get books site ≡ Some b → IsSummed cells site b

-- Each viewer belongs to one of so many sites.
abbrev pub AreViewed : ℕ → List Known → Type 0
AreViewed sites viewers = (k : ℕ) (v : Known) → slice_get viewers k ≡ Some v → v.site < sites

-- The values behind the locks of a desk fit together: its stations have these places, so many
-- viewers were given out, and all passes and viewers are here.
pub record IsClosable (places : List StationPlace) (given : ℕ) (cells : List Cell) (books : List Book) (passes : List Held) (viewers : List Known) : Type 0 where
  pub all_passes : AreAllPasses cells passes
  pub all_viewers : length viewers ≡ given
  pub whole : AreWhole places books passes cells
  pub summed : AreSummed cells books
  pub viewed : AreViewed (length books) viewers

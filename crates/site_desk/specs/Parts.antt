use Rattle.std.specs.Prelude.{◌≡◌, ℕ, suc, ◌<◌, ◌≤◌, ◌==◌, List, [], ◌∷◌, ◌++◌, filter, map, length, replicate, count_by, take, Option, None, Some, slice_get}
use Rattle.ledger_model.specs.Limits.{Bounds}
use Rattle.site_book.specs.Book.{Book, Known, known}
use Rattle.site_desk.{specs.declared.plan.SitePlan.SitePlan, specs.declared.plan.StationPlan.StationPlan, specs.Plan.{order_at, period_at}, specs.Cell.{Cell, new_cell}, specs.Settle.{Holds, Tied}}

-- The row of a station of this number at a site: how many stations of the site come before it.
abbrev pub row_at : List StationPlan → ℕ → ℕ → ℕ
row_at stations site k = count_by (λ s. s.site == site) (take k stations)

-- The limits of the stations of a site, in the plan's order.
abbrev pub limits_at : List StationPlan → ℕ → List Bounds
limits_at stations site = map (λ s. s.limits) (filter (λ s. s.site == site) stations)

-- The cells of a plan that was just opened: one for each station, in the plan's order, without
-- events, with its site's length of settlement periods and order of readings.
pub record AreNewCells (sites : List SitePlan) (stations : List StationPlan) (cells : List Cell) : Type 0 where
  pub count : length cells ≡ length stations
  pub each : (k : ℕ) (s : StationPlan) → slice_get stations k ≡ Some s
      → slice_get cells k ≡ Some (new_cell k s.site (row_at stations s.site k) s.limits (period_at sites s.site) (order_at sites s.site))

-- The book of a site of a plan that was just opened.
abbrev pub new_book : List StationPlan → ℕ → Book
new_book stations site = record { site = site; limits = limits_at stations site; posts = [] }

-- The books of a plan that was just opened: one for each site, in the plan's order.
pub record AreNewBooks (stations : List StationPlan) (sites : ℕ) (books : List Book) : Type 0 where
  pub count : length books ≡ sites
  pub each : (site : ℕ) → site < sites → slice_get books site ≡ Some (new_book stations site)

-- The viewers of these sites, numbered from this number on: each has its site's number and knows no post.
abbrev pub new_viewers : ℕ → List SitePlan → List (ℕ × Known)
new_viewers site [] = []
new_viewers site (s ∷ sites) = replicate s.viewers (site, known site []) ++ new_viewers (suc site) sites

-- These sites, each with this number of viewers if one is given.
abbrev pub viewed_by : Option ℕ → List SitePlan → List SitePlan
viewed_by None sites = sites
viewed_by (Some viewers) sites = map {A = SitePlan} (λ s. record s { viewers = viewers }) sites

-- The books of a plan: one for each site, in the plan's order, with a row for each of its stations, opened with that
-- station's limits.
pub record AreBooksOf (stations : List StationPlan) (sites : ℕ) (books : List Book) : Type 0 where
  pub count : length books ≡ sites
  pub each : (site : ℕ) (b : Book) → slice_get books site ≡ Some b → (b.site ≡ site) × (b.limits ≡ limits_at stations site)

-- The cell's row is in its site's book, opened with the cell's limits.
pub record IsHeld (books : List Book) (c : Cell) : Type 0 where
  pub book : Book
  pub there : slice_get books c.site ≡ Some book
  pub held : Holds c book

-- Each cell's row is in its site's book.
abbrev pub AreHeld : List Cell → List Book → Type 0
AreHeld cells books = (k : ℕ) (c : Cell) → slice_get cells k ≡ Some c → IsHeld books c

-- A book has the site and the rows of the one that was in its place.
pub record KeepsRows (first : List Book) (site : ℕ) (b : Book) : Type 0 where
  pub book : Book
  pub there : slice_get first site ≡ Some book
  pub number : b.site ≡ book.site
  pub limits : b.limits ≡ book.limits

-- Each book has the site and the rows of the one that was in its place.
abbrev pub AreRowsKept : List Book → List Book → Type 0
AreRowsKept first books = (site : ℕ) (b : Book) → slice_get books site ≡ Some b → KeepsRows first site b

-- No book has more than so many posts.
abbrev pub HaveFewPosts : List Book → ℕ → Type 0
HaveFewPosts books most = (site : ℕ) (b : Book) → slice_get books site ≡ Some b → length b.posts ≤ most

-- The cell's row is in its site's book, opened with the cell's limits, and shows the figures of its content.
pub record IsTied (books : List Book) (c : Cell) : Type 0 where
  pub book : Book
  pub there : slice_get books c.site ≡ Some book
  pub held : Holds c book
  pub tied : Tied c book

-- Each cell's row is in its site's book and shows the figures of its content.
abbrev pub AreTied : List Cell → List Book → Type 0
AreTied cells books = (k : ℕ) (c : Cell) → slice_get cells k ≡ Some c → IsTied books c

-- No two cells have the same row of the same site.
abbrev pub AreApart : List Cell → Type 0
AreApart cells = (j k : ℕ) (c d : Cell) → slice_get cells j ≡ Some c → slice_get cells k ≡ Some d → c.site ≡ d.site → c.row ≡ d.row → j ≡ k

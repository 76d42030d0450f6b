use Rattle.std.specs.Prelude.{◌≡◌, ℕ, ◌≤◌, List, length, Some, slice_get, sum_by}
use Rattle.ledger_model.{specs.declared.figures.Figures.Figures, specs.Figures.AreWithin, specs.Limits.Bounds, specs.Ranges.{most_stations, most_plan_readings}, specs.Posts.Post}

-- A site's book: the site's number, the limits of the station of each row, and all posts, first to last.
pub record Book : Type 0 where
  pub site : ℕ
  pub limits : List Bounds
  pub posts : List Post

-- What a viewer or a `Told` knows of a site's book: the site's number, and its first posts.
pub record Known : Type 0 where
  pub site : ℕ
  pub posts : List Post

-- Stations that one plan can have: no more than a plan may have, with limits of no more readings in all than a
-- plan may have.
pub record ArePlanned (limits : List Bounds) : Type 0 where
  pub few : length limits ≤ most_stations
  pub readings : sum_by (λ l. l.readings) limits ≤ most_plan_readings

-- The row is there, and its station can have these figures.
pub record Admits (limits : List Bounds) (row : ℕ) (figures : Figures) : Type 0 where
  pub bounds : Bounds
  pub there : slice_get limits row ≡ Some bounds
  pub within : AreWithin bounds figures

-- What these posts say of a site's book.
abbrev pub known : ℕ → List Post → Known
known site posts = record { site = site; posts = posts }

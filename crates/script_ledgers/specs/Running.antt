-- How the opened ledgers of a script are kept, and the state that they make.
use Rattle.std.specs.Prelude.{◌≡◌, ℕ, true, List, [], ◌∷◌, length, map, sum_by, Some, IfSome, slice_get}
use Rattle.ledger_model.{specs.declared.answer.Answer.Answer, specs.declared.command.Command.Command, specs.Step.answer, specs.World.{Station, World, world_after}}
use Rattle.site_book.specs.Book.{Book}
use Rattle.site_desk.{specs.declared.plan.SitePlan.SitePlan, specs.declared.plan.StationPlan.StationPlan, specs.Parts.{AreApart, limits_at, row_at}, specs.Plan.{order_at, period_at}, specs.Cell.{Cell, Held, Knows, Tallied, tally_of}, specs.Settle.{Holds, Tied}}
use Rattle.script_ledgers.{specs.Drafts.{Drafted, IsPlan, planned_world}, specs.Script.Script}

-- The stations, with the contents of their cells.
abbrev pub filled : World → List Cell → World
filled [] cells = []
filled (s ∷ ss) [] = []
filled (s ∷ ss) (c ∷ cells) = record s { content = c.content } ∷ filled ss cells

-- A script with its ledgers opened.
abbrev pub running : Drafted → List Cell → Script
running d cells =
    record {
      limits = d.limits;
      sites = map (λ s. s.name) d.sites;
      periods = map (λ s. s.period) d.sites;
      orders = map (λ s. s.order) d.sites;
      world = filled (planned_world d.sites d.stations) cells;
      opened = true;
      moment = d.moment;
    }

-- How many posts were made in all.
abbrev pub posts_in : List Book → ℕ
posts_in books = sum_by (λ b. length b.posts) books

-- A cell is that of the station of this number, with its site's length of periods and order.
pub record IsPlaced (sites : List SitePlan) (stations : List StationPlan) (number : ℕ) (s : StationPlan) (c : Cell) : Type 0 where
  pub station : c.station ≡ number
  pub site : c.site ≡ s.site
  pub row : c.row ≡ row_at stations s.site number
  pub limits : c.limits ≡ s.limits
  pub period : c.period ≡ period_at sites s.site
  pub order : c.order ≡ order_at sites s.site

-- A cell's row is in its site's book, and shows the figures of its content.
pub record IsShown (c : Cell) (b : Book) : Type 0 where
  pub held : Holds c b
  pub tied : Tied c b

-- What the opened ledgers keep: a cell and a tally for each station and a book for each site, in the
-- plan's order; each cell knows its tally; its row in its site's book belongs to no other cell and
-- shows the figures of its content.
pub record IsRunning (sites : List SitePlan) (stations : List StationPlan) (cells : List Cell) (books : List Book) (tallies : List Tallied) : Type 0 where
  pub plan : IsPlan sites stations
  pub all_cells : length cells ≡ length stations
  pub all_books : length books ≡ length sites
  pub all_tallies : length tallies ≡ length stations
  pub placed : (k : ℕ) (s : StationPlan) (c : Cell) → slice_get stations k ≡ Some s → slice_get cells k ≡ Some c → IsPlaced sites stations k s c
  pub books_are : (site : ℕ) (b : Book) → slice_get books site ≡ Some b → b.limits ≡ limits_at stations site
  pub known : (k : ℕ) (c : Cell) (t : Tallied) → slice_get cells k ≡ Some c → slice_get tallies k ≡ Some t → Knows c t
  pub shown : (k : ℕ) (c : Cell) (b : Book) → slice_get cells k ≡ Some c → slice_get books c.site ≡ Some b → IsShown c b
  pub apart : AreApart cells

-- A command on a station of a running script took its step, and this is the answer.
pub record Settles (old new : Script) (s : Station) (command : Command) (a : Answer) : Type 0 where
  pub answer_is : a ≡ answer s.limits s.content command
  pub script_is : new ≡ record old { world = world_after old.world (s.name, command) }

-- The same for the station of this number, if there is one.
abbrev pub SettlesAt : ℕ → Script → Script → Command → Answer → Type 0
SettlesAt number old new command a = IfSome (slice_get old.world number) (λ s. Settles old new s command a)

-- These are the passes of the cells, one for each, in their order: a pass belongs to its cell's
-- station, and the cell counts as many changes for it as it made.
pub record AreTheirPasses (cells : List Cell) (passes : List Held) : Type 0 where
  pub count : length passes ≡ length cells
  pub known : (k : ℕ) (c : Cell) (p : Held) → slice_get cells k ≡ Some c → slice_get passes k ≡ Some p → Knows c (tally_of p)

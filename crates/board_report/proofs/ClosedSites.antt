-- The figures of a closed desk's site, over its cells and over its stations' boards.
use Rattle.std.{proofs.Common.{◌≡◌, ℕ, zero, suc, Bool, true, false, cond, eqb, eqb-true, List, [], ◌∷◌, Some, ◌<◌, length, map, get_or, refl, subst, sym, ◌∙◌, arith}, specs.Prelude.{filter, slice_get, IfOk, Result, Err, Ok}}
use Rattle.ledger_model.{specs.Periods.Periods, specs.declared.figures.Figures.Figures, specs.declared.order.Order.Order, specs.Board.{Board, board_by, figures_by, site_board}, specs.Content.entries}
use Rattle.site_desk.{specs.declared.plan.SitePlan.SitePlan, specs.declared.plan.StationPlan.StationPlan, specs.Close.{Ended, IsClosable}, specs.declared.roster.StationPlace.StationPlace, specs.Roster.{AreNewPlaces, Roster, StandsAt, new_place}, specs.Cell.{Cell, Held}}
use Rattle.site_book.specs.Book.{Known}
use Rattle.board_report.{specs.Boards.{boards_at, site_named}, proofs.SiteBoards.some_same, specs.Closed.IsClosedOf}

pub figures_alike : (order : Order) (period : Periods) (xs : List StationPlan) (cells : List Cell) (site : ℕ) → length cells ≡ length xs
    → ((k : ℕ) (s : StationPlan) (c : Cell) → slice_get xs k ≡ Some s → slice_get cells k ≡ Some c → c.site ≡ s.site)
    → ((k : ℕ) (s : StationPlan) (c : Cell) → slice_get xs k ≡ Some s → slice_get cells k ≡ Some c → s.site ≡ site → c.order ≡ order)
    → map (λ (c : Cell). figures_by c.order (entries c.content)) (filter (λ (c : Cell). eqb c.site site) cells) ≡ map (λ (s : List ℕ × Board). s.1.figures) (boards_at order period xs cells site)
figures_alike order period [] [] site count sites orders = refl
figures_alike order period [] (c ∷ cells) site count sites orders = absurd (omega (arith, count))
figures_alike order period (x ∷ xs) [] site count sites orders = absurd (omega (arith, count))
figures_alike order period (x ∷ xs) (c ∷ cells) site count sites orders =
    let same : c.site ≡ x.site = sites zero x c refl refl in
    (λ i. map shown (cond (eqb (same i) site) (c ∷ others) others))
    ∙ one (eqb x.site site) refl (figures_alike order period xs cells site (omega (arith, count)) (λ k s d at is. sites (suc k) s d at is) (λ k s d at is. orders (suc k) s d at is))
  where
    shown : Cell → Figures
    shown d = figures_by d.order (entries d.content)

    others : List Cell
    others = filter (λ (d : Cell). eqb d.site site) cells

    one : (t : Bool) → eqb x.site site ≡ t → map shown others ≡ map (λ (s : List ℕ × Board). s.1.figures) (boards_at order period xs cells site)
        → map shown (cond t (c ∷ others) others)
        ≡ map (λ (s : List ℕ × Board). s.1.figures)
        (cond t ((x.name, board_by order period (entries c.content)) ∷ boards_at order period xs cells site) (boards_at order period xs cells site))
    one true here e = λ i. figures_by (orders zero x c refl refl (eqb-true x.site site here) i) (entries c.content) ∷ e i
    one false here e = e

-- the name of a site of the plan
pub name_at : (sites : List SitePlan) (site : ℕ) (other : SitePlan) → site < length sites → (get_or sites site other).name ≡ get_or (map (λ (p : SitePlan). p.name) sites) site []
name_at [] site other less = absurd (omega (arith, less))
name_at (p ∷ sites) zero other less = refl
name_at (p ∷ sites) (suc site) other less = name_at sites site other (omega (arith, less))

-- a board under the same name and totals is the same board
pub named_alike : (name other : List ℕ) (period : Periods) (order : Order) (totals all : Figures) (boards : List (List ℕ × Board))
    → name ≡ other → totals ≡ all → all ≡ (site_board period boards).figures
    → site_named name period order totals boards
    ≡ record {
      name = other;
      period = period;
      order = order;
      figures = (site_board period boards).figures;
      quarters = (site_board period boards).quarters;
      stations = (site_board period boards).stations;
    }
named_alike name other period order totals all boards n t e =
    λ i. record { name = n i; period = period; order = order; figures = (t ∙ e) i; quarters = (site_board period boards).quarters; stations = boards }

-- what is known of a value
pub value_told : {T E : Type 0} (r : Result T E) (P Q : T → Type 0) → ((x : T) → P x → Q x) → IfOk r P → IfOk r Q
value_told (Ok x) P Q f p = f x p
value_told (Err e) P Q f p = p

-- a desk that was closed is one of the stations that it was opened for
pub closed_of : (sites : List SitePlan) (xs : List StationPlan) (desk : Roster) (closed : Ended) (passes : List Held) (viewers : List Known)
    → desk.sites ≡ length sites → AreNewPlaces sites xs desk.stations → length closed.cells ≡ length desk.stations
    → length closed.books ≡ desk.sites → IsClosable desk.stations desk.viewers closed.cells closed.books passes viewers → IsClosedOf sites xs closed
closed_of sites xs desk closed passes viewers planned new count books whole =
    let stands : (k : ℕ) (s : StationPlan) (c : Cell) → slice_get xs k ≡ Some s → slice_get closed.cells k ≡ Some c → StandsAt k (new_place sites xs k s) c
    = λ k s c at is.
    let placed = (whole.whole k c is).placed in
    subst (λ p. StandsAt k p c) (some_same placed.place (new_place sites xs k s) (sym placed.there ∙ new.each k s at)) placed.stands in
    record {
      books = books ∙ planned;
      cells = record {
        count = count ∙ new.count;
        limits = λ k s c at is. (stands k s c at is).limits;
        periods = λ k s c at is. (stands k s c at is).period;
        orders = λ k s c at is. (stands k s c at is).order;
      };
      at_sites = λ k s c at is. (stands k s c at is).site;
      summed = whole.summed;
    }

-- The boards of the stations of a site, and the totals of its book.
use Rattle.std.{proofs.Common.{◌≡◌, ◌≢◌, ℕ, zero, suc, ◌+◌, ◌<◌, ◌≤◌, Bool, true, false, cond, eqb, List, [], ◌∷◌, ◌++◌, Option, None, Some, All, length, map, take, get_or, refl, subst, ap, sym, ◌∙◌, bytes_eq, arith, ⊎_elim}, specs.Prelude.{filter, slice_get, count_by}, specs.List.{list_any, position, range_with_len}, proofs.lemmas.Bool.{cases_eq, eq-eqb, false≢true, ne_eqb}, proofs.lemmas.List.{length-append, length-map, map-append, take_all}, proofs.lemmas.List.FromFn.map-range_with_len_more, proofs.lemmas.List.Sums.length-filter, proofs.lemmas.Option.get_or_from_slice_get, proofs.lemmas.Slice.Eq.bytes_eq-Decides}
use Rattle.ledger_model.{specs.Periods.Periods, specs.declared.order.Order.Order, specs.Board.{Board, board_by, figures_by, site_board, sum_of_figures}, specs.Content.entries, specs.Posts.row_after, specs.World.{Station, World}}
use Rattle.board_report.{specs.Named.NamedBoard, specs.Boards.boards_at, proofs.SiteBoards.{boards_more_no, boards_more_yes, stands}}
use Rattle.site_book.specs.Book.{Book}
use Rattle.site_desk.{specs.declared.plan.SitePlan.SitePlan, specs.declared.plan.StationPlan.StationPlan, specs.Parts.{limits_at, row_at}, specs.Plan.{has_twice, order_at}, proofs.Rows.{limits_more_no, limits_more_yes}, specs.Cell.{Cell, Tallied}}
use Rattle.script_ledgers.{specs.Drafts.{Drafted, planned_world, site_name}, specs.Running.{IsRunning, filled}, specs.Script.{shown_site, shown_station, stations_of}, proofs.Places.{neither, none_placed, some_placed}}

-- ---- the totals of a book

-- how many stations of a site there are
count_is : (site : ℕ) (ys : List StationPlan) → count_by (λ s. eqb s.site site) ys ≡ length (limits_at ys site)
count_is site ys = sym (length-filter (λ (s : StationPlan). eqb s.site site) ys) ∙ sym (length-map (filter (λ (s : StationPlan). eqb s.site site) ys) (λ (s : StationPlan). s.limits))

-- the row of a station is how many of its site come before it
row_is : (xs : List StationPlan) (site n : ℕ) → row_at xs site n ≡ length (limits_at (take n xs) site)
row_is xs site n = count_is site (take n xs)

module _ (d : Drafted) (cells : List Cell) (books : List Book) (tallies : List Tallied)
    (r : IsRunning d.sites d.stations cells books tallies) (period : Periods) (site : ℕ) (b : Book)
    (book : slice_get books site ≡ Some b) where
  abbrev order : Order
  order = order_at d.sites site

  abbrev Rows : ℕ → Type 0
  Rows n = map (λ row. row_after row b.posts) (range_with_len 0 (length (limits_at (take n d.stations) site)))
      ≡ map (λ (s : List ℕ × Board). s.1.figures) (boards_at order period (take n d.stations) cells site)

  rows_step : (n : ℕ) → n < length d.stations → Rows n → Rows (n + 1)
  rows_step n less rows =
      let s = stands d.stations n less in
      let c = stands cells n (omega (arith, less, r.all_cells)) in
      let place = r.placed n s.0 c.0 s.1 c.1 in
      let read : s.0 ≡ get_or d.stations n s.0 = sym (get_or_from_slice_get d.stations n s.0 s.0 s.1) in
      ⊎_elim
      (λ (e : s.0.site ≡ site).
      let m = length (limits_at (take n d.stations) site) in
      let row : c.0.row ≡ m = place.row ∙ ap (λ k. row_at d.stations k n) e ∙ row_is d.stations site n in
      let tied = (r.shown n c.0 b c.1 (ap (slice_get books) (place.site ∙ e) ∙ book)).tied in
      let shown : row_after m b.posts ≡ figures_by order (entries c.0.content) =
      ap (λ k. row_after k b.posts) (sym row) ∙ tied ∙ ap (λ o. figures_by o (entries c.0.content)) (place.order ∙ ap (order_at d.sites) e) in
      let count : length (limits_at (take (n + 1) d.stations) site) ≡ m + 1 =
      ap length (limits_more_yes d.stations site n s.0 less read e) ∙ length-append (limits_at (take n d.stations) site) (s.0.limits ∷ []) in
      ap (λ k. map (λ row. row_after row b.posts) (range_with_len 0 k)) count
      ∙ map-range_with_len_more (λ row. row_after row b.posts) 0 m m (omega arith)
      ∙ (λ i. rows i ++ shown i ∷ [])
      ∙ sym (map-append (λ (x : List ℕ × Board). x.1.figures) (boards_at order period (take n d.stations) cells site) ((s.0.name, board_by order period (entries c.0.content)) ∷ []))
      ∙ ap (map (λ (x : List ℕ × Board). x.1.figures)) (sym (boards_more_yes order period d.stations cells site n s.0 c.0 s.1 c.1 e)))
      (λ (e : s.0.site ≢ site).
      ap (λ l. map (λ row. row_after row b.posts) (range_with_len 0 (length l))) (limits_more_no d.stations site n s.0 less read e)
      ∙ rows
      ∙ ap (map (λ (x : List ℕ × Board). x.1.figures)) (sym (boards_more_no order period d.stations cells site n s.0 c.0 s.1 c.1 e)))
      (cases_eq s.0.site site)

  all_rows : (n : ℕ) → n ≤ length d.stations → Rows n
  all_rows zero most = refl
  all_rows (suc n) most = let same : n + 1 ≡ suc n = omega arith in subst Rows same (rows_step n (omega (arith, most)) (all_rows n (omega (arith, most))))

  -- the sums over a book's rows are those over the boards of its stations
  pub totals_are : sum_of_figures (map (λ row. row_after row b.posts) (range_with_len 0 (length b.limits)))
      ≡ (site_board period (boards_at (order_at d.sites site) period d.stations cells site)).figures
  totals_are =
      let all : take (length d.stations) d.stations ≡ d.stations = take_all (length d.stations) d.stations (omega arith) in
      ap (λ l. sum_of_figures (map (λ row. row_after row b.posts) (range_with_len 0 (length l)))) (r.books_are site b book ∙ ap (λ xs. limits_at xs site) (sym all))
      ∙ ap sum_of_figures (all_rows (length d.stations) (omega arith))
      ∙ ap (λ xs. sum_of_figures (map (λ (s : List ℕ × Board). s.1.figures) (boards_at order period xs cells site))) all

-- ---- the stations of a site

none_at : (names : List (List ℕ)) (n : List ℕ) (k : ℕ) → list_any (bytes_eq n) names ≡ false → k < length names → bytes_eq n (get_or names k []) ≡ false
none_at [] n k none less = absurd (omega arith)
none_at (m ∷ names) n zero none less = (neither (bytes_eq n m) (list_any (bytes_eq n) names) none).0
none_at (m ∷ names) n (suc k) none less = none_at names n k (neither (bytes_eq n m) (list_any (bytes_eq n) names) none).1 (omega (arith, less))

differ : (m n : List ℕ) → bytes_eq m n ≡ false → m ≡ n → ⊥
differ m n apart same = false≢true (sym apart ∙ (bytes_eq-Decides m n).1 same)

-- names that occur once are in one place
pub one_place : (names : List (List ℕ)) (j k : ℕ) → has_twice names ≡ false → j < length names → k < length names → get_or names j [] ≡ get_or names k [] → j ≡ k
one_place [] j k once lj lk same = absurd (omega arith)
one_place (m ∷ names) zero zero once lj lk same = refl
one_place (m ∷ names) zero (suc k) once lj lk same = absurd (differ m (get_or names k []) (none_at names m k (neither (list_any (bytes_eq m) names) (has_twice names) once).0 (omega (arith, lk))) same)
one_place (m ∷ names) (suc j) zero once lj lk same =
    absurd (differ m (get_or names j []) (none_at names m j (neither (list_any (bytes_eq m) names) (has_twice names) once).0 (omega (arith, lj))) (sym same))
one_place (m ∷ names) (suc j) (suc k) once lj lk same = ap suc (one_place names j k (neither (list_any (bytes_eq m) names) (has_twice names) once).1 (omega (arith, lj)) (omega (arith, lk)) same)

-- what has a name that occurs once is found by it
pub found_once : {X : Type 0} (f : X → List ℕ) (xs : List X) (k : ℕ) (name : List ℕ) → has_twice (map f xs) ≡ false
    → k < length xs → get_or (map f xs) k [] ≡ name → position (λ x. bytes_eq name (f x)) xs ≡ Some k
found_once {X} f xs k name once less named = at (position (λ (x : X). bytes_eq name (f x)) xs) refl
  where
    names : List (List ℕ)
    names = map f xs

    within : (n : ℕ) → n < length xs → n < length names
    within n lt = omega (arith, lt, length-map xs f)

    at : (o : Option ℕ) → position (λ (x : X). bytes_eq name (f x)) xs ≡ o → o ≡ Some k
    at None e =
        let none = none_placed {X = X} f name xs e in
        let never : bytes_eq name (get_or names k []) ≡ false = none_at names name k none (within k less) in
        absurd (false≢true (sym never ∙ (bytes_eq-Decides name (get_or names k [])).1 (sym named)))
    at (Some n) e =
        let there = some_placed {X = X} f name xs n e in
        ap Some (one_place names n k once (within n there.less) (within k less) (there.named ∙ sym named))

-- a site is found by its name
pub at_site : (sites : List SitePlan) (site : ℕ) → has_twice (map (λ s. s.name) sites) ≡ false → site < length sites → position (λ s. bytes_eq (site_name sites site) s.name) sites ≡ Some site
at_site sites site once less = found_once {X = SitePlan} (λ s. s.name) sites site (site_name sites site) once less refl

-- a site is found by its name as by its number
found_alike : (sites : List SitePlan) (name : List ℕ) (site k : ℕ) → has_twice (map (λ (s : SitePlan). s.name) sites) ≡ false → site < length sites → k < length sites → site_name sites site ≡ name
    → bytes_eq name (site_name sites k) ≡ eqb k site
found_alike sites name site k once less lk named = ⊎_elim
    (λ (e : k ≡ site). (bytes_eq-Decides name (site_name sites k)).1 (sym named ∙ ap (site_name sites) (sym e)) ∙ sym (eq-eqb k site e))
    (λ (e : k ≢ site).
    no_match (bytes_eq name (site_name sites k)) refl
    (λ is. e (one_place (map (λ (s : SitePlan). s.name) sites) k site once
    (omega (arith, lk, length-map sites (λ (s : SitePlan). s.name)))
    (omega (arith, less, length-map sites (λ (s : SitePlan). s.name)))
    (sym ((bytes_eq-Decides name (site_name sites k)).0 is) ∙ sym named)))
    ∙ sym (ne_eqb k site e))
    (cases_eq k site)
  where
    no_match : (c : Bool) → bytes_eq name (site_name sites k) ≡ c → (bytes_eq name (site_name sites k) ≡ true → ⊥) → c ≡ false
    no_match true is never = absurd (never is)
    no_match false is never = refl

-- the boards of a site's stations, found by its name
shown_alike : (order : Order) (period : Periods) (sites : List SitePlan) (stations : List StationPlan) (cells : List Cell) (name : List ℕ) (site : ℕ)
    → All (λ s. bytes_eq name (site_name sites s.site) ≡ eqb s.site site) stations
    → map (shown_station order period) (stations_of name (filled (planned_world sites stations) cells)) ≡ boards_at order period stations cells site
shown_alike order period sites [] cells name site all = refl
shown_alike order period sites (s ∷ stations) [] name site all = refl
shown_alike order period sites (s ∷ stations) (c ∷ cells) name site all =
    ap (λ t. map (shown_station order period) (cond t (first ∷ rest) rest)) (all 0 s (omega arith))
    ∙ one (eqb s.site site) (shown_alike order period sites stations cells name site (λ k d lt. all (suc k) d (omega (arith, lt))))
  where
    first : Station
    first = record { site = site_name sites s.site; name = s.name; limits = s.limits; content = c.content }

    rest : World
    rest = stations_of name (filled (planned_world sites stations) cells)

    one : (t : Bool) → map (shown_station order period) rest ≡ boards_at order period stations cells site
        → map (shown_station order period) (cond t (first ∷ rest) rest)
        ≡ cond t ((s.name, board_by order period (entries c.content)) ∷ boards_at order period stations cells site) (boards_at order period stations cells site)
    one true e = ap (λ l. (s.name, board_by order period (entries c.content)) ∷ l) e
    one false e = e

pub site_shown : (order : Order) (period : Periods) (sites : List SitePlan) (stations : List StationPlan) (cells : List Cell) (name : List ℕ) (site : ℕ)
    → has_twice (map (λ s. s.name) sites) ≡ false → All (λ s. s.site < length sites) stations
    → position (λ s. bytes_eq name s.name) sites ≡ Some site
    → map (shown_station order period) (stations_of name (filled (planned_world sites stations) cells)) ≡ boards_at order period stations cells site
site_shown order period sites stations cells name site once placed e =
    let there = some_placed {X = SitePlan} (λ s. s.name) name sites site e in
    shown_alike order period sites stations cells name site (λ k s lt. found_alike sites name site (get_or stations k s).site once there.less (placed k s lt) there.named)

-- ---- the board

pub board_is : (name : List ℕ) (in_order order : Order) (by period : Periods) (b : NamedBoard) (stations : World) (boards : List (List ℕ × Board))
    → map (shown_station order period) stations ≡ boards → in_order ≡ order → by ≡ period → b.name ≡ name → b.period ≡ period
    → b.order ≡ order → b.figures ≡ (site_board period boards).figures → b.quarters ≡ (site_board period boards).quarters
    → b.stations ≡ boards
    → b ≡ shown_site name in_order by stations
board_is name in_order order by period b stations boards shown ordered same names period_is order_is figures_are quarters_are stations_are =
    ◌∙◌ {A = NamedBoard} (λ i. record { name = names i; period = period_is i; order = order_is i; figures = figures_are i; quarters = quarters_are i; stations = stations_are i })
    (◌∙◌ {A = NamedBoard}
    (λ i. record {
      name = name;
      period = period;
      order = order;
      figures = (site_board period (sym shown i)).figures;
      quarters = (site_board period (sym shown i)).quarters;
      stations = sym shown i;
    })
    (λ i. shown_site name (sym ordered i) (sym same i) stations))

-- Running ledgers: what a settled command keeps of them, and the script that they are seen as.
use Rattle.std.{proofs.Common.{◌≡◌, ◌≢◌, ℕ, zero, suc, ◌<◌, ◌≤◌, true, false, cond, List, [], ◌∷◌, Some, length, map, set, refl, subst, ap, sym, ◌∙◌, bytes_eq, arith, ⊎_elim}, specs.Prelude.{IfSome, slice_get}, specs.List.list_any, proofs.lemmas.List.length-set, proofs.lemmas.List.Sums.sum_by-set, proofs.lemmas.Bool.cases_eq, proofs.lemmas.Option.{get_or_from_slice_get, slice_get_within}, proofs.lemmas.Slice.Eq.bytes_eq-Decides}
use Rattle.ledger_model.{specs.declared.answer.Answer.Answer, specs.declared.command.Command.Command, specs.Content.Content, specs.Step.{answer, step}, specs.World.{Station, World, station_after, world_after}}
use Rattle.site_book.{specs.Book.Book, proofs.Named.{get_else, get_here}}
use Rattle.site_desk.{specs.declared.plan.SitePlan.SitePlan, specs.declared.plan.StationPlan.StationPlan, specs.Parts.{AreTied, limits_at}, specs.Plan.has_twice, proofs.Ties.{apart_step, tied_step}, specs.Cell.{Cell, Held, Tallied, Knows}, specs.Settle.{Holds, Tied, cell_after, posts_after}}
use Rattle.board_report.proofs.SiteBoards.{some_same, stands}
use Rattle.script_ledgers.{specs.Drafts.{Drafted, planned_world, site_name}, specs.Running.{IsPlaced, IsRunning, IsShown, Settles, filled, posts_in, running}, specs.Script.new_station, proofs.Places.{AreAlike, differ_back, neither}}

module _ (sites : List SitePlan) (stations : List StationPlan) (cells : List Cell) (books : List Book) (tallies : List Tallied) (r : IsRunning sites stations cells books tallies) where
  -- ---- what holds of one station

  -- a station, its cell, its tally and its site's book
  pub record IsHere (k : ℕ) : Type 0 where
    pub planned : StationPlan
    pub is_planned : slice_get stations k ≡ Some planned
    pub cell : Cell
    pub is_cell : slice_get cells k ≡ Some cell
    pub tally : Tallied
    pub is_tally : slice_get tallies k ≡ Some tally
    pub book : Book
    pub is_book : slice_get books cell.site ≡ Some book

  -- its site is one of the plan's
  pub site_within : (k : ℕ) (s : StationPlan) → slice_get stations k ≡ Some s → s.site < length sites
  site_within k s at =
      let less = slice_get_within stations k s at in
      subst (λ (x : StationPlan). x.site < length sites) (get_or_from_slice_get stations k s s at) (r.plan.placed k s less)

  pub here : (k : ℕ) → k < length stations → IsHere k
  here k less =
      let s = stands stations k less in
      let c = stands cells k (omega (arith, less, r.all_cells)) in
      let p = stands tallies k (omega (arith, less, r.all_tallies)) in
      let site : c.0.site < length books = omega (arith, (r.placed k s.0 c.0 s.1 c.1).site, site_within k s.0 s.1, r.all_books) in
      let b = stands books c.0.site site in
      record { planned = s.0; is_planned = s.1; cell = c.0; is_cell = c.1; tally = p.0; is_tally = p.1; book = b.0; is_book = b.1 }

  pub site_in_books : (k : ℕ) (c : Cell) → slice_get cells k ≡ Some c → c.site < length books
  site_in_books k c at =
      let h = here k (omega (arith, slice_get_within cells k c at, r.all_cells)) in
      let same : h.cell ≡ c = some_same h.cell c (sym h.is_cell ∙ at) in
      subst (λ (x : Cell). x.site < length books) same (slice_get_within books h.cell.site h.book h.is_book)

  pub are_tied : AreTied cells books
  are_tied k c at =
      let b = stands books c.site (site_in_books k c at) in
      let shown = r.shown k c b.0 at b.1 in
      record { book = b.0; there = b.1; held = shown.held; tied = shown.tied }

  -- the posts of one book are no more than all
  pub posts_of_one : (k : ℕ) (b : Book) → slice_get books k ≡ Some b → length b.posts ≤ posts_in books
  posts_of_one k b at = one books k b at
    where
      one : (bs : List Book) (j : ℕ) (x : Book) → slice_get bs j ≡ Some x → length x.posts ≤ posts_in bs
      one bs j x is =
          let less = slice_get_within bs j x is in
          omega (arith, sum_by-set (λ (y : Book). length y.posts) bs j (record x { posts = [] }) x less, ap (λ (y : Book). length y.posts) (get_or_from_slice_get bs j x x is))

  -- ---- after a command on one station

  module _ (k : ℕ) (c c' : Cell) (p : Held) (u u' : Tallied) (b b' : Book) (command : Command) (a : Answer) (at : slice_get cells k ≡ Some c)
      (held : slice_get tallies k ≡ Some u) (book : slice_get books c.site ≡ Some b)
      (cell_is : c' ≡ cell_after c p command) (book_is : b' ≡ record b { posts = posts_after b.posts c' a }) (answer_is : a ≡ answer c.limits c.content command) (known : Knows c' u') where
    tied_then : AreTied (set cells k c') (set books c.site b')
    tied_then = tied_step cells books k c c' b b' p command a at book cell_is book_is answer_is are_tied r.apart

    kept_place : (s : StationPlan) → IsPlaced sites stations k s c → IsPlaced sites stations k s c'
    kept_place s place = record {
      station = ap (λ (x : Cell). x.station) cell_is ∙ place.station;
      site = ap (λ (x : Cell). x.site) cell_is ∙ place.site;
      row = ap (λ (x : Cell). x.row) cell_is ∙ place.row;
      limits = ap (λ (x : Cell). x.limits) cell_is ∙ place.limits;
      period = ap (λ (x : Cell). x.period) cell_is ∙ place.period;
      order = ap (λ (x : Cell). x.order) cell_is ∙ place.order;
    }

    placed_then : (j : ℕ) (s : StationPlan) (d : Cell) → slice_get stations j ≡ Some s → slice_get (set cells k c') j ≡ Some d → IsPlaced sites stations j s d
    placed_then j s d planned is = ⊎_elim
        (λ (e : j ≡ k).
        let same : c' ≡ d = some_same c' d (sym (get_here cells k c c' at) ∙ ap (slice_get (set cells k c')) (sym e) ∙ is) in
        let here_planned : slice_get stations k ≡ Some s = ap (slice_get stations) (sym e) ∙ planned in
        subst (λ (n : ℕ). IsPlaced sites stations n s d) (sym e) (subst (IsPlaced sites stations k s) same (kept_place s (r.placed k s c here_planned at))))
        (λ (other : j ≢ k). r.placed j s d planned (sym (get_else cells k j c' other) ∙ is))
        (cases_eq j k)

    known_then : (j : ℕ) (d : Cell) (q : Tallied) → slice_get (set cells k c') j ≡ Some d → slice_get (set tallies k u') j ≡ Some q → Knows d q
    known_then j d q is has = ⊎_elim
        (λ (e : j ≡ k).
        let same : c' ≡ d = some_same c' d (sym (get_here cells k c c' at) ∙ ap (slice_get (set cells k c')) (sym e) ∙ is) in
        let same_tally : u' ≡ q = some_same u' q (sym (get_here tallies k u u' held) ∙ ap (slice_get (set tallies k u')) (sym e) ∙ has) in
        subst (λ x. Knows x q) same (subst (Knows c') same_tally known))
        (λ (other : j ≢ k). r.known j d q (sym (get_else cells k j c' other) ∙ is) (sym (get_else tallies k j u' other) ∙ has))
        (cases_eq j k)

    books_then : (site : ℕ) (x : Book) → slice_get (set books c.site b') site ≡ Some x → x.limits ≡ limits_at stations site
    books_then site x is = ⊎_elim
        (λ (e : site ≡ c.site).
        let same : b' ≡ x = some_same b' x (sym (get_here books c.site b b' book) ∙ ap (slice_get (set books c.site b')) (sym e) ∙ is) in
        ap (λ (y : Book). y.limits) (sym same) ∙ ap (λ (y : Book). y.limits) book_is ∙ r.books_are c.site b book ∙ ap (limits_at stations) (sym e))
        (λ (other : site ≢ c.site). r.books_are site x (sym (get_else books c.site site b' other) ∙ is))
        (cases_eq site c.site)

    shown_then : (j : ℕ) (d : Cell) (x : Book) → slice_get (set cells k c') j ≡ Some d → slice_get (set books c.site b') d.site ≡ Some x → IsShown d x
    shown_then j d x is has =
        let t = tied_then j d is in
        let same : t.book ≡ x = some_same t.book x (sym t.there ∙ has) in
        record { held = subst (Holds d) same t.held; tied = subst (Tied d) same t.tied }

    pub still_running : IsRunning sites stations (set cells k c') (set books c.site b') (set tallies k u')
    still_running = record {
      plan = r.plan;
      all_cells = length-set cells k c' ∙ r.all_cells;
      all_books = length-set books c.site b' ∙ r.all_books;
      all_tallies = length-set tallies k u' ∙ r.all_tallies;
      placed = placed_then;
      books_are = books_then;
      known = known_then;
      shown = shown_then;
      apart = apart_step cells k c c' at (ap (λ (x : Cell). x.site) cell_is) (ap (λ (x : Cell). x.row) cell_is) r.apart;
    }

-- ---- the script

-- the world of running ledgers has the stations' names
pub alike_running : (sites : List SitePlan) (stations : List StationPlan) (cells : List Cell) → length cells ≡ length stations
    → AreAlike {X = StationPlan} (λ s. s.name) stations (filled (planned_world sites stations) cells)
alike_running sites [] cells count = tt
alike_running sites (s ∷ stations) [] count = absurd (omega (arith, count))
alike_running sites (s ∷ stations) (c ∷ cells) count = (refl, alike_running sites stations cells (omega (arith, count)))

-- the station at a place
pub station_at : (w : World) (cells : List Cell) (k : ℕ) (s : Station) (c : Cell) → slice_get w k ≡ Some s
    → slice_get cells k ≡ Some c → slice_get (filled w cells) k ≡ Some (record s { content = c.content })
station_at [] cells k s c at is = absurd (cc at)
station_at (x ∷ w) [] k s c at is = absurd (cc is)
station_at (x ∷ w) (d ∷ cells) zero s c at is = let same : x ≡ s = some_same x s at in let cell : d ≡ c = some_same d c is in λ i. Some (record (same i) { content = (cell i).content })
station_at (x ∷ w) (d ∷ cells) (suc k) s c at is = station_at w cells k s c at is

-- the names of a plan's stations
pub names_planned : (sites : List SitePlan) (stations : List StationPlan) → map (λ (s : Station). s.name) (planned_world sites stations) ≡ map (λ (s : StationPlan). s.name) stations
names_planned sites [] = refl
names_planned sites (s ∷ stations) = ap (λ l. s.name ∷ l) (names_planned sites stations)

-- a name that none has is not that of a station
other_name : (w : World) (name : List ℕ) (k : ℕ) (s : Station) → list_any (bytes_eq name) (map (λ (x : Station). x.name) w) ≡ false → slice_get w k ≡ Some s → bytes_eq name s.name ≡ false
other_name [] name k s none at = absurd (cc at)
other_name (x ∷ w) name zero s none at =
    let same : x ≡ s = some_same x s at in
    ap (λ (y : Station). bytes_eq name y.name) (sym same) ∙ (neither (bytes_eq name x.name) (list_any (bytes_eq name) (map (λ (y : Station). y.name) w)) none).0
other_name (x ∷ w) name (suc k) s none at = other_name w name k s (neither (bytes_eq name x.name) (list_any (bytes_eq name) (map (λ (y : Station). y.name) w)) none).1 at

-- a command on a name that no station has
no_other : (w : World) (cells : List Cell) (name : List ℕ) (command : Command)
    → list_any (bytes_eq name) (map (λ (x : Station). x.name) w) ≡ false
    → world_after (filled w cells) (name, command) ≡ filled w cells
no_other [] cells name command none = refl
no_other (x ∷ w) [] name command none = refl
no_other (x ∷ w) (c ∷ cells) name command none =
    let p = neither (bytes_eq name x.name) (list_any (bytes_eq name) (map (λ (y : Station). y.name) w)) none in
    let y : Station = record x { content = c.content } in
    ap (λ b. cond b (station_after y command) y ∷ world_after (filled w cells) (name, command)) p.0 ∙ ap (λ l. y ∷ l) (no_other w cells name command p.1)

-- a command on the station of a place
pub step_world : (w : World) (cells : List Cell) (k : ℕ) (s : Station) (c c' : Cell) (command : Command)
    → has_twice (map (λ (x : Station). x.name) w) ≡ false → slice_get w k ≡ Some s → slice_get cells k ≡ Some c
    → c'.content ≡ (step s.limits c.content command).0 → filled w (set cells k c') ≡ world_after (filled w cells) (s.name, command)
step_world [] cells k s c c' command once at is after = absurd (cc at)
step_world (x ∷ w) [] k s c c' command once at is after = absurd (cc is)
step_world (x ∷ w) (d ∷ cells) zero s c c' command once at is after =
    let same : x ≡ s = some_same x s at in
    let cell : d ≡ c = some_same d c is in
    let p = neither (list_any (bytes_eq x.name) (map (λ (y : Station). y.name) w)) (has_twice (map (λ (y : Station). y.name) w)) once in
    let y : Station = record x { content = d.content } in
    let mine : bytes_eq s.name x.name ≡ true = (bytes_eq-Decides s.name x.name).1 (ap (λ (z : Station). z.name) (sym same)) in
    let content : c'.content ≡ (step x.limits d.content command).0 = after ∙ (λ i. (step ((sym same i).limits) ((sym cell i).content) command).0) in
    ap (λ (z : Content). record x { content = z } ∷ filled w cells) content
    ∙ ap (λ b. cond b (station_after y command) y ∷ filled w cells) (sym mine)
    ∙ ap (λ l. cond (bytes_eq s.name x.name) (station_after y command) y ∷ l) (sym (no_other w cells x.name command p.0) ∙ ap (λ (z : Station). world_after (filled w cells) (z.name, command)) same)
step_world (x ∷ w) (d ∷ cells) (suc k) s c c' command once at is after =
    let p = neither (list_any (bytes_eq x.name) (map (λ (y : Station). y.name) w)) (has_twice (map (λ (y : Station). y.name) w)) once in
    let y : Station = record x { content = d.content } in
    let other : bytes_eq s.name x.name ≡ false = differ_back x.name s.name (other_name w x.name k s p.0 at) in
    ap (λ l. y ∷ l) (step_world w cells k s c c' command p.1 at is after)
    ∙ ap (λ b. cond b (station_after y command) y ∷ world_after (filled w cells) (s.name, command)) (sym other)

-- the station of a plan at a place
pub planned_at : (sites : List SitePlan) (stations : List StationPlan) (k : ℕ) (s : StationPlan) → slice_get stations k ≡ Some s
    → slice_get (planned_world sites stations) k ≡ Some (new_station s.limits (site_name sites s.site) s.name)
planned_at sites [] k s at = absurd (cc at)
planned_at sites (x ∷ stations) zero s at = ap (λ (y : StationPlan). Some (new_station y.limits (site_name sites y.site) y.name)) (some_same x s at)
planned_at sites (x ∷ stations) (suc k) s at = planned_at sites stations k s at

-- a command that was settled takes the step of the script's station
pub settles : (d : Drafted) (cells : List Cell) (books : List Book) (tallies : List Tallied)
    (r : IsRunning d.sites d.stations cells books tallies) (k : ℕ) (c c' : Cell) (p : Held) (command : Command) (a : Answer)
    → slice_get cells k ≡ Some c → c' ≡ cell_after c p command → a ≡ answer c.limits c.content command
    → IfSome (slice_get (filled (planned_world d.sites d.stations) cells) k) (λ s. Settles (running d cells) (running d (set cells k c')) s command a)
settles d cells books tallies r k c c' p command a at is answered =
    let less : k < length d.stations = omega (arith, slice_get_within cells k c at, r.all_cells) in
    let s = stands d.stations k less in
    let place = r.placed k s.0 c s.1 at in
    let w = planned_world d.sites d.stations in
    let mine : Station = new_station s.0.limits (site_name d.sites s.0.site) s.0.name in
    let there : slice_get w k ≡ Some mine = planned_at d.sites d.stations k s.0 s.1 in
    let content : c'.content ≡ (step s.0.limits c.content command).0 = ap (λ (x : Cell). x.content) is ∙ ap (λ l. (step l c.content command).0) place.limits in
    let once : has_twice (map (λ (x : Station). x.name) w) ≡ false = ap has_twice (names_planned d.sites d.stations) ∙ r.plan.stations_once in
    let world : filled w (set cells k c') ≡ world_after (filled w cells) (s.0.name, command) = step_world w cells k mine c c' command once there at content in
    let shown : Settles (running d cells) (running d (set cells k c')) (record mine { content = c.content }) command a = record {
      answer_is = answered ∙ ap (λ l. answer l c.content command) place.limits;
      script_is = ap (λ x. record (running d cells) { world = x }) world;
    } in
    subst (λ o. IfSome o (λ t. Settles (running d cells) (running d (set cells k c')) t command a)) (sym (station_at w cells k mine c there at)) shown

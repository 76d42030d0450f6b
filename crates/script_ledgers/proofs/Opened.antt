-- Ledgers that were just opened.
use Rattle.std.{proofs.Common.{◌≡◌, ℕ, zero, suc, List, [], ◌∷◌, Some, All, length, map, refl, subst, ap, sym, ◌∙◌, arith}, specs.Prelude.slice_get, proofs.lemmas.List.length-map, proofs.lemmas.List.Sums.sum_by-cons, proofs.lemmas.Option.{get_or_from_slice_get, slice_get_within}}
use Rattle.ledger_model.specs.Content.{empty_content}
use Rattle.site_book.specs.Book.{Book}
use Rattle.site_desk.{specs.declared.plan.SitePlan.SitePlan, specs.declared.plan.StationPlan.StationPlan, specs.Parts.{AreApart, AreNewBooks, AreNewCells, AreTied, limits_at, new_book, row_at}, specs.Plan.{order_at, period_at}, specs.Cell.{Cell, Tallied, Knows, new_cell, new_tally}, specs.Settle.{Holds, Tied}}
use Rattle.board_report.proofs.SiteBoards.{some_same, stands}
use Rattle.script_ledgers.{specs.Drafts.{IsPlan, planned_world, site_name}, specs.Running.{IsPlaced, IsRunning, IsShown, filled, posts_in}, specs.Script.new_station, proofs.Enlisted.first_given}

-- new cells have given no pass
pub none_given : (sites : List SitePlan) (stations : List StationPlan) (cells : List Cell) → AreNewCells sites stations cells → All (λ c. c.counts ≡ []) cells
none_given sites stations cells new k d less =
    let s = stands stations k (omega (arith, less, new.count)) in
    ap (λ (c : Cell). c.counts) (get_or_from_slice_get cells k _ d (new.each k s.0 s.1))

-- the element that an element of a mapped list was made of
pub mapped_from : {X Y : Type 0} (f : X → Y) (xs : List X) (k : ℕ) (y : Y) → slice_get (map f xs) k ≡ Some y → (x : X) × ((slice_get xs k ≡ Some x) × (f x ≡ y))
mapped_from f [] k y at = absurd (cc at)
mapped_from f (x ∷ xs) zero y at = (x, (refl, some_same (f x) y at))
mapped_from f (x ∷ xs) (suc k) y at = mapped_from f xs k y at

module _ (sites : List SitePlan) (stations : List StationPlan) (old : List Cell) (books : List Book) (cells : List Cell) (tallies : List Tallied)
    (plan : IsPlan sites stations) (new : AreNewCells sites stations old) (made : AreNewBooks stations (length sites) books) (tied : AreTied old books) (apart : AreApart old)
    (cells_are : cells ≡ map first_given old) (tallies_are : tallies ≡ map (λ (c : Cell). new_tally c.station 0) old) where
  -- what a cell was before it gave its pass
  was : (k : ℕ) (c : Cell) → slice_get cells k ≡ Some c → (o : Cell) × ((slice_get old k ≡ Some o) × (first_given o ≡ c))
  was k c at = mapped_from first_given old k c (ap (λ l. slice_get l k) (sym cells_are) ∙ at)

  placed_new : (k : ℕ) (s : StationPlan) (c : Cell) → slice_get stations k ≡ Some s → slice_get cells k ≡ Some c → IsPlaced sites stations k s c
  placed_new k s c planned at =
      let o = was k c at in
      let is : o.0 ≡ new_cell k s.site (row_at stations s.site k) s.limits (period_at sites s.site) (order_at sites s.site) =
      some_same o.0 (new_cell k s.site (row_at stations s.site k) s.limits (period_at sites s.site) (order_at sites s.site)) (sym o.1.0 ∙ new.each k s planned) in
      let c_is : first_given (new_cell k s.site (row_at stations s.site k) s.limits (period_at sites s.site) (order_at sites s.site)) ≡ c = ap first_given (sym is) ∙ o.1.1 in
      subst (IsPlaced sites stations k s) c_is (record { station = refl; site = refl; row = refl; limits = refl; period = refl; order = refl })

  books_new : (site : ℕ) (b : Book) → slice_get books site ≡ Some b → b.limits ≡ limits_at stations site
  books_new site b at =
      let less = slice_get_within books site b at in
      let is : new_book stations site ≡ b = some_same (new_book stations site) b (sym (made.each site (omega (arith, less, made.count))) ∙ at) in
      ap (λ (x : Book). x.limits) (sym is)

  known_new : (k : ℕ) (c : Cell) (p : Tallied) → slice_get cells k ≡ Some c → slice_get tallies k ≡ Some p → Knows c p
  known_new k c p at has =
      let o = was k c at in
      let q = mapped_from (λ (x : Cell). new_tally x.station 0) old k p (ap (λ l. slice_get l k) (sym tallies_are) ∙ has) in
      let same : o.0 ≡ q.0 = some_same o.0 q.0 (sym o.1.0 ∙ q.1.0) in
      let pass : new_tally o.0.station 0 ≡ p = ap (λ (x : Cell). new_tally x.station 0) same ∙ q.1.1 in
      subst (λ x. Knows x p) o.1.1 (subst (Knows (first_given o.0)) pass (record { station = refl; count = refl }))

  shown_new : (k : ℕ) (c : Cell) (b : Book) → slice_get cells k ≡ Some c → slice_get books c.site ≡ Some b → IsShown c b
  shown_new k c b at book =
      let o = was k c at in
      let t = tied k o.0 o.1.0 in
      let same : t.book ≡ b = some_same t.book b (sym t.there ∙ ap (λ (x : Cell). slice_get books x.site) o.1.1 ∙ book) in
      let first : IsShown (first_given o.0) b = record { held = subst (Holds o.0) same t.held; tied = subst (Tied o.0) same t.tied } in
      subst (λ x. IsShown x b) o.1.1 first

  apart_new : AreApart cells
  apart_new j k c d at there site row =
      let o = was j c at in
      let p = was k d there in
      apart j k o.0 p.0 o.1.0 p.1.0 (ap (λ (x : Cell). x.site) o.1.1 ∙ site ∙ sym (ap (λ (x : Cell). x.site) p.1.1)) (ap (λ (x : Cell). x.row) o.1.1 ∙ row ∙ sym (ap (λ (x : Cell). x.row) p.1.1))

  pub opened_running : IsRunning sites stations cells books tallies
  opened_running = record {
    plan = plan;
    all_cells = ap length cells_are ∙ length-map old first_given ∙ new.count;
    all_books = made.count;
    all_tallies = ap length tallies_are ∙ length-map old (λ (c : Cell). new_tally c.station 0) ∙ new.count;
    placed = placed_new;
    books_are = books_new;
    known = known_new;
    shown = shown_new;
    apart = apart_new;
  }

  -- the contents are empty
  empty_new : (k : ℕ) (c : Cell) → slice_get cells k ≡ Some c → c.content ≡ empty_content
  empty_new k c at =
      let o = was k c at in
      let s = stands stations k (omega (arith, slice_get_within old k o.0 o.1.0, new.count)) in
      let is : o.0 ≡ new_cell k s.0.site (row_at stations s.0.site k) s.0.limits (period_at sites s.0.site) (order_at sites s.0.site) =
      some_same o.0 (new_cell k s.0.site (row_at stations s.0.site k) s.0.limits (period_at sites s.0.site) (order_at sites s.0.site)) (sym o.1.0 ∙ new.each k s.0 s.1) in
      ap (λ (x : Cell). x.content) (sym o.1.1) ∙ ap (λ (x : Cell). x.content) is

  filled_new : (ss : List StationPlan) (cs : List Cell) → length cs ≡ length ss
      → ((k : ℕ) (c : Cell) → slice_get cs k ≡ Some c → c.content ≡ empty_content)
      → filled (planned_world sites ss) cs ≡ planned_world sites ss
  filled_new [] cs count all = refl
  filled_new (s ∷ ss) [] count all = absurd (omega (arith, count))
  filled_new (s ∷ ss) (c ∷ cs) count all =
      ap (λ x. record (new_station s.limits (site_name sites s.site) s.name) { content = x } ∷ filled (planned_world sites ss) cs) (all 0 c refl)
      ∙ ap (λ l. new_station s.limits (site_name sites s.site) s.name ∷ l) (filled_new ss cs (omega (arith, count)) (λ k d at. all (suc k) d at))

  pub opened_world : filled (planned_world sites stations) cells ≡ planned_world sites stations
  opened_world = filled_new stations cells (ap length cells_are ∙ length-map old first_given ∙ new.count) empty_new

  no_posts_of : (bs : List Book) → ((k : ℕ) (b : Book) → slice_get bs k ≡ Some b → length b.posts ≡ 0) → posts_in bs ≡ 0
  no_posts_of [] all = refl
  no_posts_of (b ∷ bs) all = omega (arith, sum_by-cons (λ (x : Book). length x.posts) b bs, all 0 b refl, no_posts_of bs (λ k x at. all (suc k) x at))

  pub no_posts : posts_in books ≡ 0
  no_posts = no_posts_of books (λ k b at.
      let less = slice_get_within books k b at in
      let is : new_book stations k ≡ b = some_same (new_book stations k) b (sym (made.each k (omega (arith, less, made.count))) ∙ at) in
      ap (λ (x : Book). length x.posts) (sym is))

-- That rows are tied once the figures of cells that took commands before are posted in new books.
use Rattle.std.{proofs.Common.{◌≡◌, ◌≢◌, ℕ, zero, suc, ◌+◌, ◌<◌, ◌≤◌, List, [], ◌∷◌, ◌++◌, length, set, Some, None, refl, ap, sym, ◌∙◌, subst, ⊎_elim, arith}, specs.Prelude.slice_get, proofs.lemmas.Bool.cases_eq, proofs.lemmas.List.length_push, proofs.lemmas.Option.slice_get_within}
use Rattle.ledger_model.{specs.declared.answer.Answer.TheVariants.Accepted, specs.Board.figures_by, specs.Content.entries, specs.Posts.row_after, proofs.PostLemmas.row-push_same}
use Rattle.site_book.{specs.Book.Book, proofs.Named.{get_else, get_here}}
use Rattle.site_desk.{specs.Cell.Cell, specs.Settle.Tied, proofs.Settled.tied_beside, specs.declared.plan.SitePlan.SitePlan, specs.declared.plan.StationPlan.StationPlan, specs.Parts.{AreApart, AreBooksOf, AreHeld, AreNewBooks, AreRowsKept, HaveFewPosts, IsHeld, IsTied, limits_at, new_book, row_at}, specs.Plan.plan_fault, specs.Roster.{AreCellsOf, StandsAt, new_place}, proofs.NewParts.planned_sites, proofs.Ties.{limits_row, rows_apart}}

pub some_book : (x y : Book) → Some x ≡ Some y → x ≡ y
some_book x y h = cc

pub some_cell : (x y : Cell) → Some x ≡ Some y → x ≡ y
some_cell x y h = cc

-- the books once a cell's figures are posted in its site's
module _ (cells : List Cell) (books : List Book) (k : ℕ) (c : Cell) (b : Book) (b' : Book) (at : slice_get cells k ≡ Some c) (stands : slice_get books c.site ≡ Some b)
    (posted : b' ≡ record b { posts = b.posts ++ (c.row, figures_by c.order (entries c.content)) ∷ [] }) where
  there : slice_get (set books c.site b') c.site ≡ Some b'
  there = get_here books c.site b b' stands

  -- a row is as before
  pub held_still : (d : Cell) → IsHeld books d → IsHeld (set books c.site b') d
  held_still d w = ⊎_elim
      (λ (e : d.site ≡ c.site).
      let book : w.book ≡ b = some_book w.book b (sym w.there ∙ ap (slice_get books) e ∙ stands) in
      record {
        book = b';
        there = ap (slice_get (set books c.site b')) e ∙ there;
        held = ap (λ (x : Book). slice_get x.limits d.row) posted ∙ ap (λ (x : Book). slice_get x.limits d.row) (sym book) ∙ w.held;
      })
      (λ (e : d.site ≢ c.site). record { book = w.book; there = get_else books c.site d.site b' e ∙ w.there; held = w.held })
      (cases_eq d.site c.site)

  -- another cell's row stays tied
  pub tied_still : AreApart cells → (j : ℕ) (d : Cell) → j ≢ k → slice_get cells j ≡ Some d → IsTied books d → IsTied (set books c.site b') d
  tied_still apart j d other here w = ⊎_elim
      (λ (e : d.site ≡ c.site).
      let book : w.book ≡ b = some_book w.book b (sym w.there ∙ ap (slice_get books) e ∙ stands) in
      let row : c.row ≢ d.row = λ r. other (apart j k d c here at e (sym r)) in
      record {
        book = b';
        there = ap (slice_get (set books c.site b')) e ∙ there;
        held = ap (λ (x : Book). slice_get x.limits d.row) posted ∙ ap (λ (x : Book). slice_get x.limits d.row) (sym book) ∙ w.held;
        tied = subst (Tied d) (sym posted) (tied_beside d c b (Accepted 0) row (subst (Tied d) book w.tied));
      })
      (λ (e : d.site ≢ c.site). record { book = w.book; there = get_else books c.site d.site b' e ∙ w.there; held = w.held; tied = w.tied })
      (cases_eq d.site c.site)

  -- its own row shows its figures
  pub tied_now : slice_get b.limits c.row ≡ Some c.limits → IsTied (set books c.site b') c
  tied_now held = record {
    book = b';
    there = there;
    held = ap (λ (x : Book). slice_get x.limits c.row) posted ∙ held;
    tied = ap (λ (x : Book). row_after c.row x.posts) posted ∙ row-push_same c.row (figures_by c.order (entries c.content)) b.posts;
  }

  -- each book has one post more at most
  pub posts_still : (n : ℕ) → ((site : ℕ) (x : Book) → slice_get books site ≡ Some x → length x.posts ≤ n)
      → (site : ℕ) (x : Book) → slice_get (set books c.site b') site ≡ Some x → length x.posts ≤ n + 1
  posts_still n few site x here = ⊎_elim
      (λ (e : site ≡ c.site).
      let same : b' ≡ x = some_book b' x (sym there ∙ ap (slice_get (set books c.site b')) (sym e) ∙ here) in
      let less = few c.site b stands in
      let more : length b'.posts ≡ length b.posts + 1 = ap (λ (y : Book). length y.posts) posted ∙ length_push b.posts (c.row, figures_by c.order (entries c.content)) in
      let is : length x.posts ≡ length b'.posts = ap (λ (y : Book). length y.posts) (sym same) in
      omega (arith, less, more, is))
      (λ (e : site ≢ c.site). let less = few site x (sym (get_else books c.site site b' e) ∙ here) in omega (arith, less))
      (cases_eq site c.site)

  -- sites and rows are those of the first books
  pub rows_still : (first : List Book) → AreRowsKept first books → AreRowsKept first (set books c.site b')
  rows_still first kept site x here = ⊎_elim
      (λ (e : site ≡ c.site).
      let same : b' ≡ x = some_book b' x (sym there ∙ ap (slice_get (set books c.site b')) (sym e) ∙ here) in
      let was = kept c.site b stands in
      record {
        book = was.book;
        there = ap (slice_get first) e ∙ was.there;
        number = ap (λ (y : Book). y.site) (sym same ∙ posted) ∙ was.number;
        limits = ap (λ (y : Book). y.limits) (sym same ∙ posted) ∙ was.limits;
      })
      (λ (e : site ≢ c.site). kept site x (sym (get_else books c.site site b' e) ∙ here))
      (cases_eq site c.site)

module _ (sites : List SitePlan) (stations : List StationPlan) (cells : List Cell) (of_plan : AreCellsOf sites stations cells) where
  -- the station of a cell
  station_of : (k : ℕ) (c : Cell) → slice_get cells k ≡ Some c → (s : StationPlan) × ((slice_get stations k ≡ Some s) × StandsAt k (new_place sites stations k s) c)
  station_of k c at =
      let less = slice_get_within cells k c at in
      let found = found_at stations k (omega (arith, less, of_plan.count)) in
      (found.0, (found.1, of_plan.each k found.0 c found.1 at))
    where
      found_at : (xs : List StationPlan) (k : ℕ) → k < length xs → (s : StationPlan) × (slice_get xs k ≡ Some s)
      found_at [] k less = absurd (omega (arith, less))
      found_at (x ∷ xs) zero less = (x, refl)
      found_at (x ∷ xs) (suc k) less = found_at xs k (omega (arith, less))

  -- each cell's row is in the new books
  pub held_of_plan : (books : List Book) → plan_fault sites stations ≡ None → AreNewBooks stations (length sites) books → AreHeld cells books
  held_of_plan books h made k c at =
      let s = station_of k c at in
      let stands = s.1.1 in
      record {
        book = new_book stations s.0.site;
        there = ap (slice_get books) stands.site ∙ made.each s.0.site (planned_sites sites stations k s.0 h s.1.0);
        held = ap (slice_get (limits_at stations s.0.site)) stands.row ∙ limits_row stations k s.0 s.1.0 ∙ ap Some (sym stands.limits);
      }

  -- no two of them have the same
  pub apart_of_plan : AreApart cells
  apart_of_plan j k c d at here same_site rows =
      let s = station_of j c at in
      let t = station_of k d here in
      let site : s.0.site ≡ t.0.site = sym s.1.1.site ∙ same_site ∙ t.1.1.site in
      let row : row_at stations s.0.site j ≡ row_at stations t.0.site k = sym s.1.1.row ∙ rows ∙ t.1.1.row in
      rows_apart stations t.0.site j k s.0 t.0 s.1.0 t.1.0 site refl (ap (λ n. row_at stations n j) (sym site) ∙ row)

-- new books have no posts
pub none_posted : (stations : List StationPlan) (sites : ℕ) (books : List Book) → AreNewBooks stations sites books → HaveFewPosts books 0
none_posted stations sites books made site b at =
    let less = slice_get_within books site b at in
    let same : new_book stations site ≡ b = some_book _ _ (sym (made.each site (omega (arith, less, made.count))) ∙ at) in
    let none : length b.posts ≡ 0 = ap (λ (x : Book). length x.posts) (sym same) in
    omega (arith, none)

-- books that kept the rows of new ones are those of the plan
pub books_of_plan : (stations : List StationPlan) (sites : ℕ) (books later : List Book) → AreNewBooks stations sites books
    → AreRowsKept books later → length later ≡ length books → AreBooksOf stations sites later
books_of_plan stations sites books later made kept count = record {
  count = count ∙ made.count;
  each = λ site b at.
      let was = kept site b at in
      let less = slice_get_within books site was.book was.there in
      let same : was.book ≡ new_book stations site = some_book _ _ (sym was.there ∙ made.each site (omega (arith, less, made.count))) in
      (was.number ∙ ap (λ (x : Book). x.site) same, was.limits ∙ ap (λ (x : Book). x.limits) same);
}

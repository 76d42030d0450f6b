-- That rows are tied when the parts of a plan are opened, and stay so.
use Rattle.std.{proofs.Common.{◌≡◌, ◌≢◌, ℕ, zero, suc, ◌+◌, ◌<◌, Bool, true, false, cond, eqb, List, [], ◌∷◌, length, map, take, set, Some, None, refl, ap, sym, ◌∙◌, subst, ⊎_elim, arith}, specs.Prelude.{filter, slice_get}, proofs.lemmas.Bool.{cases_eq, eq-eqb}, proofs.lemmas.List.Sums.sum_by-cons, proofs.lemmas.Option.slice_get_within}
use Rattle.ledger_model.{specs.declared.answer.Answer.Answer, specs.declared.command.Command.Command, specs.Board.figures_by, specs.Limits.default_limits, specs.Step.answer, proofs.ListedRuns.entries_from_empty}
use Rattle.site_book.{specs.Book.Book, proofs.Named.{get_else, get_here}}
use Rattle.site_desk.{specs.declared.plan.SitePlan.SitePlan, specs.declared.plan.StationPlan.StationPlan, specs.Parts.{AreApart, AreNewBooks, AreNewCells, AreTied, IsTied, limits_at, new_book, row_at}, specs.Plan.{order_at, period_at, plan_fault}, proofs.NewParts.planned_sites, specs.Cell.{Cell, Held, new_cell}, specs.Settle.{Tied, cell_after, posts_after}, proofs.Settled.{tied_after, tied_beside}}

-- the row of a later station
row_later : (x : StationPlan) (xs : List StationPlan) (site k : ℕ) → row_at (x ∷ xs) site (suc k) ≡ cond (eqb x.site site) 1 0 + row_at xs site k
row_later x xs site k = sum_by-cons (λ (s : StationPlan). cond (eqb s.site site) 1 0) x (take k xs)

row_here : (x : StationPlan) (site n : ℕ) → x.site ≡ site → cond (eqb x.site site) 1 0 + n ≡ suc n
row_here x site n e = let one : ◌≡◌ {A = ℕ} (cond (eqb x.site site) 1 0) 1 = ap (λ (b : Bool). let n : ℕ = cond b 1 0 in n) (eq-eqb x.site site e) in omega (arith, one)

-- a station's limits are those of its row
pub limits_row : (xs : List StationPlan) (k : ℕ) (s : StationPlan) → slice_get xs k ≡ Some s → slice_get (limits_at xs s.site) (row_at xs s.site k) ≡ Some s.limits
limits_row [] k s at = absurd (cc (at))
limits_row (x ∷ xs) zero s at =
    let e : x ≡ s = cc in
    ap (λ b. slice_get (map (λ (t : StationPlan). t.limits) (cond b (x ∷ filter (λ t. eqb t.site s.site) xs) (filter (λ t. eqb t.site s.site) xs))) 0) (eq-eqb x.site s.site (ap (λ t. t.site) e))
    ∙ ap (λ t. Some t.limits) e
limits_row (x ∷ xs) (suc k) s at =
    let rest = limits_row xs k s at in
    let row = row_later x xs s.site k in
    let tail = filter (λ (t : StationPlan). eqb t.site s.site) xs in
    let P : Bool → Type 0 = λ b. (n : ℕ) → n ≡ cond b 1 0 + row_at xs s.site k → slice_get (map (λ (t : StationPlan). t.limits) (cond b (x ∷ tail) tail)) n ≡ Some s.limits in
    let cases : (b : Bool) → P b = λ b. elim b as P [
      | true ↦ λ n is. let next : n ≡ suc (row_at xs s.site k) = omega (arith, is) in ap (slice_get (x.limits ∷ limits_at xs s.site)) next ∙ rest
      | false ↦ λ n is. let next : n ≡ row_at xs s.site k = omega (arith, is) in ap (slice_get (limits_at xs s.site)) next ∙ rest
    ] in
    cases (eqb x.site s.site) (row_at (x ∷ xs) s.site (suc k)) row

-- two stations of a site have two rows
pub rows_apart : (xs : List StationPlan) (site j k : ℕ) (s t : StationPlan) → slice_get xs j ≡ Some s → slice_get xs k ≡ Some t
    → s.site ≡ site → t.site ≡ site → row_at xs site j ≡ row_at xs site k → j ≡ k
rows_apart [] site j k s t at as_ here there same = absurd (cc (at))
rows_apart (x ∷ xs) site zero zero s t at as_ here there same = refl
rows_apart (x ∷ xs) site zero (suc k) s t at as_ here there same =
    let e : x ≡ s = cc in
    absurd (omega (arith, same, row_later x xs site k, row_here x site (row_at xs site k) (ap (λ u. u.site) e ∙ here)))
rows_apart (x ∷ xs) site (suc j) zero s t at as_ here there same =
    let e : x ≡ t = cc in
    absurd (omega (arith, same, row_later x xs site j, row_here x site (row_at xs site j) (ap (λ u. u.site) e ∙ there)))
rows_apart (x ∷ xs) site (suc j) (suc k) s t at as_ here there same =
    let less : row_at xs site j ≡ row_at xs site k = omega (arith, same, row_later x xs site j, row_later x xs site k) in
    ap suc (rows_apart xs site j k s t at as_ here there less)

-- the station of a cell
station_of : (sites : List SitePlan) (stations : List StationPlan) (cells : List Cell) (k : ℕ) (c : Cell) → AreNewCells sites stations cells → slice_get cells k ≡ Some c
    → (s : StationPlan) × ((slice_get stations k ≡ Some s) × (new_cell k s.site (row_at stations s.site k) s.limits (period_at sites s.site) (order_at sites s.site) ≡ c))
station_of sites stations cells k c new at =
    let less : k < length cells = slice_get_within cells k c at in
    let found = found_at stations k (omega (arith, less, new.count)) in
    let cell = new.each k found.0 found.1 in
    let same : Some (new_cell k found.0.site (row_at stations found.0.site k) found.0.limits (period_at sites found.0.site) (order_at sites found.0.site)) ≡ Some c = sym cell ∙ at in
    (found.0, (found.1, some_same _ _ same))
  where
    found_at : (xs : List StationPlan) (k : ℕ) → k < length xs → (s : StationPlan) × (slice_get xs k ≡ Some s)
    found_at [] k less = absurd (omega arith)
    found_at (x ∷ xs) zero less = (x, refl)
    found_at (x ∷ xs) (suc k) less = found_at xs k (omega arith)

    some_same : (a b : Cell) → Some a ≡ Some b → a ≡ b
    some_same a b h = cc

-- new cells are tied, and no two have one row
pub new_tied : (sites : List SitePlan) (stations : List StationPlan) (cells : List Cell) (books : List Book)
    → plan_fault sites stations ≡ None → AreNewCells sites stations cells → AreNewBooks stations (length sites) books
    → AreTied cells books
new_tied sites stations cells books h new made k c at =
    let s = station_of sites stations cells k c new at in
    let first : IsTied books (new_cell k s.0.site (row_at stations s.0.site k) s.0.limits (period_at sites s.0.site) (order_at sites s.0.site)) = record {
      book = new_book stations s.0.site;
      there = made.each s.0.site (planned_sites sites stations k s.0 h s.1.0);
      held = limits_row stations k s.0 s.1.0;
      tied = ap (figures_by (order_at sites s.0.site)) (sym (entries_from_empty default_limits []));
    } in
    subst (IsTied books) s.1.1 first

pub new_apart : (sites : List SitePlan) (stations : List StationPlan) (cells : List Cell) → AreNewCells sites stations cells → AreApart cells
new_apart sites stations cells new j k c d at as_ same_site rows =
    let s = station_of sites stations cells j c new at in
    let t = station_of sites stations cells k d new as_ in
    let site : s.0.site ≡ t.0.site = ap (λ x. x.site) s.1.1 ∙ same_site ∙ sym (ap (λ x. x.site) t.1.1) in
    let row : row_at stations s.0.site j ≡ row_at stations t.0.site k = ap (λ x. x.row) s.1.1 ∙ rows ∙ sym (ap (λ x. x.row) t.1.1) in
    rows_apart stations t.0.site j k s.0 t.0 s.1.0 t.1.0 site refl (ap (λ n. row_at stations n j) (sym site) ∙ row)

-- all cells stay tied where one of them takes a command, and no two get one row
pub tied_step : (cells : List Cell) (books : List Book) (k : ℕ) (c c' : Cell) (b b' : Book) (p : Held) (command : Command) (a : Answer) → slice_get cells k ≡ Some c → slice_get books c.site ≡ Some b
    → c' ≡ cell_after c p command → b' ≡ record b { posts = posts_after b.posts c' a } → a ≡ answer c.limits c.content command → AreTied cells books → AreApart cells
    → AreTied (set cells k c') (set books c.site b')
tied_step cells books k c c' b b' p command a at stands cells_are book_is is tied apart j d here = ⊎_elim
    (λ (e : j ≡ k).
    let mine : slice_get (set cells k c') k ≡ Some d = ap (slice_get (set cells k c')) (sym e) ∙ here in
    let same : c' ≡ d = some_same c' d (sym (get_here cells k c c' at) ∙ mine) in
    let was = tied k c at in
    let book : was.book ≡ b = some_book was.book b (sym was.there ∙ stands) in
    let first : IsTied (set books c.site b') c' = record {
      book = b';
      there = ap (λ (x : Cell). slice_get (set books c.site b') x.site) cells_are ∙ get_here books c.site b b' stands;
      held = (λ i. slice_get (book_is i).limits (cells_are i).row) ∙ ap (λ (x : Book). slice_get x.limits c.row) (sym book) ∙ was.held ∙ ap (λ (x : Cell). Some x.limits) (sym cells_are);
      tied = tied_after c c' p b b' command a cells_are book_is is (subst (Tied c) book was.tied);
    } in
    subst (IsTied (set books c.site b')) same first)
    (λ (other : j ≢ k).
    let there : slice_get cells j ≡ Some d = sym (get_else cells k j c' other) ∙ here in
    let was = tied j d there in
    ⊎_elim
    (λ (e : d.site ≡ c.site).
    let book : was.book ≡ b = some_book was.book b (sym was.there ∙ ap (slice_get books) e ∙ stands) in
    let row : c'.row ≢ d.row = λ r. other (apart j k d c there at e (sym (sym (ap (λ (x : Cell). x.row) cells_are) ∙ r))) in
    record {
      book = b';
      there = ap (slice_get (set books c.site b')) e ∙ get_here books c.site b b' stands;
      held = ap (λ (x : Book). slice_get x.limits d.row) (book_is ∙ refl) ∙ ap (λ (x : Book). slice_get x.limits d.row) (sym book) ∙ was.held;
      tied = subst (Tied d) (sym book_is) (tied_beside d c' b a row (subst (Tied d) book was.tied));
    })
    (λ (e : d.site ≢ c.site). record { book = was.book; there = get_else books c.site d.site b' e ∙ was.there; held = was.held; tied = was.tied })
    (cases_eq d.site c.site))
    (cases_eq j k)
  where
    some_same : (x y : Cell) → Some x ≡ Some y → x ≡ y
    some_same x y h = cc

    some_book : (x y : Book) → Some x ≡ Some y → x ≡ y
    some_book x y h = cc

pub apart_step : (cells : List Cell) (k : ℕ) (c c' : Cell) → slice_get cells k ≡ Some c → c'.site ≡ c.site → c'.row ≡ c.row → AreApart cells → AreApart (set cells k c')
apart_step cells k c c' at sites rows apart i j x y atx aty same row =
    let was_x = was i x atx in
    let was_y = was j y aty in
    apart i j was_x.0 was_y.0 was_x.1.0 was_y.1.0 (was_x.1.1.0 ∙ same ∙ sym was_y.1.1.0) (was_x.1.1.1 ∙ row ∙ sym was_y.1.1.1)
  where
    some_same : (x y : Cell) → Some x ≡ Some y → x ≡ y
    some_same x y h = cc

    was : (n : ℕ) (z : Cell) → slice_get (set cells k c') n ≡ Some z → (w : Cell) × ((slice_get cells n ≡ Some w) × ((w.site ≡ z.site) × (w.row ≡ z.row)))
    was n z here = ⊎_elim
        (λ (e : n ≡ k).
        let mine : c' ≡ z = some_same c' z (sym (get_here cells k c c' at) ∙ ap (slice_get (set cells k c')) (sym e) ∙ here) in
        (c, (ap (slice_get cells) e ∙ at, (sym sites ∙ ap (λ (v : Cell). v.site) mine, sym rows ∙ ap (λ (v : Cell). v.row) mine))))
        (λ (other : n ≢ k). (z, (sym (get_else cells k n c' other) ∙ here, (refl, refl))))
        (cases_eq n k)

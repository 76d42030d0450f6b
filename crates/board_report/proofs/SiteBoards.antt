-- The boards of a site's stations, one station after the other.
use Rattle.std.{proofs.Common.{◌≡◌, ◌≢◌, ℕ, zero, suc, ◌+◌, ◌<◌, ◌≤◌, true, false, Bool, cond, eqb, List, [], ◌∷◌, ◌++◌, Some, append-nil, length, map, take, refl, ap, sym, ◌∙◌, arith}, specs.Prelude.{filter, slice_get, sum_by}, proofs.lemmas.Bool.{eq-eqb, ne_eqb}, proofs.lemmas.List.Elements.{All-nil, All-cons}, proofs.lemmas.List.Sums.sum_by-cons}
use Rattle.ledger_model.{specs.Periods.Periods, specs.declared.figures.Figures.Figures, specs.declared.order.Order.Order, specs.Board.{Board, board_by, site_board}, specs.Content.{Entry, entries}, specs.Limits.Bounds}
use Rattle.board_report.{specs.Named.NamedBoard, specs.Sums.AreOfPeriod, specs.Plans.{AreBoardsWithin, IsBoardWithin}, specs.Boards.{boards_at, site_named}}
use Rattle.site_desk.{specs.declared.plan.StationPlan.StationPlan, specs.Parts.limits_at, specs.Cell.Cell}

-- what is read twice is one value
pub some_same : {X : Type 0} (x y : X) → Some x ≡ Some y → x ≡ y
some_same x y e = cc

-- a list has an element at each of its places
pub stands : {X : Type 0} (xs : List X) (k : ℕ) → k < length xs → (x : X) × (slice_get xs k ≡ Some x)
stands [] k less = absurd (omega arith)
stands (x ∷ xs) zero less = (x, refl)
stands (x ∷ xs) (suc k) less = stands xs k (omega (arith, less))

-- the boards of one station more
boards_next : (order : Order) (period : Periods) (xs : List StationPlan) (cells : List Cell) (site n : ℕ) (s : StationPlan) (c : Cell) → slice_get xs n ≡ Some s → slice_get cells n ≡ Some c
    → boards_at order period (take (suc n) xs) cells site ≡ boards_at order period (take n xs) cells site ++ cond (eqb s.site site) ((s.name, board_by order period (entries c.content)) ∷ []) []
boards_next order period [] cells site n s c at is = absurd (cc at)
boards_next order period (x ∷ xs) [] site n s c at is = absurd (cc is)
boards_next order period (x ∷ xs) (d ∷ cells) site zero s c at is =
    let same : x ≡ s = some_same x s at in
    let cell : d ≡ c = some_same d c is in
    λ i. cond {A = List (List ℕ × Board)} (eqb (same i).site site) (((same i).name, board_by order period (entries (cell i).content)) ∷ []) []
boards_next order period (x ∷ xs) (d ∷ cells) site (suc n) s c at is = more (eqb x.site site) (boards_next order period xs cells site n s c at is)
  where
    more : (b : Bool) → boards_at order period (take (suc n) xs) cells site
        ≡ boards_at order period (take n xs) cells site ++ cond (eqb s.site site) ((s.name, board_by order period (entries c.content)) ∷ []) []
        → cond b ((x.name, board_by order period (entries d.content)) ∷ boards_at order period (take (suc n) xs) cells site) (boards_at order period (take (suc n) xs) cells site)
        ≡ cond b ((x.name, board_by order period (entries d.content)) ∷ boards_at order period (take n xs) cells site) (boards_at order period (take n xs) cells site)
        ++ cond (eqb s.site site) ((s.name, board_by order period (entries c.content)) ∷ []) []
    more true e = ap (λ l. (x.name, board_by order period (entries d.content)) ∷ l) e
    more false e = e

boards_push : (order : Order) (period : Periods) (xs : List StationPlan) (cells : List Cell) (site n : ℕ) (s : StationPlan) (c : Cell) → slice_get xs n ≡ Some s → slice_get cells n ≡ Some c
    → boards_at order period (take (n + 1) xs) cells site ≡ boards_at order period (take n xs) cells site ++ cond (eqb s.site site) ((s.name, board_by order period (entries c.content)) ∷ []) []
boards_push order period xs cells site n s c at is = let same : n + 1
    ≡ suc n = omega arith in ap (λ m. boards_at order period (take m xs) cells site) same ∙ boards_next order period xs cells site n s c at is

pub boards_more_yes : (order : Order) (period : Periods) (xs : List StationPlan) (cells : List Cell) (site n : ℕ) (s : StationPlan) (c : Cell)
    → slice_get xs n ≡ Some s → slice_get cells n ≡ Some c → s.site ≡ site
    → boards_at order period (take (n + 1) xs) cells site ≡ boards_at order period (take n xs) cells site ++ (s.name, board_by order period (entries c.content)) ∷ []
boards_more_yes order period xs cells site n s c at is e = boards_push order period xs cells site n s c at is
    ∙ ap (λ b. boards_at order period (take n xs) cells site ++ cond b ((s.name, board_by order period (entries c.content)) ∷ []) []) (eq-eqb s.site site e)

pub boards_more_no : (order : Order) (period : Periods) (xs : List StationPlan) (cells : List Cell) (site n : ℕ) (s : StationPlan) (c : Cell)
    → slice_get xs n ≡ Some s → slice_get cells n ≡ Some c → s.site ≢ site
    → boards_at order period (take (n + 1) xs) cells site ≡ boards_at order period (take n xs) cells site
boards_more_no order period xs cells site n s c at is e = boards_push order period xs cells site n s c at is
    ∙ ap (λ b. boards_at order period (take n xs) cells site ++ cond b ((s.name, board_by order period (entries c.content)) ∷ []) []) (ne_eqb s.site site e)
    ∙ append-nil (boards_at order period (take n xs) cells site)

-- one board more is within its limits
pub within_more : (ls : List Bounds) (bs : List (List ℕ × Board)) (l : Bounds) (b : List ℕ × Board) → AreBoardsWithin ls bs → IsBoardWithin l b.1 → AreBoardsWithin (ls ++ l ∷ []) (bs ++ b ∷ [])
within_more [] [] l b all is = (is, tt)
within_more [] (c ∷ bs) l b all is = absurd all
within_more (k ∷ ls) [] l b all is = absurd all
within_more (k ∷ ls) (c ∷ bs) l b all is = (all.0, within_more ls bs l b all.1 is)

-- the stations of a site may store no more than all
pub sum_at : (xs : List StationPlan) (site : ℕ) → sum_by (λ (l : Bounds). l.readings) (limits_at xs site) ≤ sum_by (λ (s : StationPlan). s.limits.readings) xs
sum_at [] site = omega arith
sum_at (x ∷ xs) site = one (eqb x.site site) (sum_at xs site)
  where
    one : (t : Bool) → sum_by (λ (l : Bounds). l.readings) (limits_at xs site) ≤ sum_by (λ (s : StationPlan). s.limits.readings) xs
        → sum_by (λ (l : Bounds). l.readings) (map (λ (s : StationPlan). s.limits) (cond t (x ∷ filter (λ s. eqb s.site site) xs) (filter (λ s. eqb s.site site) xs)))
        ≤ sum_by (λ (s : StationPlan). s.limits.readings) (x ∷ xs)
    one true e = omega (arith, e, sum_by-cons (λ (l : Bounds). l.readings) x.limits (limits_at xs site), sum_by-cons (λ (s : StationPlan). s.limits.readings) x xs)
    one false e = omega (arith, e, sum_by-cons (λ (s : StationPlan). s.limits.readings) x xs)

-- a board with these parts is the site's
pub named_is : (b : NamedBoard) (name : List ℕ) (period : Periods) (order : Order) (totals : Figures) (stations : List (List ℕ × Board))
    → b.name ≡ name → b.figures ≡ totals → b.period ≡ period → b.order ≡ order → b.quarters ≡ (site_board period stations).quarters
    → b.stations ≡ stations
    → b ≡ site_named name period order totals stations
named_is b name period order totals stations n f p o q s = λ i. record { name = n i; period = p i; order = o i; figures = f i; quarters = q i; stations = s i }

-- the boards of a site are by its period
pub boards_period : (order : Order) (period : Periods) (xs : List StationPlan) (cells : List Cell) (site : ℕ) → AreOfPeriod period (boards_at order period xs cells site)
boards_period order period [] cells site = All-nil (λ (s : List ℕ × Board). s.1.period ≡ period)
boards_period order period (x ∷ xs) [] site = All-nil (λ (s : List ℕ × Board). s.1.period ≡ period)
boards_period order period (x ∷ xs) (c ∷ cells) site = one (eqb x.site site) (boards_period order period xs cells site)
  where
    one : (t : Bool) → AreOfPeriod period (boards_at order period xs cells site)
        → AreOfPeriod period (cond t ((x.name, board_by order period (entries c.content)) ∷ boards_at order period xs cells site) (boards_at order period xs cells site))
    one true h = All-cons (λ (s : List ℕ × Board). s.1.period ≡ period) (x.name, board_by order period (entries c.content)) (boards_at order period xs cells site) refl h
    one false h = h

-- a board is by its own period
pub by_own : (b : Board) (order : Order) (period : Periods) (es : List Entry) → b ≡ board_by order period es → b ≡ board_by order b.period es
by_own b order period es is = is ∙ ap (λ s. board_by order s es) (sym (ap (λ (c : Board). c.period) is))

-- What an operator reads of a running desk: the boards of a site, one station after the other, and their sums.
use Rattle.std.{proofs.Common.{◌≡◌, ◌≢◌, ℕ, zero, suc, ◌+◌, ◌<◌, ◌⊎◌, inl, inr, ⊎_elim, Bool, true, false, cond, eqb, eqb-true, List, [], ◌∷◌, ◌++◌, Some, length, length-append, slice_get, map, option_map, Result, Ok, Err, take, get_or, refl, ap, sym, ◌∙◌, subst, arith}, proofs.lemmas.List.Sums.{count_by_more_no, count_by_more_yes}, specs.Prelude.{filter, All, IfOk, OnOk}, proofs.lemmas.Bool.eqb-false, proofs.lemmas.List.{take_more, append-nil}, proofs.lemmas.List.Elements.{All-head, All-tail, filter-append}, proofs.lemmas.Option.{get_or_from_slice_get, slice_get-get_or, slice_get-map, slice_get_within}}
use Rattle.ledger_model.{specs.declared.figures.Figures.Figures, specs.Board.{Board, board_by}, specs.Content.{Content, entries}, specs.Limits.Bounds, specs.Periods.Periods, specs.Step.Reached, specs.declared.order.Order.Order}
use Rattle.energy_flow.specs.Flow.{Energy}
use Rattle.station_ledger.{specs.Listing.listing_by, specs.declared.listing.TxListing.TxListing}
use Rattle.site_desk.{specs.declared.roster.StationPlace.StationPlace, specs.Operator.{AreBoardsAt, AreBoardsOf, AreNotedBoards, AreTotalsOfName, AreTotalsWithin, IsAmong, IsBoardAt, IsBoardOfCell, IsListingOfName, IsListingWithin, IsNotedBoard, before_at}, specs.Roster.{IsNamed, StandsAt}, specs.Cell.Cell}

-- one board more, of one place more
boards_push : (places : List StationPlace) (p : StationPlace) (boards : List (List ℕ × Board)) (b : List ℕ × Board)
    → AreBoardsOf places boards → IsBoardAt p b → AreBoardsOf (places ++ p ∷ []) (boards ++ b ∷ [])
boards_push [] p [] b all is = (is, tt)
boards_push [] p (c ∷ boards) b all is = absurd all
boards_push (q ∷ places) p [] b all is = absurd all
boards_push (q ∷ places) p (c ∷ boards) b all is = (all.0, boards_push places p boards b all.1 is)

-- the places of a site, with one place more
pub at_more : (places : List StationPlace) (site k : ℕ) (p : StationPlace) → k < length places → p ≡ get_or places k p
    → filter (λ (q : StationPlace). eqb q.site site) (take (k + 1) places) ≡ filter (λ (q : StationPlace). eqb q.site site) (take k places) ++ cond (eqb p.site site) (p ∷ []) []
at_more places site k p less is =
    ap (λ ps. filter (λ (q : StationPlace). eqb q.site site) ps) (take_more places k p less ∙ ap (λ q. take k places ++ q ∷ []) (sym is))
    ∙ filter-append (λ (q : StationPlace). eqb q.site site) (take k places) (p ∷ [])

-- the step of a loop over places: the board of a station of the site is added, and no other
pub boards_more : (places : List StationPlace) (site k : ℕ) (p : StationPlace) (boards more : List (List ℕ × Board))
    → k < length places → p ≡ get_or places k p → AreBoardsAt (take k places) site boards
    → (p.site ≢ site → more ≡ boards) → (p.site ≡ site → (b : List ℕ × Board) × IsBoardAt p b × (more ≡ boards ++ b ∷ [])) → AreBoardsAt (take (k + 1) places) site more
boards_more places site k p boards more less is all other own = at (eqb p.site site) refl
  where
    at : (t : Bool) → eqb p.site site ≡ t → AreBoardsAt (take (k + 1) places) site more
    at true e =
        let added = own (eqb-true p.site site e) in
        let ps = filter (λ (q : StationPlace). eqb q.site site) (take k places) in
        let same : filter (λ (q : StationPlace). eqb q.site site) (take (k + 1) places) ≡ ps ++ p ∷ [] = at_more places site k p less is ∙ ap (λ t. ps ++ cond t (p ∷ []) []) e in
        subst (λ qs. AreBoardsOf qs more) (sym same) (subst (AreBoardsOf (ps ++ p ∷ [])) (sym added.2) (boards_push ps p boards added.0 all added.1))
    at false e =
        let ps = filter (λ (q : StationPlace). eqb q.site site) (take k places) in
        let same : filter (λ (q : StationPlace). eqb q.site site) (take (k + 1) places) ≡ ps = at_more places site k p less is ∙ ap (λ t. ps ++ cond t (p ∷ []) []) e ∙ append-nil ps in
        subst (λ qs. AreBoardsOf qs more) (sym same) (subst (AreBoardsOf ps) (sym (other (eqb-false p.site site e))) all)

-- the totals of a cell that is at the place of the station of this name
pub totals_named : (places : List StationPlace) (name : List ℕ) (k : ℕ) (at : StationPlace) (c : Cell) (f : Figures) (e x : Energy)
    → IsNamed places name k → at ≡ get_or places k at → StandsAt k at c → AreTotalsWithin c.limits c.order f e x
    → AreTotalsOfName places name f e x
totals_named places name k at c f e x named is stands within =
    let place : at ≡ named.place = is ∙ get_or_from_slice_get places k named.place at named.there in
    let limits = stands.limits ∙ ap (λ (p : StationPlace). p.limits) place in
    let order = stands.order ∙ ap (λ (p : StationPlace). p.order) place in
    record { number = k; named = named; totals = subst (λ l. AreTotalsWithin l named.place.order f e x) limits (subst (λ o. AreTotalsWithin c.limits o f e x) order within) }

-- the listing of a ledger
pub listing_shown : {E : Type 0} (r : Result TxListing E) (limits : Bounds) (by_order order : Order) (by period : Periods) (tx : List ℕ) (content c : Content)
    → IfOk r (λ l. l ≡ listing_by by_order by tx (entries content)) → by_order ≡ order → by ≡ period → content ≡ c
    → Reached limits c.changes c
    → IfOk r (IsListingWithin limits order period tx)
listing_shown (Ok l) limits by_order order by period tx content c shown ordered same is reached =
    record { content = c; reached = reached; is = shown ∙ (λ i. listing_by (ordered i) (same i) tx (entries (is i))) }
listing_shown (Err e) limits by_order order by period tx content c shown ordered same is reached = tt

-- that of a cell at the place of the station of this name
pub listing_named : (places : List StationPlace) (name : List ℕ) (k : ℕ) (at : StationPlace) (c : Cell) (tx : List ℕ) (l : TxListing)
    → IsNamed places name k → at ≡ get_or places k at → StandsAt k at c → IsListingWithin c.limits c.order c.period tx l
    → IsListingOfName places name tx l
listing_named places name k at c tx l named is stands within =
    let place : at ≡ named.place = is ∙ get_or_from_slice_get places k named.place at named.there in
    let limits = stands.limits ∙ ap (λ (p : StationPlace). p.limits) place in
    let period = stands.period ∙ ap (λ (p : StationPlace). p.period) place in
    let order = stands.order ∙ ap (λ (p : StationPlace). p.order) place in
    record {
      number = k;
      named = named;
      listing = subst (λ b. IsListingWithin b named.place.order named.place.period tx l) limits
          (subst (λ o. IsListingWithin c.limits o named.place.period tx l) order (subst (λ p. IsListingWithin c.limits c.order p tx l) period within));
    }

-- what is in a list is in a longer one
kept_at : {A : Type 0} (xs : List A) (y : A) (i : ℕ) (x : A) → slice_get xs i ≡ Some x → slice_get (xs ++ y ∷ []) i ≡ Some x
kept_at [] y i x e = cc e
kept_at (z ∷ xs) y zero x e = e
kept_at (z ∷ xs) y (suc i) x e = kept_at xs y i x e

last_at : {A : Type 0} (xs : List A) (y : A) → slice_get (xs ++ y ∷ []) (length xs) ≡ Some y
last_at [] y = refl
last_at (z ∷ xs) y = last_at xs y

eq_or_less : (k n : ℕ) → k < n + 1 → (k ≡ n) ⊎ (k < n)
eq_or_less zero zero h = inl refl
eq_or_less zero (suc n) h = inr (omega arith)
eq_or_less (suc k) zero h = absurd (omega (arith, h))
eq_or_less (suc k) (suc n) h = ⊎_elim (λ e. inl (ap suc e)) (λ l. inr (omega (arith, l))) (eq_or_less k n (omega (arith, h)))

-- the boards of the stations below a number, each of a cell for which this holds, as many as stations of the
-- site
pub record AreSoFar (Is : Cell → Type 0) (places : List StationPlace) (site number : ℕ) (boards : List (List ℕ × Board)) : Type 0 where
  pub count : length boards ≡ before_at places site number
  pub each : (k : ℕ) (p : StationPlace) → k < number → slice_get places k ≡ Some p → p.site ≡ site → IsNotedBoard Is k p boards (before_at places site k)

pub none_noted : (Is : Cell → Type 0) (places : List StationPlace) (site : ℕ) (boards : List (List ℕ × Board)) → boards ≡ [] → AreSoFar Is places site 0 boards
none_noted Is places site boards none = record { count = ap length none; each = λ k p less at here. absurd (omega (arith, less)) }

pub noted_more : (Is : Cell → Type 0) (places : List StationPlace) (site number : ℕ) (p : StationPlace) (boards more : List (List ℕ × Board))
    → number < length places → p ≡ get_or places number p → AreSoFar Is places site number boards
    → (p.site ≢ site → more ≡ boards)
    → (p.site ≡ site → (c : Cell) × Is c × ((b : List ℕ × Board) × IsBoardOfCell number p c b × (more ≡ boards ++ b ∷ [])))
    → AreSoFar Is places site (number + 1) more
noted_more Is places site number p boards more less is all other own = at (eqb p.site site) refl
  where
    P : StationPlace → Bool
    P q = eqb q.site site

    same_place : (q : StationPlace) → slice_get places number ≡ Some q → p ≡ q
    same_place q there = is ∙ get_or_from_slice_get places number q p there

    at : (t : Bool) → eqb p.site site ≡ t → AreSoFar Is places site (number + 1) more
    at true e =
        let added = own (eqb-true p.site site e) in
        let c = added.0 in
        let b = added.2.0 in
        let grown : more ≡ boards ++ b ∷ [] = added.2.2 in
        let step : before_at places site (number + 1) ≡ before_at places site number + 1 = count_by_more_yes P places number p less (ap P (sym is) ∙ e) in
        record {
          count = let long = ap length grown in let each = all.count in omega (arith, step, long, each, length-append boards (b ∷ []));
          each = λ k q below there here. ⊎_elim
              (λ (k_is : k ≡ number).
              let place : p ≡ q = same_place q (ap (slice_get places) (sym k_is) ∙ there) in
              let i : length boards ≡ before_at places site k = all.count ∙ ap (before_at places site) (sym k_is) in
              record {
                cell = c;
                noted = added.1;
                board = b;
                there = (λ j. slice_get (grown j) (sym i j)) ∙ last_at boards b;
                is = subst (λ (x : ℕ × StationPlace). IsBoardOfCell x.0 x.1 c b) (λ j. (sym k_is j, place j)) added.2.1;
              })
              (λ (lower : k < number).
              let had = all.each k q lower there here in
              record {
                cell = had.cell;
                noted = had.noted;
                board = had.board;
                there = ap (λ bs. slice_get bs (before_at places site k)) grown ∙ kept_at boards b (before_at places site k) had.board had.there;
                is = had.is;
              })
              (eq_or_less k number below);
        }
    at false e =
        let same : more ≡ boards = other (eqb-false p.site site e) in
        let step : before_at places site (number + 1) ≡ before_at places site number = count_by_more_no P places number p less (ap P (sym is) ∙ e) in
        record {
          count = ap length same ∙ all.count ∙ sym step;
          each = λ k q below there here. ⊎_elim
              (λ (k_is : k ≡ number). absurd (eqb-false p.site site e (ap (λ (x : StationPlace). x.site) (same_place q (ap (slice_get places) (sym k_is) ∙ there)) ∙ here)))
              (λ (lower : k < number). subst (λ bs. IsNotedBoard Is k q bs (before_at places site k)) (sym same) (all.each k q lower there here))
              (eq_or_less k number below);
        }

-- all stations were passed
pub all_noted : (Is : Cell → Type 0) (places : List StationPlace) (site number : ℕ) (boards : List (List ℕ × Board))
    → number ≡ length places → AreSoFar Is places site number boards → AreNotedBoards Is places site boards
all_noted Is places site number boards whole all k p there here = all.each k p (subst (λ n. k < n) (sym whole) (slice_get_within places k p there)) there here

-- what is so of all cells is so of one among them
pub noted_boards : (Is : Cell → Type 0) (cells : List Cell) (places : List StationPlace) (site : ℕ) (boards : List (List ℕ × Board))
    → ((i : ℕ) (c : Cell) → slice_get cells i ≡ Some c → Is c) → AreNotedBoards (IsAmong cells) places site boards
    → AreNotedBoards Is places site boards
noted_boards Is cells places site boards so all k p there here =
    let b = all k p there here in
    record { cell = b.cell; noted = so b.noted.0 b.cell b.noted.1; board = b.board; there = b.there; is = b.is }

some_is : {A : Type 0} (a b : A) → Some a ≡ Some b → a ≡ b
some_is a b h = cc

-- what is so of what each holds is so of one among those
pub among_noted : {A : Type 0} (f : A → Cell) (Is : Cell → Type 0) (xs : List A) → All (λ a. Is (f a)) xs → (i : ℕ) (c : Cell) → slice_get (map f xs) i ≡ Some c → Is c
among_noted f Is [] all i c e = cc e
among_noted f Is (x ∷ xs) all zero c e = subst Is (some_is (f x) c e) (All-head (λ a. Is (f a)) x xs all)
among_noted f Is (x ∷ xs) all (suc i) c e = among_noted f Is xs (All-tail (λ a. Is (f a)) x xs all) i c e

-- the cell behind one of the locks
pub among_at : {A : Type 0} (f : A → Cell) (xs : List A) (i : ℕ) (x : A) (c : Cell) → i < length xs → x ≡ get_or xs i x → c ≡ f x → IsAmong (map f xs) c
among_at f xs i x c less is same = (i, slice_get-map f xs i ∙ ap (option_map f) (slice_get-get_or xs i x less ∙ ap Some (sym is)) ∙ ap Some (sym same))

-- the board of a cell that was added
pub added_of_cell : {T E : Type 0} (r : Result T E) (cells : List Cell) (number : ℕ) (p : StationPlace) (site : ℕ) (c : Cell)
    (name : List ℕ) (board : Board) (boards more : List (List ℕ × Board))
    → IsAmong cells c → StandsAt number p c
    → name ≡ p.name → board ≡ board_by c.order c.period (entries c.content) → OnOk r (more ≡ boards ++ (name, board) ∷ [])
    → OnOk r (p.site ≡ site → (d : Cell) × IsAmong cells d × ((b : List ℕ × Board) × IsBoardOfCell number p d b × (more ≡ boards ++ b ∷ [])))
added_of_cell (Ok t) cells number p site c name board boards more among stands named shown put =
    λ here. (c, among, ((name, board), record { stands = stands; name = named; shown = shown ∙ (λ i. board_by (stands.order i) (stands.period i) (entries c.content)) }, put))
added_of_cell (Err e) cells number p site c name board boards more among stands named shown put = tt

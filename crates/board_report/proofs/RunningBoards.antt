-- The boards of a desk that runs keep within the limits of its plan, and are by its sites' settlement periods.
use Rattle.std.{proofs.Common.{◌≡◌, ℕ, zero, suc, Bool, true, false, cond, eqb, eqb-true, List, [], ◌∷◌, Some, length, map, refl, subst, ap, sym, ◌∙◌, arith}, specs.Prelude.{filter, slice_get}, proofs.lemmas.List.Elements.{All-nil, All-cons}}
use Rattle.ledger_model.{specs.Board.Board, specs.Content.entries, specs.Figures.AreWithin}
use Rattle.board_report.{specs.Plans.AreBoardsWithin, specs.Sums.AreOfPeriod, proofs.SiteBoards.{by_own, some_same}}
use Rattle.site_desk.{specs.declared.plan.SitePlan.SitePlan, specs.declared.plan.StationPlan.StationPlan, specs.declared.roster.StationPlace.StationPlace, specs.Operator.AreBoardsOf, specs.Parts.limits_at, specs.Plan.period_at, specs.Roster.{AreNewPlaces, new_place}}

-- the place is at the station's site, with its limits and by its site's settlement period
pub record IsLike (sites : List SitePlan) (s : StationPlan) (p : StationPlace) : Type 0 where
  pub site : p.site ≡ s.site
  pub limits : p.limits ≡ s.limits
  pub period : p.period ≡ period_at sites s.site

abbrev pub AreLike : List SitePlan → List StationPlan → List StationPlace → Type 0
AreLike sites [] [] = Unit {0}
AreLike sites [] (p ∷ places) = ⊥
AreLike sites (s ∷ stations) [] = ⊥
AreLike sites (s ∷ stations) (p ∷ places) = IsLike sites s p × AreLike sites stations places

like_all : (sites : List SitePlan) (stations : List StationPlan) (places : List StationPlace) → length places ≡ length stations
    → ((k : ℕ) (s : StationPlan) → slice_get stations k ≡ Some s → (p : StationPlace) × (slice_get places k ≡ Some p) × IsLike sites s p) → AreLike sites stations places
like_all sites [] [] count each = tt
like_all sites [] (p ∷ places) count each = absurd (omega (arith, count))
like_all sites (s ∷ stations) [] count each = absurd (omega (arith, count))
like_all sites (s ∷ stations) (p ∷ places) count each =
    let first = each zero s refl in
    (subst (IsLike sites s) (sym (some_same p first.0 first.1)) first.2, like_all sites stations places (omega (arith, count)) (λ k t at. each (suc k) t at))

-- the places of a plan's stations are like them
pub places_like : (sites : List SitePlan) (stations : List StationPlan) (places : List StationPlace) → AreNewPlaces sites stations places → AreLike sites stations places
places_like sites stations places new =
    like_all sites stations places new.count (λ k s at. (new_place sites stations k s, new.each k s at, record { site = refl; limits = refl; period = refl }))

module _ (sites : List SitePlan) (site : ℕ) where
  -- each board keeps within its station's limits
  pub boards_within : (stations : List StationPlan) (places : List StationPlace) (boards : List (List ℕ × Board))
      → AreLike sites stations places → AreBoardsOf (filter (λ (p : StationPlace). eqb p.site site) places) boards
      → AreBoardsWithin (limits_at stations site) boards
  boards_within [] [] [] like all = tt
  boards_within [] [] (b ∷ boards) like all = absurd all
  boards_within [] (p ∷ places) boards like all = absurd like
  boards_within (s ∷ stations) [] boards like all = absurd like
  boards_within (s ∷ stations) (p ∷ places) boards like all = at (eqb s.site site) refl (λ bs h. boards_within stations places bs like.1 h)
    where
      taken : ((bs : List (List ℕ × Board)) → AreBoardsOf (filter (λ (q : StationPlace). eqb q.site site) places) bs → AreBoardsWithin (limits_at stations site) bs)
          → (bs : List (List ℕ × Board)) → AreBoardsOf (p ∷ filter (λ (q : StationPlace). eqb q.site site) places) bs
          → AreBoardsWithin (s.limits ∷ limits_at stations site) bs
      taken others [] h = absurd h
      taken others (b ∷ bs) h = (
        record {
          entries = entries h.0.board.content;
          order = p.order;
          is = by_own b.1 p.order p.period (entries h.0.board.content) h.0.board.shown;
          within = subst (λ l. AreWithin l b.1.figures) like.0.limits h.0.within;
        },
        others bs h.1,
      )

      at : (t : Bool) → eqb s.site site ≡ t
          → ((bs : List (List ℕ × Board)) → AreBoardsOf (filter (λ (q : StationPlace). eqb q.site site) places) bs → AreBoardsWithin (limits_at stations site) bs)
          → AreBoardsWithin (limits_at (s ∷ stations) site) boards
      at true e others =
          let here : eqb p.site site ≡ true = ap (λ n. eqb n site) like.0.site ∙ e in
          subst (λ t. AreBoardsWithin
          (map (λ (u : StationPlan). u.limits) (cond t (s ∷ filter (λ (u : StationPlan). eqb u.site site) stations) (filter (λ (u : StationPlan). eqb u.site site) stations)))
          boards) (sym e)
          (taken others boards (subst (λ t. AreBoardsOf (cond t (p ∷ filter (λ (q : StationPlace). eqb q.site site) places) (filter (λ (q : StationPlace). eqb q.site site) places)) boards) here all))
      at false e others =
          let here : eqb p.site site ≡ false = ap (λ n. eqb n site) like.0.site ∙ e in
          subst (λ t. AreBoardsWithin
          (map (λ (u : StationPlan). u.limits) (cond t (s ∷ filter (λ (u : StationPlan). eqb u.site site) stations) (filter (λ (u : StationPlan). eqb u.site site) stations)))
          boards) (sym e)
          (others boards (subst (λ t. AreBoardsOf (cond t (p ∷ filter (λ (q : StationPlace). eqb q.site site) places) (filter (λ (q : StationPlace). eqb q.site site) places)) boards) here all))

  -- each board is by the site's settlement period
  pub boards_by : (stations : List StationPlan) (places : List StationPlace) (boards : List (List ℕ × Board))
      → AreLike sites stations places → AreBoardsOf (filter (λ (p : StationPlace). eqb p.site site) places) boards
      → AreOfPeriod (period_at sites site) boards
  boards_by [] [] [] like all = All-nil (λ (b : List ℕ × Board). b.1.period ≡ period_at sites site)
  boards_by [] [] (b ∷ boards) like all = absurd all
  boards_by [] (p ∷ places) boards like all = absurd like
  boards_by (s ∷ stations) [] boards like all = absurd like
  boards_by (s ∷ stations) (p ∷ places) boards like all = at (eqb p.site site) refl (λ bs h. boards_by stations places bs like.1 h)
    where
      taken : ((bs : List (List ℕ × Board)) → AreBoardsOf (filter (λ (q : StationPlace). eqb q.site site) places) bs → AreOfPeriod (period_at sites site) bs)
          → p.site ≡ site → (bs : List (List ℕ × Board)) → AreBoardsOf (p ∷ filter (λ (q : StationPlace). eqb q.site site) places) bs
          → AreOfPeriod (period_at sites site) bs
      taken others here [] h = absurd h
      taken others here (b ∷ bs) h =
          let by : b.1.period ≡ p.period = ap (λ (c : Board). c.period) h.0.board.shown in
          let site_is : s.site ≡ site = sym like.0.site ∙ here in
          All-cons (λ (c : List ℕ × Board). c.1.period ≡ period_at sites site) b bs (by ∙ like.0.period ∙ ap (period_at sites) site_is) (others bs h.1)

      at : (t : Bool) → eqb p.site site ≡ t
          → ((bs : List (List ℕ × Board)) → AreBoardsOf (filter (λ (q : StationPlace). eqb q.site site) places) bs → AreOfPeriod (period_at sites site) bs)
          → AreOfPeriod (period_at sites site) boards
      at true e others =
          taken others (eqb-true p.site site e) boards
          (subst (λ t. AreBoardsOf (cond t (p ∷ filter (λ (q : StationPlace). eqb q.site site) places) (filter (λ (q : StationPlace). eqb q.site site) places)) boards) e all)
      at false e others =
          others boards (subst (λ t. AreBoardsOf (cond t (p ∷ filter (λ (q : StationPlace). eqb q.site site) places) (filter (λ (q : StationPlace). eqb q.site site) places)) boards) e all)

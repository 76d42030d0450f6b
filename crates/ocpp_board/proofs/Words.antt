-- The plan that words declare, one after the other.
use Rattle.std.{proofs.Common.{◌≡◌, ℕ, ◌≤◌, ◌&&◌, Bool, true, false, cond, List, [], ◌∷◌, ◌++◌, Option, None, Some, map, length, drop, slice_index_or, refl, ap, sym, subst, ◌∙◌, bytes_eq, arith, Bor}, specs.List.position}
use Rattle.ledger_model.{specs.declared.order.Order.Order, specs.Periods.Periods, specs.Limits.Bounds, specs.Name.is_name}
use Rattle.site_desk.{specs.declared.plan.SitePlan.SitePlan, specs.declared.plan.StationPlan.StationPlan, specs.Plan.{is_past, site_number, sites_with}}
use Rattle.ocpp_board.specs.StationWords.{declared_by, found_site, is_too_many, new_station, site_of, station_of, station_word}

abbrev first : Option (List ℕ × List ℕ) → List ℕ
first None = []
first (Some p) = p.0

abbrev second : Option (List ℕ × List ℕ) → List ℕ
second None = []
second (Some p) = p.1

-- the names of a word are what is before and behind its `/`
names_of : (word site station : List ℕ) → station_word word ≡ Some (site, station) → (site_of word ≡ site) × (station_of word ≡ station)
names_of word site station e = at (is_name (site_of word) && is_name (station_of word)) e
  where
    at : (b : Bool) → cond {A = Option (List ℕ × List ℕ)} b (Some (site_of word, station_of word)) None ≡ Some (site, station) → (site_of word ≡ site) × (station_of word ≡ station)
    at true g = (ap first g, ap second g)
    at false g = cc g

-- a word that is one too many
pub one_too_many : (viewers : ℕ) (period : Periods) (order : Order) (limits : Bounds) (words : List (Bor (List ℕ)))
    (d : Bor (List ℕ)) (sites : List SitePlan) (stations : List StationPlan) (site station : List ℕ)
    → 1 ≤ length words
    → station_word (slice_index_or words 0 d).now ≡ Some (site, station) → is_past (position (λ s. bytes_eq site s.name) sites) sites stations limits ≡ true
    → declared_by viewers period order limits (map (λ w. w.now) words) sites stations ≡ (Some (slice_index_or words 0 d).now, (sites, stations))
one_too_many viewers period order limits [] d sites stations site station some e past = absurd (omega (arith, some))
one_too_many viewers period order limits (w ∷ words) d sites stations site station some e past =
    ap (λ b. cond b (Some w.now, (sites, stations))
    (declared_by viewers period order limits (map (λ x. x.now) words)
    (sites_with (found_site w.now sites) (site_of w.now) viewers period order sites)
    (stations ++ new_station limits sites w.now ∷ [])))
    (ap (λ n. is_past (position (λ s. bytes_eq n s.name) sites) sites stations limits) (names_of w.now site station e).0 ∙ past)

-- a word that is declared, and those behind it
pub one_declared : (viewers : ℕ) (period : Periods) (order : Order) (limits : Bounds) (words rest : List (Bor (List ℕ)))
    (d : Bor (List ℕ)) (sites new_sites : List SitePlan) (stations new_stations : List StationPlan) (site station : List ℕ)
    (end : Option (List ℕ) × (List SitePlan × List StationPlan)) → 1 ≤ length words → rest ≡ drop 1 words
    → station_word (slice_index_or words 0 d).now ≡ Some (site, station) → is_past (position (λ s. bytes_eq site s.name) sites) sites stations limits ≡ false
    → new_sites ≡ sites_with (position (λ s. bytes_eq site s.name) sites) site viewers period order sites
    → new_stations ≡ stations ++ record { site = site_number (position (λ s. bytes_eq site s.name) sites) sites; name = station; limits = limits } ∷ []
    → declared_by viewers period order limits (map (λ w. w.now) rest) new_sites new_stations ≡ end
    → declared_by viewers period order limits (map (λ w. w.now) words) sites stations ≡ end
one_declared viewers period order limits [] rest d sites new_sites stations new_stations site station end some r e past f g later = absurd (omega (arith, some))
one_declared viewers period order limits (w ∷ words) rest d sites new_sites stations new_stations site station end some r e past f g later =
    let n = names_of w.now site station e in
    ap (λ b. cond b (Some w.now, (sites, stations))
    (declared_by viewers period order limits (map (λ x. x.now) words)
    (sites_with (found_site w.now sites) (site_of w.now) viewers period order sites)
    (stations ++ new_station limits sites w.now ∷ [])))
    (ap (λ n. is_past (position (λ s. bytes_eq n s.name) sites) sites stations limits) n.0 ∙ past)
    ∙ ap (λ m. declared_by viewers period order limits (map (λ x. x.now) words)
    (sites_with (position (λ s. bytes_eq m s.name) sites) m viewers period order sites)
    (stations ++ record { site = site_number (position (λ s. bytes_eq m s.name) sites) sites; name = station_of w.now; limits = limits } ∷ [])) n.0
    ∙ ap (λ m. declared_by viewers period order limits (map (λ x. x.now) words)
    (sites_with (position (λ s. bytes_eq site s.name) sites) site viewers period order sites)
    (stations ++ record { site = site_number (position (λ s. bytes_eq site s.name) sites) sites; name = m; limits = limits } ∷ [])) n.1
    ∙ (λ i. declared_by viewers period order limits (map (λ x. x.now) (sym r i)) (sym f i) (sym g i)) ∙ later

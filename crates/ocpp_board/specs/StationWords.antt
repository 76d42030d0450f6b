-- The words of a server for its stations, and the plan that they make (this product's profile).
use Rattle.std.{specs.Prelude.{◌≡◌, ◌==◌, ◌&&◌, ◌++◌, ◌∷◌, [], ℕ, Bool, List, Option, None, Some, is_none, if◌then◌else◌}, specs.List.{before_first, after_first, find, position}, specs.Str.bytes_eq, specs.declared.result.Result.Result, specs.declared.result.Result.TheVariants.{Ok, Err}}
use Rattle.ledger_model.{specs.Periods.Periods, specs.declared.order.Order.Order, specs.Limits.Bounds, specs.Name.is_name}
use Rattle.site_desk.{specs.declared.plan.Plan.Plan, specs.declared.plan.SitePlan.SitePlan, specs.declared.plan.StationPlan.StationPlan, specs.Plan.{is_past, site_number, sites_with}}
use Rattle.ocpp_board.{specs.declared.station_words.WordFault.WordFault, specs.declared.station_words.WordFault.TheVariants.{BadLimits, BadStation, PlanLimit}}

-- the bytes before the first `/` of a word, and the bytes behind it
abbrev pub site_of : List ℕ → List ℕ
site_of word = before_first (λ b. b == 47) word

abbrev pub station_of : List ℕ → List ℕ
station_of word = after_first (λ b. b == 47) word

-- The site and the station of a word, if both are names. No name has a `/`.
abbrev pub station_word : List ℕ → Option (List ℕ × List ℕ)
station_word word = if is_name (site_of word) && is_name (station_of word) then Some (site_of word, station_of word) else None

-- the number of a word's site, if the site is there already
abbrev pub found_site : List ℕ → List SitePlan → Option ℕ
found_site word sites = position (λ s. bytes_eq (site_of word) s.name) sites

-- with the station of this word a plan would have more than it may
abbrev pub is_too_many : Bounds → List SitePlan → List StationPlan → List ℕ → Bool
is_too_many limits sites stations word = is_past (found_site word sites) sites stations limits

-- the station of a word under these limits
abbrev pub new_station : Bounds → List SitePlan → List ℕ → StationPlan
new_station limits sites word = record { site = site_number (found_site word sites) sites; name = station_of word; limits = limits }

-- the words declare their stations under these limits, in their order, up to the first that is one
-- too many; each site begins at its first mention, with this number of viewers, this length of
-- periods and this order of readings. The result is that word, and the plan up to it
abbrev pub declared_by : ℕ → Periods → Order → Bounds → List (List ℕ) → List SitePlan → List StationPlan → Option (List ℕ) × (List SitePlan × List StationPlan)
declared_by viewers period order limits [] sites stations = (None, (sites, stations))
declared_by viewers period order limits (word ∷ words) sites stations =
    if is_too_many limits sites stations word
    then (Some word, (sites, stations))
    else declared_by viewers period order limits words (sites_with (found_site word sites) (site_of word) viewers period order sites) (stations ++ new_station limits sites word ∷ [])

-- the first word that names no station
abbrev pub first_bad : List (List ℕ) → Option (List ℕ)
first_bad words = find (λ w. is_none (station_word w)) words

-- Words make the plan that they declare under these limits; else the first word that names no
-- station is reported or, if all name one, the first that is one too many.
abbrev pub AnswersWords : Result Plan WordFault → ℕ → Periods → Order → Bounds → List (List ℕ) → Type 0
AnswersWords (Ok plan) viewers period order limits words = (first_bad words ≡ None) × (declared_by viewers period order limits words [] [] ≡ (None, (plan.sites.items, plan.stations.items)))
AnswersWords (Err BadLimits) viewers period order limits words = ⊥
AnswersWords (Err (BadStation word)) viewers period order limits words = first_bad words ≡ Some word.now
AnswersWords (Err (PlanLimit word)) viewers period order limits words = (first_bad words ≡ None) × ((declared_by viewers period order limits words [] []).0 ≡ Some word.now)

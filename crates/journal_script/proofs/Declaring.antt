-- What the lines of a head make of a script.
use Rattle.std.{proofs.Common.{◌≡◌, ℕ, zero, suc, ◌+◌, ◌<◌, ◌≤◌, Bool, true, false, not, cond, ◌&&◌, ◌||◌, eqb, ltb, List, [], ◌∷◌, ◌++◌, All, None, Some, bytes_eq, is_some, length, map, refl, sym, ap, ◌∙◌, arith, append_assoc, append-nil, length-append}, specs.Prelude.{Option, nat_le, nat_lt, sum_by}, specs.List.position, proofs.lemmas.Bool.{and_parts, eqb-true, le-leb, le-ltb, lt-leb, ltb-true, or_from}, proofs.lemmas.List.{get_or_append_left, get_or_at, length-map, map-append}, proofs.lemmas.List.Elements.{All-head, All-tail}, proofs.lemmas.List.Sums.{sum_by-append, sum_by-cons}}
use Rattle.ledger_model.{specs.Limits.{AreBounds, Bounds}, specs.Ranges.{most_changes, most_events, most_plan_readings, most_readings, most_sites, most_stations, most_transactions}, specs.Settling.default_periods, specs.declared.order.Order.TheVariants.Sequence}
use Rattle.script_ledgers.{proofs.Boards.{at_site, one_place}, proofs.Drafting.{declared_once, joins, past_plan}, proofs.Places.some_placed, specs.Drafts.{Drafted, IsPlan, planned, site_name}, specs.Script.{Script, are_limits, is_past_plan, script_after, step_by}}
use Rattle.script_lines.{specs.LineMeaning.{LineMeaning, declares, line_meaning}, specs.Lines.Line, specs.declared.script_line.LineFault.TheVariants.PlanLimit, specs.Texts.fault_line}
use Rattle.site_desk.{specs.declared.plan.SitePlan.SitePlan, specs.declared.plan.StationPlan.StationPlan, specs.Plan.{has_twice, is_past, site_number, sites_changed}}
use Rattle.site_desk.specs.Plan as plan
use Rattle.journal_script.specs.Head.{HasValues, are_in_order, limits_meaning, station_meanings, stations_meanings}

pub all_back : {X : Type 0} (P : X → Type 0) (xs ys : List X) → All P (xs ++ ys) → All P ys
all_back P [] ys h = h
all_back P (x ∷ xs) ys h = all_back P xs ys (All-tail P x (xs ++ ys) h)

-- the script behind lines of these meanings
abbrev pub steps : Script → List LineMeaning → Script
steps s [] = s
steps s (m ∷ ms) = steps (step_by s m).0 ms

pub steps_of_lines : (s : Script) (lines : List Line) → script_after s lines ≡ steps s (map line_meaning lines)
steps_of_lines s [] = refl
steps_of_lines s (line ∷ lines) = steps_of_lines (step_by s (line_meaning line)).0 lines

pub steps_both : (s : Script) (xs ys : List LineMeaning) → steps s (xs ++ ys) ≡ steps (steps s xs) ys
steps_both s [] ys = refl
steps_both s (m ∷ xs) ys = steps_both (step_by s m).0 xs ys

-- ---- a station

-- a site as a script begins it
abbrev pub begins : List ℕ → SitePlan
begins name = record { name = name; viewers = 0; period = default_periods; order = Sequence }

pub are_bounds : (b : Bounds) → AreBounds b.transactions b.events b.readings b.changes → are_limits b.transactions b.events b.readings b.changes ≡ true
are_bounds b are =
    λ i. (le-leb 1 b.transactions are.some_transactions i && le-leb b.transactions most_transactions are.most_transactions i)
    && ((le-leb 1 b.events are.some_events i && le-leb b.events most_events are.most_events i)
    && ((le-leb 1 b.readings are.some_readings i && le-leb b.readings most_readings are.most_readings i)
    && (le-leb 1 b.changes are.some_changes i && le-leb b.changes most_changes are.most_changes i)))

limits_step : (d : Drafted) (b : Bounds) → AreBounds b.transactions b.events b.readings b.changes → step_by (planned d) (limits_meaning b) ≡ (planned (record d { limits = b }), [])
limits_step d b are = ap (λ t. cond t (planned (record d { limits = b }), []) (planned d, fault_line PlanLimit)) (are_bounds b are)

not_past : (o : Option ℕ) (sites : List SitePlan) (stations : List StationPlan) (limits : Bounds) → length stations < most_stations
    → sum_by (λ (s : StationPlan). s.limits.readings) stations + limits.readings ≤ most_plan_readings → (is_some o ≡ false → length sites < most_sites)
    → is_past o sites stations limits ≡ false
not_past o sites stations limits room fit more =
    let readings = sum_by (λ (s : StationPlan). s.limits.readings) stations + limits.readings in
    or_from (nat_le most_stations (length stations)) (nat_lt most_plan_readings readings || (not (is_some o) && nat_le most_sites (length sites)))
    (lt-leb most_stations (length stations) room)
    (or_from (nat_lt most_plan_readings readings) (not (is_some o) && nat_le most_sites (length sites)) (le-ltb most_plan_readings readings fit) (at (is_some o) more))
  where
    at : (b : Bool) → (b ≡ false → length sites < most_sites) → (not b && nat_le most_sites (length sites)) ≡ false
    at true h = refl
    at false h = lt-leb most_sites (length sites) (h refl)

-- the declarations behind a station's lines
abbrev joined : Drafted → Option ℕ → List ℕ → StationPlan → Drafted
joined d o site s = record {
  limits = s.limits;
  sites = plan.sites_with o site 0 default_periods Sequence d.sites;
  stations = d.stations ++ record s { site = site_number o d.sites } ∷ [];
  moment = d.moment;
}

station_steps : (d : Drafted) (o : Option ℕ) (site : List ℕ) (s : StationPlan) → AreBounds s.limits.transactions s.limits.events s.limits.readings s.limits.changes
    → o ≡ position (λ (x : SitePlan). bytes_eq site x.name) d.sites → position (λ (x : StationPlan). bytes_eq s.name x.name) d.stations ≡ None
    → IsPlan d.sites d.stations → is_past o d.sites d.stations s.limits ≡ false
    → IsPlan (joined d o site s).sites (joined d o site s).stations
    × (steps (planned d) (limits_meaning s.limits ∷ declares site s.name ∷ []) ≡ planned (joined d o site s))
station_steps d o site s are found new kept room =
    let e : Drafted = record d { limits = s.limits } in
    let past : is_past_plan (planned e) site ≡ false = past_plan e site o kept found ∙ room in
    let next = joins e o site s.name found kept room new in (
      next.0,
      ap (λ (x : Script × List ℕ). (step_by x.0 (declares site s.name)).0) (limits_step d s.limits are)
          ∙ ap (λ (x : Script × List ℕ). x.0) (declared_once e site s.name None past (sym new) refl) ∙ sym next.1,
    )

-- ---- the sites that were mentioned

-- the first so many sites, as a script begins them
abbrev begun : ℕ → List SitePlan → List SitePlan
begun zero sites = []
begun (suc n) [] = []
begun (suc n) (s ∷ sites) = begins s.name ∷ begun n sites

begun_length : (n : ℕ) (sites : List SitePlan) → n ≤ length sites → length (begun n sites) ≡ n
begun_length zero sites few = refl
begun_length (suc n) [] few = absurd (omega (arith, few))
begun_length (suc n) (s ∷ sites) few = ap suc (begun_length n sites (omega (arith, few)))

begun_name : (n : ℕ) (sites : List SitePlan) (k : ℕ) → k < n → n ≤ length sites → site_name (begun n sites) k ≡ site_name sites k
begun_name zero sites k less few = absurd (omega (arith, less))
begun_name (suc n) [] k less few = absurd (omega (arith, few))
begun_name (suc n) (s ∷ sites) zero less few = refl
begun_name (suc n) (s ∷ sites) (suc k) less few = begun_name n sites k (omega (arith, less)) (omega (arith, few))

begun_more : (n : ℕ) (sites : List SitePlan) → n < length sites → begun n sites ++ begins (site_name sites n) ∷ [] ≡ begun (suc n) sites
begun_more zero [] less = absurd (omega (arith, less))
begun_more zero (s ∷ sites) less = refl
begun_more (suc n) [] less = absurd (omega (arith, less))
begun_more (suc n) (s ∷ sites) less = ap (λ l. begins s.name ∷ l) (begun_more n sites (omega (arith, less)))

begun_all : (sites : List SitePlan) → begun (length sites) sites ≡ map (λ s. begins s.name) sites
begun_all [] = refl
begun_all (s ∷ sites) = ap (λ l. begins s.name ∷ l) (begun_all sites)

-- a name that occurs once is not before its place
none_before : {X : Type 0} (f : X → List ℕ) (xs : List X) (x : X) (ys : List X) → has_twice (map f (xs ++ x ∷ ys)) ≡ false → position (λ y. bytes_eq (f x) (f y)) xs ≡ None
none_before {X} f xs x ys once = at (position (λ (y : X). bytes_eq (f x) (f y)) xs) refl
  where
    names : List (List ℕ)
    names = map f xs ++ f x ∷ map f ys

    at : (o : Option ℕ) → position (λ (y : X). bytes_eq (f x) (f y)) xs ≡ o → o ≡ None
    at None e = refl
    at (Some n) e =
        let there = some_placed {X = X} f (f x) xs n e in
        let own = length (map f xs) in
        let less : n < own = omega (arith, there.less, length-map xs f) in
        let all : length names ≡ own + length (f x ∷ map f ys) = length-append (map f xs) (f x ∷ map f ys) in
        let same : n ≡ own = one_place names n own (ap has_twice (sym (map-append f xs (x ∷ ys))) ∙ once) (omega (arith, less, all)) (omega (arith, all))
        (get_or_append_left (map f xs) (f x ∷ map f ys) [] n less ∙ there.named ∙ sym (get_or_at (map f xs) (f x) (map f ys) [] own refl)) in
        absurd (omega (arith, same, less))

-- ---- all stations

-- the script is that of a plan's stations, at sites as a script begins them
pub record AreJoined (sites : List SitePlan) (stations : List StationPlan) (s : Script) : Type 0 where
  pub drafted : Drafted
  pub is : s ≡ planned drafted
  pub sites_are : drafted.sites ≡ map (λ s. begins s.name) sites
  pub stations_are : drafted.stations ≡ stations
  pub kept : IsPlan drafted.sites drafted.stations

module _ (sites : List SitePlan) (stations : List StationPlan) (sites_once : has_twice (map (λ s. s.name) sites) ≡ false)
    (stations_once : has_twice (map (λ s. s.name) stations) ≡ false) (few_sites : length sites ≤ most_sites) (few : length stations ≤ most_stations)
    (fit : sum_by (λ s. s.limits.readings) stations ≤ most_plan_readings) where
  -- one station more
  next_station : (d : Drafted) (s : StationPlan) (rest : List StationPlan) (o : Option ℕ) → stations ≡ d.stations ++ s ∷ rest → IsPlan d.sites d.stations
      → AreBounds s.limits.transactions s.limits.events s.limits.readings s.limits.changes
      → o ≡ position (λ (x : SitePlan). bytes_eq (site_name sites s.site) x.name) d.sites → (is_some o ≡ false → length d.sites < most_sites)
      → IsPlan (joined d o (site_name sites s.site) s).sites (joined d o (site_name sites s.site) s).stations
      × (steps (planned d) (station_meanings sites s) ≡ planned (joined d o (site_name sites s.site) s))
  next_station d s rest o is kept are found more =
      let f : StationPlan → ℕ = λ x. x.limits.readings in
      let count = ap length is ∙ length-append d.stations (s ∷ rest) in
      let sum : sum_by f stations ≡ sum_by f d.stations + (f s + sum_by f rest) = ap (sum_by f) is ∙ sum_by-append f d.stations (s ∷ rest) ∙ ap (λ n. sum_by f d.stations + n) (sum_by-cons f s rest) in
      let new = none_before {X = StationPlan} (λ x. x.name) d.stations s rest (ap (λ l. has_twice (map (λ (x : StationPlan). x.name) l)) (sym is) ∙ stations_once) in
      station_steps d o (site_name sites s.site) s are found new kept
      (not_past o d.sites d.stations s.limits (omega (arith, count, few)) (omega (arith, sum, fit)) more)

  pub all_joined : (rest : List StationPlan) (seen : ℕ) (d : Drafted) → stations ≡ d.stations ++ rest → seen ≤ length sites → d.sites ≡ begun seen sites → IsPlan d.sites d.stations
      → All (λ s. s.site < length sites) rest → All HasValues (stations_meanings sites rest) → are_in_order seen (length sites) rest ≡ true
      → AreJoined sites stations (steps (planned d) (stations_meanings sites rest))
  all_joined [] seen d is within mentioned kept placed values ordered = record {
    drafted = d;
    is = refl;
    sites_are = mentioned ∙ ap (λ n. begun n sites) (eqb-true seen (length sites) ordered) ∙ begun_all sites;
    stations_are = sym (is ∙ append-nil d.stations);
    kept = kept;
  }
  all_joined (s ∷ rest) seen d is within mentioned kept placed values ordered =
      at (ltb s.site seen) refl ordered (all_joined rest seen) (all_joined rest (suc seen))
    where
      name : List ℕ
      name = site_name sites s.site

      later : List LineMeaning
      later = stations_meanings sites rest

      are : AreBounds s.limits.transactions s.limits.events s.limits.readings s.limits.changes
      are = All-head HasValues (limits_meaning s.limits) (declares name s.name ∷ later) values

      values_later : All HasValues later
      values_later = all_back HasValues (station_meanings sites s) later values

      placed_later : All (λ x. x.site < length sites) rest
      placed_later = All-tail (λ (x : StationPlan). x.site < length sites) s rest placed

      own : s.site < length sites
      own = All-head (λ (x : StationPlan). x.site < length sites) s rest placed

      long : length d.sites ≡ seen
      long = ap length mentioned ∙ begun_length seen sites within

      -- the rest is behind what this station leaves
      go : (o : Option ℕ) → o ≡ position (λ (x : SitePlan). bytes_eq name x.name) d.sites → (is_some o ≡ false → length d.sites < most_sites) → site_number o d.sites ≡ s.site
          → (stations ≡ (joined d o name s).stations ++ rest → IsPlan (joined d o name s).sites (joined d o name s).stations → AreJoined sites stations (steps (planned (joined d o name s)) later))
          → AreJoined sites stations (steps (planned d) (station_meanings sites s ++ later))
      go o found more number then =
          let next = next_station d s rest o is kept are found more in
          let split : stations ≡ (joined d o name s).stations ++ rest =
          is ∙ sym (append_assoc d.stations (s ∷ []) rest) ∙ ap (λ (n : ℕ). (d.stations ++ record s { site = n } ∷ []) ++ rest) (sym number) in
          let all = then split next.0 in
          record {
            drafted = all.drafted;
            is = steps_both (planned d) (station_meanings sites s) later ∙ ap (λ x. steps x later) next.1 ∙ all.is;
            sites_are = all.sites_are;
            stations_are = all.stations_are;
            kept = all.kept;
          }

      at : (b : Bool) → ltb s.site seen ≡ b → cond b (are_in_order seen (length sites) rest) (eqb s.site seen && are_in_order (suc seen) (length sites) rest) ≡ true
          → ((e : Drafted) → stations ≡ e.stations ++ rest → seen ≤ length sites → e.sites ≡ begun seen sites → IsPlan e.sites e.stations
          → All (λ x. x.site < length sites) rest → All HasValues later → are_in_order seen (length sites) rest ≡ true → AreJoined sites stations (steps (planned e) later))
          → ((e : Drafted) → stations ≡ e.stations ++ rest → suc seen ≤ length sites → e.sites ≡ begun (suc seen) sites → IsPlan e.sites e.stations
          → All (λ x. x.site < length sites) rest → All HasValues later → are_in_order (suc seen) (length sites) rest ≡ true → AreJoined sites stations (steps (planned e) later))
          → AreJoined sites stations (steps (planned d) (station_meanings sites s ++ later))
      at true is_seen order same more =
          let less : s.site < seen = ltb-true s.site seen is_seen in
          let called : site_name d.sites s.site ≡ name = ap (λ l. site_name l s.site) mentioned ∙ begun_name seen sites s.site less within in
          let found : Some s.site ≡ position (λ (x : SitePlan). bytes_eq name x.name) d.sites =
          sym (at_site d.sites s.site kept.sites_once (omega (arith, less, long))) ∙ ap (λ n. position (λ (x : SitePlan). bytes_eq n x.name) d.sites) called in
          go (Some s.site) found (λ e. absurd (cc e)) refl
          (λ split plan. same (joined d (Some s.site) name s) split within mentioned plan placed_later values_later order)
      at false not_seen order same more =
          let both = and_parts (eqb s.site seen) (are_in_order (suc seen) (length sites) rest) order in
          let next : s.site ≡ seen = eqb-true s.site seen both.0 in
          go None (sym (unmentioned (position (λ (x : SitePlan). bytes_eq name x.name) d.sites) refl next)) (λ _. omega (arith, long, next, own, few_sites)) (long ∙ sym next)
          (λ split plan. more (joined d None name s) split (omega (arith, next, own))
          (ap (λ l. l ++ begins name ∷ []) mentioned ∙ ap (λ k. begun seen sites ++ begins (site_name sites k) ∷ []) next ∙ begun_more seen sites (omega (arith, next, own)))
          plan placed_later values_later both.1)
        where
          unmentioned : (o : Option ℕ) → position (λ (x : SitePlan). bytes_eq name x.name) d.sites ≡ o → s.site ≡ seen → o ≡ None
          unmentioned None e next = refl
          unmentioned (Some n) e next =
              let there = some_placed {X = SitePlan} (λ x. x.name) name d.sites n e in
              let less : n < seen = omega (arith, there.less, long) in
              let called : site_name sites n ≡ name = sym (ap (λ l. site_name l n) mentioned ∙ begun_name seen sites n less within) ∙ there.named in
              let names = length-map sites (λ (x : SitePlan). x.name) in
              let same : n ≡ s.site = one_place (map (λ (x : SitePlan). x.name) sites) n s.site sites_once (omega (arith, less, within, names)) (omega (arith, own, names)) called in
              absurd (omega (arith, same, less, next))

-- Declarations: what they keep, and the script that they are seen as.
use Rattle.std.{proofs.Common.{◌≡◌, ℕ, suc, ◌+◌, ◌<◌, ◌≤◌, ◌||◌, ◌&&◌, Bool, true, false, not, cond, zero, List, [], ◌∷◌, ◌++◌, Option, None, Some, All, length, map, nat_le, nat_lt, refl, ap, sym, ◌∙◌, bytes_eq, arith}, specs.Prelude.sum_by, specs.List.position, specs.Option.is_some, proofs.lemmas.Bool.Decides.nat_tests, proofs.lemmas.List.{length-append, length-map, map-append}, proofs.lemmas.List.Elements.{All-append, All-cons, All-nil}, proofs.lemmas.List.Sums.{sum_by-append, sum_by-cons}}
use Rattle.ledger_model.{specs.declared.order.Order.TheVariants.Sequence, specs.Limits.Bounds, specs.Settling.default_periods, specs.Ranges.{most_sites, most_stations, most_plan_readings}, specs.World.Station}
use Rattle.site_desk.{specs.declared.plan.SitePlan.SitePlan, specs.declared.plan.StationPlan.StationPlan, specs.Plan.{has_twice, is_past, site_number}}
use Rattle.site_desk.specs.Plan as plan
use Rattle.script_ledgers.{specs.Drafts.{Drafted, IsPlan, planned, planned_world, site_name}, specs.Script.{declared_to, is_among, is_past_plan, joined_by, new_station, orders_with, periods_with, sites_with, station_named}, proofs.Places.{AreAlike, is_station, neither, none_placed, once_behind, some_placed, unnamed}}
use Rattle.script_lines.{specs.declared.script_line.LineFault.TheVariants.{PlanLimit, StationTwice}, specs.Texts.fault_line}

-- ---- the worlds of plans

pub alike_planned : (sites : List SitePlan) (stations : List StationPlan) → AreAlike {X = StationPlan} (λ s. s.name) stations (planned_world sites stations)
alike_planned sites [] = tt
alike_planned sites (s ∷ stations) = (refl, alike_planned sites stations)

-- the sum of what the stations of a plan may store
sum_planned : (sites : List SitePlan) (stations : List StationPlan)
    → sum_by (λ (s : Station). s.limits.readings) (planned_world sites stations) ≡ sum_by (λ (s : StationPlan). s.limits.readings) stations
sum_planned sites [] = refl
sum_planned sites (s ∷ stations) =
    sum_by-cons (λ (x : Station). x.limits.readings) (new_station s.limits (site_name sites s.site) s.name) (planned_world sites stations)
    ∙ ap (λ n. s.limits.readings + n) (sum_planned sites stations) ∙ sym (sum_by-cons (λ (x : StationPlan). x.limits.readings) s stations)

-- ---- whether one station more is too many

among_found : (name : List ℕ) (sites : List SitePlan) (o : Option ℕ) → o ≡ position (λ s. bytes_eq name s.name) sites → is_among name (map (λ s. s.name) sites) ≡ is_some o
among_found name sites None e = none_placed {X = SitePlan} (λ s. s.name) name sites (sym e)
among_found name sites (Some n) e = (some_placed {X = SitePlan} (λ s. s.name) name sites n (sym e)).among

sites_after : (is : Bool) (site : List ℕ) (names : List (List ℕ)) → length names ≤ most_sites
    → nat_lt most_sites (length (cond is names (names ++ site ∷ []))) ≡ (not is && nat_le most_sites (length names))
sites_after true site names few = grind (arith, nat_tests)
sites_after false site names few = grind (arith, nat_tests, length-append names (site ∷ []))

pub past_plan : (d : Drafted) (site : List ℕ) (o : Option ℕ) → IsPlan d.sites d.stations → o ≡ position (λ s. bytes_eq site s.name) d.sites
    → is_past_plan (planned d) site ≡ is_past o d.sites d.stations d.limits
past_plan d site o kept e =
    let names = map (λ (s : SitePlan). s.name) d.sites in
    let stations : length (planned_world d.sites d.stations) ≡ length d.stations = length-map d.stations (λ s. new_station s.limits (site_name d.sites s.site) s.name) in
    let readings = sum_by (λ (s : StationPlan). s.limits.readings) d.stations in
    let few : length names ≤ most_sites = omega (arith, length-map d.sites (λ (s : SitePlan). s.name), kept.few_sites) in
    ap (λ n. nat_le most_stations n ||
    (nat_lt most_plan_readings (sum_by (λ (s : Station). s.limits.readings) (planned_world d.sites d.stations) + d.limits.readings) ||
    nat_lt most_sites (length (sites_with site names)))) stations
    ∙ ap (λ n. nat_le most_stations (length d.stations) || (nat_lt most_plan_readings (n + d.limits.readings) || nat_lt most_sites (length (sites_with site names)))) (sum_planned d.sites d.stations)
    ∙ ap (λ b. nat_le most_stations (length d.stations) || (nat_lt most_plan_readings (readings + d.limits.readings) || b))
    (sites_after (is_among site names) site names few ∙ ap (λ b. not b && nat_le most_sites (length names)) (among_found site d.sites o e)
    ∙ ap (λ n. not (is_some o) && nat_le most_sites n) (length-map d.sites (λ (s : SitePlan). s.name)))

-- the same of declarations that are seen as these
pub past_drafted : (v d : Drafted) (site : List ℕ) → v ≡ d → IsPlan v.sites v.stations
    → is_past (position (λ s. bytes_eq site s.name) v.sites) v.sites v.stations v.limits ≡ is_past_plan (planned d) site
past_drafted v d site is kept = sym (past_plan v site (position (λ s. bytes_eq site s.name) v.sites) kept refl) ∙ ap (λ x. is_past_plan (planned x) site) is

-- ---- one site more

site_kept : (sites : List SitePlan) (stations : List StationPlan) (name : List ℕ) → IsPlan sites stations → length sites < most_sites → position (λ s. bytes_eq name s.name) sites ≡ None
    → IsPlan (sites ++ record { name = name; viewers = 0; period = default_periods; order = Sequence } ∷ []) stations
site_kept sites stations name kept room none =
    let new : SitePlan = record { name = name; viewers = 0; period = default_periods; order = Sequence } in
    let more : length (sites ++ new ∷ []) ≡ length sites + 1 = length-append sites (new ∷ []) in
    record {
      few_sites = omega (arith, more, room);
      few_stations = kept.few_stations;
      few_readings = kept.few_readings;
      sites_once = ap has_twice (map-append (λ (s : SitePlan). s.name) sites (new ∷ []))
          ∙ once_behind (map (λ (s : SitePlan). s.name) sites) name kept.sites_once (none_placed {X = SitePlan} (λ s. s.name) name sites none);
      stations_once = kept.stations_once;
      placed = λ k d lt. let p = kept.placed k d lt in omega (arith, p, more);
      unviewed = All-append (λ (s : SitePlan). s.viewers ≡ 0) sites (new ∷ []) kept.unviewed (All-cons (λ (s : SitePlan). s.viewers ≡ 0) new [] refl (All-nil (λ (s : SitePlan). s.viewers ≡ 0)));
    }

-- the sites after a new one is mentioned, and after one that is there already
sites_more : (name : List ℕ) (sites : List SitePlan) → position (λ s. bytes_eq name s.name) sites ≡ None
    → map (λ s. s.name) (sites ++ record { name = name; viewers = 0; period = default_periods; order = Sequence } ∷ []) ≡ sites_with name (map (λ s. s.name) sites)
sites_more name sites none =
    map-append (λ (s : SitePlan). s.name) sites (record { name = name; viewers = 0; period = default_periods; order = Sequence } ∷ [])
    ∙ ap (λ b. cond b (map (λ (s : SitePlan). s.name) sites) (map (λ (s : SitePlan). s.name) sites ++ name ∷ [])) (sym (none_placed {X = SitePlan} (λ s. s.name) name sites none))

sites_same : (name : List ℕ) (sites : List SitePlan) (n : ℕ) → position (λ s. bytes_eq name s.name) sites ≡ Some n → map (λ s. s.name) sites ≡ sites_with name (map (λ s. s.name) sites)
sites_same name sites n e =
    ap (λ b. cond b (map (λ (s : SitePlan). s.name) sites) (map (λ (s : SitePlan). s.name) sites ++ name ∷ [])) (sym (some_placed {X = SitePlan} (λ s. s.name) name sites n e).among)

-- their settlement periods
periods_more : (name : List ℕ) (sites : List SitePlan) → position (λ s. bytes_eq name s.name) sites ≡ None
    → map (λ s. s.period) (sites ++ record { name = name; viewers = 0; period = default_periods; order = Sequence } ∷ []) ≡ periods_with name (map (λ s. s.name) sites) (map (λ s. s.period) sites)
periods_more name sites none =
    map-append (λ (s : SitePlan). s.period) sites (record { name = name; viewers = 0; period = default_periods; order = Sequence } ∷ [])
    ∙ ap (λ b. cond b (map (λ (s : SitePlan). s.period) sites) (map (λ (s : SitePlan). s.period) sites ++ default_periods ∷ [])) (sym (none_placed {X = SitePlan} (λ s. s.name) name sites none))

periods_same : (name : List ℕ) (sites : List SitePlan) (n : ℕ) → position (λ s. bytes_eq name s.name) sites ≡ Some n
    → map (λ s. s.period) sites ≡ periods_with name (map (λ s. s.name) sites) (map (λ s. s.period) sites)
periods_same name sites n e =
    ap (λ b. cond b (map (λ (s : SitePlan). s.period) sites) (map (λ (s : SitePlan). s.period) sites ++ default_periods ∷ [])) (sym (some_placed {X = SitePlan} (λ s. s.name) name sites n e).among)

-- their orders of readings
orders_more : (name : List ℕ) (sites : List SitePlan) → position (λ s. bytes_eq name s.name) sites ≡ None
    → map (λ s. s.order) (sites ++ record { name = name; viewers = 0; period = default_periods; order = Sequence } ∷ []) ≡ orders_with name (map (λ s. s.name) sites) (map (λ s. s.order) sites)
orders_more name sites none =
    map-append (λ (s : SitePlan). s.order) sites (record { name = name; viewers = 0; period = default_periods; order = Sequence } ∷ [])
    ∙ ap (λ b. cond b (map (λ (s : SitePlan). s.order) sites) (map (λ (s : SitePlan). s.order) sites ++ Sequence ∷ [])) (sym (none_placed {X = SitePlan} (λ s. s.name) name sites none))

orders_same : (name : List ℕ) (sites : List SitePlan) (n : ℕ) → position (λ s. bytes_eq name s.name) sites ≡ Some n
    → map (λ s. s.order) sites ≡ orders_with name (map (λ s. s.name) sites) (map (λ s. s.order) sites)
orders_same name sites n e =
    ap (λ b. cond b (map (λ (s : SitePlan). s.order) sites) (map (λ (s : SitePlan). s.order) sites ++ Sequence ∷ [])) (sym (some_placed {X = SitePlan} (λ s. s.name) name sites n e).among)

site_there : (name : List ℕ) (sites : List SitePlan) (n : ℕ) → position (λ s. bytes_eq name s.name) sites ≡ Some n → site_name sites n ≡ name
site_there name sites n e = (some_placed {X = SitePlan} (λ s. s.name) name sites n e).named

-- a site more keeps the names of the others
same_named : (sites : List SitePlan) (new : SitePlan) (k : ℕ) → k < length sites → site_name (sites ++ new ∷ []) k ≡ site_name sites k
same_named [] new k less = absurd (omega arith)
same_named (s ∷ sites) new k less = by k less (same_named sites new)
  where
    by : (j : ℕ) → j < length (s ∷ sites) → ((i : ℕ) → i < length sites → site_name (sites ++ new ∷ []) i ≡ site_name sites i) → site_name (s ∷ (sites ++ new ∷ [])) j ≡ site_name (s ∷ sites) j
    by zero lt later = refl
    by (suc j) lt later = later j (omega (arith, lt))

same_worlds : (sites : List SitePlan) (new : SitePlan) (stations : List StationPlan) → All (λ s. s.site < length sites) stations
    → planned_world (sites ++ new ∷ []) stations ≡ planned_world sites stations
same_worlds sites new [] all = refl
same_worlds sites new (s ∷ stations) all =
    (λ i. new_station s.limits (same_named sites new s.site (all 0 s (omega arith)) i) s.name ∷ planned_world (sites ++ new ∷ []) stations)
    ∙ ap (λ w. new_station s.limits (site_name sites s.site) s.name ∷ w) (same_worlds sites new stations (λ k d lt. all (suc k) d (omega (arith, lt))))

-- the name of a site that begins
last_named : (sites : List SitePlan) (new : SitePlan) → site_name (sites ++ new ∷ []) (length sites) ≡ new.name
last_named [] new = refl
last_named (s ∷ sites) new = last_named sites new

-- ---- one station more

station_kept : (sites : List SitePlan) (stations : List StationPlan) (number : ℕ) (name : List ℕ) (limits : Bounds) → IsPlan sites stations → number < length sites
    → length stations < most_stations → sum_by (λ s. s.limits.readings) stations + limits.readings ≤ most_plan_readings → position (λ s. bytes_eq name s.name) stations ≡ None
    → IsPlan sites (stations ++ record { site = number; name = name; limits = limits } ∷ [])
station_kept sites stations number name limits kept there room fit none =
    let new : StationPlan = record { site = number; name = name; limits = limits } in
    let count : length (stations ++ new ∷ []) ≡ length stations + 1 = length-append stations (new ∷ []) in
    let sum : sum_by (λ (s : StationPlan). s.limits.readings) (stations ++ new ∷ []) ≡ sum_by (λ (s : StationPlan). s.limits.readings) stations + limits.readings =
    sum_by-append (λ (s : StationPlan). s.limits.readings) stations (new ∷ []) ∙ omega (arith, sum_by-cons (λ (s : StationPlan). s.limits.readings) new []) in
    record {
      few_sites = kept.few_sites;
      few_stations = omega (arith, count, room);
      few_readings = omega (arith, sum, fit);
      sites_once = kept.sites_once;
      stations_once = ap has_twice (map-append (λ (s : StationPlan). s.name) stations (new ∷ []))
          ∙ once_behind (map (λ (s : StationPlan). s.name) stations) name kept.stations_once (none_placed {X = StationPlan} (λ s. s.name) name stations none);
      placed = All-append (λ (s : StationPlan). s.site < length sites) stations (new ∷ []) kept.placed
          (All-cons (λ (s : StationPlan). s.site < length sites) new [] there (All-nil (λ (s : StationPlan). s.site < length sites)));
      unviewed = kept.unviewed;
    }

-- what there is room for where one station more is not too many
record HasRoom (o : Option ℕ) (sites : List SitePlan) (stations : List StationPlan) (limits : Bounds) : Type 0 where
  few : length stations < most_stations
  fit : sum_by (λ s. s.limits.readings) stations + limits.readings ≤ most_plan_readings
  begins : is_some o ≡ false → length sites < most_sites

has_room : (o : Option ℕ) (sites : List SitePlan) (stations : List StationPlan) (limits : Bounds) → is_past o sites stations limits ≡ false → HasRoom o sites stations limits
has_room o sites stations limits none =
    let readings = sum_by (λ (s : StationPlan). s.limits.readings) stations + limits.readings in
    let p = neither (nat_le most_stations (length stations)) (nat_lt most_plan_readings readings || (not (is_some o) && nat_le most_sites (length sites))) none in
    let q = neither (nat_lt most_plan_readings readings) (not (is_some o) && nat_le most_sites (length sites)) p.1 in
    record { few = not_many (length stations) p.0; fit = not_past readings q.0; begins = not_begun (is_some o) (length sites) q.1 }
  where
    not_many : (n : ℕ) → nat_le most_stations n ≡ false → n < most_stations
    not_many n e = grind (arith, nat_tests)

    not_past : (n : ℕ) → nat_lt most_plan_readings n ≡ false → n ≤ most_plan_readings
    not_past n e = grind (arith, nat_tests)

    not_begun : (is : Bool) (n : ℕ) → (not is && nat_le most_sites n) ≡ false → is ≡ false → n < most_sites
    not_begun true n e f = cc f
    not_begun false n e f = grind (arith, nat_tests)

-- a plan that one station more keeps, and the script that it is seen as
pub joins : (d : Drafted) (o : Option ℕ) (site name : List ℕ) → o ≡ position (λ s. bytes_eq site s.name) d.sites → IsPlan d.sites d.stations → is_past o d.sites d.stations d.limits ≡ false
    → position (λ s. bytes_eq name s.name) d.stations ≡ None
    → IsPlan (plan.sites_with o site 0 default_periods Sequence d.sites) (d.stations ++ record { site = site_number o d.sites; name = name; limits = d.limits } ∷ [])
    × (planned (record d {
      sites = plan.sites_with o site 0 default_periods Sequence d.sites;
      stations = d.stations ++ record { site = site_number o d.sites; name = name; limits = d.limits } ∷ [];
    })
    ≡ (joined_by None (planned d) site name).0)
joins d None site name e kept room none =
    let new : SitePlan = record { name = site; viewers = 0; period = default_periods; order = Sequence } in
    let station : StationPlan = record { site = length d.sites; name = name; limits = d.limits } in
    let r = has_room None d.sites d.stations d.limits room in
    let more : length (d.sites ++ new ∷ []) ≡ length d.sites + 1 = length-append d.sites (new ∷ []) in
    let begun = site_kept d.sites d.stations site kept (r.begins refl) (sym e) in
    let world : planned_world (d.sites ++ new ∷ []) (d.stations ++ station ∷ []) ≡ planned_world d.sites d.stations ++ new_station d.limits site name ∷ [] =
    map-append (λ (s : StationPlan). new_station s.limits (site_name (d.sites ++ new ∷ []) s.site) s.name) d.stations (station ∷ [])
    ∙ ap (λ w. w ++ new_station d.limits (site_name (d.sites ++ new ∷ []) (length d.sites)) name ∷ []) (same_worlds d.sites new d.stations kept.placed)
    ∙ ap (λ n. planned_world d.sites d.stations ++ new_station d.limits n name ∷ []) (last_named d.sites new) in (
      station_kept (d.sites ++ new ∷ []) d.stations (length d.sites) name d.limits begun (omega (arith, more)) r.few r.fit none,
      (λ i. record {
        limits = d.limits;
        sites = sites_more site d.sites (sym e) i;
        periods = periods_more site d.sites (sym e) i;
        orders = orders_more site d.sites (sym e) i;
        world = world i;
        opened = false;
        moment = d.moment;
      }),
    )
joins d (Some n) site name e kept room none =
    let station : StationPlan = record { site = n; name = name; limits = d.limits } in
    let r = has_room (Some n) d.sites d.stations d.limits room in
    let there = some_placed {X = SitePlan} (λ s. s.name) site d.sites n (sym e) in
    let world : planned_world d.sites (d.stations ++ station ∷ []) ≡ planned_world d.sites d.stations ++ new_station d.limits site name ∷ [] =
    map-append (λ (s : StationPlan). new_station s.limits (site_name d.sites s.site) s.name) d.stations (station ∷ [])
    ∙ ap (λ x. planned_world d.sites d.stations ++ new_station d.limits x name ∷ []) (site_there site d.sites n (sym e)) in (
      station_kept d.sites d.stations n name d.limits kept there.less r.few r.fit none,
      (λ i. record {
        limits = d.limits;
        sites = sites_same site d.sites n (sym e) i;
        periods = periods_same site d.sites n (sym e) i;
        orders = orders_same site d.sites n (sym e) i;
        world = world i;
        opened = false;
        moment = d.moment;
      }),
    )

-- ---- declarations

-- what a station that is not declared yet is answered
pub declared_new : (d : Drafted) (name : List ℕ) → position (λ s. bytes_eq name s.name) d.stations ≡ None → station_named name (planned d).world ≡ None
declared_new d name none = unnamed {X = StationPlan} (λ s. s.name) name d.stations (planned d).world (alike_planned d.sites d.stations) none

-- a declaration that is not past the plan
pub declared_within : (d : Drafted) (site name : List ℕ) → is_past_plan (planned d) site ≡ false
    → declared_to (planned d) site name ≡ joined_by (station_named name (planned d).world) (planned d) site name
declared_within d site name e = ap (λ b. cond b (planned d, fault_line PlanLimit) (joined_by (station_named name (planned d).world) (planned d) site name)) e

-- a station that is declared already
pub declared_twice : (d : Drafted) (site name : List ℕ) (o : Option ℕ) → is_past_plan (planned d) site ≡ false → o ≡ position (λ s. bytes_eq name s.name) d.stations → is_some o ≡ true
    → declared_to (planned d) site name ≡ (planned d, fault_line StationTwice)
declared_twice d site name None e f is = cc is
declared_twice d site name (Some n) e f is =
    let p = is_station {X = StationPlan} (λ s. s.name) name d.stations (planned d).world n (alike_planned d.sites d.stations) (sym f) in
    declared_within d site name e ∙ ap (λ o. joined_by o (planned d) site name) p.is_named

-- a station that is declared anew
pub declared_once : (d : Drafted) (site name : List ℕ) (o : Option ℕ) → is_past_plan (planned d) site ≡ false → o ≡ position (λ s. bytes_eq name s.name) d.stations → is_some o ≡ false
    → declared_to (planned d) site name ≡ joined_by None (planned d) site name
declared_once d site name None e f is = declared_within d site name e ∙ ap (λ o. joined_by o (planned d) site name) (declared_new d name (sym f))
declared_once d site name (Some n) e f is = cc is

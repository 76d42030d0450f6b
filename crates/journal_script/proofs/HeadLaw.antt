-- A head, read as a script, leaves the plan that it declares.
use Rattle.std.{proofs.Common.{slice_get, zero, suc, ◌≡◌, ℕ, ◌<◌, ◌≤◌, Bool, true, false, not, cond, List, [], ◌∷◌, ◌++◌, All, None, Some, bytes_eq, codes, get_or, length, map, refl, sym, ap, subst, ◌∙◌, inl, arith, append_assoc, length-append}, specs.Prelude.{Option, sum_by}, specs.List.position, proofs.lemmas.Bool.{and_parts, leb-true}, proofs.lemmas.List.Elements.{All-append, All-cons, All-head, All-nil, All-tail}, proofs.lemmas.Option.get_or_from_slice_get}
use Rattle.board_report.proofs.SiteBoards.{some_same, stands}
use Rattle.ledger_model.{specs.Content.empty_content, specs.Limits.default_limits, specs.Moment.first_moment, specs.Periods.Periods, specs.Ranges.{most_plan_readings, most_sites, most_stations}, specs.declared.order.Order.Order, specs.declared.order.Order.TheVariants.{Sequence, Moment}, specs.declared.settle.Settle.Settle, specs.declared.settle.Settle.TheVariants.{Later, Closing, Even}}
use Rattle.script_ledgers.{proofs.Boards.at_site, proofs.SettledBy.{order_known, ordered_kept, period_known, settled_kept, settled_known}, specs.Drafts.{Drafted, IsPlan, planned, planned_world, site_name}, specs.Running.filled, specs.Script.{Script, is_period, lasting, new_station, settling, start, step_by}}
use Rattle.script_lines.{specs.LineMeaning.{LineMeaning, nothing, sets_order, sets_period, sets_settle}, specs.Lines.lines_of, specs.Ranges.longest_line}
use Rattle.site_desk.{proofs.NewParts.{planned_names, planned_sites}, specs.declared.fault.DeskFault.DeskFault, specs.declared.fault.DeskFault.TheVariants.{PlanLimit, StationTwice}, specs.declared.plan.SitePlan.SitePlan, specs.declared.plan.StationPlan.StationPlan, specs.Parts.{AreNewCells, row_at}, specs.Plan.{has_twice, is_within_limits, order_at, period_at, plan_fault, sites_changed}, specs.Roster.{AreCellsOf, StandsAt, new_place}, specs.Cell.{Cell, new_cell}}
use Rattle.journal_script.{specs.Head.{after, Adds, HasValues, IsHeadOf, are_in_order, order_meanings, settle_meanings, site_meanings, sites_meanings, stations_meanings}, specs.Cuts.run_begins, specs.Journals.HasOnce, proofs.Declaring.{all_back, all_joined, begins, steps, steps_both, steps_of_lines}, proofs.HeadLines.{adds_begin, adds_both, adds_mark}}

all_placed : (n : ℕ) (stations : List StationPlan) → ((k : ℕ) (s : StationPlan) → slice_get stations k ≡ Some s → s.site < n) → All (λ s. s.site < n) stations
all_placed n [] each = All-nil (λ s. s.site < n)
all_placed n (s ∷ stations) each = All-cons (λ s. s.site < n) s stations (each zero s refl) (all_placed n stations (λ k t at. each (suc k) t at))

-- a plan without a fault has each name once
pub has_once : (sites : List SitePlan) (stations : List StationPlan) → plan_fault sites stations ≡ None → HasOnce sites stations
has_once sites stations none =
    let names = planned_names sites stations none in
    record { sites_once = names.0; stations_once = names.1; placed = all_placed (length sites) stations (λ k s at. planned_sites sites stations k s none at) }

-- ---- the lines of a site

-- a site without viewers
abbrev made : List ℕ → Periods → Order → SitePlan
made name period order = record { name = name; viewers = 0; period = period; order = order }

abbrev unviewed : SitePlan → SitePlan
unviewed s = made s.name s.period s.order

name_here : (front : List SitePlan) (y : SitePlan) (back : List SitePlan) → site_name (front ++ y ∷ back) (length front) ≡ y.name
name_here [] y back = refl
name_here (s ∷ front) y back = name_here front y back

changed_here : (f : SitePlan → SitePlan) (front : List SitePlan) (y : SitePlan) (back : List SitePlan) → sites_changed f (length front) (front ++ y ∷ back) ≡ front ++ f y ∷ back
changed_here f [] y back = refl
changed_here f (s ∷ front) y back = ap (λ l. s ∷ l) (changed_here f front y back)

module _ (d : Drafted) (front back : List SitePlan) where
  abbrev all : SitePlan → List SitePlan
  all y = front ++ y ∷ back

  -- the script while it has this site at its place
  abbrev at : SitePlan → Script
  at y = planned (record d { sites = all y })

  found : (y : SitePlan) → IsPlan (all y) d.stations → position (λ (x : SitePlan). bytes_eq y.name x.name) (all y) ≡ Some (length front)
  found y kept =
      ap (λ n. position (λ (x : SitePlan). bytes_eq n x.name) (all y)) (sym (name_here front y back))
      ∙ at_site (all y) (length front) kept.sites_once (omega (arith, length-append front (y ∷ back)))

  -- a line that changes the site
  abbrev Becomes : SitePlan → SitePlan → List LineMeaning → Type 0
  Becomes y z says = IsPlan (all z) d.stations × (steps (at y) says ≡ at z)

  changed : (f : SitePlan → SitePlan) (y : SitePlan) (says : LineMeaning) → IsPlan (sites_changed f (length front) (all y)) d.stations
      → step_by (at y) says ≡ (planned (record d { sites = sites_changed f (length front) (all y) }), []) → Becomes y (f y) (says ∷ [])
  changed f y says kept e =
      let same = changed_here f front y back in
      (subst (λ l. IsPlan l d.stations) same kept, ap (λ (x : Script × List ℕ). x.0) e ∙ ap (λ l. planned (record d { sites = l })) same)

  period_line : (name : List ℕ) (n : ℕ) → is_period n ≡ true → IsPlan (all (begins name)) d.stations
      → Becomes (begins name) (made name (record { length = n; rule = Later }) Sequence) (sets_period name n ∷ [])
  period_line name n is kept =
      changed (λ s. record s { period = record s.period { length = n } }) (begins name) (sets_period name n)
      (settled_kept (lasting n) (length front) (all (begins name)) d.stations kept)
      (period_known (record d { sites = all (begins name) }) name n (length front) n is refl (found (begins name) kept))

  order_lines : (name : List ℕ) (p : Periods) (o : Order) → IsPlan (all (made name p Sequence)) d.stations → Becomes (made name p Sequence) (made name p o) (order_meanings name o)
  order_lines name p Sequence kept = (kept, refl)
  order_lines name p Moment kept =
      let y = made name p Sequence in
      changed (λ s. record s { order = Moment }) y (sets_order name Moment) (ordered_kept (length front) Moment (all y) d.stations kept)
      (order_known (record d { sites = all y }) name (length front) Moment (found y kept))

  rule_line : (name : List ℕ) (p : Periods) (o : Order) (rule : Settle) → IsPlan (all (made name p o)) d.stations
      → Becomes (made name p o) (made name (record p { rule = rule }) o) (sets_settle name rule ∷ [])
  rule_line name p o rule kept =
      let y = made name p o in
      changed (λ s. record s { period = record s.period { rule = rule } }) y (sets_settle name rule) (settled_kept (settling rule) (length front) (all y) d.stations kept)
      (settled_known (settling rule) (record d { sites = all y }) name (length front) (found y kept))

  settle_lines : (name : List ℕ) (n : ℕ) (o : Order) (rule : Settle) → IsPlan (all (made name (record { length = n; rule = Later }) o)) d.stations
      → Becomes (made name (record { length = n; rule = Later }) o) (made name (record { length = n; rule = rule }) o) (settle_meanings name rule)
  settle_lines name n o Later kept = (kept, refl)
  settle_lines name n o Closing kept = rule_line name (record { length = n; rule = Later }) o Closing kept
  settle_lines name n o Even kept = rule_line name (record { length = n; rule = Later }) o Even kept

  site_lines : (y : SitePlan) → is_period y.period.length ≡ true → IsPlan (all (begins y.name)) d.stations → Becomes (begins y.name) (unviewed y) (site_meanings y)
  site_lines y is kept =
      let orders = order_meanings y.name y.order in
      let rules = settle_meanings y.name y.period.rule in
      let period = period_line y.name y.period.length is kept in
      let order = order_lines y.name (record { length = y.period.length; rule = Later }) y.order period.0 in
      let rule = settle_lines y.name y.period.length y.order y.period.rule order.0 in (
        rule.0,
        ap (λ s. steps s (orders ++ rules)) period.1
            ∙ steps_both (at (made y.name (record { length = y.period.length; rule = Later }) Sequence)) orders rules
            ∙ ap (λ s. steps s rules) order.1 ∙ rule.1,
      )

-- the lines of all sites
sites_lines : (d : Drafted) (sites front : List SitePlan) → All HasValues (sites_meanings sites) → IsPlan (front ++ map (λ s. begins s.name) sites) d.stations
    → steps (planned (record d { sites = front ++ map (λ s. begins s.name) sites })) (sites_meanings sites) ≡ planned (record d { sites = front ++ map unviewed sites })
sites_lines d [] front values kept = refl
sites_lines d (y ∷ sites) front values kept =
    let more = map (λ (s : SitePlan). begins s.name) sites in
    let period : is_period y.period.length ≡ true =
    All-head HasValues (sets_period y.name y.period.length) ((order_meanings y.name y.order ++ settle_meanings y.name y.period.rule) ++ sites_meanings sites) values in
    let one = site_lines d front more y period kept in
    let apart = λ (l : List SitePlan). sym (append_assoc front (unviewed y ∷ []) l) in
    steps_both (planned (record d { sites = front ++ begins y.name ∷ more })) (site_meanings y) (sites_meanings sites)
    ∙ ap (λ s. steps s (sites_meanings sites)) (one.1 ∙ ap (λ l. planned (record d { sites = l })) (apart more))
    ∙ sites_lines d sites (front ++ unviewed y ∷ []) (all_back HasValues (site_meanings y) (sites_meanings sites) values) (subst (λ l. IsPlan l d.stations) (apart more) one.0)
    ∙ ap (λ l. planned (record d { sites = l })) (sym (apart (map unviewed sites)))

-- ---- a whole head

within : (a twice : Bool) → ◌≡◌ {A = Option DeskFault} (cond (not a) (Some PlanLimit) (cond twice (Some StationTwice) None)) None → a ≡ true
within true twice h = refl
within false twice h = absurd (cc (h))

-- a plan without a fault keeps no more readings than it may
few_readings : (sites : List SitePlan) (stations : List StationPlan) → plan_fault sites stations ≡ None → sum_by (λ s. s.limits.readings) stations ≤ most_plan_readings
few_readings sites stations none =
    let whole = within (is_within_limits sites stations) (has_twice (map (λ (s : StationPlan). s.name) stations)) none in
    leb-true (sum_by (λ (s : StationPlan). s.limits.readings) stations) most_plan_readings (and_parts _ _ (and_parts _ _ (and_parts _ _ whole).0).0).0

nothing_planned : IsPlan [] []
nothing_planned = record {
  few_sites = omega arith;
  few_stations = omega arith;
  few_readings = omega arith;
  sites_once = refl;
  stations_once = refl;
  placed = All-nil (λ (s : StationPlan). s.site < 0);
  unviewed = All-nil (λ (s : SitePlan). s.viewers ≡ 0);
}

same_of : {X : Type 0} (f : SitePlan → X) → ((s : SitePlan) → f (unviewed s) ≡ f s) → (sites : List SitePlan) → map f (map unviewed sites) ≡ map f sites
same_of f same [] = refl
same_of f same (s ∷ sites) = λ i. same s i ∷ same_of f same sites i

abbrev none_declared : Drafted
none_declared = record { limits = default_limits; sites = []; stations = []; moment = first_moment }

-- what is written behind a run's first line, the lines of stations and then of their sites and the mark, declares them
pub head_is : (sites : List SitePlan) (stations : List StationPlan) (a b head : List ℕ) → plan_fault sites stations ≡ None → are_in_order 0 (length sites) stations ≡ true
    → length sites ≤ most_sites → length stations ≤ most_stations
    → Adds run_begins a (stations_meanings sites stations) → Adds a b (sites_meanings sites) → head ≡ b ++ codes "#\n" → IsHeadOf sites stations head
head_is sites stations a b head none ordered few_sites few of_stations of_sites e =
    let begin = nothing ∷ [] in
    let own = stations_meanings sites stations in
    let more = sites_meanings sites in
    let once = has_once sites stations none in
    let both = adds_both [] a b (begin ++ own) more (adds_both [] run_begins a begin own adds_begin of_stations) of_sites in
    let whole = adds_both [] b head ((begin ++ own) ++ more) begin both (adds_mark b head e) in
    let joined = all_joined sites stations once.sites_once once.stations_once few_sites few (few_readings sites stations none)
    stations 0 none_declared refl (omega arith) refl nothing_planned once.placed of_stations.values ordered in
    let d = joined.drafted in
    let sited : planned d ≡ planned (record d { sites = map (λ s. begins s.name) sites }) = λ i. planned (record d { sites = joined.sites_are i }) in
    let left : after head ≡ planned (record d { sites = map unviewed sites; stations = stations }) =
    steps_of_lines start (lines_of longest_line head)
    ∙ ap (steps start) (whole.lines (inl refl))
    ∙ steps_both start ((begin ++ own) ++ more) begin
    ∙ steps_both start (begin ++ own) more
    ∙ ap (λ s. steps s more) (joined.is ∙ sited)
    ∙ sites_lines d sites [] of_sites.values (subst (λ l. IsPlan l d.stations) joined.sites_are joined.kept)
    ∙ ap (λ l. planned (record d { sites = map unviewed sites; stations = l })) joined.stations_are in
    let names = same_of (λ (s : SitePlan). s.name) (λ s. refl) sites in
    record {
      says = whole.lines (inl refl);
      values = All-append HasValues own more of_stations.values of_sites.values;
      whole = whole.whole (inl refl);
      sites_are = ap (λ (s : Script). s.sites) left ∙ names;
      periods_are = ap (λ (s : Script). s.periods) left ∙ same_of (λ (s : SitePlan). s.period) (λ s. refl) sites;
      orders_are = ap (λ (s : Script). s.orders) left ∙ same_of (λ (s : SitePlan). s.order) (λ s. refl) sites;
      world_is = ap (λ (s : Script). s.world) left
          ∙ ap (λ (ns : List (List ℕ)). map (λ (s : StationPlan). new_station s.limits (get_or ns s.site []) s.name) stations) names;
    }

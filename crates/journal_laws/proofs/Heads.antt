-- A journal's head loses no line, and has no line `listen`.
use Rattle.std.{proofs.Common.{◌≡◌, ◌≢◌, ℕ, ◌+◌, ◌≤◌, Bool, true, false, cond, List, [], ◌∷◌, ◌++◌, Option, None, Some, All, bytes_eq, length, map, refl, sym, ap, subst, ◌∙◌, arith, append_assoc, length-append}, specs.Prelude.{⊤, ◌||◌}, specs.List.{list_any, position}, proofs.lemmas.Bool.true≢false, proofs.lemmas.List.length-map, proofs.lemmas.List.Elements.{All-cons, All-head, All-nil, All-tail}, proofs.lemmas.Slice.Eq.bytes_eq-Decides}
use Rattle.ledger_model.{specs.Limits.{AreBounds, Bounds}, specs.Periods.Periods, specs.declared.order.Order.Order, specs.declared.order.Order.TheVariants.{Sequence, Moment}, specs.declared.settle.Settle.Settle, specs.declared.settle.Settle.TheVariants.{Later, Closing, Even}, specs.World.Station}
use Rattle.script_lines.{specs.LineMeaning.{LineMeaning, nothing, fails, declares, sets_period, sets_order, sets_settle, line_meaning}, specs.Lines.{Line, lines_of}, specs.Ranges.longest_line, specs.Texts.fault_line, specs.declared.script_line.LineFault.TheVariants.{BadLine, DeclaredLate, PlanLimit}}
use Rattle.script_ledgers.{specs.Drafts.{planned_world, site_name}, specs.Script.{Script, declared_to, is_past_plan, is_period, joined_by, lasting, limited_to, new_station, order_to, ordered_by, period_to, settle_to, settled_by, settling, site_number, start, station_named, step_by}, proofs.Places.none_placed}
use Rattle.site_desk.{specs.declared.plan.SitePlan.SitePlan, specs.declared.plan.StationPlan.StationPlan}
use Rattle.journal_script.{specs.Head.{HasValues, after, limits_meaning, order_meanings, settle_meanings, site_meanings, sites_meanings, station_meanings, stations_meanings}, specs.Restoring.leaves_nothing, proofs.Declaring.{are_bounds, steps, steps_both, steps_of_lines}}
use Rattle.journal_laws.{specs.Restores.HeadsAreKept, proofs.KeptLines.{Kept, kept_both, kept_none, kept_one, listen_fails, not_lost}}

-- ---- lines without an answer

-- Each of these lines is answered by nothing, and none is a bad line.
abbrev Silent : Script → List LineMeaning → Type 0
Silent s [] = ⊤
Silent s (m ∷ ms) = ((step_by s m).1 ≡ []) × ((m ≢ fails BadLine) × Silent (step_by s m).0 ms)

silent_both : (s : Script) (xs ys : List LineMeaning) → Silent s xs → Silent (steps s xs) ys → Silent s (xs ++ ys)
silent_both s [] ys h g = g
silent_both s (m ∷ xs) ys h g = (h.0, (h.1.0, silent_both (step_by s m).0 xs ys h.1.1 g))

kept_lines : (s : Script) (lines : List Line) → Silent s (map line_meaning lines) → Kept s lines
kept_lines s [] silent = kept_none s
kept_lines s (line ∷ lines) silent =
    let m = line_meaning line in
    let own : Kept s (line ∷ []) =
    kept_one s line (not_lost (step_by s m).1 line (ap leaves_nothing silent.0)) (λ e. silent.1.0 (ap line_meaning e ∙ listen_fails)) in
    kept_both s (line ∷ []) lines own (kept_lines (step_by s m).0 lines silent.1.1)

-- ---- the lines of stations

-- A line of limits is answered by nothing, and leaves the stations.
limits_step : (s : Script) (b : Bounds) → AreBounds b.transactions b.events b.readings b.changes → s.opened ≡ false → step_by s (limits_meaning b) ≡ (record s { limits = b }, [])
limits_step s b are closed =
    ap (λ o. cond o (s, fault_line DeclaredLate) (limited_to s b.transactions b.events b.readings b.changes)) closed
    ∙ ap (λ t. cond t (record s { limits = b }, []) (s, fault_line PlanLimit)) (are_bounds b are)

-- What a declaration does: it adds a station and is answered by nothing, or it changes nothing.
data Declared (s : Script) (x : Script × List ℕ) : Type 0 where
  joins : x.1 ≡ [] → length x.0.world ≡ length s.world + 1 → x.0.opened ≡ s.opened → Declared s x
  stays : x.0 ≡ s → Declared s x

joined : (s : Script) (site name : List ℕ) (o : Option Station) → Declared s (joined_by o s site name)
joined s site name None = joins refl (length-append s.world (new_station s.limits site name ∷ [])) refl
joined s site name (Some other) = stays refl

declared : (s : Script) (site name : List ℕ) → s.opened ≡ false → Declared s (step_by s (declares site name))
declared s site name closed =
    subst (Declared s) (sym (ap (λ o. cond o (s, fault_line DeclaredLate) (declared_to s site name)) closed)) (past (is_past_plan s site))
  where
    past : (b : Bool) → Declared s (cond b (s, fault_line PlanLimit) (joined_by (station_named name s.world) s site name))
    past true = stays refl
    past false = joined s site name (station_named name s.world)

-- The lines of a station leave the script open for declarations, with at most one station more.
record Grows (s t : Script) (n : ℕ) : Type 0 where
  closed : t.opened ≡ false
  few : length t.world ≤ length s.world + n

abbrev limited : Script → Bounds → Script
limited s b = record s { limits = b }

after_station : (sites : List SitePlan) (s : Script) (p : StationPlan) → AreBounds p.limits.transactions p.limits.events p.limits.readings p.limits.changes → s.opened ≡ false
    → steps s (station_meanings sites p) ≡ (step_by (limited s p.limits) (declares (site_name sites p.site) p.name)).0
after_station sites s p are closed = ap (λ (x : Script × List ℕ). (step_by x.0 (declares (site_name sites p.site) p.name)).0) (limits_step s p.limits are closed)

grows_by : (s : Script) (x : Script × List ℕ) → s.opened ≡ false → Declared s x → Grows s x.0 1
grows_by s x closed (joins reply more keeps) = record { closed = keeps ∙ closed; few = omega (arith, more) }
grows_by s x closed (stays same) = record { closed = ap (λ (t : Script). t.opened) same ∙ closed; few = omega (arith, ap (λ (t : Script). length t.world) same) }

one_grows : (sites : List SitePlan) (s : Script) (p : StationPlan) → AreBounds p.limits.transactions p.limits.events p.limits.readings p.limits.changes → s.opened ≡ false → Grows s (steps s (station_meanings sites p)) 1
one_grows sites s p are closed =
    let own = limited s p.limits in
    let there = grows_by own (step_by own (declares (site_name sites p.site) p.name)) closed (declared own (site_name sites p.site) p.name closed) in
    subst (λ t. Grows s t 1) (sym (after_station sites s p are closed)) (record { closed = there.closed; few = there.few })

first_values : (sites : List SitePlan) (p : StationPlan) (stations : List StationPlan) → All HasValues (stations_meanings sites (p ∷ stations)) → AreBounds p.limits.transactions p.limits.events p.limits.readings p.limits.changes
first_values sites p stations values = All-head HasValues (limits_meaning p.limits) (declares (site_name sites p.site) p.name ∷ stations_meanings sites stations) values

later_values : (sites : List SitePlan) (p : StationPlan) (stations : List StationPlan) → All HasValues (stations_meanings sites (p ∷ stations)) → All HasValues (stations_meanings sites stations)
later_values sites p stations values =
    All-tail HasValues (declares (site_name sites p.site) p.name) (stations_meanings sites stations)
    (All-tail HasValues (limits_meaning p.limits) (declares (site_name sites p.site) p.name ∷ stations_meanings sites stations) values)

all_grow : (sites : List SitePlan) (s : Script) (stations : List StationPlan) → All HasValues (stations_meanings sites stations) → s.opened ≡ false → Grows s (steps s (stations_meanings sites stations)) (length stations)
all_grow sites s [] values closed = record { closed = closed; few = omega arith }
all_grow sites s (p ∷ stations) values closed =
    let one = one_grows sites s p (first_values sites p stations values) closed in
    let rest = all_grow sites (steps s (station_meanings sites p)) stations (later_values sites p stations values) one.closed in
    record { closed = rest.closed; few = let first = one.few in let more = rest.few in omega (arith, first, more) }

-- Where all stations were added, each of their lines was answered by nothing.
silent_stations : (sites : List SitePlan) (s : Script) (stations : List StationPlan) → All HasValues (stations_meanings sites stations) → s.opened ≡ false
    → length (steps s (stations_meanings sites stations)).world ≡ length s.world + length stations → Silent s (stations_meanings sites stations)
silent_stations sites s [] values closed all = tt
silent_stations sites s (p ∷ stations) values closed all =
    let are = first_values sites p stations values in
    let later = later_values sites p stations values in
    let own = limited s p.limits in
    let x = step_by own (declares (site_name sites p.site) p.name) in
    let limits = limits_step s p.limits are closed in
    let next : (step_by (step_by s (limits_meaning p.limits)).0 (declares (site_name sites p.site) p.name)) ≡ x =
    ap (λ (y : Script × List ℕ). step_by y.0 (declares (site_name sites p.site) p.name)) limits in
    let there = grows_by own x closed (declared own (site_name sites p.site) p.name closed) in
    let rest = all_grow sites x.0 stations later there.closed in
    let whole : length (steps x.0 (stations_meanings sites stations)).world ≡ length s.world + length (p ∷ stations) =
    ap (λ (y : Script × List ℕ). length (steps y.0 (stations_meanings sites stations)).world) (sym next) ∙ all in
    let grown = at_one own x (declared own (site_name sites p.site) p.name closed) (let few = rest.few in omega (arith, whole, few)) in
    let behind : Silent x.0 (stations_meanings sites stations) = silent_stations sites x.0 stations later there.closed (omega (arith, whole, grown.1)) in (
      ap (λ (y : Script × List ℕ). y.1) limits,
      ((λ e. cc e), (ap (λ (y : Script × List ℕ). y.1) next ∙ grown.0, ((λ e. cc e), subst (λ (y : Script × List ℕ). Silent y.0 (stations_meanings sites stations)) (sym next) behind))),
    )
  where
    at_one : (own : Script) (x : Script × List ℕ) → Declared own x → length own.world + 1 ≤ length x.0.world → (x.1 ≡ []) × (length x.0.world ≡ length own.world + 1)
    at_one own x (joins reply more keeps) enough = (reply, more)
    at_one own x (stays same) enough = absurd (omega (arith, enough, ap (λ (t : Script). length t.world) same))

-- ---- the lines of sites

-- The sites, the stations and whether ledgers are opened stay.
record Stays (s t : Script) : Type 0 where
  sites : t.sites ≡ s.sites
  world : t.world ≡ s.world
  opened : t.opened ≡ s.opened

stays_on : (s t u : Script) → Stays s t → Stays t u → Stays s u
stays_on s t u a b = record { sites = b.sites ∙ a.sites; world = b.world ∙ a.world; opened = b.opened ∙ a.opened }

-- A line of a site that is known is answered by nothing, and changes only how the site settles or is ordered.
record Sets (s : Script) (x : Script × List ℕ) : Type 0 where
  reply : x.1 ≡ []
  keeps : Stays s x.0

sets_settled : (s : Script) (change : Periods → Periods) (o : Option ℕ) (k : ℕ) → o ≡ Some k → Sets s (settled_by o s change)
sets_settled s change o k e = subst (λ n. Sets s (settled_by n s change)) (sym e) (record { reply = refl; keeps = record { sites = refl; world = refl; opened = refl } })

sets_ordered : (s : Script) (order : Order) (o : Option ℕ) (k : ℕ) → o ≡ Some k → Sets s (ordered_by o s order)
sets_ordered s order o k e = subst (λ n. Sets s (ordered_by n s order)) (sym e) (record { reply = refl; keeps = record { sites = refl; world = refl; opened = refl } })

abbrev IsKnown : Script → List ℕ → Type 0
IsKnown s name = (k : ℕ) × (site_number name s.sites ≡ Some k)

sets_period_line : (s : Script) (name : List ℕ) (seconds : ℕ) → is_period seconds ≡ true → s.opened ≡ false → IsKnown s name → Sets s (step_by s (sets_period name seconds))
sets_period_line s name seconds is closed known =
    subst (Sets s) (sym (ap (λ o. cond o (s, fault_line DeclaredLate) (period_to s name seconds)) closed ∙ ap (λ t. cond t (settled_by (site_number name s.sites) s (lasting seconds)) (s, fault_line PlanLimit)) is))
    (sets_settled s (lasting seconds) (site_number name s.sites) known.0 known.1)

sets_order_line : (s : Script) (name : List ℕ) (order : Order) → s.opened ≡ false → IsKnown s name → Sets s (step_by s (sets_order name order))
sets_order_line s name order closed known =
    subst (Sets s) (sym (ap (λ o. cond o (s, fault_line DeclaredLate) (order_to s name order)) closed)) (sets_ordered s order (site_number name s.sites) known.0 known.1)

sets_settle_line : (s : Script) (name : List ℕ) (rule : Settle) → s.opened ≡ false → IsKnown s name → Sets s (step_by s (sets_settle name rule))
sets_settle_line s name rule closed known =
    subst (Sets s) (sym (ap (λ o. cond o (s, fault_line DeclaredLate) (settle_to s name rule)) closed)) (sets_settled s (settling rule) (site_number name s.sites) known.0 known.1)

-- Lines that are answered by nothing and keep the sites and stations.
record Quiet (s : Script) (ms : List LineMeaning) : Type 0 where
  silent : Silent s ms
  keeps : Stays s (steps s ms)

quiet_none : (s : Script) → Quiet s []
quiet_none s = record { silent = tt; keeps = record { sites = refl; world = refl; opened = refl } }

quiet_one : (s : Script) (m : LineMeaning) → m ≢ fails BadLine → Sets s (step_by s m) → Quiet s (m ∷ [])
quiet_one s m other sets = record { silent = (sets.reply, (other, tt)); keeps = sets.keeps }

quiet_both : (s : Script) (xs ys : List LineMeaning) → Quiet s xs → Quiet (steps s xs) ys → Quiet s (xs ++ ys)
quiet_both s xs ys a b = record {
  silent = silent_both s xs ys a.silent b.silent;
  keeps = subst (Stays s) (sym (steps_both s xs ys)) (stays_on s (steps s xs) (steps (steps s xs) ys) a.keeps b.keeps);
}

still_known : (s t : Script) (name : List ℕ) → Stays s t → IsKnown s name → IsKnown t name
still_known s t name keeps known = (known.0, ap (site_number name) keeps.sites ∙ known.1)

quiet_orders : (s : Script) (name : List ℕ) (order : Order) → s.opened ≡ false → IsKnown s name → Quiet s (order_meanings name order)
quiet_orders s name Sequence closed known = quiet_none s
quiet_orders s name Moment closed known = quiet_one s (sets_order name Moment) (λ e. cc e) (sets_order_line s name Moment closed known)

quiet_rules : (s : Script) (name : List ℕ) (rule : Settle) → s.opened ≡ false → IsKnown s name → Quiet s (settle_meanings name rule)
quiet_rules s name Later closed known = quiet_none s
quiet_rules s name Closing closed known = quiet_one s (sets_settle name Closing) (λ e. cc e) (sets_settle_line s name Closing closed known)
quiet_rules s name Even closed known = quiet_one s (sets_settle name Even) (λ e. cc e) (sets_settle_line s name Even closed known)

quiet_site : (s : Script) (y : SitePlan) → is_period y.period.length ≡ true → s.opened ≡ false → IsKnown s y.name → Quiet s (site_meanings y)
quiet_site s y is closed known =
    let period = sets_period y.name y.period.length in
    let orders = order_meanings y.name y.order in
    let rules = settle_meanings y.name y.period.rule in
    let first = quiet_one s period (λ e. cc e) (sets_period_line s y.name y.period.length is closed known) in
    let s1 = steps s (period ∷ []) in
    let second = quiet_orders s1 y.name y.order (first.keeps.opened ∙ closed) (still_known s s1 y.name first.keeps known) in
    let s2 = steps s1 orders in
    let third = quiet_rules s2 y.name y.period.rule (second.keeps.opened ∙ first.keeps.opened ∙ closed) (still_known s1 s2 y.name second.keeps (still_known s s1 y.name first.keeps known)) in
    quiet_both s (period ∷ []) (orders ++ rules) first (quiet_both s1 orders rules second third)

-- A name among others has a number.
or_second : (a b : Bool) → b ≡ true → (a || b) ≡ true
or_second true b e = refl
or_second false b e = e

is_there : (name : List ℕ) (front back : List (List ℕ)) → list_any (bytes_eq name) (map (λ (n : List ℕ). n) (front ++ name ∷ back)) ≡ true
is_there name [] back = ap (λ b. b || list_any (bytes_eq name) (map (λ (n : List ℕ). n) back)) ((bytes_eq-Decides name name).1 refl)
is_there name (n ∷ front) back = or_second (bytes_eq name n) (list_any (bytes_eq name) (map (λ (m : List ℕ). m) (front ++ name ∷ back))) (is_there name front back)

is_known : (s : Script) (name : List ℕ) (front back : List (List ℕ)) → s.sites ≡ front ++ name ∷ back → IsKnown s name
is_known s name front back are = at (site_number name s.sites) refl
  where
    at : (o : Option ℕ) → site_number name s.sites ≡ o → IsKnown s name
    at (Some k) e = (k, e)
    at None e =
        let none = none_placed {X = List ℕ} (λ n. n) name (front ++ name ∷ back) (ap (λ names. position (bytes_eq name) names) (sym are) ∙ e) in
        absurd (true≢false (sym (is_there name front back) ∙ none))

values_behind : (xs ys : List LineMeaning) → All HasValues (xs ++ ys) → All HasValues ys
values_behind [] ys h = h
values_behind (x ∷ xs) ys h = values_behind xs ys (All-tail HasValues x (xs ++ ys) h)

quiet_sites : (s : Script) (sites : List SitePlan) (front : List (List ℕ)) → All HasValues (sites_meanings sites) → s.opened ≡ false → s.sites ≡ front ++ map (λ (y : SitePlan). y.name) sites → Quiet s (sites_meanings sites)
quiet_sites s [] front values closed are = quiet_none s
quiet_sites s (y ∷ sites) front values closed are =
    let is : is_period y.period.length ≡ true = All-head HasValues (sets_period y.name y.period.length) ((order_meanings y.name y.order ++ settle_meanings y.name y.period.rule) ++ sites_meanings sites) values in
    let one = quiet_site s y is closed (is_known s y.name front (map (λ (z : SitePlan). z.name) sites) are) in
    let t = steps s (site_meanings y) in
    quiet_both s (site_meanings y) (sites_meanings sites) one
    (quiet_sites t sites (front ++ y.name ∷ []) (values_behind (site_meanings y) (sites_meanings sites) values) (one.keeps.opened ∙ closed)
    (one.keeps.sites ∙ are ∙ sym (append_assoc front (y.name ∷ []) (map (λ (z : SitePlan). z.name) sites))))

-- ---- lines of sites keep sites and stations, whatever their answers

stays_all : (s : Script) → Stays s s
stays_all s = record { sites = refl; world = refl; opened = refl }

stays_if : (s : Script) (b : Bool) (x y : Script × List ℕ) → Stays s x.0 → Stays s y.0 → Stays s (cond b x y).0
stays_if s true x y f g = f
stays_if s false x y f g = g

stays_settled : (s : Script) (change : Periods → Periods) (o : Option ℕ) → Stays s (settled_by o s change).0
stays_settled s change None = stays_all s
stays_settled s change (Some k) = record { sites = refl; world = refl; opened = refl }

stays_ordered : (s : Script) (order : Order) (o : Option ℕ) → Stays s (ordered_by o s order).0
stays_ordered s order None = stays_all s
stays_ordered s order (Some k) = record { sites = refl; world = refl; opened = refl }

stays_period : (s : Script) (name : List ℕ) (seconds : ℕ) → Stays s (step_by s (sets_period name seconds)).0
stays_period s name seconds =
    stays_if s s.opened (s, fault_line DeclaredLate) (period_to s name seconds) (stays_all s)
    (stays_if s (is_period seconds) (settled_by (site_number name s.sites) s (lasting seconds)) (s, fault_line PlanLimit) (stays_settled s (lasting seconds) (site_number name s.sites)) (stays_all s))

stays_orders : (s : Script) (name : List ℕ) (order : Order) → Stays s (steps s (order_meanings name order))
stays_orders s name Sequence = stays_all s
stays_orders s name Moment = stays_if s s.opened (s, fault_line DeclaredLate) (order_to s name Moment) (stays_all s) (stays_ordered s Moment (site_number name s.sites))

stays_rule : (s : Script) (name : List ℕ) (rule : Settle) → Stays s (step_by s (sets_settle name rule)).0
stays_rule s name rule = stays_if s s.opened (s, fault_line DeclaredLate) (settle_to s name rule) (stays_all s) (stays_settled s (settling rule) (site_number name s.sites))

stays_rules : (s : Script) (name : List ℕ) (rule : Settle) → Stays s (steps s (settle_meanings name rule))
stays_rules s name Later = stays_all s
stays_rules s name Closing = stays_rule s name Closing
stays_rules s name Even = stays_rule s name Even

stays_site : (s : Script) (y : SitePlan) → Stays s (steps s (site_meanings y))
stays_site s y =
    let orders = order_meanings y.name y.order in
    let rules = settle_meanings y.name y.period.rule in
    let s1 = (step_by s (sets_period y.name y.period.length)).0 in
    let s2 = steps s1 orders in
    subst (Stays s) (sym (steps_both s1 orders rules))
    (stays_on s s1 (steps s2 rules) (stays_period s y.name y.period.length) (stays_on s1 s2 (steps s2 rules) (stays_orders s1 y.name y.order) (stays_rules s2 y.name y.period.rule)))

stays_sites : (s : Script) (sites : List SitePlan) → Stays s (steps s (sites_meanings sites))
stays_sites s [] = stays_all s
stays_sites s (y ∷ sites) =
    let t = steps s (site_meanings y) in
    subst (Stays s) (sym (steps_both s (site_meanings y) (sites_meanings sites))) (stays_on s t (steps t (sites_meanings sites)) (stays_site s y) (stays_sites t sites))

-- ---- a whole head

values_front : (xs ys : List LineMeaning) → All HasValues (xs ++ ys) → All HasValues xs
values_front [] ys h = All-nil HasValues
values_front (x ∷ xs) ys h = All-cons HasValues x xs (All-head HasValues x (xs ++ ys) h) (values_front xs ys (All-tail HasValues x (xs ++ ys) h))

pub heads_are_kept : HeadsAreKept
heads_are_kept sites stations head h =
    let own = stations_meanings sites stations in
    let more = sites_meanings sites in
    let s1 = steps start own in
    let s2 = steps s1 more in
    let is : after head ≡ s2 =
    steps_of_lines start (lines_of longest_line head) ∙ ap (steps start) h.says ∙ steps_both start (own ++ more) (nothing ∷ []) ∙ steps_both start own more in
    let keeps = stays_sites s1 sites in
    let own_values = values_front own more h.values in
    let grown = all_grow sites start stations own_values refl in
    let named : s1.sites ≡ map (λ (y : SitePlan). y.name) sites = sym keeps.sites ∙ ap (λ (t : Script). t.sites) (sym is) ∙ h.sites_are in
    let world : s1.world ≡ planned_world sites stations = sym keeps.world ∙ ap (λ (t : Script). t.world) (sym is) ∙ h.world_is in
    let count : length s1.world ≡ length stations =
    ap length world ∙ length-map stations (λ (p : StationPlan). new_station p.limits (site_name sites p.site) p.name) in
    let all : length s1.world ≡ length start.world + length stations = omega (arith, count) in
    let first : Silent start own = silent_stations sites start stations own_values refl all in
    let then = quiet_sites s1 sites [] (values_behind own more h.values) grown.closed named in
    let both : Silent start (own ++ more) = silent_both start own more first then.silent in
    let last : Silent (steps start (own ++ more)) (nothing ∷ []) = (refl, ((λ e. cc e), tt)) in
    let silent : Silent start (nothing ∷ ((own ++ more) ++ nothing ∷ [])) = (refl, ((λ e. cc e), silent_both start (own ++ more) (nothing ∷ []) both last)) in
    let kept = kept_lines start (lines_of longest_line head) (subst (Silent start) (sym h.says) silent) in
    record { whole = h.whole; loses_none = kept.loses_none; no_listen = kept.no_listen }

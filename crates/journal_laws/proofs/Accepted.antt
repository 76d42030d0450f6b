-- Entries whose commands are accepted, station by station, are accepted one after the other.
use Rattle.std.{proofs.Common.{◌≡◌, ◌≢◌, ℕ, zero, suc, ◌<◌, Bool, true, false, cond, List, [], ◌∷◌, Some, All, map, bytes_eq, length, get_or, ◌⊎◌, inl, inr, take, option_map, refl, sym, ap, subst, ◌∙◌, arith}, specs.Prelude.{⊤, slice_get}, specs.List.list_any, proofs.lemmas.Bool.{cases_eq, eq-eqb, ne_eqb}, proofs.lemmas.List.{get_or-map, length-map}, proofs.lemmas.List.Elements.{All-head, All-tail}, proofs.lemmas.Option.{get_or_from_slice_get, slice_get_within}, proofs.lemmas.Slice.Eq.bytes_eq-Decides}
use Rattle.kept_desk.{specs.declared.entry.Entry.Entry, specs.Entries.of_station}
use Rattle.ledger_model.{specs.declared.answer.Answer.Answer, specs.declared.answer.Answer.TheVariants.{Accepted, Repeat, Refused}, specs.declared.command.Command.Command, specs.Laws.{AreAccepted, IsAccepted}, specs.Step.answer, specs.World.{Happens, Station, World, station_after, world_after}}
use Rattle.script_ledgers.{specs.Drafts.{planned_world, site_name}, specs.Running.filled, specs.Script.{new_station, station_named}, proofs.Boards.one_place, proofs.Places.neither}
use Rattle.site_desk.{specs.declared.plan.SitePlan.SitePlan, specs.declared.plan.StationPlan.StationPlan, specs.Plan.has_twice, specs.Cell.Cell}
use Rattle.journal_script.specs.Journals.{IsSpoken, commands_of, station_name}
use Rattle.journal_laws.specs.Restores.{AreTaken}

-- ---- stations of a world

same_name : (b : Bool) (s : Station) (command : Command) → (cond b (station_after s command) s).name ≡ s.name
same_name true s command = refl
same_name false s command = refl

-- The station of a name, after one command.
named_after : (w : World) (h : Happens) (name : List ℕ) → station_named name (world_after w h) ≡ option_map (λ s. cond (bytes_eq h.0 s.name) (station_after s h.1) s) (station_named name w)
named_after [] h name = refl
named_after (s ∷ w) h name =
    ap (λ n. cond (bytes_eq name n) (Some (cond (bytes_eq h.0 s.name) (station_after s h.1) s)) (station_named name (world_after w h))) (same_name (bytes_eq h.0 s.name) s h.1)
    ∙ at (bytes_eq name s.name) (named_after w h name)
  where
    at : (b : Bool) → station_named name (world_after w h) ≡ option_map (λ (x : Station). cond (bytes_eq h.0 x.name) (station_after x h.1) x) (station_named name w)
        → cond b (Some (cond (bytes_eq h.0 s.name) (station_after s h.1) s)) (station_named name (world_after w h))
        ≡ option_map (λ (x : Station). cond (bytes_eq h.0 x.name) (station_after x h.1) x) (cond b (Some s) (station_named name w))
    at true later = refl
    at false later = later

pub named : (w : World) (name : List ℕ) (s : Station) → station_named name w ≡ Some s → name ≡ s.name
named [] name s e = cc e
named (x ∷ w) name s e = at (bytes_eq name x.name) refl e (λ f. named w name s f)
  where
    at : (b : Bool) → bytes_eq name x.name ≡ b → cond b (Some x) (station_named name w) ≡ Some s → (station_named name w ≡ Some s → name ≡ s.name) → name ≡ s.name
    at true is f later = let same : x ≡ s = cc f in (bytes_eq-Decides name x.name).0 is ∙ ap (λ y. y.name) same
    at false is f later = later f

-- ---- accepted one after the other

-- A station of this name takes the command.
pub record IsTakenBy (w : World) (name : List ℕ) (command : Command) : Type 0 where
  pub station : Station
  pub n : ℕ
  pub found : station_named name w ≡ Some station
  pub answered : answer station.limits station.content command ≡ Accepted n

-- Each entry's command is taken in the world that the entries before it leave.
abbrev pub AreTakenBy : List StationPlan → World → List Entry → Type 0
AreTakenBy stations w [] = ⊤
AreTakenBy stations w (e ∷ log) = IsTakenBy w (station_name stations e.station) e.command × AreTakenBy stations (world_after w (station_name stations e.station, e.command)) log

-- The station of this number takes all its entries.
record Takes (stations : List StationPlan) (w : World) (log : List Entry) (k : ℕ) : Type 0 where
  station : Station
  found : station_named (station_name stations k) w ≡ Some station
  accepted : AreAccepted station.limits station.content (commands_of (of_station k log))

the_number : (a : Answer) → IsAccepted a → (n : ℕ) × (a ≡ Accepted n)
the_number (Accepted n) is = (n, refl)
the_number Repeat is = absurd is
the_number (Refused why) is = absurd is

-- Names that occur once differ where their numbers do.
names_apart : (stations : List StationPlan) (j k : ℕ) → has_twice (map (λ (s : StationPlan). s.name) stations) ≡ false → j < length stations → k < length stations
    → j ≢ k → bytes_eq (station_name stations j) (station_name stations k) ≡ false
names_apart stations j k once lj lk apart = at (bytes_eq (station_name stations j) (station_name stations k)) refl
  where
    names : List (List ℕ)
    names = map (λ (s : StationPlan). s.name) stations

    at : (b : Bool) → bytes_eq (station_name stations j) (station_name stations k) ≡ b → b ≡ false
    at true is =
        absurd (apart (one_place names j k once (omega (arith, lj, length-map stations (λ (s : StationPlan). s.name))) (omega (arith, lk, length-map stations (λ (s : StationPlan). s.name)))
        ((bytes_eq-Decides (station_name stations j) (station_name stations k)).0 is)))
    at false is = refl

-- What is left for a station after the first entry.
takes_next : (stations : List StationPlan) (w : World) (e : Entry) (log : List Entry) (k : ℕ) → has_twice (map (λ (s : StationPlan). s.name) stations) ≡ false
    → e.station < length stations → k < length stations → Takes stations w (e ∷ log) k → Takes stations (world_after w (station_name stations e.station, e.command)) log k
takes_next stations w e log k once there less t = at (cases_eq e.station k)
  where
    h : Happens
    h = (station_name stations e.station, e.command)

    st : Station
    st = t.station

    after : station_named (station_name stations k) (world_after w h) ≡ Some (cond (bytes_eq h.0 st.name) (station_after st h.1) st)
    after = named_after w h (station_name stations k) ∙ ap (option_map (λ (s : Station). cond (bytes_eq h.0 s.name) (station_after s h.1) s)) t.found

    own : bytes_eq h.0 st.name ≡ bytes_eq h.0 (station_name stations k)
    own = ap (bytes_eq h.0) (sym (named w (station_name stations k) st t.found))

    at : (e.station ≡ k) ⊎ (e.station ≡ k → ⊥) → Takes stations (world_after w h) log k
    at (inl same) =
        let is : bytes_eq h.0 st.name ≡ true = own ∙ (bytes_eq-Decides h.0 (station_name stations k)).1 (ap (station_name stations) same) in
        let its : of_station k (e ∷ log) ≡ e ∷ of_station k log = ap (λ b. cond b (e ∷ of_station k log) (of_station k log)) (eq-eqb e.station k same) in
        let all : AreAccepted st.limits st.content (commands_of (e ∷ of_station k log)) = subst (λ es. AreAccepted st.limits st.content (commands_of es)) its t.accepted in
        record { station = station_after st e.command; found = after ∙ ap (λ b. Some (cond b (station_after st e.command) st)) is; accepted = all.1 }
    at (inr apart) =
        let not_its : bytes_eq h.0 st.name ≡ false = own ∙ names_apart stations e.station k once there less apart in
        let others : of_station k (e ∷ log) ≡ of_station k log = ap (λ b. cond b (e ∷ of_station k log) (of_station k log)) (ne_eqb e.station k apart) in
        record {
          station = st;
          found = after ∙ ap (λ b. Some (cond b (station_after st e.command) st)) not_its;
          accepted = subst (λ es. AreAccepted st.limits st.content (commands_of es)) others t.accepted;
        }

all_taken : (stations : List StationPlan) (w : World) (log : List Entry) → has_twice (map (λ (s : StationPlan). s.name) stations) ≡ false → All (IsSpoken stations) log
    → ((k : ℕ) → k < length stations → Takes stations w log k) → AreTakenBy stations w log
all_taken stations w [] once all takes = tt
all_taken stations w (e ∷ log) once all takes =
    let spoken = All-head (IsSpoken stations) e log all in
    let own = takes e.station spoken.there in
    let its : of_station e.station (e ∷ log) ≡ e ∷ of_station e.station log = ap (λ b. cond b (e ∷ of_station e.station log) (of_station e.station log)) (eq-eqb e.station e.station refl) in
    let accepted : AreAccepted own.station.limits own.station.content (commands_of (e ∷ of_station e.station log)) =
    subst (λ es. AreAccepted own.station.limits own.station.content (commands_of es)) its own.accepted in
    let number = the_number (answer own.station.limits own.station.content e.command) accepted.0 in (
      record { station = own.station; n = number.0; found = own.found; answered = number.1 },
      all_taken stations (world_after w (station_name stations e.station, e.command)) log once (All-tail (IsSpoken stations) e log all)
          (λ k less. takes_next stations w e log k once spoken.there less (takes k less)),
    )

-- ---- the first world

abbrev first_of : List SitePlan → StationPlan → Cell → Station
first_of sites s c = record (new_station s.limits (site_name sites s.site) s.name) { content = c.content }

found_first : (sites : List SitePlan) (stations : List StationPlan) (firsts : List Cell) (k : ℕ) (s : StationPlan) (f : Cell) → has_twice (map (λ (x : StationPlan). x.name) stations) ≡ false
    → slice_get stations k ≡ Some s → slice_get firsts k ≡ Some f → station_named s.name (filled (planned_world sites stations) firsts) ≡ Some (first_of sites s f)
found_first sites [] firsts k s f once e g = cc e
found_first sites (x ∷ stations) [] k s f once e g = cc g
found_first sites (x ∷ stations) (c ∷ firsts) zero s f once e g =
    let same : x ≡ s = cc e in
    let first : c ≡ f = cc g in
    ap (λ b. cond b (Some (first_of sites x c)) (station_named s.name (filled (planned_world sites stations) firsts))) ((bytes_eq-Decides s.name x.name).1 (ap (λ (y : StationPlan). y.name) (sym same)))
    ∙ (λ i. Some (first_of sites (same i) (first i)))
found_first sites (x ∷ stations) (c ∷ firsts) (suc k) s f once e g =
    let names = map (λ (y : StationPlan). y.name) stations in
    let less = slice_get_within stations k s e in
    let at_name : get_or names k [] ≡ s.name = get_or-map (λ (y : StationPlan). y.name) stations k s [] less ∙ ap (λ (y : StationPlan). y.name) (get_or_from_slice_get stations k s s e) in
    ap (λ b. cond b (Some (first_of sites x c)) (station_named s.name (filled (planned_world sites stations) firsts))) (differ names less at_name (bytes_eq s.name x.name) refl)
    ∙ found_first sites stations firsts k s f (neither (list_any (bytes_eq x.name) names) (has_twice names) once).1 e g
  where
    differ : (names : List (List ℕ)) → k < length stations → get_or (map (λ (y : StationPlan). y.name) stations) k [] ≡ s.name → (b : Bool) → bytes_eq s.name x.name ≡ b → b ≡ false
    differ names less at_name true is =
        let all = map (λ (y : StationPlan). y.name) (x ∷ stations) in
        let long = length-map stations (λ (y : StationPlan). y.name) in
        let same : suc k ≡ zero = one_place all (suc k) zero once (omega (arith, less, long)) (omega arith) (at_name ∙ (bytes_eq-Decides s.name x.name).0 is) in
        absurd (omega (arith, same))
    differ names less at_name false is = refl

cell_at : (firsts : List Cell) (k : ℕ) → k < length firsts → (f : Cell) × (slice_get firsts k ≡ Some f)
cell_at [] k less = absurd (omega arith)
cell_at (f ∷ firsts) zero less = (f, refl)
cell_at (f ∷ firsts) (suc k) less = cell_at firsts k (omega arith)

plan_at : (stations : List StationPlan) (k : ℕ) → k < length stations → (s : StationPlan) × (slice_get stations k ≡ Some s)
plan_at [] k less = absurd (omega arith)
plan_at (s ∷ stations) zero less = (s, refl)
plan_at (s ∷ stations) (suc k) less = plan_at stations k (omega arith)

pub taken_by_world : (sites : List SitePlan) (stations : List StationPlan) (firsts : List Cell) (log : List Entry) → has_twice (map (λ (s : StationPlan). s.name) stations) ≡ false
    → All (IsSpoken stations) log → AreTaken stations firsts log → AreTakenBy stations (filled (planned_world sites stations) firsts) log
taken_by_world sites stations firsts log once all taken = all_taken stations (filled (planned_world sites stations) firsts) log once all (λ k less.
    let s = plan_at stations k less in
    let f = cell_at firsts k (omega (arith, less, taken.count)) in
    let names : station_name stations k ≡ s.0.name = get_or-map (λ (x : StationPlan). x.name) stations k s.0 [] less ∙ ap (λ (x : StationPlan). x.name) (get_or_from_slice_get stations k s.0 s.0 s.1) in
    record {
      station = first_of sites s.0 f.0;
      found = ap (λ n. station_named n (filled (planned_world sites stations) firsts)) names ∙ found_first sites stations firsts k s.0 f.0 once s.1 f.1;
      accepted = taken.accepted k s.0 f.0 s.1 f.1;
    })

-- A front of entries that are taken is taken.
pub taken_front : (stations : List StationPlan) (w : World) (log : List Entry) (k : ℕ) → AreTakenBy stations w log → AreTakenBy stations w (take k log)
taken_front stations w log zero taken = tt
taken_front stations w [] (suc k) taken = tt
taken_front stations w (e ∷ log) (suc k) taken = (taken.0, taken_front stations (world_after w (station_name stations e.station, e.command)) log k taken.1)

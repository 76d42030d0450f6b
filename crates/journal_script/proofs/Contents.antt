-- The contents that a journal's entries leave, station by station.
use Rattle.std.{proofs.Common.{◌≡◌, ◌≢◌, ℕ, suc, ◌<◌, Bool, true, false, cond, eqb, List, [], ◌∷◌, None, Some, All, map, bytes_eq, length, get_or, refl, sym, ap, ◌∙◌, arith, ⊎_elim}, specs.List.cons_option, specs.Prelude.slice_get, proofs.lemmas.Bool.{cases_eq, eq-eqb, ne_eqb}, proofs.lemmas.List.{get_or-map, length-map}, proofs.lemmas.List.Elements.{All-head, All-tail}, proofs.lemmas.Option.{get_or_from_slice_get, slice_get_within}, proofs.lemmas.Slice.Eq.bytes_eq-Decides}
use Rattle.kept_desk.{specs.declared.entry.Entry.Entry, specs.Entries.of_station}
use Rattle.ledger_model.{specs.declared.command.Command.Command, specs.Laws.left_by, specs.World.{Happens, run}, specs.WorldLaws.{commands_on, station_left}, proofs.Runs.each_by_its_own}
use Rattle.script_ledgers.{specs.Drafts.{planned_world, site_name}, specs.Running.filled, specs.Script.new_station, proofs.Boards.one_place}
use Rattle.site_desk.{specs.declared.plan.SitePlan.SitePlan, specs.declared.plan.StationPlan.StationPlan, specs.Plan.has_twice, specs.Cell.Cell}
use Rattle.journal_script.{specs.Journals.{AreLeft, IsSpoken, commands_of, station_name}, proofs.Steps.asked_in}

-- ---- the station of an entry

-- names that occur once are the same where their numbers are
names_alike : (names : List (List ℕ)) (j k : ℕ) → has_twice names ≡ false → j < length names → k < length names → bytes_eq (get_or names j []) (get_or names k []) ≡ eqb j k
names_alike names j k once lj lk = ⊎_elim
    (λ (e : j ≡ k). (bytes_eq-Decides (get_or names j []) (get_or names k [])).1 (ap (λ n. get_or names n []) e) ∙ sym (eq-eqb j k e))
    (λ (e : j ≢ k). at (bytes_eq (get_or names j []) (get_or names k [])) refl
    (λ is. e (one_place names j k once lj lk ((bytes_eq-Decides (get_or names j []) (get_or names k [])).0 is)))
    ∙ sym (ne_eqb j k e))
    (cases_eq j k)
  where
    at : (b : Bool) → bytes_eq (get_or names j []) (get_or names k []) ≡ b → (bytes_eq (get_or names j []) (get_or names k []) ≡ true → ⊥) → b ≡ false
    at true is never = absurd (never is)
    at false is never = refl

-- the commands on the station of a number are those of its own entries
own_commands : (stations : List StationPlan) (k : ℕ) (name : List ℕ) (log : List Entry)
    → has_twice (map (λ s. s.name) stations) ≡ false → k < length stations → station_name stations k ≡ name
    → All (IsSpoken stations) log
    → commands_on name (asked_in stations log) ≡ commands_of (of_station k log)
own_commands stations k name [] once less is all = refl
own_commands stations k name (e ∷ log) once less is all =
    let names = map (λ (s : StationPlan). s.name) stations in
    let spoken = All-head (IsSpoken stations) e log all in
    let rest = own_commands stations k name log once less is (All-tail (IsSpoken stations) e log all) in
    let alike : bytes_eq (station_name stations e.station) name ≡ eqb e.station k =
    ap (bytes_eq (station_name stations e.station)) (sym is)
    ∙ names_alike names e.station k once (omega (arith, spoken.there, length-map stations (λ (s : StationPlan). s.name))) (omega (arith, less, length-map stations (λ (s : StationPlan). s.name))) in
    ap (λ b. cons_option (cond b (Some e.command) None) (commands_on name (asked_in stations log))) alike ∙ one (eqb e.station k) rest
  where
    one : (b : Bool) → commands_on name (asked_in stations log) ≡ commands_of (of_station k log)
        → cons_option (cond b (Some e.command) None) (commands_on name (asked_in stations log)) ≡ commands_of (cond b (e ∷ of_station k log) (of_station k log))
    one true later = ap (λ l. e.command ∷ l) later
    one false later = later

-- ---- all stations

module _ (sites : List SitePlan) (hs : List Happens) where
  left_of : (stations : List StationPlan) (firsts cells : List Cell) (own : ℕ → List Command) → length firsts ≡ length stations → length cells ≡ length stations
      → ((k : ℕ) (s : StationPlan) → slice_get stations k ≡ Some s → commands_on s.name hs ≡ own k)
      → ((k : ℕ) (s : StationPlan) (f c : Cell) → slice_get stations k ≡ Some s → slice_get firsts k ≡ Some f → slice_get cells k ≡ Some c → left_by s.limits f.content (own k) ≡ c.content)
      → map (station_left hs) (filled (planned_world sites stations) firsts) ≡ filled (planned_world sites stations) cells
  left_of [] firsts cells own nf nc on left = refl
  left_of (s ∷ stations) [] cells own nf nc on left = absurd (omega arith)
  left_of (s ∷ stations) (f ∷ firsts) [] own nf nc on left = absurd (omega arith)
  left_of (s ∷ stations) (f ∷ firsts) (c ∷ cells) own nf nc on left =
      let here = ap (left_by s.limits f.content) (on 0 s refl) ∙ left 0 s f c refl refl refl in
      let rest = left_of stations firsts cells (λ k. own (suc k)) (omega arith) (omega arith) (λ k t e. on (suc k) t e) (λ k t g d e x y. left (suc k) t g d e x y) in
      (λ i. record (new_station s.limits (site_name sites s.site) s.name) { content = here i } ∷ rest i)

pub all_left : (sites : List SitePlan) (stations : List StationPlan) (firsts cells : List Cell) (log : List Entry)
    → has_twice (map (λ s. s.name) stations) ≡ false → All (IsSpoken stations) log → AreLeft stations firsts cells log
    → run (filled (planned_world sites stations) firsts) (asked_in stations log) ≡ filled (planned_world sites stations) cells
all_left sites stations firsts cells log once all are =
    each_by_its_own (filled (planned_world sites stations) firsts) (asked_in stations log)
    ∙ left_of sites (asked_in stations log) stations firsts cells (λ k. commands_of (of_station k log)) are.count_first are.count
    (λ k s e.
    let less = slice_get_within stations k s e in
    own_commands stations k s.name log once less (get_or-map (λ (x : StationPlan). x.name) stations k s [] less ∙ ap (λ (x : StationPlan). x.name) (get_or_from_slice_get stations k s s e)) all)
    are.left

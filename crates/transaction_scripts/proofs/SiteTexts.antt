-- The board of a site from what the scripts of its transactions alone show.
use Rattle.std.{proofs.Common.{◌≡◌, ℕ, Bool, true, false, cond, List, [], ◌∷◌, Some, All, map, refl, sym, ap, subst, ◌∙◌, bytes_eq}, proofs.lemmas.Bool.or_parts, proofs.lemmas.List.Elements.{All-cons, All-head, All-nil, All-tail}}
use Rattle.board_report.{specs.Named.NamedBoard, specs.Texts.{board_text, total_text}}
use Rattle.ledger_model.{specs.Board.{Board, SiteBoard, board_by, figures_by, sum_of_figures}, specs.Content.entries, specs.declared.figures.Figures.Figures, specs.declared.order.Order.Order, specs.Periods.Periods, specs.World.{Station, World}, proofs.SumsByTransaction.{one_text, same_text}}
use Rattle.script_ledgers.specs.Script.{Script, board_of_site, energy_answer, energy_line, export_answer, export_line, is_among, line_step, order_named, period_named, script_after, shown_station, start, station_named, stations_of, step_by, total_answer}
use Rattle.script_lines.{specs.LineMeaning.{asks_board, asks_energy, asks_export, asks_total, line_meaning}, specs.Lines.{Line, lines_of}, specs.Texts.{ended_line, fault_line}, specs.declared.script_line.LineFault.TheVariants.UnknownSite}
use Rattle.transaction_laws.{specs.Alone.alone, specs.BoardSums.{board_alone, transactions}, specs.SiteSums.{StationBoards, boards_alone, sum_of_stations}, proofs.LoneBoards.{content_figures, map_same, map_twice}, proofs.LoneEntries.turned_text, proofs.SiteBoards.site_of_transactions}
use Rattle.transaction_scripts.{specs.AnyPlan.HasAlone, specs.LoneBytes.end_of_script, specs.LoneScripts.{lone_count, lone_lines}, specs.SiteBoards.{EachHasAlone, ScriptEach, board_together, boards_shown, figures_together, lone_scripts, shown_on_site, station_shown}, proofs.LoneSteps.{all_lines, once_after}, proofs.LoneTexts.same_lines, proofs.LoneWorlds.{Either, NamedOnce, name_found, named_only, names, only_own, only_some}}

-- a name that none has is among them once at most
none_once : (x : List ℕ) (ys : List (List ℕ)) → is_among x ys ≡ false → NamedOnce x ys
none_once x [] none = tt
none_once x (y ∷ ys) none = let parts = or_parts (bytes_eq x y) (is_among x ys) none in subst (λ b. Either b (is_among x ys ≡ false) (NamedOnce x ys)) (sym parts.0) (none_once x ys parts.1)

-- behind a station no other has its name
none_behind : (s : Station) (ss : World) → NamedOnce s.name (names (s ∷ ss)) → is_among s.name (names ss) ≡ false
none_behind s ss once = subst (λ b. Either b (is_among s.name (names ss) ≡ false) (NamedOnce s.name (names ss))) (same_text s.name) once

once_behind : (x : List ℕ) (s : Station) (ss : World) → NamedOnce x (names (s ∷ ss)) → NamedOnce x (names ss)
once_behind x s ss once = by_case (bytes_eq x s.name) once
  where
    by_case : (b : Bool) → Either b (is_among x (names ss) ≡ false) (NamedOnce x (names ss)) → NamedOnce x (names ss)
    by_case true none = none_once x (names ss) none
    by_case false once = once

-- each station of a world is found by its name
abbrev IsFound : World → Station → Type 0
IsFound w station = station_named station.name w ≡ Some station

found_behind : (s : Station) (w : World) (ss : World) → is_among s.name (names ss) ≡ false → All (IsFound w) ss → All (IsFound (s ∷ w)) ss
found_behind s w [] none all = All-nil (IsFound (s ∷ w))
found_behind s w (r ∷ ss) none all =
    let parts = or_parts (bytes_eq s.name r.name) (is_among s.name (names ss)) none in
    All-cons (IsFound (s ∷ w)) r ss
    (ap (λ b. cond b (Some s) (station_named r.name w)) (turned_text r.name s.name ∙ parts.0) ∙ All-head (IsFound w) r ss all)
    (found_behind s w ss parts.1 (All-tail (IsFound w) r ss all))

all_found : (w : World) → ((x : List ℕ) → NamedOnce x (names w)) → All (IsFound w) w
all_found [] once = All-nil (IsFound [])
all_found (s ∷ ss) once =
    All-cons (IsFound (s ∷ ss)) s ss (ap (λ b. cond b (Some s) (station_named s.name ss)) (same_text s.name))
    (found_behind s ss ss (none_behind s ss (once s.name)) (all_found ss (λ x. once_behind x s ss (once x))))

-- the station that a site's board shows under a name
shown_under : (order : Order) (period : Periods) (site name : List ℕ) (d : Board) (w : World) (station : Station) → station_named name w ≡ Some station → bytes_eq site station.site ≡ true
    → station_shown d name (map (shown_station order period) (stations_of site w)) ≡ board_by order period (entries station.content)
shown_under order period site name d [] station found of_site = cc found
shown_under order period site name d (s ∷ ss) station found of_site = by_name (bytes_eq name s.name) refl found (λ later. shown_under order period site name d ss station later of_site)
  where
    shown : World → Board
    shown w = station_shown d name (map (shown_station order period) w)

    by_name : (b : Bool) → bytes_eq name s.name ≡ b → cond b (Some s) (station_named name ss) ≡ Some station
        → (station_named name ss ≡ Some station → station_shown d name (map (shown_station order period) (stations_of site ss)) ≡ board_by order period (entries station.content))
        → station_shown d name (map (shown_station order period) (cond (bytes_eq site s.site) (s ∷ stations_of site ss) (stations_of site ss))) ≡ board_by order period (entries station.content)
    by_name true same is later =
        let here : s ≡ station = cc is in
        ap (λ b. station_shown d name (map (shown_station order period) (cond b (s ∷ stations_of site ss) (stations_of site ss)))) (ap (λ (t : Station). bytes_eq site t.site) here ∙ of_site)
        ∙ ap (λ b. cond b (board_by order period (entries s.content)) (station_shown d name (map (shown_station order period) (stations_of site ss)))) same
        ∙ ap (λ (t : Station). board_by order period (entries t.content)) here
    by_name false other is later = by_site (bytes_eq site s.site)
      where
        by_site : (b : Bool) → station_shown d name (map (shown_station order period) (cond b (s ∷ stations_of site ss) (stations_of site ss))) ≡ board_by order period (entries station.content)
        by_site true = ap (λ b. cond b (board_by order period (entries s.content)) (station_shown d name (map (shown_station order period) (stations_of site ss)))) other ∙ later is
        by_site false = later is

-- what a script shows of a station of which it has one transaction
pub shown_alone : (name tx : List ℕ) (n : ℕ) (s lone : Script) (h : HasAlone name tx n s lone)
    → shown_on_site h.station.site name lone ≡ board_by (order_named s h.station.site) (period_named s h.station.site) (entries (alone tx 0 h.station.content))
shown_alone name tx n s lone h =
    let site = h.station.site in
    let order = order_named lone site in
    let period = period_named lone site in
    shown_under order period site name (board_by order period []) lone.world (record h.station { content = alone tx n h.station.content }) h.lone_station (same_text site)
    ∙ (λ i. board_by (h.order i) (h.period i) (entries (alone tx 0 h.station.content)))

module _ (each : ScriptEach) (site : List ℕ) (s : Script) (has : EachHasAlone each site s) where
  abbrev order : Order
  order = order_named s site

  abbrev period : Periods
  period = period_named s site

  shown_each : (station : Station) (tx : List ℕ) → IsFound s.world station → bytes_eq site station.site ≡ true → shown_on_site site station.name (each station tx) ≡ board_alone order period station.content tx
  shown_each station tx found of_site =
      let h = (has station tx found of_site).1 in
      let is : Some h.station ≡ Some station = sym h.whole_station ∙ found in
      let here : h.station ≡ station = cc is in
      let there : h.station.site ≡ site = ap (λ (t : Station). t.site) here ∙ sym (one_text site station.site of_site) in
      ap (λ x. shown_on_site x station.name (each station tx)) (sym there)
      ∙ shown_alone station.name tx (has station tx found of_site).0 s (each station tx) h
      ∙ (λ i. board_by (order_named s (there i)) (period_named s (there i)) (entries (alone tx 0 (here i).content)))

  boards_alike : (station : Station) → IsFound s.world station → bytes_eq site station.site ≡ true → boards_alone order period station ≡ boards_shown each site station
  boards_alike station found of_site = ap (λ bs. (station.name, bs)) (map_same _ _ (λ tx. sym (shown_each station tx found of_site)) (transactions station.content))

  all_alike : (w : World) → All (IsFound s.world) w → map (boards_alone order period) (stations_of site w) ≡ map (boards_shown each site) (stations_of site w)
  all_alike [] all = refl
  all_alike (r ∷ ss) all = by_case (bytes_eq site r.site) (boards_alike r (All-head (IsFound s.world) r ss all)) (all_alike ss (All-tail (IsFound s.world) r ss all))
    where
      by_case : (b : Bool) → (b ≡ true → boards_alone order period r ≡ boards_shown each site r) → map (boards_alone order period) (stations_of site ss) ≡ map (boards_shown each site) (stations_of site ss)
          → map (boards_alone order period) (cond b (r ∷ stations_of site ss) (stations_of site ss)) ≡ map (boards_shown each site) (cond b (r ∷ stations_of site ss) (stations_of site ss))
      by_case true same rest = λ i. same refl i ∷ rest i
      by_case false same rest = rest

  named : SiteBoard → NamedBoard
  named b = record { name = site; period = b.period; order = order; figures = b.figures; quarters = b.quarters; stations = b.stations }

  together : ((x : List ℕ) → NamedOnce x (names s.world)) → board_of_site s site ≡ board_together each site s
  unfolding named
  together once =
      ap named (site_of_transactions order period (stations_of site s.world)
      ∙ ap (sum_of_stations period) (all_alike s.world (all_found s.world once)))

-- any scripts that have a transaction each
pub text_of_any : (each : ScriptEach) (lines : List Line) (line : Line) (site : List ℕ) → line_meaning line ≡ asks_board site → is_among site (script_after start lines).sites ≡ true
    → EachHasAlone each site (script_after start lines) → (line_step (script_after start lines) line).1 ≡ board_text (board_together each site (script_after start lines))
text_of_any each lines line site asks there has =
    let s = script_after start lines in
    ap (λ m. (step_by s m).1) asks
    ∙ ap (λ b. cond b (board_text (board_of_site s site)) (fault_line UnknownSite)) there
    ∙ ap board_text (together each site s has (λ x. once_after x [] lines))

-- the script of a transaction's lines has it alone
pub has_alone : (name tx : List ℕ) (lines : List Line) (station : Station) → station_named name (script_after start lines).world ≡ Some station
    → HasAlone name tx (lone_count name tx 0 start lines) (script_after start lines) (script_after start (lone_lines name tx start lines))
has_alone name tx lines station found =
    let s = script_after start lines in
    let f = (all_lines name tx lines).1 in
    let n = lone_count name tx 0 start lines in
    let own : bytes_eq name station.name ≡ true = subst (λ x. bytes_eq name x ≡ true) (name_found name s.world station found) (same_text name) in
    record {
      station = station;
      whole_station = found;
      lone_station = ap (λ (l : Script). station_named name l.world) f.is ∙ named_only name tx n name s.world ∙ ap (only_some name tx n) found ∙ ap Some (only_own name tx n station own);
      changes = f.few station found;
      order = ap (λ (l : Script). order_named l station.site) f.is;
      period = ap (λ (l : Script). period_named l station.site) f.is;
      moment = ap (λ (l : Script). l.moment) f.is;
    }

pub text_together : (max_line_bytes : ℕ) (bytes : List ℕ) (line : Line) (site : List ℕ) → line_meaning line ≡ asks_board site → is_among site (end_of_script max_line_bytes bytes).sites ≡ true
    → (line_step (end_of_script max_line_bytes bytes) line).1 ≡ board_text (board_together (lone_scripts max_line_bytes bytes) site (end_of_script max_line_bytes bytes))
text_together max_line_bytes bytes line site asks there =
    let lines = lines_of max_line_bytes bytes in
    text_of_any (lone_scripts max_line_bytes bytes) lines line site asks there (λ station tx found of_site.
    let name = station.name in (
      lone_count name tx 0 start lines,
      subst (λ ls. HasAlone name tx (lone_count name tx 0 start lines) (script_after start lines) (script_after start ls)) (sym (same_lines max_line_bytes name tx bytes)) (has_alone name tx lines station found),
    ))

-- the figures of a station, and the texts that show them
module _ (each : ScriptEach) (lines : List Line) (line : Line) (name : List ℕ) (station : Station) (found : station_named name (script_after start lines).world ≡ Some station)
    (has : EachHasAlone each station.site (script_after start lines)) where
  figures_alike : figures_by (order_named (script_after start lines) station.site) (entries station.content) ≡ figures_together each station
  figures_alike =
      let s = script_after start lines in
      let here : IsFound s.world station = subst (λ x. station_named x s.world ≡ Some station) (name_found name s.world station found) found in
      content_figures (order_named s station.site) station.content
      ∙ ap sum_of_figures (sym (map_twice (λ (b : Board). b.figures) (board_alone (order_named s station.site) (period_named s station.site) station.content) (transactions station.content)))
      ∙ ap (λ (bs : StationBoards). sum_of_figures (map (λ (b : Board). b.figures) bs.1)) (boards_alike each station.site s has station here (same_text station.site))

  pub total_together : line_meaning line ≡ asks_total name → (line_step (script_after start lines) line).1 ≡ ended_line (total_text (figures_together each station))
  total_together asks =
      let s = script_after start lines in
      ap (λ m. (step_by s m).1) asks ∙ ap (total_answer (order_named s)) found ∙ ap (λ f. ended_line (total_text f)) figures_alike

  pub energy_together : line_meaning line ≡ asks_energy name → (line_step (script_after start lines) line).1 ≡ energy_line (record { up = (figures_together each station).up; down = (figures_together each station).down })
  energy_together asks =
      let s = script_after start lines in
      ap (λ m. (step_by s m).1) asks ∙ ap (energy_answer (order_named s)) found ∙ ap (λ (f : Figures). energy_line (record { up = f.up; down = f.down })) figures_alike

  pub export_together : line_meaning line ≡ asks_export name
      → (line_step (script_after start lines) line).1 ≡ export_line (record { up = (figures_together each station).export_up; down = (figures_together each station).export_down })
  export_together asks =
      let s = script_after start lines in
      ap (λ m. (step_by s m).1) asks ∙ ap (export_answer (order_named s)) found ∙ ap (λ (f : Figures). export_line (record { up = f.export_up; down = f.export_down })) figures_alike

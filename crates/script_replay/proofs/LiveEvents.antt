-- Scripts that leave the stations of a site the same live events.
use Rattle.std.{proofs.Common.{◌≡◌, ℕ, true, false, cond, List, [], ◌∷◌, ◌++◌, None, Some, map, refl, sym, ap, ◌∙◌, ⊎_elim, bytes_eq}, specs.List.flat_map, proofs.lemmas.Bool.cases_Bool, proofs.lemmas.Slice.Eq.bytes_eq-Decides}
use Rattle.board_report.specs.Named.{NamedBoard}
use Rattle.ledger_model.{specs.Periods.Periods, specs.Settling.default_periods, specs.declared.order.Order.Order, specs.declared.reading.Direction.Direction, specs.declared.reading.Direction.TheVariants.{Import, Export}, specs.Board.{Board, board_by, figures_by, flows_under, plus_figures, site_board, sum_of_figures}, specs.BoardLaws.with_voided, specs.Content.{entries, live}, specs.Energy.{energy_by, rising}, specs.World.{Station, World}, proofs.LiveEvents.live_alone}
use Rattle.script_lines.{specs.LineMeaning.{asks_energy, asks_export, line_meaning}, specs.Lines.Line}
use Rattle.script_ledgers.specs.Script.{board_of_site, energy_line, export_line, order_named, period_named, shown_site, shown_station, station_named, stations_of}
use Rattle.script_replay.{specs.LiveLaws.{after, AgreeAt, IsAtAgreed, LiveEventsMakeBoards, LiveEventsMakeEnergies, LiveEventsMakeTotals, board_but_voided, figures_but_voided}, proofs.ReachedStations.{Kept, boards_are_from_scratch, energy_is_from_scratch, export_is_from_scratch, kept_from_start, totals_are_from_scratch}}

-- ---- boards

abbrev Named : Type 0
Named = List ℕ × Board

abbrev but_voided : Named → Named
but_voided s = (s.0, with_voided 0 s.1)

-- The sums of figures without one of them are the sums without it.
sums_but_voided : (bs : List Named) → figures_but_voided (sum_of_figures (map (λ (s : Named). s.1.figures) bs)) ≡ sum_of_figures (map (λ (s : Named). s.1.figures) (map but_voided bs))
sums_but_voided [] = refl
sums_but_voided (b ∷ bs) = ap (plus_figures (figures_but_voided b.1.figures)) (sums_but_voided bs)

same_quarters : (bs : List Named) → flat_map (λ (s : Named). s.1.quarters) bs ≡ flat_map (λ (s : Named). s.1.quarters) (map but_voided bs)
same_quarters [] = refl
same_quarters (b ∷ bs) = ap (λ l. b.1.quarters ++ l) (same_quarters bs)

-- The board of a site over its stations' boards.
abbrev site_over : List ℕ → Order → Periods → List Named → NamedBoard
site_over site order period bs =
    let b = site_board period bs in
    record { name = site; period = b.period; order = order; figures = b.figures; quarters = b.quarters; stations = b.stations }

-- Without the voided events, it is the board over the stations' boards without theirs.
site_but_voided : (site : List ℕ) (order : Order) (period : Periods) (bs : List Named) → board_but_voided (site_over site order period bs) ≡ site_over site order period (map but_voided bs)
site_but_voided site order period bs =
    let sums = sums_but_voided bs in let lines = same_quarters bs in
    λ i. record {
      name = site;
      period = period;
      order = order;
      figures = sums i;
      quarters = map (λ quarter. (quarter, flows_under quarter (lines i))) (rising (map (λ line. line.0) (lines i)));
      stations = map but_voided bs;
    }

-- Only live events make a board, except for how many events are voided.
same_board : (order : Order) (period : Periods) (a b : Station) → live (entries a.content) ≡ live (entries b.content)
    → with_voided 0 (board_by order period (entries a.content)) ≡ with_voided 0 (board_by order period (entries b.content))
same_board order period a b same = ap (with_voided 0) (live_alone order period (entries a.content) (entries b.content) same)

same_boards : (order : Order) (period : Periods) (v w : World)
    → map (λ (s : Station). s.name) v ≡ map (λ (s : Station). s.name) w
    → map (λ (s : Station). live (entries s.content)) v ≡ map (λ (s : Station). live (entries s.content)) w
    → map but_voided (map (shown_station order period) v) ≡ map but_voided (map (shown_station order period) w)
same_boards order period [] [] names lives = refl
same_boards order period [] (b ∷ w) names lives = cc names
same_boards order period (a ∷ v) [] names lives = cc names
same_boards order period (a ∷ v) (b ∷ w) names lives =
    let name : a.name ≡ b.name = cc names in
    let others : map (λ (s : Station). s.name) v ≡ map (λ (s : Station). s.name) w = cc names in
    let same : live (entries a.content) ≡ live (entries b.content) = cc lives in
    let later : map (λ (s : Station). live (entries s.content)) v ≡ map (λ (s : Station). live (entries s.content)) w = cc lives in
    let board = same_board order period a b same in
    let rest = same_boards order period v w others later in
    λ i. (name i, board i) ∷ rest i

alike_at : (site : List ℕ) (one other : List Line) → AgreeAt site one other → board_but_voided (board_of_site (after one) site) ≡ board_but_voided (board_of_site (after other) site)
alike_at site one other agree =
    let v = stations_of site (after one).world in let w = stations_of site (after other).world in
    let order = order_named (after other) site in let period = period_named (after other) site in
    (λ i. board_but_voided (shown_site site (agree.order i) (agree.period i) v))
    ∙ site_but_voided site order period (map (shown_station order period) v)
    ∙ ap (site_over site order period) (same_boards order period v w agree.names agree.live_events)
    ∙ sym (site_but_voided site order period (map (shown_station order period) w))

pub live_events_make_boards : LiveEventsMakeBoards
live_events_make_boards one other site line agree says =
    let alike = alike_at site one other agree in
    record {
      one_answers = boards_are_from_scratch one line site says agree.one_has;
      other_answers = boards_are_from_scratch other line site says agree.other_has;
      alike = alike;
      quarters = ap (λ (b : NamedBoard). b.quarters) alike;
    }

-- ---- stations

-- No two stations of a world have one name.
abbrev AreOnce : World → Type 0
AreOnce [] = Unit {0}
AreOnce (s ∷ ss) = (station_named s.name ss ≡ None) × AreOnce ss

are_once : (w : World) → Kept w → AreOnce w
are_once [] kept = tt
are_once (s ∷ ss) kept = (kept.1.0, are_once ss (kept.0.1, kept.1.1))

module _ (site name : List ℕ) where
  -- A station in front, of another name.
  skipped : (s : Station) (w : World) → bytes_eq name s.name ≡ false → station_named name (s ∷ w) ≡ station_named name w
  skipped s w apart = ap (λ b. cond b (Some s) (station_named name w)) apart

  behind : (s : Station) (w : World) (a : Station) → bytes_eq name s.name ≡ false → station_named name w ≡ Some a → station_named name (s ∷ w) ≡ Some a
  behind s w a apart is = skipped s w apart ∙ is

  -- One of that name.
  first : (s : Station) (w : World) → bytes_eq name s.name ≡ true → station_named name (s ∷ w) ≡ Some s
  first s w is = ap (λ b. cond b (Some s) (station_named name w)) is

  with_first : (s : Station) (ss : World) → bytes_eq site s.site ≡ true → stations_of site (s ∷ ss) ≡ s ∷ stations_of site ss
  with_first s ss at = ap (λ b. cond b (s ∷ stations_of site ss) (stations_of site ss)) at

  without_first : (s : Station) (ss : World) → bytes_eq site s.site ≡ false → stations_of site (s ∷ ss) ≡ stations_of site ss
  without_first s ss apart = ap (λ b. cond b (s ∷ stations_of site ss) (stations_of site ss)) apart

  -- One of another name changes nothing, at the site or not.
  other_first : (s : Station) (ss : World) → bytes_eq name s.name ≡ false → station_named name (stations_of site (s ∷ ss)) ≡ station_named name (stations_of site ss)
  other_first s ss apart = ⊎_elim
      (λ (at : bytes_eq site s.site ≡ true). ap (station_named name) (with_first s ss at) ∙ skipped s (stations_of site ss) apart)
      (λ (away : bytes_eq site s.site ≡ false). ap (station_named name) (without_first s ss away))
      (cases_Bool (bytes_eq site s.site))

  -- The first station of a name, where it is at the site, is the first one of the site's.
  at_its_site : (w : World) (a : Station) → station_named name w ≡ Some a → bytes_eq site a.site ≡ true → station_named name (stations_of site w) ≡ Some a
  at_its_site [] a is there = cc is
  at_its_site (s ∷ ss) a is there = ⊎_elim
      (λ (named : bytes_eq name s.name ≡ true).
      let this : Some s ≡ Some a = sym (first s ss named) ∙ is in
      let same : s ≡ a = cc this in
      ap (station_named name) (with_first s ss (ap (λ x. bytes_eq site x.site) same ∙ there)) ∙ first s (stations_of site ss) named ∙ this)
      (λ (apart : bytes_eq name s.name ≡ false). other_first s ss apart ∙ at_its_site ss a (sym (skipped s ss apart) ∙ is) there)
      (cases_Bool (bytes_eq name s.name))

  -- The one that is found among the site's is at the site, and where no two have one name it is the one that is found
  -- among all.
  found_at : (w : World) (a : Station) → station_named name (stations_of site w) ≡ Some a → bytes_eq site a.site ≡ true
  found_at [] a is = cc is
  found_at (s ∷ ss) a is = ⊎_elim
      (λ (at : bytes_eq site s.site ≡ true). ⊎_elim
      (λ (named : bytes_eq name s.name ≡ true).
      let this : Some s ≡ Some a = sym (first s (stations_of site ss) named) ∙ sym (ap (station_named name) (with_first s ss at)) ∙ is in
      let same : s ≡ a = cc this in
      sym (ap (λ x. bytes_eq site x.site) same) ∙ at)
      (λ (apart : bytes_eq name s.name ≡ false). found_at ss a (sym (other_first s ss apart) ∙ is))
      (cases_Bool (bytes_eq name s.name)))
      (λ (away : bytes_eq site s.site ≡ false). found_at ss a (sym (ap (station_named name) (without_first s ss away)) ∙ is))
      (cases_Bool (bytes_eq site s.site))

  found_among_all : (w : World) (a : Station) → AreOnce w → station_named name (stations_of site w) ≡ Some a → station_named name w ≡ Some a
  found_among_all [] a once is = is
  found_among_all (s ∷ ss) a once is = ⊎_elim
      (λ (named : bytes_eq name s.name ≡ true). ⊎_elim
      (λ (at : bytes_eq site s.site ≡ true). first s ss named ∙ sym (first s (stations_of site ss) named) ∙ sym (ap (station_named name) (with_first s ss at)) ∙ is)
      (λ (away : bytes_eq site s.site ≡ false).
      let later = found_among_all ss a once.1 (sym (ap (station_named name) (without_first s ss away)) ∙ is) in
      let none : station_named name ss ≡ None = ap (λ n. station_named n ss) ((bytes_eq-Decides name s.name).0 named) ∙ once.0 in
      let both : None ≡ Some a = sym none ∙ later in
      cc both)
      (cases_Bool (bytes_eq site s.site)))
      (λ (apart : bytes_eq name s.name ≡ false). skipped s ss apart ∙ found_among_all ss a once.1 (sym (other_first s ss apart) ∙ is))
      (cases_Bool (bytes_eq name s.name))

  -- Where the names and the live events are the same, so are those of the station of a name.
  in_step : (v w : World)
      → map (λ (s : Station). s.name) v ≡ map (λ (s : Station). s.name) w
      → map (λ (s : Station). live (entries s.content)) v ≡ map (λ (s : Station). live (entries s.content)) w
      → (a : Station) → station_named name v ≡ Some a → (b : Station) × (station_named name w ≡ Some b) × (live (entries a.content) ≡ live (entries b.content))
  in_step [] w names lives a is = cc is
  in_step (s ∷ v) [] names lives a is = cc names
  in_step (s ∷ v) (t ∷ w) names lives a is =
      let called : s.name ≡ t.name = cc names in
      let others : map (λ (s : Station). s.name) v ≡ map (λ (s : Station). s.name) w = cc names in
      let same : live (entries s.content) ≡ live (entries t.content) = cc lives in
      let later : map (λ (s : Station). live (entries s.content)) v ≡ map (λ (s : Station). live (entries s.content)) w = cc lives in
      ⊎_elim
      (λ (named : bytes_eq name s.name ≡ true).
      let this : Some s ≡ Some a = sym (first s v named) ∙ is in
      let found : s ≡ a = cc this in
      (t, first t w (sym (ap (bytes_eq name) called) ∙ named), sym (ap (λ (x : Station). live (entries x.content)) found) ∙ same))
      (λ (apart : bytes_eq name s.name ≡ false).
      let rest = in_step v w others later a (sym (skipped s v apart) ∙ is) in
      (rest.0, behind t w rest.0 (sym (ap (bytes_eq name) called) ∙ apart) rest.1, rest.2))
      (cases_Bool (bytes_eq name s.name))

-- The station of the name in the other script, and what it has in common with that of the first.
record IsOther (name : List ℕ) (one other : List Line) (a : Station) : Type 0 where
  station : Station
  is : station_named name (after other).world ≡ Some station
  order : order_named (after one) a.site ≡ order_named (after other) station.site
  live_events : live (entries a.content) ≡ live (entries station.content)

other_station : (name : List ℕ) (one other : List Line) (m : IsAtAgreed name one other) → IsOther name one other m.station
other_station name one other m =
    let site = m.station.site in
    let here = at_its_site site name (after one).world m.station m.is ((bytes_eq-Decides site site).1 refl) in
    let found = in_step site name (stations_of site (after one).world) (stations_of site (after other).world) m.agree.names m.agree.live_events m.station here in
    let same : site ≡ found.0.site = (bytes_eq-Decides site found.0.site).0 (found_at site name (after other).world found.0 found.1) in
    record {
      station = found.0;
      is = found_among_all site name (after other).world found.0 (are_once (after other).world (kept_from_start other)) found.1;
      order = m.agree.order ∙ ap (order_named (after other)) same;
      live_events = found.2;
    }

-- Only live events make energies.
same_energy : (order : Order) (d : Direction) (a b : Station) → live (entries a.content) ≡ live (entries b.content) → energy_by order d (entries a.content) ≡ energy_by order d (entries b.content)
same_energy order Import a b same = let board = same_board order default_periods a b same in λ i. record { up = (board i).figures.up; down = (board i).figures.down }
same_energy order Export a b same = let board = same_board order default_periods a b same in λ i. record { up = (board i).figures.export_up; down = (board i).figures.export_down }

pub live_events_make_energies : LiveEventsMakeEnergies
live_events_make_energies one other name line m says =
    let o = other_station name one other m in let a = m.station in let b = o.station in
    let same : (d : Direction) → energy_by (order_named (after one) a.site) d (entries a.content) ≡ energy_by (order_named (after other) b.site) d (entries b.content) =
    λ d. ap (λ order. energy_by order d (entries a.content)) o.order ∙ same_energy (order_named (after other) b.site) d a b o.live_events in
    ⊎_elim
    (λ (asks : line_meaning line ≡ asks_energy name). energy_is_from_scratch one line name a asks m.is ∙ ap energy_line (same Import) ∙ sym (energy_is_from_scratch other line name b asks o.is))
    (λ (asks : line_meaning line ≡ asks_export name). export_is_from_scratch one line name a asks m.is ∙ ap export_line (same Export) ∙ sym (export_is_from_scratch other line name b asks o.is))
    says

pub live_events_make_totals : LiveEventsMakeTotals
live_events_make_totals one other name line m says =
    let o = other_station name one other m in let a = m.station in let b = o.station in
    record {
      one_figures = figures_by (order_named (after one) a.site) (entries a.content);
      other_figures = figures_by (order_named (after other) b.site) (entries b.content);
      one_answers = totals_are_from_scratch one line name a says m.is;
      other_answers = totals_are_from_scratch other line name b says o.is;
      alike = ap (λ order. figures_but_voided (figures_by order (entries a.content))) o.order
          ∙ ap (λ (x : Board). x.figures) (same_board (order_named (after other) b.site) default_periods a b o.live_events);
    }

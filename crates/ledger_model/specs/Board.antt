use Rattle.std.{specs.Prelude.{ℕ, Bool, List, [], ◌∷◌, ◌+◌, map, count_by, sum_by, length, ◌==◌, if◌then◌else◌}, specs.List.{flat_map, zip}}
use Rattle.energy_flow.specs.Flow.{Energy}
use Rattle.ledger_model.{specs.Periods.Periods, specs.declared.reading.Direction.TheVariants.{Import, Export}, specs.declared.figures.Figures.Figures, specs.Figures.{figure_list, figures_from, no_figures}, specs.Content.{Entry, live, live_of, transactions_of}, specs.declared.order.Order.Order, specs.declared.order.Order.TheVariants.Sequence, specs.Energy.{energy_by, flows_in_by, flows_of_by, quarters_by, rising}, specs.ByDirection.{no_flows, plus_flows}, specs.declared.by_direction.ByDirection.ByDirection, specs.Evse.{evse_of, evses, flows_at_by, first_or_zero}, specs.Gaps.{Gap, numbers_of, gaps, missing}, specs.Complete.is_complete}

-- The figures of a station, with the readings of each transaction in the given order: live and
-- voided events; transactions with a live event, how many of these are complete, what they miss,
-- and their energies: imported, and exported.
abbrev pub figures_by : Order → List Entry → Figures
figures_by order es = record {
  events = length (live es);
  voided = count_by (λ e. e.1.voided) es;
  transactions = length (transactions_of (live es));
  complete = count_by (λ tx. is_complete tx es) (transactions_of (live es));
  missing = sum_by (λ tx. missing (numbers_of tx es)) (transactions_of (live es));
  up = (energy_by order Import es).up;
  down = (energy_by order Import es).down;
  export_up = (energy_by order Export es).up;
  export_down = (energy_by order Export es).down;
}

-- The figures of a station, by sequence.
abbrev pub figures : List Entry → Figures
figures es = figures_by Sequence es

-- The sum of both, number by number.
abbrev pub plus_figures : Figures → Figures → Figures
plus_figures a b = figures_from (map (λ p. p.0 + p.1) (zip (figure_list a) (figure_list b)))

-- The figures of a site: the sums over its stations.
abbrev pub sum_of_figures : List Figures → Figures
sum_of_figures [] = no_figures
sum_of_figures (f ∷ fs) = plus_figures f (sum_of_figures fs)

-- An EVSE or a period, with its energies.
abbrev pub Flowed : Type 0
Flowed = ℕ × ByDirection Energy

-- What a board shows of a transaction.
pub record Shown : Type 0 where
  pub tx : List ℕ
  pub evse : ℕ
  pub events : ℕ
  pub first : ℕ
  pub last : ℕ
  pub complete : Bool
  pub missing : ℕ
  pub energy : ByDirection Energy
  pub gaps : List Gap

-- The last of a list, or 0 if it is empty.
abbrev pub last_or_zero : List ℕ → ℕ
last_or_zero [] = 0
last_or_zero (n ∷ []) = n
last_or_zero (n ∷ m ∷ ns) = last_or_zero (m ∷ ns)

-- A transaction as a board shows it, with its readings in the given order.
abbrev pub shown_by : Order → List Entry → List ℕ → Shown
shown_by order es tx = record {
  tx = tx;
  evse = evse_of tx es;
  events = length (live_of tx es);
  first = first_or_zero (numbers_of tx es);
  last = last_or_zero (numbers_of tx es);
  complete = is_complete tx es;
  missing = missing (numbers_of tx es);
  energy = flows_of_by order tx es;
  gaps = gaps (numbers_of tx es);
}

-- The board of a station: its settlement periods, its figures, its EVSEs and its periods with their
-- energies, and its transactions with a live event.
pub record Board : Type 0 where
  pub period : Periods
  pub figures : Figures
  pub evses : List Flowed
  pub quarters : List Flowed
  pub transactions : List Shown

-- The board of a station, with the readings of each transaction in the given order and these settlement periods.
abbrev pub board_by : Order → Periods → List Entry → Board
board_by order period es = record {
  period = period;
  figures = figures_by order es;
  evses = map (λ evse. (evse, flows_at_by order evse es)) (evses es);
  quarters = map (λ quarter. (quarter, flows_in_by order period quarter es)) (quarters_by order period es);
  transactions = map (shown_by order es) (transactions_of (live es));
}

-- The board of a station, by sequence.
abbrev pub board : Periods → List Entry → Board
board period es = board_by Sequence period es

-- The energies of a period, summed over the lines of several stations.
abbrev pub flows_under : ℕ → List Flowed → ByDirection Energy
flows_under quarter [] = no_flows
flows_under quarter (line ∷ lines) = if line.0 == quarter then plus_flows line.1 (flows_under quarter lines) else flows_under quarter lines

-- The board of a site: its settlement periods, the sums of its stations' figures and of their periods,
-- and its stations' boards by name in the order of declaration.
pub record SiteBoard : Type 0 where
  pub period : Periods
  pub figures : Figures
  pub quarters : List Flowed
  pub stations : List (List ℕ × Board)

-- The board of a site with these settlement periods over its stations' boards, which have the same.
abbrev pub site_board : Periods → List (List ℕ × Board) → SiteBoard
site_board period stations =
    let lines = flat_map (λ (s : List ℕ × Board). s.1.quarters) stations in
    record {
      period = period;
      figures = sum_of_figures (map (λ s. s.1.figures) stations);
      quarters = map (λ quarter. (quarter, flows_under quarter lines)) (rising (map (λ line. line.0) lines));
      stations = stations;
    }

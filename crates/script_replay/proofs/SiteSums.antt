-- The board of a site shows the sums over its stations.
use Rattle.std.{proofs.Common.{◌≡◌, ℕ, List, [], ◌∷◌, ◌++◌, All, map, refl, ap, subst, ◌∙◌}, specs.List.flat_map, proofs.lemmas.List.Elements.{All-cons, All-nil}}
use Rattle.ledger_model.{specs.Periods.Periods, specs.Board.{Board, Flowed, board_by, flows_under, figures_by, site_board}, specs.BoardLaws.{AreSums, sum_of_energies}, specs.declared.reading.Direction.Direction, specs.declared.reading.Direction.TheVariants.{Import, Export}, specs.Content.entries, specs.Energy.{energy_in_by, rising}, specs.World.{Station, World}, specs.declared.order.Order.Order, proofs.EnergyLemmas.site_quarter, proofs.FigureLemmas.site-AreSums}
use Rattle.script_replay.specs.Laws.{SitesAreSums, sums_in}
use Rattle.script_ledgers.specs.Script.{shown_station}

-- the figures of the stations' boards
shown_figures : (order : Order) (period : Periods) (w : World) → map (λ (s : List ℕ × Board). s.1.figures) (map (shown_station order period) w) ≡ map (λ s. figures_by order (entries s.content)) w
shown_figures order period [] = refl
shown_figures order period (s ∷ ss) = ap (λ l. figures_by order (entries s.content) ∷ l) (shown_figures order period ss)

-- the periods of the stations' boards
shown_quarters : (order : Order) (period : Periods) (w : World)
    → flat_map (λ (s : List ℕ × Board). s.1.quarters) (map (shown_station order period) w)
    ≡ flat_map (λ es. (board_by order period es).quarters) (map (λ (s : Station). entries s.content) w)
shown_quarters order period [] = refl
shown_quarters order period (s ∷ ss) = ap (λ l. (board_by order period (entries s.content)).quarters ++ l) (shown_quarters order period ss)

-- the energies of the stations in a period
shown_energies : (order : Order) (d : Direction) (period : Periods) (quarter : ℕ) (w : World)
    → map (energy_in_by order d period quarter) (map (λ (s : Station). entries s.content) w) ≡ map (λ s. energy_in_by order d period quarter (entries s.content)) w
shown_energies order d period quarter [] = refl
shown_energies order d period quarter (s ∷ ss) = ap (λ l. energy_in_by order d period quarter (entries s.content) ∷ l) (shown_energies order d period quarter ss)

-- the energies of a period over the stations' boards
each_quarter : (order : Order) (period : Periods) (w : World) (quarter : ℕ)
    → flows_under quarter (flat_map (λ (s : List ℕ × Board). s.1.quarters) (map (shown_station order period) w)) ≡ sums_in order period quarter w
each_quarter order period w quarter =
    let imported = ap sum_of_energies (shown_energies order Import period quarter w) in
    let exported = ap sum_of_energies (shown_energies order Export period quarter w) in
    ap (flows_under quarter) (shown_quarters order period w) ∙ site_quarter order period quarter (map (λ (s : Station). entries s.content) w)
    ∙ (λ i. record { import = imported i; export = exported i })

-- what holds of each element's image holds of all
all_mapped : {X : Type 0} (P : X → Type 0) (f : ℕ → X) → ((n : ℕ) → P (f n)) → (ns : List ℕ) → All P (map f ns)
all_mapped P f each [] = All-nil P
all_mapped P f each (n ∷ ns) = All-cons P (f n) (map f ns) (each n) (all_mapped P f each ns)

pub sites_are_sums : SitesAreSums
sites_are_sums site order period stations =
    let lines : List Flowed = flat_map (λ (s : List ℕ × Board). s.1.quarters) (map (shown_station order period) stations) in
    record {
      figures_are = subst (AreSums (site_board period (map (shown_station order period) stations)).figures)
          (shown_figures order period stations) (site-AreSums period (map (shown_station order period) stations));
      quarters_are =
          all_mapped (λ (line : Flowed). line.1 ≡ sums_in order period line.0 stations) (λ quarter. (quarter, flows_under quarter lines))
          (each_quarter order period stations) (rising (map (λ line. line.0) lines));
    }

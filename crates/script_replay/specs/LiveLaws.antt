-- The answers of two scripts after which the stations of a site have the same live events.
use Rattle.std.specs.Prelude.{◌≡◌, ℕ, true, List, ◌⊎◌, map, Some}
use Rattle.board_report.{specs.Named.NamedBoard, specs.Texts.{board_text, total_text}}
use Rattle.ledger_model.{specs.declared.figures.Figures.Figures, specs.BoardLaws.with_voided, specs.Content.{entries, live}, specs.World.Station}
use Rattle.script_lines.{specs.LineMeaning.{asks_board, asks_energy, asks_export, asks_total, line_meaning}, specs.Lines.Line, specs.Texts.ended_line}
use Rattle.script_ledgers.specs.Script.{Script, board_of_site, is_among, line_step, order_named, period_named, script_after, start, station_named, stations_of}

-- the state at a script's end
abbrev pub after : List Line → Script
after lines = script_after start lines

-- two scripts agree at a site: both have it, with the same order of readings and the same length of
-- periods, and its stations have the same names and the same live events
pub record AgreeAt (site : List ℕ) (one other : List Line) : Type 0 where
  pub one_has : is_among site (after one).sites ≡ true
  pub other_has : is_among site (after other).sites ≡ true
  pub order : order_named (after one) site ≡ order_named (after other) site
  pub period : period_named (after one) site ≡ period_named (after other) site
  pub names : map (λ s. s.name) (stations_of site (after one).world) ≡ map (λ s. s.name) (stations_of site (after other).world)
  pub live_events : map (λ s. live (entries s.content)) (stations_of site (after one).world) ≡ map (λ s. live (entries s.content)) (stations_of site (after other).world)

-- figures without the number of voided events
abbrev pub figures_but_voided : Figures → Figures
figures_but_voided f = record f { voided = 0 }

-- a site's board without the numbers of voided events of the site and of each station
abbrev pub board_but_voided : NamedBoard → NamedBoard
board_but_voided b = record b { figures = figures_but_voided b.figures; stations = map (λ s. (s.0, with_voided 0 s.1)) b.stations }

-- the answers to a question for the site's board are the texts of two boards, which are equal except for the numbers of
-- voided events
pub record ShowAlike (site : List ℕ) (line : Line) (one other : List Line) : Type 0 where
  pub one_answers : (line_step (after one) line).1 ≡ board_text (board_of_site (after one) site)
  pub other_answers : (line_step (after other) line).1 ≡ board_text (board_of_site (after other) site)
  pub alike : board_but_voided (board_of_site (after one) site) ≡ board_but_voided (board_of_site (after other) site)
  pub quarters : (board_of_site (after one) site).quarters ≡ (board_of_site (after other) site).quarters

-- scripts that agree at a site show its board alike
abbrev pub LiveEventsMakeBoards : Type 0
LiveEventsMakeBoards = (one other : List Line) (site : List ℕ) (line : Line) → AgreeAt site one other → line_meaning line ≡ asks_board site → ShowAlike site line one other

-- the station of this name is at a site where two scripts agree
pub record IsAtAgreed (name : List ℕ) (one other : List Line) : Type 0 where
  pub station : Station
  pub is : station_named name (after one).world ≡ Some station
  pub agree : AgreeAt station.site one other

-- such scripts answer equally to each question for the energy of one of the site's stations, imported or exported
abbrev pub LiveEventsMakeEnergies : Type 0
LiveEventsMakeEnergies = (one other : List Line) (name : List ℕ) (line : Line) → IsAtAgreed name one other
    → (line_meaning line ≡ asks_energy name) ⊎ (line_meaning line ≡ asks_export name) → (line_step (after one) line).1 ≡ (line_step (after other) line).1

-- the answers to a question for a total are the texts of two figures, which are equal except for the number of voided
-- events
pub record TellAlike (line : Line) (one other : List Line) : Type 0 where
  pub one_figures : Figures
  pub other_figures : Figures
  pub one_answers : (line_step (after one) line).1 ≡ ended_line (total_text one_figures)
  pub other_answers : (line_step (after other) line).1 ≡ ended_line (total_text other_figures)
  pub alike : figures_but_voided one_figures ≡ figures_but_voided other_figures

-- such scripts answer alike to each question for the total of one of the site's stations
abbrev pub LiveEventsMakeTotals : Type 0
LiveEventsMakeTotals = (one other : List Line) (name : List ℕ) (line : Line) → IsAtAgreed name one other → line_meaning line ≡ asks_total name → TellAlike line one other

use Rattle.std.specs.Prelude.{ℕ, List, [], ◌∷◌, ◌+◌, ◌*◌, Option, None, Some, true, false, codes}
use Rattle.energy_flow.specs.Flow.{Energy}
use Rattle.ledger_model.{specs.declared.kind.Kind.Kind, specs.declared.kind.Kind.TheVariants.{Started, Updated, Ended}, specs.declared.reading.Direction.TheVariants.{Import, Export}, specs.declared.figures.Figures.Figures, specs.Periods.Periods, specs.declared.settle.Settle.TheVariants.Closing, specs.Event.MeterReading, specs.Moment.first_moment, specs.Quarter.default_period, specs.Settling.default_periods, specs.Content.Entry, specs.ByDirection.flows_toward, specs.declared.by_direction.ByDirection.ByDirection, specs.Board.{Board, Flowed, SiteBoard}}

-- So many minutes after 2026-03-01T10:00:00Z, in nanoseconds from 1970.
abbrev pub minute : ℕ → ℕ
minute n = (1_772_359_200 + 60 * n) * 1_000_000_000

-- A reading of so many watt-hours at a minute.
abbrev pub reading : ℕ → ℕ → MeterReading
reading n wh = record { moment = minute n; mwh = 1_000 * wh; direction = Import }

-- A reading of the export register, of so many watt-hours at a minute.
abbrev pub fed_back : ℕ → ℕ → MeterReading
fed_back n wh = record { moment = minute n; mwh = 1_000 * wh; direction = Export }

-- An event of transaction t1: its kind, number and minute, the EVSE that it names, and its readings.
abbrev pub told : Kind → ℕ → ℕ → Option ℕ → List MeterReading → Entry
told kind seq n evse readings = (record { tx = codes "t1"; seq = seq }, record { event = record { kind = kind; moment = minute n; evse = evse; readings = readings }; voided = false })

-- An event with one reading, at its own minute, and no EVSE.
abbrev pub metered : Kind → ℕ → ℕ → ℕ → Entry
metered kind seq n wh = told kind seq n None (reading n wh ∷ [])

-- An event, voided.
abbrev pub voided : Entry → Entry
voided e = (e.0, record { event = e.1.event; voided = true })

-- Only rises.
abbrev pub rise : ℕ → Energy
rise mwh = record { up = mwh; down = 0 }

-- Only rises of the import register.
abbrev pub took : ℕ → ByDirection Energy
took mwh = flows_toward Import (rise mwh)

-- The period of 900 seconds that begins at 10:00 on that day; the next ones follow it.
abbrev pub ten : ℕ
ten = 1_969_288

-- Two events of a transaction, with the one between them not delivered yet.
abbrev pub first_run : List Entry
first_run = metered Started 0 0 1_000 ∷ metered Updated 2 31 1_600 ∷ []

abbrev pub first_run_board : Board
first_run_board = record {
  period = default_periods;
  figures = record { events = 2; voided = 0; transactions = 1; complete = 0; missing = 1; up = 600_000; down = 0; export_up = 0; export_down = 0 };
  evses = (0, took 600_000) ∷ [];
  quarters = (ten + 2, took 600_000) ∷ [];
  transactions = record { tx = codes "t1"; evse = 0; events = 2; first = 0; last = 2; complete = false; missing = 1; energy = took 600_000; gaps = (1, 1) ∷ [] } ∷ [];
}

-- The board of a site that has only this station.
abbrev pub first_run_site : SiteBoard
first_run_site = record { period = default_periods; figures = first_run_board.figures; quarters = first_run_board.quarters; stations = (codes "A", first_run_board) ∷ [] }

-- Then the one between them comes.
abbrev pub late_event : List Entry
late_event = metered Started 0 0 1_000 ∷ metered Updated 1 14 1_200 ∷ metered Updated 2 31 1_600 ∷ []

abbrev pub late_event_board : Board
late_event_board = record {
  period = default_periods;
  figures = record { events = 3; voided = 0; transactions = 1; complete = 0; missing = 0; up = 600_000; down = 0; export_up = 0; export_down = 0 };
  evses = (0, took 600_000) ∷ [];
  quarters = (ten, took 200_000) ∷ (ten + 2, took 400_000) ∷ [];
  transactions = record { tx = codes "t1"; evse = 0; events = 3; first = 0; last = 2; complete = false; missing = 0; energy = took 600_000; gaps = [] } ∷ [];
}

-- Then that one is voided: the board is that of the first run except for the voided event. After a restoration the
-- events are those before.
abbrev pub void_and_restore : List Entry
void_and_restore = metered Started 0 0 1_000 ∷ voided (metered Updated 1 14 1_200) ∷ metered Updated 2 31 1_600 ∷ []

abbrev pub void_and_restore_board : Board
void_and_restore_board = record first_run_board { figures = record { events = 2; voided = 1; transactions = 1; complete = 0; missing = 1; up = 600_000; down = 0; export_up = 0; export_down = 0 } }

-- A later reading at the very beginning of a period.
abbrev pub quarter_boundary : List Entry
quarter_boundary = metered Started 0 0 1_000 ∷ metered Updated 1 15 1_100 ∷ []

-- Settlement periods of 900 seconds, in which a difference counts if its later reading closes it.
abbrev pub closing_periods : Periods
closing_periods = record { length = default_period; rule = Closing }

-- Readings at the beginnings of periods.
abbrev pub quarter_closed : List Entry
quarter_closed = metered Started 0 0 1_000 ∷ metered Updated 1 15 1_400 ∷ metered Updated 2 30 1_600 ∷ metered Ended 3 40 1_700 ∷ []

-- Two readings at the first moment there is, with which the period 1,051,872 begins.
abbrev pub at_first_moment : List Entry
at_first_moment = told Updated 0 0 None (record (reading 0 1_000) { moment = first_moment } ∷ record (reading 0 1_400) { moment = first_moment } ∷ []) ∷ []

-- An end that lists all readings again.
abbrev pub readings_again_at_end : List Entry
readings_again_at_end =
    metered Started 0 0 1_000 ∷ metered Updated 1 14 1_200 ∷ metered Updated 2 31 1_600
    ∷ told Ended 3 45 None (reading 0 1_000 ∷ reading 14 1_200 ∷ reading 31 1_600 ∷ reading 45 1_700 ∷ []) ∷ []

-- Its periods, and its figures.
abbrev pub readings_again_quarters : List Flowed
readings_again_quarters = (ten, flows_toward Import (record { up = 400_000; down = 600_000 })) ∷ (ten + 2, took 800_000) ∷ (ten + 3, took 100_000) ∷ []

abbrev pub readings_again_counts : Figures
readings_again_counts = record { events = 4; voided = 0; transactions = 1; complete = 1; missing = 0; up = 1_300_000; down = 600_000; export_up = 0; export_down = 0 }

-- Only the second of three events names an EVSE.
abbrev pub evse_moves : List Entry
evse_moves = metered Started 0 0 1_000 ∷ told Updated 1 5 (Some 2) (reading 5 1_100 ∷ []) ∷ metered Ended 2 10 1_250 ∷ []

abbrev pub evse_moves_counts : Figures
evse_moves_counts = record { events = 3; voided = 0; transactions = 1; complete = 1; missing = 0; up = 250_000; down = 0; export_up = 0; export_down = 0 }

-- That event is voided. After a restoration the events are those before.
abbrev pub evse_voided : List Entry
evse_voided = metered Started 0 0 1_000 ∷ voided (told Updated 1 5 (Some 2) (reading 5 1_100 ∷ [])) ∷ metered Ended 2 10 1_250 ∷ []

abbrev pub evse_voided_counts : Figures
evse_voided_counts = record { events = 2; voided = 1; transactions = 1; complete = 0; missing = 1; up = 250_000; down = 0; export_up = 0; export_down = 0 }

-- Then the first event is voided.
abbrev pub start_voided : List Entry
start_voided = voided (metered Started 0 0 1_000) ∷ told Updated 1 5 (Some 2) (reading 5 1_100 ∷ []) ∷ metered Ended 2 10 1_250 ∷ []

abbrev pub start_voided_counts : Figures
start_voided_counts = record { events = 2; voided = 1; transactions = 1; complete = 0; missing = 0; up = 150_000; down = 0; export_up = 0; export_down = 0 }

-- The lowest and the highest number that there can be, and the greatest fall.
abbrev pub widest_gap : List Entry
widest_gap = metered Started 0 0 10_000_000_000 ∷ metered Ended 2_147_483_647 5 0 ∷ []

-- Its figures.
abbrev pub widest_gap_counts : Figures
widest_gap_counts = record { events = 2; voided = 0; transactions = 1; complete = 0; missing = 2_147_483_646; up = 0; down = 10_000_000_000_000; export_up = 0; export_down = 0 }

-- The export register is read with the first event and with the last.
abbrev pub exported : List Entry
exported =
    told Started 0 0 None (reading 0 1_000 ∷ fed_back 0 50 ∷ [])
    ∷ metered Updated 1 5 1_100
    ∷ told Ended 2 20 None (reading 20 1_100 ∷ fed_back 20 80 ∷ []) ∷ []

abbrev pub exported_counts : Figures
exported_counts = record { events = 3; voided = 0; transactions = 1; complete = 1; missing = 0; up = 100_000; down = 0; export_up = 30_000; export_down = 0 }

-- One event with four readings, import and export in turn.
abbrev pub in_turn : List Entry
in_turn = told Updated 0 10 None (reading 1 10 ∷ fed_back 2 500 ∷ reading 3 30 ∷ fed_back 4 490 ∷ []) ∷ []

-- The end lists the reading of 10:14 too; the event of 10:14 is voided.
abbrev pub read_again : List Entry
read_again =
    metered Started 0 0 1_000 ∷ voided (metered Updated 1 14 1_200) ∷ metered Updated 2 31 1_600
    ∷ told Ended 3 45 None (reading 0 1_000 ∷ reading 14 1_200 ∷ reading 31 1_600 ∷ reading 45 1_700 ∷ []) ∷ []

-- The end that lists all readings again is voided.
abbrev pub end_voided : List Entry
end_voided =
    metered Started 0 0 1_000 ∷ metered Updated 1 14 1_200 ∷ metered Updated 2 31 1_600
    ∷ voided (told Ended 3 45 None (reading 0 1_000 ∷ reading 14 1_200 ∷ reading 31 1_600 ∷ reading 45 1_700 ∷ [])) ∷ []

-- Two readings of one moment, and a clock that goes back at the end.
abbrev pub ties_and_clocks : List Entry
ties_and_clocks = metered Started 0 0 1_000 ∷ metered Updated 1 10 1_200 ∷ metered Updated 2 10 1_300 ∷ metered Ended 3 5 1_100 ∷ []

-- Two transactions of one station, and each alone.
use Rattle.std.specs.Prelude.{ℕ, ◌+◌, List, [], ◌∷◌, Some, codes, false, true}
use Rattle.ledger_model.{specs.Board.{Board, SiteBoard}, specs.BoardExamples.{reading, ten, told, took, voided}, specs.Content.Entry, specs.declared.answer.Answer.Answer, specs.declared.answer.Answer.TheVariants.{Accepted, Repeat}, specs.declared.command.Command.Command, specs.declared.command.Command.TheVariants.{Deliver, Erase, Restore, Void}, specs.declared.kind.Kind.Kind, specs.declared.kind.Kind.TheVariants.{Ended, Started, Updated}, specs.Examples.delivery, specs.Key.KeyName, specs.Settling.default_periods}

-- The key of the same number of transaction t2.
abbrev pub second : KeyName → KeyName
second key = record key { tx = codes "t2" }

-- The same command on transaction t2.
abbrev pub of_second : Command → Command
of_second (Deliver key event) = Deliver (second key) event
of_second (Void key) = Void (second key)
of_second (Restore key) = Restore (second key)
of_second (Erase key) = Erase (second key)

-- In a station that may have two events, one of each transaction; the next of the first finds room only once that of the
-- second is erased, and then it comes again.
abbrev pub crowded : List Command
crowded =
    delivery Started 0 0 1_000
    ∷ of_second (delivery Started 0 1 5_000)
    ∷ delivery Updated 1 15 1_100
    ∷ Void (second (record { tx = codes "t1"; seq = 0 }))
    ∷ Erase (second (record { tx = codes "t1"; seq = 0 }))
    ∷ delivery Updated 1 15 1_100
    ∷ delivery Updated 1 15 1_100
    ∷ []

-- The answers to the first transaction's commands, but for the refusal; the answers to the same commands alone; and the
-- answers alone with the refused delivery too.
abbrev pub answers_among : List Answer
answers_among = Accepted 1 ∷ Accepted 5 ∷ Repeat ∷ []

abbrev pub answers_alone : List Answer
answers_alone = Accepted 1 ∷ Accepted 2 ∷ Repeat ∷ []

abbrev pub answers_with_refused : List Answer
answers_with_refused = Accepted 1 ∷ Accepted 2 ∷ Repeat ∷ Repeat ∷ []

-- A reading of an event of transaction t2 at its own minute; both transactions are at EVSE 1.
abbrev pub of_t2 : Kind → ℕ → ℕ → ℕ → Entry
of_t2 kind seq n wh = (second (told kind seq n (Some 1) []).0, (told kind seq n (Some 1) (reading n wh ∷ [])).1)

-- Transaction t1 from 10:00 to 10:20.
abbrev pub first_events : List Entry
first_events = told Started 0 0 (Some 1) (reading 0 1_000 ∷ []) ∷ told Ended 1 20 (Some 1) (reading 20 1_600 ∷ []) ∷ []

-- Transaction t2 from 10:22 to 10:40, with one event voided.
abbrev pub second_events : List Entry
second_events = of_t2 Started 0 22 1_600 ∷ of_t2 Updated 1 28 1_900 ∷ voided (of_t2 Updated 2 31 1_950) ∷ of_t2 Ended 3 40 2_500 ∷ []

-- The board of each alone: both have energy in the period of 10:15.
abbrev pub first_board : Board
first_board = record {
  period = default_periods;
  figures = record { events = 2; voided = 0; transactions = 1; complete = 1; missing = 0; up = 600_000; down = 0; export_up = 0; export_down = 0 };
  evses = (1, took 600_000) ∷ [];
  quarters = (ten + 1, took 600_000) ∷ [];
  transactions = record { tx = codes "t1"; evse = 1; events = 2; first = 0; last = 1; complete = true; missing = 0; energy = took 600_000; gaps = [] } ∷ [];
}

abbrev pub second_board : Board
second_board = record {
  period = default_periods;
  figures = record { events = 3; voided = 1; transactions = 1; complete = 0; missing = 1; up = 900_000; down = 0; export_up = 0; export_down = 0 };
  evses = (1, took 900_000) ∷ [];
  quarters = (ten + 1, took 300_000) ∷ (ten + 2, took 600_000) ∷ [];
  transactions = record { tx = codes "t2"; evse = 1; events = 3; first = 0; last = 3; complete = false; missing = 1; energy = took 900_000; gaps = (2, 2) ∷ [] } ∷ [];
}

-- The board of both.
abbrev pub both_board : Board
both_board = record {
  period = default_periods;
  figures = record { events = 5; voided = 1; transactions = 2; complete = 1; missing = 1; up = 1_500_000; down = 0; export_up = 0; export_down = 0 };
  evses = (1, took 1_500_000) ∷ [];
  quarters = (ten + 1, took 900_000) ∷ (ten + 2, took 600_000) ∷ [];
  transactions =
      record { tx = codes "t1"; evse = 1; events = 2; first = 0; last = 1; complete = true; missing = 0; energy = took 600_000; gaps = [] }
      ∷ record { tx = codes "t2"; evse = 1; events = 3; first = 0; last = 3; complete = false; missing = 1; energy = took 900_000; gaps = (2, 2) ∷ [] }
      ∷ [];
}

-- The board of a site with this station and one like it, which has only the second transaction.
abbrev pub two_stations : SiteBoard
two_stations = record {
  period = default_periods;
  figures = record { events = 8; voided = 2; transactions = 3; complete = 1; missing = 2; up = 2_400_000; down = 0; export_up = 0; export_down = 0 };
  quarters = (ten + 1, took 1_200_000) ∷ (ten + 2, took 1_200_000) ∷ [];
  stations = (codes "A", both_board) ∷ (codes "B", second_board) ∷ [];
}

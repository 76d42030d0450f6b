-- The board of a station as the sum of the boards of its transactions.
use Rattle.std.{specs.Prelude.{ℕ, List, map}, specs.List.flat_map}
use Rattle.ledger_model.{specs.Board.{Board, Flowed, board_by, flows_under, sum_of_figures}, specs.Content.{Content, empty_content, entries, transactions_of}, specs.declared.command.Command.Command, specs.declared.order.Order.Order, specs.Energy.rising, specs.Laws.left_by, specs.Limits.Bounds, specs.Periods.Periods}
use Rattle.transaction_laws.{specs.Alone.alone, specs.Transcript.{commands_in, own_transcript}}

-- The lines of EVSEs or of periods with the energies of each number added up, by rising number.
abbrev pub added_up : List Flowed → List Flowed
added_up lines = map (λ number. (number, flows_under number lines)) (rising (map (λ line. line.0) lines))

-- The sum of boards that have these settlement periods: the sums of their figures, of the energies of each EVSE and of
-- each period, and their transactions, one board after the other.
abbrev pub sum_of_boards : Periods → List Board → Board
sum_of_boards period boards = record {
  period = period;
  figures = sum_of_figures (map (λ b. b.figures) boards);
  evses = added_up (flat_map (λ b. b.evses) boards);
  quarters = added_up (flat_map (λ b. b.quarters) boards);
  transactions = flat_map (λ b. b.transactions) boards;
}

-- The ids of the transactions that a content has, voided events included.
abbrev pub transactions : Content → List (List ℕ)
transactions c = transactions_of (entries c)

-- The board of a transaction alone.
abbrev pub board_alone : Order → Periods → Content → List ℕ → Board
board_alone order period c tx = board_by order period (entries (alone tx 0 c))

-- The board after the commands of a transaction alone, in a ledger of some limits.
abbrev pub board_of_run : Order → Periods → Bounds → List ℕ → Bounds → List Command → Board
board_of_run order period lone tx limits commands = board_by order period (entries (left_by lone empty_content (commands_in (own_transcript tx limits commands))))

-- Boards depend on live events and the order of readings, except for how many are voided.
use Rattle.std.{proofs.Common.{◌≡◌, ℕ, List}, proofs.Math.Path.fun_ext}
use Rattle.ledger_model.{specs.Periods.Periods, specs.declared.reading.Direction.Direction, specs.declared.order.Order.Order, specs.declared.order.Order.TheVariants.{Sequence, Moment}, specs.Board.{board_by, figures_by, shown_by}, specs.Content.{Entry, live}, specs.Energy.{readings_by, readings_of}, specs.InTime.AreInTime, specs.ReadingOrder.taken_when, proofs.InTimeLemmas.in_time-same}

pub live_alone : (order : Order) (period : Periods) (es fs : List Entry) → live es ≡ live fs
    → board_by order period es ≡ record (board_by order period fs) { figures = record (figures_by order fs) { voided = (figures_by order es).voided } }
live_alone order period es fs e =
    let shown : shown_by order es ≡ shown_by order fs = fun_ext (λ tx. simp e) in
    simp (e, shown)

-- Where the two orders give the same readings, they give the same board.
pub agreeing_boards : (period : Periods) (es : List Entry) → ((d : Direction) (tx : List ℕ) → AreInTime taken_when (readings_of d tx es)) → board_by Moment period es ≡ board_by Sequence period es
agreeing_boards period es in_time =
    let same : (d : Direction) (tx : List ℕ) → readings_by Moment d tx es ≡ readings_of d tx es = λ d tx. in_time-same taken_when (readings_of d tx es) (in_time d tx) in
    let shown : shown_by Moment es ≡ shown_by Sequence es = fun_ext (λ tx. simp same) in
    simp (same, shown)

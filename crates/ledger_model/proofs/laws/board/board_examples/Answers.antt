use Rattle.std.proofs.Common.{refl}
use Rattle.ledger_model.proofs.laws.board.board_examples.Goals as goal

pub returns : goal.returns
returns c = record {
  first_run = refl;
  first_run_site = refl;
  late_event = refl;
  void_and_restore = refl;
  quarter_boundary = refl;
  quarter_closed = refl;
  quarter_not_closed = refl;
  first_moment = refl;
  readings_again_at_end = refl;
  readings_again_figures = refl;
  evse_moves = refl;
  evse_moves_figures = refl;
  evse_voided = refl;
  evse_voided_figures = refl;
  start_voided = refl;
  start_voided_figures = refl;
  widest_gap = refl;
  widest_gap_figures = refl;
  exported = refl;
  exported_figures = refl;
  in_turn = refl;
}

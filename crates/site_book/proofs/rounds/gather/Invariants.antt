use Rattle.std.proofs.Common.{◌≡◌, [], length, take}
use Rattle.ledger_model.specs.declared.figures.TheConstants.{FIGURES}
use Rattle.site_book.{specs.Kept.Sits, specs.Rule.looking}
use Rattle.site_book.proofs.rounds.gather.Given as goal

abbrev pub invariant-loop-i : goal.invariant-loop-i
invariant-loop-i l = record {
  sits : Sits l.words.table_id l.seat.table_id;
  read_is : l.seat.me ≡ (looking l.fn.seat.me.0.log l.fn.seat.me.0.version (take l.i l.read), []);
  all : length l.read ≡ FIGURES;
}

use Rattle.std.proofs.Common.{◌≡◌, []}
use Rattle.site_book.{specs.Kept.Sits, specs.Rule.writing}
use Rattle.site_book.proofs.rounds.publish.Given as goal

abbrev pub invariant-loop-i : goal.invariant-loop-i
invariant-loop-i l = record {
  sits : Sits l.words.table_id l.seat.table_id;
  stored : l.seat.me ≡ (writing l.fn.seat.me.0.log [] l.fn.seat.me.0.pending l.i, []);
}

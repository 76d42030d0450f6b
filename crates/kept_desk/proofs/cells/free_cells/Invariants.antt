use Rattle.std.{proofs.Common.{◌≡◌, vec_capacity}, specs.Prelude.All}
use Rattle.kept_desk.{specs.Entries.of_station, specs.Kept.{IsLeftFrom, commands_of}}
use Rattle.site_desk.specs.Cell.{IsInService}
use Rattle.kept_desk.proofs.cells.free_cells.Given as goal

-- the cells so far, each with what its own entries leave
abbrev pub invariant-loop-each : goal.invariant-loop-each
invariant-loop-each g l = record {
  cells : l.cells.items ≡ l.yielded;
  same : l.log ≡ l.fn.log;
  room : vec_capacity l.cells ≡ vec_capacity l.fn.cells;
  left : All (λ c. IsInService c → IsLeftFrom c.limits (g.K.Opening.first c.station) c.content (commands_of (of_station c.station l.fn.log.entries))) l.yielded;
}

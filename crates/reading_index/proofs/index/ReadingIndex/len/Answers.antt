use Rattle.std.proofs.Common.{subst}
use Rattle.reading_index.{specs.Timed.{TimedReadings, AreRising}, proofs.Ranked.ranked}
use Rattle.reading_index.proofs.index.ReadingIndex.len.Goals as goal

pub returns-clause-rising : goal.returns-clause-rising
returns-clause-rising c = subst (λ (i : TimedReadings). AreRising i.entries) c.self.view_is (ranked c.self.inside.index.entries c.len.ensures.rising)

use Rattle.std.{proofs.Common.{ap, ◌∙◌}, specs.Prelude.map}
use Rattle.ledger_model.specs.InTime.{put_in_time}
use Rattle.reading_index.{specs.Timed.{Timed, TimedReadings, has_rank, with_rank}, proofs.Ranked.{none_filed, put_in}}
use Rattle.reading_index.proofs.index.ReadingIndex.put.Goals as goal

pub insert-requires-clause-absent : goal.insert-requires-clause-absent
insert-requires-clause-absent c = none_filed c.args.key c.self.inside.index.entries (ap (λ (i : TimedReadings). has_rank c.args.key i.entries) c.self.view_is ∙ c.requires.absent)

pub returns-clause-entries : goal.returns-clause-entries
returns-clause-entries c =
    ap (map with_rank) c.insert.ensures.entries ∙ put_in c.args.key _ c.self.inside.index.entries
    ∙ ap (λ (i : TimedReadings). put_in_time (λ (t : Timed). t.0) (c.args.key, c.args.reading) i.entries) c.self.view_is

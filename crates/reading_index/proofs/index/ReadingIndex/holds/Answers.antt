use Rattle.std.proofs.Common.{is_some, ap, ◌∙◌}
use Rattle.reading_index.{specs.Timed.{TimedReadings, has_rank}, proofs.Ranked.filed_rank}
use Rattle.reading_index.proofs.index.ReadingIndex.holds.Goals as goal

pub returns : goal.returns
returns c =
    let key = c.args.key in
    c.is_some.ensures ∙ ap is_some c.get.ensures ∙ filed_rank key c.self.inside.index.entries c.place_near-place.ensures.rising ∙ ap (λ (i : TimedReadings). has_rank key i.entries) c.self.view_is

use Rattle.std.proofs.Common.{ap, ◌∙◌}
use Rattle.key_index.{specs.Entries.{below, last_of}, specs.Marks.marked}
use Rattle.key_index.proofs.index.KeyIndex.before_marked.Goals as goal

pub returns : goal.returns
returns g c = c.last_marked.ensures ∙ ap (λ l. last_of (marked c.args.mark l)) c.settled-at.ensures.front
    ∙ ap (λ i. last_of (marked c.args.mark (below (g.K.Ranked.rank c.args.key) i.entries))) c.self.view_is

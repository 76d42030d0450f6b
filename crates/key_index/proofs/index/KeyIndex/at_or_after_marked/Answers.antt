use Rattle.std.proofs.Common.{ap, ◌∙◌}
use Rattle.key_index.{specs.Entries.{from, first_of}, specs.Marks.marked}
use Rattle.key_index.proofs.index.KeyIndex.at_or_after_marked.Goals as goal

pub returns : goal.returns
returns g c = c.first_marked.ensures ∙ ap (λ l. first_of (marked c.args.mark l)) c.settled-at.ensures.back
    ∙ ap (λ i. first_of (marked c.args.mark (from (g.K.Ranked.rank c.args.key) i.entries))) c.self.view_is

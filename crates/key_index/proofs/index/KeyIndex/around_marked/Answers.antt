use Rattle.std.proofs.Common.{ap, ◌∙◌}
use Rattle.key_index.{specs.Entries.{below, from, first_of, last_of}, specs.Marks.marked}
use Rattle.key_index.proofs.index.KeyIndex.around_marked.Goals as goal

pub returns-clause-before : goal.returns-clause-before
returns-clause-before g c = c.last_marked-before.ensures ∙ ap (λ l. last_of (marked c.args.mark l)) c.settled-at.ensures.front
    ∙ ap (λ i. last_of (marked c.args.mark (below (g.K.Ranked.rank c.args.key) i.entries))) c.self.view_is

pub returns-clause-from : goal.returns-clause-from
returns-clause-from g c = c.first_marked-from.ensures ∙ ap (λ l. first_of (marked c.args.mark l)) c.settled-at.ensures.back
    ∙ ap (λ i. first_of (marked c.args.mark (from (g.K.Ranked.rank c.args.key) i.entries))) c.self.view_is

use Rattle.std.proofs.Common.{ap, ◌∙◌}
use Rattle.key_index.specs.Entries.{below, last_of}
use Rattle.key_index.proofs.index.KeyIndex.before.Goals as goal

pub returns : goal.returns
returns g c = c.last_before.ensures ∙ ap last_of c.settled-at.ensures.front ∙ ap (λ i. last_of (below (g.K.Ranked.rank c.args.key) i.entries)) c.self.view_is

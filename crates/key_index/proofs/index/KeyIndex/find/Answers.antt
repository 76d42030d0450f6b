use Rattle.std.proofs.Common.{ap, ◌∙◌}
use Rattle.key_index.specs.Entries.{from, first_of}
use Rattle.key_index.proofs.index.KeyIndex.find.Goals as goal

pub returns : goal.returns
returns g c = c.first_from.ensures ∙ ap first_of c.settled-at.ensures.back ∙ ap (λ i. first_of (from (g.K.Ranked.rank c.args.key) i.entries)) c.self.view_is

use Rattle.std.proofs.Common.{ap, ◌∙◌}
use Rattle.event_chain.{specs.Edits.first_under, specs.Placed.Index}
use Rattle.event_chain.proofs.look_ups.first_naming.Goals as goal

pub returns : goal.returns
returns c = c.first_in.ensures ∙ ap (λ (x : Index). first_under x.entries c.args.row) c.naming-naming.ensures

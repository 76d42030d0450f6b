use Rattle.std.proofs.Common.{ap, ◌∙◌}
use Rattle.event_chain.{specs.Edits.last_under, specs.Placed.Index}
use Rattle.event_chain.proofs.look_ups.last_live.Goals as goal

pub returns : goal.returns
returns c = c.last_in.ensures ∙ ap (λ (x : Index). last_under x.entries c.args.row) c.live-live.ensures.same

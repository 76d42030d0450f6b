use Rattle.std.proofs.Common.{◌∙◌}
use Rattle.script_ledgers.{proofs.Drafting.past_drafted, specs.contracts.draft.Draft.the_view}
use Rattle.script_ledgers.proofs.draft.Draft.is_past_plan.Goals as goal

pub returns : goal.returns
returns c = c.is_past.ensures ∙ past_drafted (the_view c.self.inside) c.args.self.now c.args.site.now c.self.view_is c.self.invariant

use Rattle.std.{proofs.Common.{ap, ◌∙◌}, specs.Prelude.slice_get}
use Rattle.key_index.specs.Entries.{last_of}
use Rattle.event_chain.{specs.Placed.Index, specs.Edits.{places_before, places_behind}}
use Rattle.event_chain.proofs.look_ups.carriers_around.Goals as goal

pub returns-clause-before : goal.returns-clause-before
returns-clause-before c = c.places_around.ensures.before ∙ ap (λ (i : Index). last_of (places_before c.args.key i.entries)) c.carriers-carriers.ensures

pub returns-clause-behind : goal.returns-clause-behind
returns-clause-behind c = c.places_around.ensures.behind ∙ ap (λ (i : Index). slice_get (places_behind c.args.key i.entries) 0) c.carriers-carriers.ensures

use Rattle.std.proofs.Common.{ap, ◌∙◌}
use Rattle.event_store.{specs.Store.slots_in, proofs.Views.slots_free}
use Rattle.event_store.proofs.store.EventStore.open.Goals as goal

pub returns-clause-slots : goal.returns-clause-slots
returns-clause-slots c = ap (slots_in _) c.in_ok-events.ensures ∙ slots_free _ c.args.events

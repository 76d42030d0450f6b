use Rattle.std.proofs.Common.{ap, ◌∙◌}
use Rattle.ledger_model.specs.Deltas.{last_reading}
use Rattle.event_store.proofs.Lasts.{last_or_is}
use Rattle.event_store.proofs.event_ref.EventRef.last_by_all.Goals as goal

pub loop-reading-init : goal.loop-reading-init
loop-reading-init c = last_or_is c.readings-left.result ∙ ap last_reading c.readings-left.ensures

use Rattle.journal_script.proofs.Moments.{events_ask_at_any_moment}
use Rattle.journal_script.proofs.laws.events.Goals as goal

pub returns : goal.returns
returns c = events_ask_at_any_moment

use Rattle.script_replay.proofs.LiveEvents.{live_events_make_boards, live_events_make_energies, live_events_make_totals}
use Rattle.script_replay.proofs.laws.live_events.Goals as goal

pub returns : goal.returns
returns c = record { boards = live_events_make_boards; energies = live_events_make_energies; totals = live_events_make_totals }

-- `deliver` leaves what `msg` leaves.
use Rattle.std.proofs.Common.{◌≡◌, ℕ, List, Option, None, Some, refl}
use Rattle.ledger_model.specs.World.{Station}
use Rattle.script_ledgers.specs.Script.{Script, by_meaning, delivered_to, sent_to, told_by}
use Rattle.transaction_event.specs.Message.{Meaning, Event, Ready, Silence, message}

told_state : (meaning : Meaning) (station : Station) (s : Script) → (told_by meaning station s).0 ≡ (by_meaning meaning station s).0
told_state (Event id request) station s = refl
told_state (Ready reply) station s = refl
told_state Silence station s = refl

pub delivered_state : (station : Option Station) (s : Script) (text : List ℕ) → (delivered_to station s text).0 ≡ (sent_to station s text).0
delivered_state None s text = refl
delivered_state (Some station) s text = told_state (message text s.moment) station s

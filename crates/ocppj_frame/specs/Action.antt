use Rattle.std.{specs.Prelude.{ℕ, List, [], ◌∷◌, find, Option, codes}, specs.Str.bytes_eq}
use Rattle.ocppj_frame.{specs.declared.action.Action.Action, specs.declared.action.Action.TheVariants.{BootNotification, Heartbeat, StatusNotification, MeterValues, TransactionEvent}}

-- The name of an action, as a CALL has it.
abbrev pub action_name : Action → List ℕ
action_name BootNotification = codes "BootNotification"
action_name Heartbeat = codes "Heartbeat"
action_name StatusNotification = codes "StatusNotification"
action_name MeterValues = codes "MeterValues"
action_name TransactionEvent = codes "TransactionEvent"

-- The five actions.
abbrev pub actions : List Action
actions = BootNotification ∷ Heartbeat ∷ StatusNotification ∷ MeterValues ∷ TransactionEvent ∷ []

-- The action of that name.
unfoldable pub action_of : List ℕ → Option Action
action_of name = find (λ action. bytes_eq name (action_name action)) actions

-- What a call shows.
use Rattle.std.specs.Prelude.{ℕ, List}
use Rattle.serde_json.specs.Data.{Data}
use Rattle.marked_json.specs.Reading.{tree}
use Rattle.ocppj_frame.{specs.declared.action.Action.Action, specs.declared.call.Call.Call, specs.Frame.{elements_of, payload_in}}

-- Its id.
abbrev pub id_of : Call → List ℕ
id_of call = call.id

-- Its action.
abbrev pub action_of : Call → Action
action_of call = call.action

-- Its payload.
abbrev pub payload_of : Call → Data
payload_of call = payload_in (elements_of (tree call.frame))

-- The messages of OCPP-J (OCPP 2.0.1 Part 4) as a grammar on the tree that a text is read into.
use Rattle.std.specs.Prelude.{◌≡◌, ◌⊎◌, ◌≤◌, ℕ, List, length, true, Some, Ok, codes}
use Rattle.serde_json.specs.Data.{Data, array, Items, item, no_items}
use Rattle.marked_json.specs.Reading.{marked_reading, text_of, number_of, is_object}
use Rattle.ocppj_frame.{specs.declared.action.Action.Action, specs.Action.action_name, specs.Reply.character_count, specs.Ranges.{longest_message, longest_message_id}}

-- A CALL is `[2,<id>,<action>,<payload>]` no longer than a message may be: the id is a text no longer than an id may
-- be, the action is the name of one of the five, the payload is an object.
pub record IsCall (text id : List ℕ) (action : Action) (payload : Data) : Type 0 where
  pub kind : Data
  pub second : Data
  pub third : Data
  pub length_ok : length text ≤ longest_message
  pub reading : marked_reading text ≡ Ok (array (item kind (item second (item third (item payload no_items)))))
  pub is_two : number_of kind ≡ Some (codes "2")
  pub has_id : text_of second ≡ Some id
  pub short_id : character_count id ≤ longest_message_id
  pub has_action : text_of third ≡ Some (action_name action)
  pub has_object : is_object payload ≡ true

-- A CALLRESULT is `[3,..]` and a CALLERROR is `[4,..]`, no longer than a message may be, whatever follows.
pub record IsAnswer (text : List ℕ) : Type 0 where
  pub kind : Data
  pub rest : Items
  pub length_ok : length text ≤ longest_message
  pub reading : marked_reading text ≡ Ok (array (item kind rest))
  pub is_three_or_four : (number_of kind ≡ Some (codes "3")) ⊎ (number_of kind ≡ Some (codes "4"))

-- A text is a call or an answer exactly if the frame says so.
use Rattle.std.{proofs.Common.{◌≡◌, ◌≤◌, ◌∙◌, ◌↔◌, ℕ, length, List, [], ◌∷◌, Bool, true, false, Some, None, Result, Ok, Err, ◌⊎◌, inl, inr, refl, ap}, specs.Prelude.{not, nat_lt, if◌then◌else◌, option_and_then, codes}, proofs.lemmas.Bool.{le-ltb, le-leb, ltb-false}}
use Rattle.serde_json.specs.Data.{Data, null, boolean, number, string, array, object, Items, no_items, item}
use Rattle.marked_json.{specs.declared.fault.JsonFault.JsonFault, specs.Reading.{marked_reading, number_of, list_of}}
use Rattle.ocppj_frame.{specs.declared.action.Action.Action, specs.declared.frame_fault.FrameFault.TheVariants.{TextTooLong, Format}, specs.Reply.character_count, specs.Id.message_id, specs.Frame.{Called, Silence, refused, id_of, with_action, with_name, with_id, with_type, frame_of, elements_of, frame_read, frame}, specs.Message.{IsCall, IsAnswer}, proofs.Frames.{Calls, Answers, frame_of-Called, frame_of-Silence, action_of-action_name}, specs.Ranges.{longest_message, longest_message_id}}

-- ---- arrays and their elements

items_from : List Data → Items
items_from [] = no_items
items_from (tree ∷ trees) = item tree (items_from trees)

items_from-list_of : (items : Items) → items ≡ items_from (list_of items)
unfolding items_from
items_from-list_of no_items = refl
items_from-list_of (item tree items) = ap (item tree) (items_from-list_of items)

-- what has an element is an array
elements-array : (tree kind : Data) (rest : List Data) → elements_of tree ≡ kind ∷ rest → tree ≡ array (items_from (kind ∷ rest))
elements-array null kind rest e = absurd (cc)
elements-array (boolean b) kind rest e = absurd (cc)
elements-array (number n) kind rest e = absurd (cc)
elements-array (string s) kind rest e = absurd (cc)
elements-array (array items) kind rest e = ap array (items_from-list_of items ∙ ap items_from e)
elements-array (object _) kind rest e = absurd (cc)

-- ---- what a text that is taken is like

text-Called : (long : Bool) (reading : Result Data JsonFault) (id : List ℕ) (action : Action) (payload : Data) →
    (if long then refused None TextTooLong else frame_read reading) ≡ Called id action payload →
    (long ≡ false) × (tree : Data) × (reading ≡ Ok tree) × Calls (elements_of tree) id action payload
text-Called true reading id action payload e = absurd (cc)
text-Called false (Err fault) id action payload e = absurd (cc)
text-Called false (Ok tree) id action payload e = (refl, tree, refl, frame_of-Called (elements_of tree) id action payload e)

text-Silence : (long : Bool) (reading : Result Data JsonFault) →
    (if long then refused None TextTooLong else frame_read reading) ≡ Silence →
    (long ≡ false) × (tree : Data) × (reading ≡ Ok tree) × Answers (elements_of tree)
text-Silence true reading e = absurd (cc)
text-Silence false (Err fault) e = absurd (cc)
text-Silence false (Ok tree) e = (refl, tree, refl, frame_of-Silence (elements_of tree) e)

IsCall-from_frame : (text id : List ℕ) (action : Action) (payload : Data) → frame text ≡ Called id action payload → IsCall text id action payload
unfolding items_from
IsCall-from_frame text id action payload e =
    let parts = text-Called (nat_lt longest_message (length text)) (marked_reading text) id action payload e in
    let calls = parts.3 in
    record {
      kind = calls.kind;
      second = calls.second;
      third = calls.third;
      length_ok = ltb-false longest_message (length text) parts.0;
      reading = parts.2 ∙ ap Ok (elements-array parts.1 calls.kind (calls.second ∷ calls.third ∷ payload ∷ []) calls.are);
      is_two = calls.is_two;
      has_id = calls.has_id;
      short_id = calls.short_id;
      has_action = calls.has_action;
      has_object = calls.has_object;
    }

IsAnswer-from_frame : (text : List ℕ) → frame text ≡ Silence → IsAnswer text
unfolding items_from
IsAnswer-from_frame text e =
    let parts = text-Silence (nat_lt longest_message (length text)) (marked_reading text) e in
    let answers = parts.3 in
    record {
      kind = answers.kind;
      rest = items_from answers.rest;
      length_ok = ltb-false longest_message (length text) parts.0;
      reading = parts.2 ∙ ap Ok (elements-array parts.1 answers.kind answers.rest answers.are);
      is_three_or_four = answers.is_three_or_four;
    }

-- ---- what is like that is taken

read_frame_of : (text : List ℕ) (tree : Data) → length text ≤ longest_message → marked_reading text ≡ Ok tree → frame text ≡ frame_of (elements_of tree)
read_frame_of text tree short reading =
    ap (λ long. if long then refused None TextTooLong else frame_read (marked_reading text)) (le-ltb longest_message (length text) short) ∙ ap frame_read reading

message_id-Some : (id : List ℕ) → character_count id ≤ longest_message_id → message_id id ≡ Some id
message_id-Some id short = ap (λ b. if b then Some id else None) (le-leb (character_count id) longest_message_id short)

frame-from_IsCall : (text id : List ℕ) (action : Action) (payload : Data) → IsCall text id action payload → frame text ≡ Called id action payload
frame-from_IsCall text id action payload call =
    read_frame_of text _ call.length_ok call.reading
    ∙ ap (λ token. with_type token (id_of call.second) (call.third ∷ payload ∷ [])) call.is_two
    ∙ ap (λ found. with_id found (call.third ∷ payload ∷ [])) (ap (λ t. option_and_then message_id t) call.has_id ∙ message_id-Some id call.short_id)
    ∙ ap (λ name. with_name id name payload) call.has_action
    ∙ ap (λ found. with_action id found payload) (action_of-action_name action)
    ∙ ap (λ b. if not b then refused (Some id) Format else Called id action payload) call.has_object

silence_of : (kind : Data) (rest : List Data) → (number_of kind ≡ Some (codes "3")) ⊎ (number_of kind ≡ Some (codes "4")) → frame_of (kind ∷ rest) ≡ Silence
silence_of kind [] (inl e) = ap (λ token. with_type token None []) e
silence_of kind [] (inr e) = ap (λ token. with_type token None []) e
silence_of kind (second ∷ rest) (inl e) = ap (λ token. with_type token (id_of second) rest) e
silence_of kind (second ∷ rest) (inr e) = ap (λ token. with_type token (id_of second) rest) e

frame-from_IsAnswer : (text : List ℕ) → IsAnswer text → frame text ≡ Silence
frame-from_IsAnswer text answer =
    read_frame_of text _ answer.length_ok answer.reading ∙ silence_of answer.kind (list_of answer.rest) answer.is_three_or_four

-- a text asks for a call exactly if it is one
pub frame-Called : (text id : List ℕ) (action : Action) (payload : Data) → (frame text ≡ Called id action payload) ↔ IsCall text id action payload
frame-Called text id action payload = (IsCall-from_frame text id action payload, frame-from_IsCall text id action payload)

-- a text asks for silence exactly if it is an answer
pub frame-Silence : (text : List ℕ) → (frame text ≡ Silence) ↔ IsAnswer text
frame-Silence text = (IsAnswer-from_frame text, frame-from_IsAnswer text)

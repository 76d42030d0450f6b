-- What elements ask for: a call, silence or a refusal, and what is known of the elements then.
use Rattle.std.{proofs.Common.{◌≡◌, ◌≤◌, ◌∙◌, ℕ, length, List, [], ◌∷◌, Bool, true, false, Option, Some, None, ◌⊎◌, inl, inr, ⊎_elim, refl, sym, ap, subst}, specs.Prelude.{not, nat_le, ◌||◌, if◌then◌else◌, option_and_then, codes}, specs.List.find, specs.Str.bytes_eq, proofs.lemmas.Bool.leb-true, proofs.lemmas.Slice.Eq.bytes_eq-Decides}
use Rattle.serde_json.specs.Data.{Data}
use Rattle.marked_json.specs.Reading.{text_of, number_of, is_object}
use Rattle.ocppj_frame.{specs.declared.action.Action.Action, specs.declared.action.Action.TheVariants.{BootNotification, Heartbeat, StatusNotification, MeterValues, TransactionEvent}, specs.declared.frame_fault.FrameFault.FrameFault, specs.declared.frame_fault.FrameFault.TheVariants.{NotACall, MessageType, UnknownAction, Format}, specs.Reply.character_count, specs.Action.{action_of, action_name, actions}, specs.Id.message_id, specs.Frame.{Frame, Called, Silence, refused, id_of, with_action, with_name, with_id, with_type, frame_of, payload_in}, specs.Ranges.longest_message_id}

-- the elements are those of a call
pub record Calls (elements : List Data) (id : List ℕ) (action : Action) (payload : Data) : Type 0 where
  pub kind : Data
  pub second : Data
  pub third : Data
  pub are : elements ≡ kind ∷ second ∷ third ∷ payload ∷ []
  pub is_two : number_of kind ≡ Some (codes "2")
  pub has_id : text_of second ≡ Some id
  pub short_id : character_count id ≤ longest_message_id
  pub has_action : text_of third ≡ Some (action_name action)
  pub has_object : is_object payload ≡ true

-- the elements are those of an answer
pub record Answers (elements : List Data) : Type 0 where
  pub kind : Data
  pub rest : List Data
  pub are : elements ≡ kind ∷ rest
  pub is_three_or_four : (number_of kind ≡ Some (codes "3")) ⊎ (number_of kind ≡ Some (codes "4"))

-- what elements ask for
data Outcome (elements : List Data) (asked : Frame) : Type 0 where
  silent : asked ≡ Silence → Answers elements → Outcome elements asked
  refusal : (id : Option (List ℕ)) (fault : FrameFault) → asked ≡ refused id fault → Outcome elements asked
  call : (id : List ℕ) (action : Action) (payload : Data) → asked ≡ Called id action payload → Calls elements id action payload → Outcome elements asked

-- ---- ids and actions

id-parts : (text : List ℕ) (short : Bool) → nat_le (character_count text) longest_message_id ≡ short → (id : List ℕ) →
    (if short then Some text else None) ≡ Some id → (text ≡ id) × (character_count id ≤ longest_message_id)
id-parts text true e id is =
    let same : text ≡ id = cc in (same, subst (λ t. character_count t ≤ longest_message_id) same (leb-true _ _ e))
id-parts text false e id is = absurd (cc)

-- an id is a text of at most 36 characters
id_of-parts : (text : Option (List ℕ)) (id : List ℕ) → option_and_then message_id text ≡ Some id → (text ≡ Some id) × (character_count id ≤ longest_message_id)
id_of-parts None id e = absurd (cc)
id_of-parts (Some text) id e =
    let parts = id-parts text (nat_le (character_count text) longest_message_id) refl id e in (ap Some parts.0, parts.1)

passes_next : (test : Action → Bool) (action found : Action) (actions : List Action) (passes : Bool) → test action ≡ passes →
    (find test actions ≡ Some found → test found ≡ true) → (if passes then Some action else find test actions) ≡ Some found → test found ≡ true
passes_next test action found actions true e later is = let same : action ≡ found = cc in subst (λ a. test a ≡ true) same e
passes_next test action found actions false e later is = later is

found_passes : (test : Action → Bool) (found : Action) (actions : List Action) → find test actions ≡ Some found → test found ≡ true
found_passes test found [] e = absurd (cc)
found_passes test found (action ∷ actions) e = passes_next test action found actions (test action) refl (found_passes test found actions) e

-- an action is found only by its name
action_of-Some : (name : List ℕ) (action : Action) → action_of name ≡ Some action → name ≡ action_name action
unfolding action_of
action_of-Some name action e =
    (bytes_eq-Decides name (action_name action)).0 (found_passes (λ a. bytes_eq name (action_name a)) action actions e)

pub action_of-action_name : (action : Action) → action_of (action_name action) ≡ Some action
unfolding action_of
action_of-action_name BootNotification = refl
action_of-action_name Heartbeat = refl
action_of-action_name StatusNotification = refl
action_of-action_name MeterValues = refl
action_of-action_name TransactionEvent = refl

-- ---- the checks, one after another

object_outcome : (elements : List Data) (id : List ℕ) (action : Action) (payload : Data) (b : Bool) → is_object payload ≡ b →
    (is_object payload ≡ true → Calls elements id action payload) →
    Outcome elements (if not b then refused (Some id) Format else Called id action payload)
object_outcome elements id action payload true e calls = call id action payload refl (calls e)
object_outcome elements id action payload false e calls = refusal (Some id) Format refl

action_outcome : (elements : List Data) (id : List ℕ) (found : Option Action) (payload : Data) →
    ((action : Action) → found ≡ Some action → is_object payload ≡ true → Calls elements id action payload) →
    Outcome elements (with_action id found payload)
action_outcome elements id None payload calls = refusal (Some id) UnknownAction refl
action_outcome elements id (Some action) payload calls =
    object_outcome elements id action payload (is_object payload) refl (calls action refl)

name_outcome : (elements : List Data) (id : List ℕ) (name : Option (List ℕ)) (payload : Data) →
    ((action : Action) → name ≡ Some (action_name action) → is_object payload ≡ true → Calls elements id action payload) →
    Outcome elements (with_name id name payload)
name_outcome elements id None payload calls = refusal (Some id) NotACall refl
name_outcome elements id (Some name) payload calls =
    action_outcome elements id (action_of name) payload (λ action found. calls action (ap Some (action_of-Some name action found)))

id_outcome : (kind second : Data) (id : Option (List ℕ)) (rest : List Data) → id_of second ≡ id → number_of kind ≡ Some (codes "2") →
    Outcome (kind ∷ second ∷ rest) (with_id id rest)
id_outcome kind second None rest has_id is_two = refusal None NotACall refl
id_outcome kind second (Some id) [] has_id is_two = refusal (Some id) NotACall refl
id_outcome kind second (Some id) (third ∷ []) has_id is_two = refusal (Some id) NotACall refl
id_outcome kind second (Some id) (third ∷ payload ∷ []) has_id is_two =
    let parts = id_of-parts (text_of second) id has_id in
    name_outcome (kind ∷ second ∷ third ∷ payload ∷ []) id (text_of third) payload (λ action named object. record {
      kind = kind;
      second = second;
      third = third;
      are = refl;
      is_two = is_two;
      has_id = parts.0;
      short_id = parts.1;
      has_action = named;
      has_object = object;
    })
id_outcome kind second (Some id) (third ∷ payload ∷ more ∷ rest) has_id is_two = refusal (Some id) NotACall refl

token_outcome : (elements : List Data) (id : Option (List ℕ)) (asked : Frame) (three four two : Bool) →
    ((three ≡ true) ⊎ (four ≡ true) → Answers elements) → (two ≡ true → Outcome elements asked) →
    Outcome elements (if three || four then Silence else (if not two then refused id MessageType else asked))
token_outcome elements id asked true four two answers calls = silent refl (answers (inl refl))
token_outcome elements id asked false true two answers calls = silent refl (answers (inr refl))
token_outcome elements id asked false false true answers calls = calls refl
token_outcome elements id asked false false false answers calls = refusal id MessageType refl

type_outcome : (kind : Data) (more : List Data) (token : Option (List ℕ)) (id : Option (List ℕ)) (rest : List Data) → number_of kind ≡ token →
    (number_of kind ≡ Some (codes "2") → Outcome (kind ∷ more) (with_id id rest)) → Outcome (kind ∷ more) (with_type token id rest)
type_outcome kind more None id rest is calls = refusal id NotACall refl
type_outcome kind more (Some token) id rest is calls =
    let same = λ (other : List ℕ) (e : bytes_eq token other ≡ true). is ∙ ap Some ((bytes_eq-Decides token other).0 e) in
    token_outcome (kind ∷ more) id (with_id id rest) (bytes_eq token (codes "3")) (bytes_eq token (codes "4")) (bytes_eq token (codes "2"))
    (λ either. record {
      kind = kind;
      rest = more;
      are = refl;
      is_three_or_four = ⊎_elim (λ e. inl (same (codes "3") e)) (λ e. inr (same (codes "4") e)) either;
    })
    (λ e. calls (same (codes "2") e))

frame_outcome : (elements : List Data) → Outcome elements (frame_of elements)
frame_outcome [] = refusal None NotACall refl
frame_outcome (kind ∷ []) = type_outcome kind [] (number_of kind) None [] refl (λ is_two. refusal None NotACall refl)
frame_outcome (kind ∷ second ∷ rest) =
    type_outcome kind (second ∷ rest) (number_of kind) (id_of second) rest refl (λ is_two. id_outcome kind second (id_of second) rest refl is_two)

-- ---- what follows from what is asked for

outcome-Called : (elements : List Data) (asked : Frame) → Outcome elements asked → (id : List ℕ) (action : Action) (payload : Data) →
    asked ≡ Called id action payload → Calls elements id action payload
outcome-Called elements asked (silent is answers) id action payload e = absurd (cc)
outcome-Called elements asked (refusal other fault is) id action payload e = absurd (cc)
outcome-Called elements asked (call other other_action other_payload is calls) id action payload e =
    let same_id : other ≡ id = cc in
    let same_action : other_action ≡ action = cc in
    let same_payload : other_payload ≡ payload = cc in
    subst (λ text. Calls elements text action payload) same_id
    (subst (λ a. Calls elements other a payload) same_action (subst (λ tree. Calls elements other other_action tree) same_payload calls))

outcome-Silence : (elements : List Data) (asked : Frame) → Outcome elements asked → asked ≡ Silence → Answers elements
outcome-Silence elements asked (silent is answers) e = answers
outcome-Silence elements asked (refusal other fault is) e = absurd (cc)
outcome-Silence elements asked (call id action payload is calls) e = absurd (cc)

-- elements that ask for a call are those of one
pub frame_of-Called : (elements : List Data) (id : List ℕ) (action : Action) (payload : Data) →
    frame_of elements ≡ Called id action payload → Calls elements id action payload
frame_of-Called elements id action payload e = outcome-Called elements (frame_of elements) (frame_outcome elements) id action payload e

-- elements that ask for silence are those of an answer
pub frame_of-Silence : (elements : List Data) → frame_of elements ≡ Silence → Answers elements
frame_of-Silence elements e = outcome-Silence elements (frame_of elements) (frame_outcome elements) e

-- what the elements of a call show
pub Calls-four : (elements : List Data) (id : List ℕ) (action : Action) (payload : Data) → Calls elements id action payload → length elements ≡ 4
Calls-four elements id action payload calls = ap length calls.are

pub Calls-payload : (elements : List Data) (id : List ℕ) (action : Action) (payload : Data) → Calls elements id action payload → payload ≡ payload_in elements
Calls-payload elements id action payload calls = sym (ap payload_in calls.are)

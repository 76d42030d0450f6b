-- A payload is read as an event exactly if the grammar derives it.
use Rattle.std.{proofs.Common.{◌≡◌, ℕ, ◌-◌, ◌≤◌, ◌↔◌, Bool, true, false, List, [], ◌∷◌, length, Ok, Err, Option, None, Some, ℤ, pos, inl, inr, refl, sym, ap, subst, ◌∙◌, arith, leb-true, ltb-true}, specs.Prelude.{◌&&◌, All, if◌then◌else◌, is_some, nat_le, nat_lt, unsigned_abs, unwrap_or, codes}, specs.List.list_all, specs.Option.ok_or, specs.Str.bytes_eq, proofs.lemmas.Bool.{and_parts, and_from, le-leb, lt-ltb}, proofs.lemmas.List.Elements.{All-nil, All-cons, All-head, All-tail}}
use Rattle.serde_json.specs.Data.{Data}
use Rattle.marked_json.specs.Reading.{is_object, items_of, text_of}
use Rattle.ledger_model.{specs.Key.KeyName, specs.Event.{EventContent, MeterReading}, specs.Ranges.{greatest_evse, most_event_readings, most_id_characters, sequence_end}, specs.TxId.{folded, is_tx_id, is_visible}, specs.declared.kind.Kind.Kind, specs.declared.kind.Kind.TheVariants.{Started, Updated, Ended}}
use Rattle.ocppj_frame.{specs.declared.action.Action.TheVariants.{BootNotification, Heartbeat, StatusNotification, MeterValues, TransactionEvent}, specs.Frame.{Frame, Called, Silence, Ready, frame}, proofs.Messages.frame-Called}
use Rattle.transaction_event.{specs.declared.fault.PayloadFault.TheVariants.{Format, Range}, specs.Integer.required_integer, specs.Member.{object_of, optional, required}, specs.MeterValues.{meter_value, meter_values}, specs.Request.{Request, event_reading, evse_number, evse_of, has_token, key_of, kind_named, kind_of, request_of, tx_named}, specs.Steps.{Checked, checked_map, for_each}, specs.Timestamp.timestamp}
use Rattle.transaction_event.specs.Message as meaning
use Rattle.event_laws.{specs.EventRequest.{HasNumber, HasReadings, HasToken, HasTransaction, IsEventCall, IsEventRequest, IsTransactionId, MayNameEvse, type_name}, specs.Members.{Has, MayHave}, specs.Samples.AreMeterValues, proofs.MemberLemmas.{binds, bound, checked_object, has_natural, has_optional, has_required, natural_has, object_checked, object_there, optional_has, passed, required_has, same_ok, there_object}, proofs.SampleLemmas.{are_meter_values, has_time, meter_values_are, named_is, time_has}}

-- ---- the kind of an event

kind_is : (name : List ℕ) (kind : Kind) → kind_named name ≡ Ok kind → name ≡ type_name kind
kind_is name kind e = go (bytes_eq name (codes "Started")) refl (bytes_eq name (codes "Updated")) refl (bytes_eq name (codes "Ended")) refl e
  where
    of : (k : Kind) → name ≡ type_name k → k ≡ kind → name ≡ type_name kind
    of k n same = n ∙ ap type_name same

    go : (s : Bool) → bytes_eq name (codes "Started") ≡ s → (u : Bool) → bytes_eq name (codes "Updated") ≡ u → (x : Bool) → bytes_eq name (codes "Ended") ≡ x
        → (let r : Checked Kind = if s then Ok Started else (if u then Ok Updated else (if x then Ok Ended else Err Range)) in r) ≡ Ok kind → name ≡ type_name kind
    go true s u f x g e = of Started (named_is name (codes "Started") s) (same_ok Started kind e)
    go false s true f x g e = of Updated (named_is name (codes "Updated") f) (same_ok Updated kind e)
    go false s false f true g e = of Ended (named_is name (codes "Ended") g) (same_ok Ended kind e)
    go false s false f false g e = absurd (cc e)

is_kind : (kind : Kind) → kind_named (type_name kind) ≡ Ok kind
is_kind Started = refl
is_kind Updated = refl
is_kind Ended = refl

has_kind : (tree : Data) (kind : Kind) → kind_of tree ≡ Ok kind → Has text_of (codes "eventType") tree (type_name kind)
unfolding kind_of
has_kind tree kind e =
    let name = bound (required text_of (codes "eventType") tree) kind_named kind e in
    subst (Has text_of (codes "eventType") tree) (kind_is name.0 kind name.1.1) (has_required text_of (codes "eventType") tree name.0 name.1.0)

kind_has : (tree : Data) (kind : Kind) → Has text_of (codes "eventType") tree (type_name kind) → kind_of tree ≡ Ok kind
unfolding kind_of
kind_has tree kind h = binds (required text_of (codes "eventType") tree) (type_name kind) kind_named kind (required_has text_of (codes "eventType") tree (type_name kind) h) (is_kind kind)

-- ---- transaction ids

all_visible : (text : List ℕ) → list_all is_visible text ≡ true → All (λ c. (33 ≤ c) × (c ≤ 126)) text
all_visible [] e = All-nil (λ c. (33 ≤ c) × (c ≤ 126))
all_visible (c ∷ text) e =
    let p = and_parts (is_visible c) (list_all is_visible text) e in
    let q = and_parts (nat_le 33 c) (nat_le c 126) p.0 in
    All-cons (λ c. (33 ≤ c) × (c ≤ 126)) c text (leb-true 33 c q.0, leb-true c 126 q.1) (all_visible text p.1)

visible_all : (text : List ℕ) → All (λ c. (33 ≤ c) × (c ≤ 126)) text → list_all is_visible text ≡ true
visible_all [] h = refl
visible_all (c ∷ text) h =
    let one = All-head (λ c. (33 ≤ c) × (c ≤ 126)) c text h in
    and_from (is_visible c) (list_all is_visible text) (and_from (nat_le 33 c) (nat_le c 126) (le-leb 33 c one.0) (le-leb c 126 one.1))
    (visible_all text (All-tail (λ c. (33 ≤ c) × (c ≤ 126)) c text h))

valid_id : (text : List ℕ) → is_tx_id text ≡ true → IsTransactionId text
valid_id text e =
    let p = and_parts (nat_lt 0 (length text) && nat_le (length text) most_id_characters) (list_all is_visible text) e in
    let q = and_parts (nat_lt 0 (length text)) (nat_le (length text) most_id_characters) p.0 in
    record { some = ltb-true 0 (length text) q.0; short = leb-true (length text) most_id_characters q.1; visible = all_visible text p.1 }

id_valid : (text : List ℕ) → IsTransactionId text → is_tx_id text ≡ true
id_valid text h =
    and_from (nat_lt 0 (length text) && nat_le (length text) most_id_characters) (list_all is_visible text)
    (and_from (nat_lt 0 (length text)) (nat_le (length text) most_id_characters) (lt-ltb 0 (length text) h.some) (le-leb (length text) most_id_characters h.short))
    (visible_all text h.visible)

-- ---- the key

record HasKey (tree : Data) (key : KeyName) : Type 0 where
  number : HasNumber tree key.seq
  transaction : HasTransaction tree key.tx

has_key : (tree : Data) (key : KeyName) → key_of tree ≡ Ok key → HasKey tree key
unfolding key_of
has_key tree key e =
    let seq = bound (required_integer (pos 0) (pos (sequence_end - 1)) (codes "seqNo") tree) _ key e in
    let info = bound (required object_of (codes "transactionInfo") tree) _ key seq.1.1 in
    let text = bound (required text_of (codes "transactionId") info.0) _ key info.1.1 in
    let tx = bound (tx_named text.0) _ key text.1.1 in
    let valid = passed (is_tx_id text.0) (folded text.0) tx.0 Range tx.1.0 in
    let natural = has_natural (codes "seqNo") tree 0 (sequence_end - 1) seq.0 seq.1.0 in
    let k : KeyName = record { tx = tx.0; seq = unsigned_abs seq.0 } in
    subst (HasKey tree) (same_ok k key tx.1.1) (record {
      number = record { there = natural.there; most = omega (arith, natural.high) };
      transaction = record {
        info = info.0;
        text = text.0;
        has_info = object_there (codes "transactionInfo") tree info.0 (has_required object_of (codes "transactionInfo") tree info.0 info.1.0);
        has_id = has_required text_of (codes "transactionId") info.0 text.0 text.1.0;
        valid = valid_id text.0 valid.0;
        is = sym valid.1;
      };
    })

key_has : (tree : Data) (key : KeyName) → HasNumber tree key.seq → HasTransaction tree key.tx → key_of tree ≡ Ok key
unfolding key_of
key_has tree key n t =
    binds (required_integer (pos 0) (pos (sequence_end - 1)) (codes "seqNo") tree) (pos key.seq) _ key
    (natural_has (codes "seqNo") tree 0 (sequence_end - 1) key.seq n.there (omega arith) (let most = n.most in omega (arith, most)))
    (binds (required object_of (codes "transactionInfo") tree) t.info _ key
    (required_has object_of (codes "transactionInfo") tree t.info (there_object (codes "transactionInfo") tree t.info t.has_info))
    (binds (required text_of (codes "transactionId") t.info) t.text _ key (required_has text_of (codes "transactionId") t.info t.text t.has_id)
    (binds (tx_named t.text) (folded t.text) _ key (ap (λ b. let r : Checked (List ℕ) = if b then Ok (folded t.text) else Err Range in r) (id_valid t.text t.valid))
    (ap (λ tx. Ok (record { tx = tx; seq = key.seq })) (sym t.is)))))

-- ---- the EVSE and the id token

has_evse : (tree : Data) (evse : Option ℕ) → evse_of tree ≡ Ok evse → MayNameEvse tree evse
unfolding evse_of
has_evse tree evse e =
    let there = bound (optional object_of (codes "evse") tree) evse_number evse e in
    go there.0 (has_optional object_of (codes "evse") tree there.0 there.1.0) there.1.1
  where
    named : (found : Data) → Has object_of (codes "evse") tree found → (n : Checked ℤ) → required_integer (pos 1) (pos greatest_evse) (codes "id") found ≡ n
        → checked_map (λ m. Some (unsigned_abs m)) n ≡ Ok evse → MayNameEvse tree evse
    named found h (Err fault) i e = absurd (cc e)
    named found h (Ok m) i e =
        let natural = has_natural (codes "id") found 1 greatest_evse m i in
        subst (MayNameEvse tree) (same_ok (Some (unsigned_abs m)) evse e) (record {
          evse = found;
          has_evse = object_there (codes "evse") tree found h;
          has_number = natural.there;
          least = natural.low;
          most = natural.high;
        })

    go : (there : Option Data) → MayHave object_of (codes "evse") tree there → evse_number there ≡ Ok evse → MayNameEvse tree evse
    go None h e = subst (MayNameEvse tree) (same_ok None evse e) h
    go (Some found) h e = named found h (required_integer (pos 1) (pos greatest_evse) (codes "id") found) refl e

evse_has : (tree : Data) (evse : Option ℕ) → MayNameEvse tree evse → evse_of tree ≡ Ok evse
unfolding evse_of
evse_has tree None h = binds (optional object_of (codes "evse") tree) None evse_number None (optional_has object_of (codes "evse") tree None h) refl
evse_has tree (Some n) h =
    binds (optional object_of (codes "evse") tree) (Some h.evse) evse_number (Some n)
    (optional_has object_of (codes "evse") tree (Some h.evse) (there_object (codes "evse") tree h.evse h.has_evse))
    (ap (checked_map (λ m. Some (unsigned_abs m))) (natural_has (codes "id") h.evse 1 greatest_evse n h.has_number h.least h.most))

token_there : (tree : Data) (there : Option Data) (token : Bool) → MayHave object_of (codes "idToken") tree there → is_some there ≡ token → HasToken tree token
token_there tree None true h e = absurd (cc e)
token_there tree None false h e = h
token_there tree (Some found) true h e = (found, object_there (codes "idToken") tree found h)
token_there tree (Some found) false h e = absurd (cc e)

has_id_token : (tree : Data) (token : Bool) → has_token tree ≡ Ok token → HasToken tree token
unfolding has_token
has_id_token tree token e = go (optional object_of (codes "idToken") tree) refl e
  where
    go : (there : Checked (Option Data)) → optional object_of (codes "idToken") tree ≡ there → checked_map is_some there ≡ Ok token → HasToken tree token
    go (Err fault) t e = absurd (cc e)
    go (Ok there) t e = token_there tree there token (has_optional object_of (codes "idToken") tree there t) (same_ok (is_some there) token e)

id_token_has : (tree : Data) (token : Bool) → HasToken tree token → has_token tree ≡ Ok token
unfolding has_token
id_token_has tree false h = ap (checked_map is_some) (optional_has object_of (codes "idToken") tree None h)
id_token_has tree true h = ap (checked_map is_some) (optional_has object_of (codes "idToken") tree (Some h.0) (there_object (codes "idToken") tree h.0 h.1))

-- ---- the readings

record Reads (tree : Data) (rs : List MeterReading) : Type 0 where
  are : HasReadings tree rs
  few : length rs ≤ most_event_readings

has_readings : (tree : Data) (rs : List MeterReading) → meter_values tree ≡ Ok rs → Reads tree rs
unfolding meter_values
has_readings tree rs e =
    let elements = bound (optional items_of (codes "meterValue") tree) _ rs e in
    go elements.0 (has_optional items_of (codes "meterValue") tree elements.0 elements.1.0) elements.1.1
  where
    go : (elements : Option (List Data)) → MayHave items_of (codes "meterValue") tree elements → for_each meter_value [] (unwrap_or elements []) ≡ Ok rs → Reads tree rs
    go None h e = let values = meter_values_are [] [] rs (omega arith) e in record { are = inl (h, values.is ∙ values.are); few = values.few }
    go (Some elements) h e =
        let values = meter_values_are elements [] rs (omega arith) e in
        record { are = inr (elements, h, subst (AreMeterValues elements) (sym values.is) values.are); few = values.few }

readings_have : (tree : Data) (rs : List MeterReading) → HasReadings tree rs → length rs ≤ most_event_readings → meter_values tree ≡ Ok rs
unfolding meter_values for_each
readings_have tree rs (inl h) few =
    binds (optional items_of (codes "meterValue") tree) None (λ elements. for_each meter_value [] (unwrap_or elements [])) rs (optional_has items_of (codes "meterValue") tree None h.0) (ap Ok (sym h.1))
readings_have tree rs (inr h) few =
    binds (optional items_of (codes "meterValue") tree) (Some h.0) (λ elements. for_each meter_value [] (unwrap_or elements [])) rs
    (optional_has items_of (codes "meterValue") tree (Some h.0) h.1) (are_meter_values h.0 [] rs h.2 few)

-- ---- a request

request_is : (tree : Data) (r : Request) → is_object tree ≡ true → request_of tree ≡ Ok r → IsEventRequest tree r
unfolding request_of
request_is tree r object e =
    let kind = bound (kind_of tree) _ r e in
    let nanos = bound (timestamp tree) _ r kind.1.1 in
    let reason = bound (required text_of (codes "triggerReason") tree) _ r nanos.1.1 in
    let key = bound (key_of tree) _ r reason.1.1 in
    let evse = bound (evse_of tree) _ r key.1.1 in
    let token = bound (has_token tree) _ r evse.1.1 in
    let readings = bound (meter_values tree) _ r token.1.1 in
    let named = has_key tree key.0 key.1.0 in
    let read = has_readings tree readings.0 readings.1.0 in
    let content : EventContent = record { kind = kind.0; moment = nanos.0; evse = evse.0; readings = readings.0 } in
    let all : Request = record { key = key.0; event = content; token = token.0 } in
    subst (IsEventRequest tree) (same_ok all r readings.1.1) (record {
      object = object;
      event_type = has_kind tree kind.0 kind.1.0;
      time = has_time tree nanos.0 nanos.1.0;
      reason = (reason.0, has_required text_of (codes "triggerReason") tree reason.0 reason.1.0);
      number = named.number;
      transaction = named.transaction;
      evse = has_evse tree evse.0 evse.1.0;
      token = has_id_token tree token.0 token.1.0;
      readings = read.are;
      few = read.few;
    })

is_request : (tree : Data) (r : Request) → IsEventRequest tree r → request_of tree ≡ Ok r
unfolding request_of
is_request tree r h =
    binds (kind_of tree) r.event.kind _ r (kind_has tree r.event.kind h.event_type)
    (binds (timestamp tree) r.event.moment _ r (time_has tree r.event.moment h.time)
    (binds (required text_of (codes "triggerReason") tree) h.reason.0 _ r (required_has text_of (codes "triggerReason") tree h.reason.0 h.reason.1)
    (binds (key_of tree) r.key _ r (key_has tree r.key h.number h.transaction)
    (binds (evse_of tree) r.event.evse _ r (evse_has tree r.event.evse h.evse)
    (binds (has_token tree) r.token _ r (id_token_has tree r.token h.token)
    (binds (meter_values tree) r.event.readings _ r (readings_have tree r.event.readings h.readings h.few) refl))))))

payload_is : (payload : Data) (r : Request) → event_reading payload ≡ Ok r → IsEventRequest payload r
payload_is payload r e =
    let tree = bound (ok_or (object_of payload) Format) request_of r e in
    let o = checked_object payload tree.0 Format tree.1.0 in
    subst (λ t. IsEventRequest t r) (sym o.1) (request_is tree.0 r (subst (λ t. is_object t ≡ true) o.1 o.0) tree.1.1)

is_payload : (payload : Data) (r : Request) → IsEventRequest payload r → event_reading payload ≡ Ok r
is_payload payload r h = binds (ok_or (object_of payload) Format) payload request_of r (object_checked payload Format h.object) (is_request payload r h)

pub payloads : (payload : Data) (r : Request) → (event_reading payload ≡ Ok r) ↔ IsEventRequest payload r
payloads payload r = (payload_is payload r, is_payload payload r)

-- ---- a text

record Means (id id' : List ℕ) (payload : Data) (r : Request) : Type 0 where
  same_id : id ≡ id'
  read : event_reading payload ≡ Ok r

means : (id id' : List ℕ) (payload : Data) (r : Request) → meaning.event_or_fault id (event_reading payload) ≡ meaning.Event id' r → Means id id' payload r
means id id' payload r e = go (event_reading payload) refl e
  where
    go : (read : Checked Request) → event_reading payload ≡ read → meaning.event_or_fault id read ≡ meaning.Event id' r → Means id id' payload r
    go (Err fault) x e = absurd (cc e)
    go (Ok asked) x e = let i : id ≡ id' = cc in let q : asked ≡ r = cc in record { same_id = i; read = x ∙ ap Ok q }

frame_is : (text : List ℕ) (now : ℕ) (id : List ℕ) (r : Request) (f : Frame) → frame text ≡ f → meaning.meaning_of now f ≡ meaning.Event id r → IsEventCall text id r
frame_is text now id r (Called id' BootNotification payload) f e = absurd (cc e)
frame_is text now id r (Called id' Heartbeat payload) f e = absurd (cc e)
frame_is text now id r (Called id' StatusNotification payload) f e = absurd (cc e)
frame_is text now id r (Called id' MeterValues payload) f e = absurd (cc e)
frame_is text now id r (Called id' TransactionEvent payload) f e =
    let m = means id' id payload r e in
    record {
      payload = payload;
      call = (frame-Called text id TransactionEvent payload).0 (f ∙ ap (λ i. Called i TransactionEvent payload) m.same_id);
      request = payload_is payload r m.read;
    }
frame_is text now id r Silence f e = absurd (cc e)
frame_is text now id r (Ready reply) f e = absurd (cc e)

text_is : (text : List ℕ) (now : ℕ) (id : List ℕ) (r : Request) → meaning.message text now ≡ meaning.Event id r → IsEventCall text id r
text_is text now id r e = frame_is text now id r (frame text) refl e

is_text : (text : List ℕ) (now : ℕ) (id : List ℕ) (r : Request) → IsEventCall text id r → meaning.message text now ≡ meaning.Event id r
is_text text now id r h =
    ap (meaning.meaning_of now) ((frame-Called text id TransactionEvent h.payload).1 h.call) ∙ ap (meaning.event_or_fault id) (is_payload h.payload r h.request)

pub texts : (text : List ℕ) (now : ℕ) (id : List ℕ) (r : Request) → (meaning.message text now ≡ meaning.Event id r) ↔ IsEventCall text id r
texts text now id r = (text_is text now id r, is_text text now id r)

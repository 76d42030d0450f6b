-- What a message means can be delivered to a ledger: the parts of a request are in their ranges.
use Rattle.std.{proofs.Common.{◌≡◌, ℕ, ◌-◌, ◌<◌, ◌≤◌, Bool, true, false, List, [], ◌∷◌, ◌++◌, length, Result, Option, Ok, Err, Some, None, IfSome, ℤ, pos, negsuc, refl, ap, subst, arith, leb-true, ltb-true, length-append}, specs.Prelude.{◌≢◌, ◌&&◌, not, All, nat_le, nat_lt, unsigned_abs, if◌then◌else◌, codes}, specs.Int.Signed.le_z, specs.Option.ok_or, proofs.lemmas.Bool.and_parts, proofs.lemmas.List.Elements.{All-nil, All-cons, All-append}, specs.Float.Numeral.numeral_digits, specs.Str.Parse.digits_value}
use Rattle.serde_json.specs.Data.{Data}
use Rattle.marked_json.specs.Reading.{text_of, number_of, items_of}
use Rattle.jiff.specs.Words.{Error, parse_timestamp}
use Rattle.reading_decimal.{specs.declared.decimal.DecimalFault.DecimalFault, specs.declared.decimal.DecimalFault.TheVariants.{NotADecimal, TooLong, ExponentRange, Negative, TooLarge}, specs.declared.decimal.Unit.Unit as EnergyUnit, specs.declared.moment.MomentFault.MomentFault, specs.Decimal.{mwh_reading, within_register, mwh, parts, is_decimal, is_negative, longest_decimal, greatest_exponent}, specs.Moment.{moment_within, moment_reading}}
use Rattle.ledger_model.{specs.declared.command.Command.TheVariants.Deliver, specs.Admissible.IsAdmissible, specs.declared.reading.Direction.Direction, specs.Event.{MeterReading, IsMeterReading, IsEventContent}, specs.Key.{KeyName, IsKeyName}, specs.Moment.{IsMoment, is_moment, first_moment, moments_end}, specs.Ranges.{sequence_end, greatest_evse, greatest_reading, most_event_readings}, specs.TxId.{IsFoldedId, is_tx_id, folded}, proofs.Ids.IsFoldedId-folded}
use Rattle.ocppj_frame.{specs.declared.action.Action.TheVariants.{BootNotification, Heartbeat, StatusNotification, MeterValues, TransactionEvent}, specs.Frame.{Frame, Called, Silence, Ready, frame}}
use Rattle.transaction_event.{specs.declared.fault.PayloadFault.PayloadFault, specs.declared.fault.PayloadFault.TheVariants.Range, specs.Steps.{Checked, ◌>>=◌, checked_map, for_each}, specs.Member.{object_of, required, optional}, specs.Integer.{integer_of, within, required_integer}, specs.Timestamp.{moment, moment_named, timestamp}, specs.Readings.one_more, specs.Sampled.{decimal, counts, sampled_mwh, if_counted, sample}, specs.Scale.scale_of, specs.MeterValues.{meter_value, meter_values}, specs.Request.{Request, kind_of, tx_named, key_of, evse_number, evse_of, has_token, request_of, event_reading}}
use Rattle.transaction_event.specs.Message as meaning

-- what checks that pass one after the other gave
bound : {A B : Type 0} (a : Checked A) (next : A → Checked B) (y : B) → (a >>= next) ≡ Ok y → (x : A) × ((a ≡ Ok x) × (next x ≡ Ok y))
bound (Ok x) next y e = (x, (refl, e))
bound (Err fault) next y e = absurd (cc e)

same_ok : {A E : Type 0} (x y : A) → (let a : Result A E = Ok x in a) ≡ Ok y → x ≡ y
same_ok x y e = cc

-- a test that was passed
passed : {A E : Type 0} (t : Bool) (x y : A) (fault : E) → (if t then Ok x else Err fault) ≡ Ok y → (t ≡ true) × (x ≡ y)
passed true x y fault e = (refl, same_ok x y e)
passed false x y fault e = absurd (cc e)

-- a fault that did not apply
avoided : {A E : Type 0} (t : Bool) (rest : Result A E) (y : A) (fault : E) → (if t then Err fault else rest) ≡ Ok y → rest ≡ Ok y
avoided true rest y fault e = absurd (cc e)
avoided false rest y fault e = e

-- an integer of a range that begins at no negative number
in_range : (a b : ℕ) (n m : ℤ) → within (pos a) (pos b) n ≡ Ok m → (a ≤ unsigned_abs m) × (unsigned_abs m ≤ b)
in_range a b (pos k) m e =
    let p = passed (le_z (pos a) (pos k) && le_z (pos k) (pos b)) (pos k) m Range e in
    let q = and_parts (le_z (pos a) (pos k)) (le_z (pos k) (pos b)) p.0 in
    subst (λ z. (a ≤ unsigned_abs z) × (unsigned_abs z ≤ b)) p.1 (leb-true a k q.0, leb-true k b q.1)
in_range a b (negsuc k) m e =
    let p = passed (le_z (pos a) (negsuc k) && le_z (negsuc k) (pos b)) (negsuc k) m Range e in absurd (cc p.0)

required_in_range : (a b : ℕ) (name : List ℕ) (tree : Data) (m : ℤ) → required_integer (pos a) (pos b) name tree ≡ Ok m → (a ≤ unsigned_abs m) × (unsigned_abs m ≤ b)
required_in_range a b name tree m e =
    let n = bound (required integer_of name tree) (within (pos a) (pos b)) m e in in_range a b n.0 m n.1.1

-- the key of a request
id_in_range : (text tx : List ℕ) → tx_named text ≡ Ok tx → IsFoldedId tx
id_in_range text tx e =
    let p = passed (is_tx_id text) (folded text) tx Range e in subst IsFoldedId p.1 (IsFoldedId-folded text p.0)

key_in_range : (request : Data) (key : KeyName) → key_of request ≡ Ok key → IsKeyName key
unfolding key_of
key_in_range request key e =
    let seq = bound (required_integer (pos 0) (pos (sequence_end - 1)) (codes "seqNo") request) _ key e in
    let info = bound (required object_of (codes "transactionInfo") request) _ key seq.1.1 in
    let text = bound (required text_of (codes "transactionId") info.0) _ key info.1.1 in
    let tx = bound (tx_named text.0) _ key text.1.1 in
    let number = required_in_range 0 (sequence_end - 1) (codes "seqNo") request seq.0 seq.1.0 in
    subst IsKeyName (same_ok {E = PayloadFault} _ key tx.1.1) (record { id = id_in_range text.0 tx.0 tx.1.0; number = omega (arith, number.1) })

-- a moment
moment_read : (r : Result ℕ MomentFault) (nanos : ℕ) → moment r ≡ Ok nanos → r ≡ Ok nanos
moment_read (Ok n) nanos e = ap Ok (same_ok {E = PayloadFault} n nanos e)
moment_read (Err fault) nanos e = absurd (cc e)

instant_in_range : (r : Result ℤ Error) (nanos : ℕ) → moment_within r ≡ Ok nanos → IsMoment nanos
instant_in_range (Err fault) nanos e = absurd (cc e)
instant_in_range (Ok (negsuc n)) nanos e = absurd (cc e)
instant_in_range (Ok (pos n)) nanos e =
    let p = passed (is_moment n) n nanos _ e in
    let q = and_parts (nat_le first_moment n) (nat_lt n moments_end) p.0 in
    subst IsMoment p.1 (leb-true first_moment n q.0, ltb-true n moments_end q.1)

timestamp_in_range : (tree : Data) (nanos : ℕ) → timestamp tree ≡ Ok nanos → IsMoment nanos
unfolding timestamp moment_named
timestamp_in_range tree nanos e =
    let text = bound (required text_of (codes "timestamp") tree) moment_named nanos e in
    instant_in_range (parse_timestamp text.0) nanos (moment_read (moment_reading text.0) nanos text.1.1)

-- the EVSE of a request
abbrev IsEvse : Option ℕ → Type 0
IsEvse evse = (evse ≢ Some 0) × IfSome evse (λ number. number ≤ greatest_evse)

named_in_range : (n : Checked ℤ) (evse : Option ℕ) → ((m : ℤ) → n ≡ Ok m → (1 ≤ unsigned_abs m) × (unsigned_abs m ≤ greatest_evse))
    → checked_map (λ m. Some (unsigned_abs m)) n ≡ Ok evse → IsEvse evse
named_in_range (Err fault) evse range e = absurd (cc e)
named_in_range (Ok m) evse range e =
    let r = range m refl in
    let above : Some (unsigned_abs m) ≢ Some 0 = λ zero. let z : unsigned_abs m ≡ 0 = cc in absurd (omega arith) in
    subst IsEvse (same_ok {E = PayloadFault} (Some (unsigned_abs m)) evse e) (above, r.1)

evse_number_in_range : (there : Option Data) (evse : Option ℕ) → evse_number there ≡ Ok evse → IsEvse evse
evse_number_in_range None evse e = subst IsEvse (same_ok {E = PayloadFault} None evse e) ((λ zero. cc), tt)
evse_number_in_range (Some tree) evse e =
    named_in_range (required_integer (pos 1) (pos greatest_evse) (codes "id") tree) evse (λ m is. required_in_range 1 greatest_evse (codes "id") tree m is) e

evse_in_range : (request : Data) (evse : Option ℕ) → evse_of request ≡ Ok evse → IsEvse evse
unfolding evse_of
evse_in_range request evse e =
    let there = bound (optional object_of (codes "evse") request) evse_number evse e in evse_number_in_range there.0 evse there.1.1

-- the readings of a request
abbrev AreReadings : List MeterReading → Type 0
AreReadings rs = (length rs ≤ most_event_readings) × All IsMeterReading rs

kept_by_each : {A B : Type 0} (P : B → Type 0) (step : B → A → Checked B) → ((b : B) (a : A) (b' : B) → P b → step b a ≡ Ok b' → P b')
    → (so_far : B) (xs : List A) (r : B) → P so_far → for_each step so_far xs ≡ Ok r → P r
unfolding for_each
kept_by_each P step keeps so_far [] r p e = subst P (same_ok {E = PayloadFault} so_far r e) p
kept_by_each P step keeps so_far (x ∷ xs) r p e =
    let b = bound (step so_far x) (λ next. for_each step next xs) r e in
    kept_by_each P step keeps b.0 xs r (keeps so_far x b.0 p b.1.0) b.1.1

decimal_read : (r : Result ℕ DecimalFault) (mwh : ℕ) → decimal r ≡ Ok mwh → r ≡ Ok mwh
decimal_read (Ok n) mwh e = ap Ok (same_ok {E = PayloadFault} n mwh e)
decimal_read (Err fault) mwh e = absurd (cc e)

register_in_range : (t : Bool) (n mwh : ℕ) → (t ≡ true → n ≤ greatest_reading) → (let r : Result ℕ DecimalFault = ok_or (if t then Some n else None) TooLarge in r) ≡ Ok mwh → mwh ≤ greatest_reading
register_in_range true n mwh fits e = let same : n ≡ mwh = same_ok {E = DecimalFault} n mwh e in let below = fits refl in omega (arith, same, below)
register_in_range false n mwh fits e = absurd (cc e)

pub mwh_in_range : (token : List ℕ) (multiplier : ℤ) (unit : EnergyUnit) (mwh : ℕ) → mwh_reading token multiplier unit ≡ Ok mwh → mwh ≤ greatest_reading
mwh_in_range token multiplier unit value e =
    let n = mwh (parts token) multiplier unit in
    let kept : Result ℕ DecimalFault = ok_or (within_register n) TooLarge in
    let positive : Result ℕ DecimalFault = if is_negative token && nat_lt 0 (numeral_digits (parts token)) then Err Negative else kept in
    let near : Result ℕ DecimalFault = if nat_lt greatest_exponent (digits_value 10 (parts token).exponent) then Err ExponentRange else positive in
    let short : Result ℕ DecimalFault = if nat_lt longest_decimal (length token) then Err TooLong else near in
    let last = avoided _ kept value Negative (avoided _ positive value ExponentRange (avoided _ near value TooLong (avoided (not (is_decimal token)) short value NotADecimal e))) in
    register_in_range (nat_le n greatest_reading) n value (λ t. leb-true n greatest_reading t) last

sampled_in_range : (sampled : Data) (mwh : ℕ) → sampled_mwh sampled ≡ Ok mwh → mwh ≤ greatest_reading
unfolding sampled_mwh
sampled_in_range sampled mwh e =
    let measure = bound (optional object_of (codes "unitOfMeasure") sampled) _ mwh e in
    let scale = bound (scale_of measure.0) _ mwh measure.1.1 in
    let token = bound (required number_of (codes "value") sampled) _ mwh scale.1.1 in
    mwh_in_range token.0 scale.0.multiplier scale.0.unit mwh (decimal_read _ mwh token.1.1)

one_more_in_range : (so_far : List MeterReading) (reading : MeterReading) (r : List MeterReading) → AreReadings so_far → IsMeterReading reading → one_more so_far reading ≡ Ok r → AreReadings r
one_more_in_range so_far reading r p is e =
    let t = passed (nat_lt (length so_far) most_event_readings) (so_far ++ reading ∷ []) r _ e in
    let few : length so_far < most_event_readings = ltb-true (length so_far) most_event_readings t.0 in
    subst AreReadings t.1
    (omega (arith, few, length-append so_far (reading ∷ [])), All-append IsMeterReading so_far (reading ∷ []) p.1 (All-cons IsMeterReading reading [] is (All-nil IsMeterReading)))

counted_in_range : (nanos : ℕ) → IsMoment nanos
    → (so_far : List MeterReading) (sampled : Data) (counted : Option Direction) (r : List MeterReading) → AreReadings so_far
    → if_counted nanos so_far sampled counted ≡ Ok r → AreReadings r
counted_in_range nanos is so_far sampled None r p e = subst AreReadings (same_ok {E = PayloadFault} so_far r e) p
counted_in_range nanos is so_far sampled (Some direction) r p e =
    let mwh = bound (sampled_mwh sampled) _ r e in
    one_more_in_range so_far (record { moment = nanos; mwh = mwh.0; direction = direction }) r p (record { moment = is; mwh = sampled_in_range sampled mwh.0 mwh.1.0 }) mwh.1.1

sample_in_range : (nanos : ℕ) → IsMoment nanos → (so_far : List MeterReading) (value : Data) (r : List MeterReading) → AreReadings so_far → sample nanos so_far value ≡ Ok r → AreReadings r
unfolding sample
sample_in_range nanos is so_far value r p e =
    let sampled = bound (ok_or (object_of value) _) _ r e in
    let counted = bound (counts sampled.0) _ r sampled.1.1 in
    counted_in_range nanos is so_far sampled.0 counted.0 r p counted.1.1

meter_value_in_range : (so_far : List MeterReading) (element : Data) (r : List MeterReading) → AreReadings so_far → meter_value so_far element ≡ Ok r → AreReadings r
unfolding meter_value
meter_value_in_range so_far element r p e =
    let meter = bound (ok_or (object_of element) _) _ r e in
    let nanos = bound (timestamp meter.0) _ r meter.1.1 in
    let values = bound (required items_of (codes "sampledValue") meter.0) _ r nanos.1.1 in
    kept_by_each AreReadings (sample nanos.0) (sample_in_range nanos.0 (timestamp_in_range meter.0 nanos.0 nanos.1.0)) so_far values.0 r p values.1.1

readings_in_range : (request : Data) (r : List MeterReading) → meter_values request ≡ Ok r → AreReadings r
unfolding meter_values
readings_in_range request r e =
    let elements = bound (optional items_of (codes "meterValue") request) _ r e in
    kept_by_each AreReadings meter_value meter_value_in_range [] _ r (omega arith, All-nil IsMeterReading) elements.1.1

-- a request
abbrev IsInRange : Request → Type 0
IsInRange request = IsKeyName request.key × IsEventContent request.event

request_in_range : (tree : Data) (request : Request) → request_of tree ≡ Ok request → IsInRange request
unfolding request_of
request_in_range tree request e =
    let kind = bound (kind_of tree) _ request e in
    let nanos = bound (timestamp tree) _ request kind.1.1 in
    let reason = bound (required text_of (codes "triggerReason") tree) _ request nanos.1.1 in
    let key = bound (key_of tree) _ request reason.1.1 in
    let evse = bound (evse_of tree) _ request key.1.1 in
    let token = bound (has_token tree) _ request evse.1.1 in
    let readings = bound (meter_values tree) _ request token.1.1 in
    let named = evse_in_range tree evse.0 evse.1.0 in
    let few = readings_in_range tree readings.0 readings.1.0 in
    subst IsInRange (same_ok {E = PayloadFault} _ request readings.1.1) (
      key_in_range tree key.0 key.1.0,
      record {
        moment = timestamp_in_range tree nanos.0 nanos.1.0;
        event = (few.0, named.0);
        evse = named.1;
        readings = few.1;
      },
    )

event_in_range : (payload : Data) (request : Request) → event_reading payload ≡ Ok request → IsInRange request
event_in_range payload request e =
    let tree = bound (ok_or (object_of payload) _) request_of request e in request_in_range tree.0 request tree.1.1

-- what a call means
meant_by_request : (id : List ℕ) (r : Checked Request) (id' : List ℕ) (request : Request) → meaning.event_or_fault id r ≡ meaning.Event id' request → r ≡ Ok request
meant_by_request id (Ok asked) id' request e = let same : asked ≡ request = cc in ap Ok same
meant_by_request id (Err fault) id' request e = absurd (cc e)

meant_by_frame : (now : ℕ) (f : Frame) (id : List ℕ) (request : Request) → meaning.meaning_of now f ≡ meaning.Event id request → IsInRange request
meant_by_frame now (Called id' BootNotification payload) id request e = absurd (cc e)
meant_by_frame now (Called id' Heartbeat payload) id request e = absurd (cc e)
meant_by_frame now (Called id' StatusNotification payload) id request e = absurd (cc e)
meant_by_frame now (Called id' MeterValues payload) id request e = absurd (cc e)
meant_by_frame now (Called id' TransactionEvent payload) id request e = event_in_range payload request (meant_by_request id' (event_reading payload) id request e)
meant_by_frame now Silence id request e = absurd (cc e)
meant_by_frame now (Ready reply) id request e = absurd (cc e)

-- whatever a text means at a moment, an event to deliver is admissible
pub each_delivery_is_admissible : (text : List ℕ) (now : ℕ) (id : List ℕ) (request : Request) → meaning.message text now ≡ meaning.Event id request → IsAdmissible (Deliver request.key request.event)
each_delivery_is_admissible text now id request e = meant_by_frame now (frame text) id request e

-- Sampled values and meter values, by their checks and by the grammar.
use Rattle.std.{proofs.Common.{◌≡◌, ℕ, ◌≤◌, ◌<◌, Bool, true, false, List, [], ◌∷◌, ◌++◌, length, Result, Ok, Err, Option, None, Some, ℤ, pos, negsuc, ◌⊎◌, inl, inr, refl, sym, ap, subst, ◌∙◌, arith, append-nil, append_assoc, length-append}, specs.Prelude.{◌&&◌, ◌≤ℤ◌, if◌then◌else◌, is_none, nat_lt, unwrap_or, codes}, specs.Int.Signed.le_z, specs.Option.ok_or, specs.Str.bytes_eq, proofs.lemmas.Bool.{and_parts, and_from, lt-ltb, ltb-true}, proofs.lemmas.Int.ints, proofs.lemmas.Slice.Eq.bytes_eq-Decides}
use Rattle.serde_json.specs.Data.{Data}
use Rattle.marked_json.specs.Reading.{is_object, items_of, number_of, text_of}
use Rattle.ledger_model.{specs.Event.MeterReading, specs.Ranges.most_event_readings, specs.declared.reading.Direction.Direction, specs.declared.reading.Direction.TheVariants.{Import, Export}}
use Rattle.reading_decimal.{specs.Decimal.mwh_reading, specs.Moment.moment_reading, specs.declared.decimal.DecimalFault.DecimalFault, specs.declared.decimal.Unit.Unit as EnergyUnit, specs.declared.decimal.Unit.TheVariants.{Wh, KWh}, specs.declared.moment.MomentFault.MomentFault}
use Rattle.transaction_event.{specs.declared.fault.PayloadFault.TheVariants.{Range, TooManyReadings, WrongType}, specs.Integer.{if_within, integer_of, optional_integer, within}, specs.Member.{object_of, optional, required}, specs.MeterValues.meter_value, specs.Readings.one_more, specs.Sampled.{absent_or, counted_toward, counts, decimal, direction_of, if_counted, sample, sampled_mwh}, specs.Scale.{Scaling, named_scale, scale_of, unit_named}, specs.Steps.{Checked, checked_map, for_each}, specs.Timestamp.{moment, moment_named, timestamp}}
use Rattle.event_laws.{specs.Members.{Has, HasInteger, MayHave}, specs.Samples.{AreMeterValues, AreSamples, HasMultiplier, HasScale, HasTime, HasUnit, HasValue, IsCounted, IsMeterValue, IsOfRegister, IsSample, IsUncounted, register_name, unit_name}, proofs.MemberLemmas.{binds, bound, checked_object, has_integer, has_optional, has_required, integer_has, object_checked, object_there, optional_has, passed, required_has, same_ok, there_object}}

-- ---- texts

pub named_is : (given text : List ℕ) → bytes_eq given text ≡ true → given ≡ text
named_is given text e = (bytes_eq-Decides given text).0 e

pub is_named : (text : List ℕ) → bytes_eq text text ≡ true
is_named text = (bytes_eq-Decides text text).1 refl

-- ---- times

moment_read : (r : Result ℕ MomentFault) (nanos : ℕ) → moment r ≡ Ok nanos → r ≡ Ok nanos
moment_read (Ok n) nanos e = ap Ok (same_ok n nanos e)
moment_read (Err fault) nanos e = absurd (cc e)

pub has_time : (tree : Data) (nanos : ℕ) → timestamp tree ≡ Ok nanos → HasTime tree nanos
unfolding timestamp moment_named
has_time tree nanos e =
    let text = bound (required text_of (codes "timestamp") tree) moment_named nanos e in
    record { text = text.0; there = has_required text_of (codes "timestamp") tree text.0 text.1.0; is = moment_read (moment_reading text.0) nanos text.1.1 }

pub time_has : (tree : Data) (nanos : ℕ) → HasTime tree nanos → timestamp tree ≡ Ok nanos
unfolding timestamp moment_named
time_has tree nanos h = binds (required text_of (codes "timestamp") tree) h.text moment_named nanos (required_has text_of (codes "timestamp") tree h.text h.there) (ap moment h.is)

-- ---- which values count

-- What a text that may be absent is, by whether it is absent or this one.
absent_or_is : (text : List ℕ) (o : Option (List ℕ)) → absent_or text o ≡ true → (o ≡ None) ⊎ (o ≡ Some text)
absent_or_is text None e = inl refl
absent_or_is text (Some given) e = inr (ap Some (named_is given text e))

is_absent_or : (text : List ℕ) (o : Option (List ℕ)) → (o ≡ None) ⊎ (o ≡ Some text) → absent_or text o ≡ true
is_absent_or text o (inl e) = ap (absent_or text) e
is_absent_or text o (inr e) = ap (absent_or text) e ∙ is_named text

abbrev IsRegister : Option (List ℕ) → Direction → Type 0
IsRegister m d = (m ≡ Some (register_name d)) ⊎ ((m ≡ None) × (d ≡ Import))

register_by : (m : Option (List ℕ)) (d : Direction) (import export : Bool) → absent_or (codes "Energy.Active.Import.Register") m ≡ import
    → absent_or (codes "Energy.Active.Export.Register") m ≡ export
    → (if import then Some Import else (if export then Some Export else None)) ≡ Some d → IsRegister m d
register_by None Import import export i x e = inr (refl, refl)
register_by None Export true export i x e = absurd (cc e)
register_by None Export false export i x e = absurd (cc i)
register_by (Some given) d true export i x e =
    let toward : Import ≡ d = cc in subst (λ k. IsRegister (Some given) k) toward (inl (ap Some (named_is given (codes "Energy.Active.Import.Register") i)))
register_by (Some given) d false true i x e =
    let toward : Export ≡ d = cc in subst (λ k. IsRegister (Some given) k) toward (inl (ap Some (named_is given (codes "Energy.Active.Export.Register") x)))
register_by (Some given) d false false i x e = absurd (cc e)

has_register : (m : Option (List ℕ)) (d : Direction) → direction_of m ≡ Some d → IsRegister m d
has_register m d e = register_by m d (absent_or (codes "Energy.Active.Import.Register") m) (absent_or (codes "Energy.Active.Export.Register") m) refl refl e

named_register : (d : Direction) → direction_of (Some (register_name d)) ≡ Some d
named_register Import = refl
named_register Export = refl

register_has : (m : Option (List ℕ)) (d : Direction) → IsRegister m d → direction_of m ≡ Some d
register_has m d (inl e) = ap direction_of e ∙ named_register d
register_has m d (inr e) = ap direction_of e.0 ∙ ap Some (sym e.1)

none_is : (phase : Option (List ℕ)) → is_none phase ≡ true → phase ≡ None
none_is None e = refl
none_is (Some p) e = absurd (cc e)

toward : (t : Bool) (o : Option Direction) (d : Direction) → (if t then o else None) ≡ Some d → (t ≡ true) × (o ≡ Some d)
toward true o d e = (refl, e)
toward false o d e = absurd (cc e)

of_register : (m p l : Option (List ℕ)) (d : Direction) → counted_toward m p l ≡ Some d → IsOfRegister m p l d
of_register m p l d e =
    let t = toward (is_none p && absent_or (codes "Outlet") l) (direction_of m) d e in
    let q = and_parts (is_none p) (absent_or (codes "Outlet") l) t.0 in
    record { register = has_register m d t.1; no_phase = none_is p q.0; outlet = absent_or_is (codes "Outlet") l q.1 }

register_of : (m p l : Option (List ℕ)) (d : Direction) → IsOfRegister m p l d → counted_toward m p l ≡ Some d
register_of m p l d h =
    ap (λ t. if t then direction_of m else None) (and_from (is_none p) (absent_or (codes "Outlet") l) (ap is_none h.no_phase) (is_absent_or (codes "Outlet") l h.outlet))
    ∙ register_has m d h.register

-- The three texts of a value, and in which direction it counts by them.
record Counts (value : Data) (counted : Option Direction) : Type 0 where
  measurand : Option (List ℕ)
  phase : Option (List ℕ)
  location : Option (List ℕ)
  sample : IsSample value measurand phase location
  is : counted_toward measurand phase location ≡ counted

has_counts : (value : Data) (counted : Option Direction) → is_object value ≡ true → counts value ≡ Ok counted → Counts value counted
unfolding counts
has_counts value counted object e =
    let m = bound (optional text_of (codes "measurand") value) _ counted e in
    let p = bound (optional text_of (codes "phase") value) _ counted m.1.1 in
    let l = bound (optional text_of (codes "location") value) _ counted p.1.1 in
    record {
      measurand = m.0;
      phase = p.0;
      location = l.0;
      sample = record {
        object = object;
        has_measurand = has_optional text_of (codes "measurand") value m.0 m.1.0;
        has_phase = has_optional text_of (codes "phase") value p.0 p.1.0;
        has_location = has_optional text_of (codes "location") value l.0 l.1.0;
      };
      is = same_ok _ counted l.1.1;
    }

counts_has : (value : Data) (m p l : Option (List ℕ)) → IsSample value m p l → counts value ≡ Ok (counted_toward m p l)
unfolding counts
counts_has value m p l s =
    binds (optional text_of (codes "measurand") value) m _ _ (optional_has text_of (codes "measurand") value m s.has_measurand)
    (binds (optional text_of (codes "phase") value) p _ _ (optional_has text_of (codes "phase") value p s.has_phase)
    (binds (optional text_of (codes "location") value) l _ _ (optional_has text_of (codes "location") value l s.has_location) refl))

-- ---- scales

named_unit : (measure : Data) (name : Option (List ℕ)) (unit : EnergyUnit) → MayHave text_of (codes "unit") measure name → unit_named name ≡ Ok unit → HasUnit measure unit
named_unit measure None unit h e = inl (h, sym (same_ok Wh unit e))
named_unit measure (Some name) unit h e = go (bytes_eq name (codes "Wh")) refl (bytes_eq name (codes "kWh")) refl e
  where
    of : (u : EnergyUnit) → name ≡ unit_name u → u ≡ unit → HasUnit measure unit
    of u n same = subst (HasUnit measure) same (inr (subst (Has text_of (codes "unit") measure) n h))

    go : (wh : Bool) → bytes_eq name (codes "Wh") ≡ wh → (kwh : Bool) → bytes_eq name (codes "kWh") ≡ kwh
        → (let r : Checked EnergyUnit = if wh then Ok Wh else (if kwh then Ok KWh else Err Range) in r) ≡ Ok unit → HasUnit measure unit
    go true w kwh k e = of Wh (named_is name (codes "Wh") w) (same_ok Wh unit e)
    go false w true k e = of KWh (named_is name (codes "kWh") k) (same_ok KWh unit e)
    go false w false k e = absurd (cc e)

-- A name of a unit that may be absent.
record NamedUnit (measure : Data) (unit : EnergyUnit) : Type 0 where
  name : Option (List ℕ)
  there : MayHave text_of (codes "unit") measure name
  is : unit_named name ≡ Ok unit

unit_has : (measure : Data) (unit : EnergyUnit) → HasUnit measure unit → NamedUnit measure unit
unit_has measure unit (inl h) = record { name = None; there = h.0; is = ap Ok (sym h.1) }
unit_has measure Wh (inr h) = record { name = Some (codes "Wh"); there = h; is = refl }
unit_has measure KWh (inr h) = record { name = Some (codes "kWh"); there = h; is = refl }

within_range : (low high n m : ℤ) → within low high n ≡ Ok m → (n ≡ m) × ((low ≤ℤ m) × (m ≤ℤ high))
within_range low high n m e =
    let p = passed (le_z low n && le_z n high) n m Range e in
    let q = and_parts (le_z low n) (le_z n high) p.0 in
    let l = q.0 in
    let h = q.1 in
    (p.1, subst (λ z. (low ≤ℤ z) × (z ≤ℤ high)) p.1 (grind (arith, ints, l), grind (arith, ints, h)))

in_range_within : (low high n : ℤ) → low ≤ℤ n → n ≤ℤ high → within low high n ≡ Ok n
in_range_within low high n l h =
    ap (λ t. let r : Checked ℤ = if t then Ok n else Err Range in r) (and_from (le_z low n) (le_z n high) (grind (arith, ints, l)) (grind (arith, ints, h)))

has_multiplier : (measure : Data) (n : Option ℤ) → optional_integer (negsuc 11) (pos 12) (codes "multiplier") measure ≡ Ok n → HasMultiplier measure (unwrap_or n (pos 0))
has_multiplier measure n e =
    let o = bound (optional integer_of (codes "multiplier") measure) (if_within (negsuc 11) (pos 12)) n e in
    go o.0 (has_optional integer_of (codes "multiplier") measure o.0 o.1.0) o.1.1
  where
    some : (m : ℤ) → Has integer_of (codes "multiplier") measure m → (w : Checked ℤ) → within (negsuc 11) (pos 12) m ≡ w → checked_map Some w ≡ Ok n
        → HasMultiplier measure (unwrap_or n (pos 0))
    some m h (Err fault) i e = absurd (cc e)
    some m h (Ok k) i e =
        let r = within_range (negsuc 11) (pos 12) m k i in
        subst (λ o. HasMultiplier measure (unwrap_or o (pos 0))) (same_ok (Some k) n e) (inr (subst (HasInteger (codes "multiplier") measure) r.0 (has_integer (codes "multiplier") measure m h), r.1))

    go : (o : Option ℤ) → MayHave integer_of (codes "multiplier") measure o → if_within (negsuc 11) (pos 12) o ≡ Ok n → HasMultiplier measure (unwrap_or n (pos 0))
    go None h e = subst (λ o. HasMultiplier measure (unwrap_or o (pos 0))) (same_ok None n e) (inl (h, refl))
    go (Some m) h e = some m h (within (negsuc 11) (pos 12) m) refl e

-- A multiplier that may be absent.
record Multiplied (measure : Data) (n : ℤ) : Type 0 where
  given : Option ℤ
  is : optional_integer (negsuc 11) (pos 12) (codes "multiplier") measure ≡ Ok given
  value : unwrap_or given (pos 0) ≡ n

multiplier_has : (measure : Data) (n : ℤ) → HasMultiplier measure n → Multiplied measure n
multiplier_has measure n (inl h) = record {
  given = None;
  is = binds (optional integer_of (codes "multiplier") measure) None (if_within (negsuc 11) (pos 12)) None (optional_has integer_of (codes "multiplier") measure None h.0) refl;
  value = sym h.1;
}
multiplier_has measure n (inr h) = record {
  given = Some n;
  is =
      binds (optional integer_of (codes "multiplier") measure) (Some n) (if_within (negsuc 11) (pos 12)) (Some n)
      (optional_has integer_of (codes "multiplier") measure (Some n) (integer_has (codes "multiplier") measure n h.0))
      (ap (checked_map Some) (in_range_within (negsuc 11) (pos 12) n h.1.0 h.1.1));
  value = refl;
}

has_scale : (value : Data) (measure : Option Data) (scale : Scaling) → MayHave object_of (codes "unitOfMeasure") value measure → scale_of measure ≡ Ok scale
    → HasScale value scale.unit scale.multiplier
unfolding named_scale
has_scale value None scale h e =
    let none : Scaling = record { unit = Wh; multiplier = pos 0 } in
    let same : none ≡ scale = same_ok none scale e in
    inl (h, (sym (ap (λ (s : Scaling). s.unit) same), sym (ap (λ (s : Scaling). s.multiplier) same)))
has_scale value (Some measure) scale h e =
    let name = bound (optional text_of (codes "unit") measure) _ scale e in
    let unit = bound (unit_named name.0) _ scale name.1.1 in
    let multiplier = bound (optional_integer (negsuc 11) (pos 12) (codes "multiplier") measure) _ scale unit.1.1 in
    let named : Scaling = record { unit = unit.0; multiplier = unwrap_or multiplier.0 (pos 0) } in
    let same : named ≡ scale = same_ok named scale multiplier.1.1 in
    subst (λ (s : Scaling). HasScale value s.unit s.multiplier) same
    (inr (
      measure,
      object_there (codes "unitOfMeasure") value measure h,
      named_unit measure name.0 unit.0 (has_optional text_of (codes "unit") measure name.0 name.1.0) unit.1.0,
      has_multiplier measure multiplier.0 multiplier.1.0,
    ))

abbrev scale_given : EnergyUnit → ℤ → Checked Scaling
scale_given unit multiplier = Ok (record { unit = unit; multiplier = multiplier })

-- A unit of measure that may be absent.
record Scaled (value : Data) (unit : EnergyUnit) (multiplier : ℤ) : Type 0 where
  measure : Option Data
  there : MayHave object_of (codes "unitOfMeasure") value measure
  is : scale_of measure ≡ scale_given unit multiplier

scale_same : (u v : EnergyUnit) (m n : ℤ) → u ≡ v → m ≡ n → scale_given u m ≡ scale_given v n
scale_same u v m n e f = λ i. scale_given (e i) (f i)

scale_has : (value : Data) (unit : EnergyUnit) (multiplier : ℤ) → HasScale value unit multiplier → Scaled value unit multiplier
unfolding named_scale
scale_has value unit multiplier (inl h) = record {
  measure = None;
  there = h.0;
  is = scale_same Wh unit (pos 0) multiplier (sym h.1.0) (sym h.1.1);
}
scale_has value unit multiplier (inr h) =
    let measure = h.0 in
    let u = unit_has measure unit h.2 in
    let m = multiplier_has measure multiplier h.3 in
    record {
      measure = Some measure;
      there = there_object (codes "unitOfMeasure") value measure h.1;
      is =
          binds (optional text_of (codes "unit") measure) u.name _ _ (optional_has text_of (codes "unit") measure u.name u.there)
          (binds (unit_named u.name) unit _ _ u.is
          (binds (optional_integer (negsuc 11) (pos 12) (codes "multiplier") measure) m.given _ _ m.is (ap (scale_given unit) m.value)));
    }

-- ---- values

decimal_read : (r : Result ℕ DecimalFault) (mwh : ℕ) → decimal r ≡ Ok mwh → r ≡ Ok mwh
decimal_read (Ok n) mwh e = ap Ok (same_ok n mwh e)
decimal_read (Err fault) mwh e = absurd (cc e)

has_value : (value : Data) (mwh : ℕ) → sampled_mwh value ≡ Ok mwh → HasValue value mwh
unfolding sampled_mwh
has_value value mwh e =
    let measure = bound (optional object_of (codes "unitOfMeasure") value) _ mwh e in
    let scale = bound (scale_of measure.0) _ mwh measure.1.1 in
    let token = bound (required number_of (codes "value") value) _ mwh scale.1.1 in
    record {
      unit = scale.0.unit;
      multiplier = scale.0.multiplier;
      token = token.0;
      scale = has_scale value measure.0 scale.0 (has_optional object_of (codes "unitOfMeasure") value measure.0 measure.1.0) scale.1.0;
      number = has_required number_of (codes "value") value token.0 token.1.0;
      reading = decimal_read (mwh_reading token.0 scale.0.multiplier scale.0.unit) mwh token.1.1;
    }

value_has : (value : Data) (mwh : ℕ) → HasValue value mwh → sampled_mwh value ≡ Ok mwh
unfolding sampled_mwh
value_has value mwh h =
    let s = scale_has value h.unit h.multiplier h.scale in
    binds (optional object_of (codes "unitOfMeasure") value) s.measure _ _ (optional_has object_of (codes "unitOfMeasure") value s.measure s.there)
    (binds (scale_of s.measure) (record { unit = h.unit; multiplier = h.multiplier }) _ _ s.is
    (binds (required number_of (codes "value") value) h.token _ _ (required_has number_of (codes "value") value h.token h.number) (ap decimal h.reading)))

-- ---- lists of readings

-- The readings so far, with these behind, are no more than an event may have.
record Adds (so_far own all : List MeterReading) : Type 0 where
  is : all ≡ so_far ++ own
  few : length all ≤ most_event_readings

one_more_adds : (so_far : List MeterReading) (r : MeterReading) (all : List MeterReading) → one_more so_far r ≡ Ok all → Adds so_far (r ∷ []) all
one_more_adds so_far r all e =
    let t = passed (nat_lt (length so_far) most_event_readings) (so_far ++ r ∷ []) all TooManyReadings e in
    let room : length so_far < most_event_readings = ltb-true (length so_far) most_event_readings t.0 in
    record { is = sym t.1; few = subst (λ rs. length rs ≤ most_event_readings) t.1 (omega (arith, room, length-append so_far (r ∷ []))) }

adds_one_more : (so_far : List MeterReading) (r : MeterReading) → length (so_far ++ r ∷ []) ≤ most_event_readings → one_more so_far r ≡ Ok (so_far ++ r ∷ [])
adds_one_more so_far r few =
    let room : length so_far < most_event_readings = omega (arith, few, length-append so_far (r ∷ [])) in
    ap (λ t. let c : Checked (List MeterReading) = if t then Ok (so_far ++ r ∷ []) else Err TooManyReadings in c) (lt-ltb (length so_far) most_event_readings room)

-- What one sampled value is.
data SampleIs (moment : ℕ) (value : Data) (so_far all : List MeterReading) : Type 0 where
  leaves : IsUncounted value → so_far ≡ all → SampleIs moment value so_far all
  gives : (r : MeterReading) → IsCounted moment value r → Adds so_far (r ∷ []) all → SampleIs moment value so_far all

sample_is : (moment : ℕ) (value : Data) (so_far all : List MeterReading) → sample moment so_far value ≡ Ok all → SampleIs moment value so_far all
unfolding sample
sample_is moment value so_far all e =
    let object = bound (ok_or (object_of value) WrongType) _ all e in
    let o = checked_object value object.0 WrongType object.1.0 in
    let counted = bound (counts object.0) (if_counted moment so_far object.0) all object.1.1 in
    let is : is_object object.0 ≡ true = subst (λ t. is_object t ≡ true) o.1 o.0 in
    subst (λ t. SampleIs moment t so_far all) (sym o.1) (go object.0 counted.0 (has_counts object.0 counted.0 is counted.1.0) counted.1.1)
  where
    go : (value : Data) (counted : Option Direction) → Counts value counted → if_counted moment so_far value counted ≡ Ok all → SampleIs moment value so_far all
    go value None c e = leaves (record {
      measurand = c.measurand;
      phase = c.phase;
      location = c.location;
      sample = c.sample;
      none = λ d h. let one = register_of c.measurand c.phase c.location d h in cc (one, c.is);
    }) (same_ok so_far all e)
    go value (Some d) c e =
        let mwh = bound (sampled_mwh value) _ all e in
        let r : MeterReading = record { moment = moment; mwh = mwh.0; direction = d } in
        gives r (record {
          measurand = c.measurand;
          phase = c.phase;
          location = c.location;
          sample = c.sample;
          register = of_register c.measurand c.phase c.location d c.is;
          has_value = has_value value mwh.0 mwh.1.0;
          at_moment = refl;
        }) (one_more_adds so_far r all mwh.1.1)

record Sampled (moment : ℕ) (values : List Data) (so_far all : List MeterReading) : Type 0 where
  own : List MeterReading
  samples : AreSamples moment values own
  adds : Adds so_far own all

samples_are : (moment : ℕ) (values : List Data) (so_far all : List MeterReading) → length so_far ≤ most_event_readings
    → for_each (sample moment) so_far values ≡ Ok all → Sampled moment values so_far all
unfolding for_each
samples_are moment [] so_far all few e =
    let same = same_ok so_far all e in
    record { own = []; samples = refl; adds = record { is = sym same ∙ sym (append-nil so_far); few = subst (λ rs. length rs ≤ most_event_readings) same few } }
samples_are moment (value ∷ values) so_far all few e =
    let next = bound (sample moment so_far value) (λ mid. for_each (sample moment) mid values) all e in
    go next.0 (sample_is moment value so_far next.0 next.1.0) next.1.1 (λ mid few e. samples_are moment values mid all few e)
  where
    go : (mid : List MeterReading) → SampleIs moment value so_far mid → for_each (sample moment) mid values ≡ Ok all
        → ((mid : List MeterReading) → length mid ≤ most_event_readings → for_each (sample moment) mid values ≡ Ok all → Sampled moment values mid all)
        → Sampled moment (value ∷ values) so_far all
    go mid (leaves none same) e again =
        let rest = again so_far few (ap (λ rs. for_each (sample moment) rs values) same ∙ e) in
        record { own = rest.own; samples = inl (none, rest.samples); adds = rest.adds }
    go mid (gives r counted one) e again =
        let rest = again mid one.few e in
        record {
          own = r ∷ rest.own;
          samples = inr (r, rest.own, counted, rest.samples, refl);
          adds = record { is = rest.adds.is ∙ ap (λ rs. rs ++ rest.own) one.is ∙ append_assoc so_far (r ∷ []) rest.own; few = rest.adds.few };
        }

counted_sample : (moment : ℕ) (value : Data) (r : MeterReading) (so_far : List MeterReading) → IsCounted moment value r → length (so_far ++ r ∷ []) ≤ most_event_readings
    → sample moment so_far value ≡ Ok (so_far ++ r ∷ [])
unfolding sample
counted_sample moment value r so_far h few =
    let c = counts_has value h.measurand h.phase h.location h.sample ∙ ap Ok (register_of h.measurand h.phase h.location r.direction h.register) in
    let first : MeterReading = record { moment = moment; mwh = r.mwh; direction = r.direction } in
    let same : first ≡ r = let m = h.at_moment in λ i. record { moment = sym m i; mwh = r.mwh; direction = r.direction } in
    binds (ok_or (object_of value) WrongType) value _ _ (object_checked value WrongType h.sample.object)
    (binds (counts value) (Some r.direction) (if_counted moment so_far value) _ c
    (binds (sampled_mwh value) r.mwh _ _ (value_has value r.mwh h.has_value) (ap (one_more so_far) same ∙ adds_one_more so_far r few)))

counted_none : (o : Option Direction) → ((d : Direction) → o ≡ Some d → ⊥) → o ≡ None
counted_none None never = refl
counted_none (Some d) never = absurd (never d refl)

uncounted_sample : (moment : ℕ) (value : Data) (so_far : List MeterReading) → IsUncounted value → sample moment so_far value ≡ Ok so_far
unfolding sample
uncounted_sample moment value so_far h =
    let none = counted_none (counted_toward h.measurand h.phase h.location) (λ d e. h.none d (of_register h.measurand h.phase h.location d e)) in
    binds (ok_or (object_of value) WrongType) value _ _ (object_checked value WrongType h.sample.object)
    (binds (counts value) None (if_counted moment so_far value) _ (counts_has value h.measurand h.phase h.location h.sample ∙ ap Ok none) refl)

are_samples : (moment : ℕ) (values : List Data) (so_far own : List MeterReading) → AreSamples moment values own → length (so_far ++ own) ≤ most_event_readings
    → for_each (sample moment) so_far values ≡ Ok (so_far ++ own)
unfolding for_each
are_samples moment [] so_far own h few = ap Ok (sym (append-nil so_far) ∙ ap (λ rs. so_far ++ rs) (sym h))
are_samples moment (value ∷ values) so_far own (inl h) few =
    binds (sample moment so_far value) so_far (λ mid. for_each (sample moment) mid values) (so_far ++ own) (uncounted_sample moment value so_far h.0) (are_samples moment values so_far own h.1 few)
are_samples moment (value ∷ values) so_far own (inr h) few =
    let r = h.0 in
    let more = h.1 in
    let whole : so_far ++ own ≡ (so_far ++ r ∷ []) ++ more = ap (λ rs. so_far ++ rs) h.4 ∙ sym (append_assoc so_far (r ∷ []) more) in
    let all : length ((so_far ++ r ∷ []) ++ more) ≤ most_event_readings = subst (λ rs. length rs ≤ most_event_readings) whole few in
    let first : length (so_far ++ r ∷ []) ≤ most_event_readings = omega (arith, all, length-append (so_far ++ r ∷ []) more) in
    binds (sample moment so_far value) (so_far ++ r ∷ []) (λ mid. for_each (sample moment) mid values) (so_far ++ own) (counted_sample moment value r so_far h.2 first)
    (are_samples moment values (so_far ++ r ∷ []) more h.3 all ∙ ap Ok (sym whole))

-- ---- meter values

record MeterValueIs (tree : Data) (so_far all : List MeterReading) : Type 0 where
  own : List MeterReading
  is : IsMeterValue tree own
  adds : Adds so_far own all

meter_value_is : (tree : Data) (so_far all : List MeterReading) → length so_far ≤ most_event_readings → meter_value so_far tree ≡ Ok all → MeterValueIs tree so_far all
unfolding meter_value
meter_value_is tree so_far all few e =
    let object = bound (ok_or (object_of tree) WrongType) _ all e in
    let o = checked_object tree object.0 WrongType object.1.0 in
    let time = bound (timestamp object.0) _ all object.1.1 in
    let values = bound (required items_of (codes "sampledValue") object.0) _ all time.1.1 in
    let sampled = samples_are time.0 values.0 so_far all few values.1.1 in
    record {
      own = sampled.own;
      is = subst (λ t. IsMeterValue t sampled.own) (sym o.1) (record {
        moment = time.0;
        values = values.0;
        object = subst (λ t. is_object t ≡ true) o.1 o.0;
        has_time = has_time object.0 time.0 time.1.0;
        has_values = has_required items_of (codes "sampledValue") object.0 values.0 values.1.0;
        samples = sampled.samples;
      });
      adds = sampled.adds;
    }

is_meter_value : (tree : Data) (so_far own : List MeterReading) → IsMeterValue tree own → length (so_far ++ own) ≤ most_event_readings → meter_value so_far tree ≡ Ok (so_far ++ own)
unfolding meter_value
is_meter_value tree so_far own h few =
    binds (ok_or (object_of tree) WrongType) tree _ _ (object_checked tree WrongType h.object)
    (binds (timestamp tree) h.moment _ _ (time_has tree h.moment h.has_time)
    (binds (required items_of (codes "sampledValue") tree) h.values _ _ (required_has items_of (codes "sampledValue") tree h.values h.has_values)
    (are_samples h.moment h.values so_far own h.samples few)))

pub record MeterValuesAre (trees : List Data) (so_far all : List MeterReading) : Type 0 where
  pub own : List MeterReading
  pub are : AreMeterValues trees own
  pub is : all ≡ so_far ++ own
  pub few : length all ≤ most_event_readings

pub meter_values_are : (trees : List Data) (so_far all : List MeterReading) → length so_far ≤ most_event_readings → for_each meter_value so_far trees ≡ Ok all → MeterValuesAre trees so_far all
unfolding for_each
meter_values_are [] so_far all few e =
    let same = same_ok so_far all e in
    record { own = []; are = refl; is = sym same ∙ sym (append-nil so_far); few = subst (λ rs. length rs ≤ most_event_readings) same few }
meter_values_are (tree ∷ trees) so_far all few e =
    let next = bound (meter_value so_far tree) (λ mid. for_each meter_value mid trees) all e in
    let one = meter_value_is tree so_far next.0 few next.1.0 in
    let rest = meter_values_are trees next.0 all one.adds.few next.1.1 in
    record {
      own = one.own ++ rest.own;
      are = (one.own, rest.own, one.is, rest.are, refl);
      is = rest.is ∙ ap (λ rs. rs ++ rest.own) one.adds.is ∙ append_assoc so_far one.own rest.own;
      few = rest.few;
    }

pub are_meter_values : (trees : List Data) (so_far own : List MeterReading) → AreMeterValues trees own → length (so_far ++ own) ≤ most_event_readings
    → for_each meter_value so_far trees ≡ Ok (so_far ++ own)
unfolding for_each
are_meter_values [] so_far own h few = ap Ok (sym (append-nil so_far) ∙ ap (λ rs. so_far ++ rs) (sym h))
are_meter_values (tree ∷ trees) so_far own h few =
    let first = h.0 in
    let more = h.1 in
    let whole : so_far ++ own ≡ (so_far ++ first) ++ more = ap (λ rs. so_far ++ rs) h.4 ∙ sym (append_assoc so_far first more) in
    let all : length ((so_far ++ first) ++ more) ≤ most_event_readings = subst (λ rs. length rs ≤ most_event_readings) whole few in
    let front : length (so_far ++ first) ≤ most_event_readings = omega (arith, all, length-append (so_far ++ first) more) in
    binds (meter_value so_far tree) (so_far ++ first) (λ mid. for_each meter_value mid trees) (so_far ++ own) (is_meter_value tree so_far first h.2 front)
    (are_meter_values trees (so_far ++ first) more h.3 all ∙ ap Ok (sym whole))

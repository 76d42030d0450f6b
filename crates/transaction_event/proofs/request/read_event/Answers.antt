use Rattle.std.{proofs.Common.{◌≡◌, ◌∙◌, ℕ, Bool, List, Option, Ok, Err, sym, ap, codes}, proofs.lemmas.Result.err_from_is_err_and}
use Rattle.serde_json.specs.Data.{Data}
use Rattle.ledger_model.{specs.declared.kind.Kind.Kind, specs.Event.MeterReading, specs.Key.KeyName}
use Rattle.marked_json.specs.Reading.{text_of}
use Rattle.transaction_event.{specs.Member.required, specs.MeterValues.meter_values, specs.Request.{Request, kind_of, key_of, evse_of, has_token, request_of}, specs.RequestMembers.request_with, specs.Steps.{Checked, ◌>>=◌}, specs.Timestamp.timestamp}
use Rattle.transaction_event.proofs.request.read_event.Goals as goal

-- the steps that are left, from the last on
abbrev of_readings : Kind → ℕ → KeyName → Option ℕ → Bool → List MeterReading → Checked Request
of_readings kind moment key evse token readings = Ok (record { key = key; event = record { kind = kind; moment = moment; evse = evse; readings = readings }; token = token })

abbrev of_token : Data → Kind → ℕ → KeyName → Option ℕ → Bool → Checked Request
of_token request kind moment key evse token = meter_values request >>= of_readings kind moment key evse token

abbrev of_evse : Data → Kind → ℕ → KeyName → Option ℕ → Checked Request
of_evse request kind moment key evse = has_token request >>= of_token request kind moment key evse

abbrev of_key : Data → Kind → ℕ → KeyName → Checked Request
of_key request kind moment key = evse_of request >>= of_evse request kind moment key

abbrev of_reason : Data → Kind → ℕ → List ℕ → Checked Request
of_reason request kind moment reason = key_of request >>= of_key request kind moment

abbrev of_moment : Data → Kind → ℕ → Checked Request
of_moment request kind moment = required text_of (codes "triggerReason") request >>= of_reason request kind moment

abbrev of_kind : Data → Kind → Checked Request
of_kind request kind = timestamp request >>= of_moment request kind

step : {A B : Type 0} (next : A → Checked B) {m : Checked A} {x : Checked A} → x ≡ m → x >>= next ≡ m >>= next
step next e = ap (λ m. m >>= next) e

-- what the steps gave so far, and the rest of them, is the request
by_kind : (request : Data) (kind : Checked Kind) → kind ≡ kind_of request → kind >>= of_kind request ≡ request_of request
unfolding request_of
by_kind request kind e = step (of_kind request) e

module _ (request : Data) (kind : Kind) (is_kind : Ok kind ≡ kind_of request) where
  by_moment : (moment : Checked ℕ) → moment ≡ timestamp request → moment >>= of_moment request kind ≡ request_of request
  by_moment moment e = step (of_moment request kind) e ∙ by_kind request (Ok kind) is_kind

  module _ (moment : ℕ) (is_moment : Ok moment ≡ timestamp request) where
    by_reason : (reason : Checked (List ℕ)) → reason ≡ required text_of (codes "triggerReason") request → reason >>= of_reason request kind moment ≡ request_of request
    by_reason reason e = step (of_reason request kind moment) e ∙ by_moment (Ok moment) is_moment

    module _ (reason : List ℕ) (is_reason : Ok reason ≡ required text_of (codes "triggerReason") request) where
      by_key : (key : Checked KeyName) → key ≡ key_of request → key >>= of_key request kind moment ≡ request_of request
      by_key key e = step (of_key request kind moment) e ∙ by_reason (Ok reason) is_reason

      module _ (key : KeyName) (is_key : Ok key ≡ key_of request) where
        by_evse : (evse : Checked (Option ℕ)) → evse ≡ evse_of request → evse >>= of_evse request kind moment key ≡ request_of request
        by_evse evse e = step (of_evse request kind moment key) e ∙ by_key (Ok key) is_key

        by_token : (evse : Option ℕ) → Ok evse ≡ evse_of request → (token : Checked Bool) → token ≡ has_token request → token >>= of_token request kind moment key evse ≡ request_of request
        by_token evse is_evse token e = step (of_token request kind moment key evse) e ∙ by_evse (Ok evse) is_evse

pub returns-in_err-kind-clause-err : goal.returns-in_err-kind-clause-err
returns-in_err-kind-clause-err c =
    let p = err_from_is_err_and c.from_residual.result c.from_residual.ensures.1 in
    rw (p.1, p.2) (λ _. sym (by_kind (request_with c.args.members.now) (Err c.in_err-kind.field-0.0) c.in_err-kind.ensures.value))

pub returns-in_err-timestamp-clause-err : goal.returns-in_err-timestamp-clause-err
returns-in_err-timestamp-clause-err c =
    let p = err_from_is_err_and c.from_residual-in_err-timestamp.result c.from_residual-in_err-timestamp.ensures.1 in
    rw (p.1, p.2) (λ _. sym (by_moment (request_with c.args.members.now) c.in_ok-kind.kind c.in_ok-kind.ensures.value (Err c.in_err-timestamp.field-0.0) c.in_err-timestamp.ensures.value))

pub returns-in_err-trigger_reason-clause-err : goal.returns-in_err-trigger_reason-clause-err
returns-in_err-trigger_reason-clause-err c =
    let p = err_from_is_err_and c.from_residual-in_err-trigger_reason.result c.from_residual-in_err-trigger_reason.ensures.1 in
    rw (p.1, p.2) (λ _. sym
    (by_reason (request_with c.args.members.now) c.in_ok-kind.kind c.in_ok-kind.ensures.value c.in_ok-timestamp.timestamp
    c.in_ok-timestamp.ensures.value (Err c.in_err-trigger_reason.field-0.0) c.in_err-trigger_reason.ensures.value))

pub returns-in_err-key-clause-err : goal.returns-in_err-key-clause-err
returns-in_err-key-clause-err c =
    let p = err_from_is_err_and c.from_residual-in_err-key.result c.from_residual-in_err-key.ensures.1 in
    rw (p.1, p.2) (λ _. sym
    (by_key (request_with c.args.members.now) c.in_ok-kind.kind c.in_ok-kind.ensures.value c.in_ok-timestamp.timestamp
    c.in_ok-timestamp.ensures.value c.in_ok-trigger_reason.field-0.now c.in_ok-trigger_reason.ensures.value
    (Err c.in_err-key.field-0.0) c.in_err-key.ensures.value))

pub returns-in_err-evse-clause-err : goal.returns-in_err-evse-clause-err
returns-in_err-evse-clause-err c =
    let p = err_from_is_err_and c.from_residual-in_err-evse.result c.from_residual-in_err-evse.ensures.1 in
    rw (p.1, p.2) (λ _. sym
    (by_evse (request_with c.args.members.now) c.in_ok-kind.kind c.in_ok-kind.ensures.value c.in_ok-timestamp.timestamp
    c.in_ok-timestamp.ensures.value c.in_ok-trigger_reason.field-0.now c.in_ok-trigger_reason.ensures.value c.in_ok-key.key
    c.in_ok-key.ensures.value (Err c.in_err-evse.field-0.0) c.in_err-evse.ensures.value))

pub returns-in_err-token-clause-err : goal.returns-in_err-token-clause-err
returns-in_err-token-clause-err c =
    let p = err_from_is_err_and c.from_residual-in_err-token.result c.from_residual-in_err-token.ensures.1 in
    rw (p.1, p.2) (λ _. sym
    (by_token (request_with c.args.members.now) c.in_ok-kind.kind c.in_ok-kind.ensures.value c.in_ok-timestamp.timestamp
    c.in_ok-timestamp.ensures.value c.in_ok-trigger_reason.field-0.now c.in_ok-trigger_reason.ensures.value c.in_ok-key.key
    c.in_ok-key.ensures.value c.in_ok-evse.evse c.in_ok-evse.ensures.value (Err c.in_err-token.field-0.0)
    c.in_err-token.ensures.value))

use Rattle.std.{proofs.Common.{◌≡◌, ◌≢◌, ◌∙◌, ℕ, false, List, get_or, inl, inr, refl, sym, ap, arith, codes}, specs.Prelude.{IsTrue, ◌↔◌}, proofs.lemmas.Bool.false≢true}
use Rattle.serde_json.specs.Data.{Data}
use Rattle.ocppj_frame.{specs.declared.action.Action.Action, specs.declared.action.Action.TheVariants.{BootNotification, Heartbeat, StatusNotification, MeterValues, TransactionEvent}, specs.declared.body.Body.Body, specs.declared.body.Body.TheVariants.{Empty, Now, Boot}, specs.Call.{id_of, action_of, payload_of}, specs.Frame.Called, specs.Reply.{call_result, heartbeat, boot, result_bytes}}
use Rattle.transaction_event.{specs.Message.{Ready, called}, specs.MessageMeaning.IsMemoryReply, specs.Reply.memory_reply}
use Rattle.transaction_event.proofs.message.other_reply.Goals as goal

-- the result is what its call means
is_meant : (now : ℕ) (id shown : List ℕ) (action named : Action) (payload : Data) (body : Body) (reply : List ℕ) → action ≡ named
    → shown ≡ id → called now id named payload ≡ Ready (result_bytes id body) → reply ≡ result_bytes shown body
    → called now id action payload ≡ Ready reply
is_meant now id shown action named payload body reply is same means told =
    ap (λ a. called now id a payload) is ∙ means ∙ ap Ready (ap (λ i. result_bytes i body) (sym same) ∙ sym told)

-- no result reports OutOfMemory
is_no_error : (id : List ℕ) (body : Body) (reply : List ℕ) → reply ≡ result_bytes id body → reply ≢ memory_reply (codes "-1")
is_no_error id body reply told memory =
    let same : ◌≡◌ {A = ℕ} 51 52 = ap (λ text. get_or text 1 0) (sym told ∙ memory) in
    absurd (omega (arith, same))

is_told : (id : List ℕ) (action : Action) (payload : Data) (reply : List ℕ) → action ≢ TransactionEvent
    → reply ≢ memory_reply (codes "-1") → IsTrue false ↔ IsMemoryReply (Called id action payload) reply
is_told id BootNotification payload reply other differs = (λ no. absurd (false≢true no), λ memory. absurd (differs memory))
is_told id Heartbeat payload reply other differs = (λ no. absurd (false≢true no), λ memory. absurd (differs memory))
is_told id StatusNotification payload reply other differs = (λ no. absurd (false≢true no), λ memory. absurd (differs memory))
is_told id MeterValues payload reply other differs = (λ no. absurd (false≢true no), λ memory. absurd (differs memory))
is_told id TransactionEvent payload reply other differs = absurd (other refl)

pub unreachable-unreachable : goal.unreachable-unreachable
unreachable-unreachable c = absurd (c.requires (sym c.action.ensures ∙ c.in-TransactionEvent.is))

pub returns-in-BootNotification-clause-meaning : goal.returns-in-BootNotification-clause-meaning
returns-in-BootNotification-clause-meaning c =
    let call = c.args.call.now in
    is_meant c.args.now (id_of call) c.id-id.result.now (action_of call) BootNotification (payload_of call)
    (Boot c.moment_text.result) c.result_text.result.bytes (sym c.action.ensures ∙ c.in-BootNotification.is) c.id-id.ensures.value
    (ap (λ text. Ready (call_result (id_of call) (boot text))) (sym c.moment_text.ensures)) c.result_text.ensures

pub returns-in-BootNotification-clause-memory : goal.returns-in-BootNotification-clause-memory
returns-in-BootNotification-clause-memory c =
    let call = c.args.call.now in
    is_told (id_of call) (action_of call) (payload_of call) c.result_text.result.bytes c.requires
    (is_no_error c.id-id.result.now (Boot c.moment_text.result) c.result_text.result.bytes c.result_text.ensures)

pub returns-in-Heartbeat-clause-meaning : goal.returns-in-Heartbeat-clause-meaning
returns-in-Heartbeat-clause-meaning c =
    let call = c.args.call.now in
    is_meant c.args.now (id_of call) c.id-id.result.now (action_of call) Heartbeat (payload_of call)
    (Now c.moment_text-in-Heartbeat.result) c.result_text-in-Heartbeat.result.bytes (sym c.action.ensures ∙ c.in-Heartbeat.is)
    c.id-id.ensures.value
    (ap (λ text. Ready (call_result (id_of call) (heartbeat text))) (sym c.moment_text-in-Heartbeat.ensures)) c.result_text-in-Heartbeat.ensures

pub returns-in-Heartbeat-clause-memory : goal.returns-in-Heartbeat-clause-memory
returns-in-Heartbeat-clause-memory c =
    let call = c.args.call.now in
    is_told (id_of call) (action_of call) (payload_of call) c.result_text-in-Heartbeat.result.bytes c.requires
    (is_no_error c.id-id.result.now (Now c.moment_text-in-Heartbeat.result) c.result_text-in-Heartbeat.result.bytes c.result_text-in-Heartbeat.ensures)

pub returns-in-StatusNotification-clause-meaning : goal.returns-in-StatusNotification-clause-meaning
returns-in-StatusNotification-clause-meaning c =
    let call = c.args.call.now in
    let meant = λ (named : Action). is_meant c.args.now (id_of call) c.id-id.result.now (action_of call) named (payload_of call) Empty c.result_text-in-StatusNotification.result.bytes in
    elim c.in-StatusNotification.is [
      | inl is ↦ meant StatusNotification (sym c.action.ensures ∙ is) c.id-id.ensures.value refl c.result_text-in-StatusNotification.ensures
      | inr is ↦ meant MeterValues (sym c.action.ensures ∙ is) c.id-id.ensures.value refl c.result_text-in-StatusNotification.ensures
    ]

pub returns-in-StatusNotification-clause-memory : goal.returns-in-StatusNotification-clause-memory
returns-in-StatusNotification-clause-memory c =
    let call = c.args.call.now in
    is_told (id_of call) (action_of call) (payload_of call) c.result_text-in-StatusNotification.result.bytes c.requires
    (is_no_error c.id-id.result.now Empty c.result_text-in-StatusNotification.result.bytes c.result_text-in-StatusNotification.ensures)

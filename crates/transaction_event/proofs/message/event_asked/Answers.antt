use Rattle.std.proofs.Common.{sym, ◌∙◌, ap, subst, ◌≡◌}
use Rattle.ocppj_frame.specs.Call.{id_of, payload_of}
use Rattle.transaction_event.{specs.declared.fault.PayloadFault.TheVariants.OutOfMemory, specs.Growth.PayloadGrows, specs.Reply.fault_reply, specs.Request.event_reading, proofs.Replies.{fault_tells, fault_answers}}
use Rattle.transaction_event.proofs.message.event_asked.Goals as goal

pub returns-in-Err-clause-meaning : goal.returns-in-Err-clause-meaning
returns-in-Err-clause-meaning c =
    let told : c.fault_reply.result.bytes ≡ fault_reply c.id.result.now c.in-Err.fault = c.fault_reply.ensures in
    let grows : c.in-Err.fault ≡ OutOfMemory → PayloadGrows (payload_of c.args.call.now) = λ memory. subst PayloadGrows c.payload.ensures.value (c.in-Err.ensures.memory memory) in
    fault_answers (id_of c.args.call.now) (payload_of c.args.call.now) c.in-Err.fault c.fault_reply.result.bytes c.is_out_of_memory.result c.is_out_of_memory.ensures
    (λ other. ap event_reading (sym c.payload.ensures.value) ∙ c.in-Err.ensures.err other) grows
    (told ∙ ap (λ id. fault_reply id c.in-Err.fault) c.id.ensures.value)

pub returns-in-Err-clause-memory : goal.returns-in-Err-clause-memory
returns-in-Err-clause-memory c =
    let told : c.fault_reply.result.bytes ≡ fault_reply c.id.result.now c.in-Err.fault = c.fault_reply.ensures in
    let grows : c.in-Err.fault ≡ OutOfMemory → PayloadGrows (payload_of c.args.call.now) = λ memory. subst PayloadGrows c.payload.ensures.value (c.in-Err.ensures.memory memory) in
    fault_tells (id_of c.args.call.now) (payload_of c.args.call.now) c.in-Err.fault c.fault_reply.result.bytes c.is_out_of_memory.result c.is_out_of_memory.ensures grows
    (told ∙ ap (λ id. fault_reply id c.in-Err.fault) c.id.ensures.value)

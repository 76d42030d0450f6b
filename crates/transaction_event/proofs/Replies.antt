-- Which replies report OutOfMemory.
use Rattle.std.{proofs.Common.{◌≡◌, ◌≢◌, Bool, true, false, inl, inr, ◌∙◌, ℕ, List, sym, ap, arith, codes, refl}, specs.Prelude.{IsTrue, ◌↔◌, Err}}
use Rattle.serde_json.specs.Data.{Data}
use Rattle.ocppj_frame.{specs.declared.action.Action.TheVariants.{BootNotification, Heartbeat, StatusNotification, MeterValues, TransactionEvent}, specs.Frame.{Frame, Called, Silence, Ready}, proofs.Replies.other_last_letter}
use Rattle.transaction_event.{specs.declared.fault.PayloadFault.PayloadFault, specs.declared.fault.PayloadFault.TheVariants.{Format, Missing, WrongType, Range, TooManyReadings, Decimal, Moment, OutOfMemory}, specs.Request.event_reading, specs.Growth.PayloadGrows, specs.MessageMeaning.{Answers, IsMemoryReply}, specs.Reply.{fault_code, fault_reply, memory_reply}}
use Rattle.transaction_event.specs.Message as meaning

-- such a reply reports only OutOfMemory
pub told_by_memory_alone : (id other : List ℕ) (fault : PayloadFault) → fault_reply id fault ≡ memory_reply other → fault ≡ OutOfMemory
told_by_memory_alone id other Format e = absurd (other_last_letter id other (fault_code Format) (codes "Forma") 116 (omega arith) e)
told_by_memory_alone id other Missing e = absurd (other_last_letter id other (fault_code Missing) (codes "Missin") 103 (omega arith) e)
told_by_memory_alone id other WrongType e = absurd (other_last_letter id other (fault_code WrongType) (codes "WrongTyp") 101 (omega arith) e)
told_by_memory_alone id other Range e = absurd (other_last_letter id other (fault_code Range) (codes "Rang") 101 (omega arith) e)
told_by_memory_alone id other TooManyReadings e = absurd (other_last_letter id other (fault_code TooManyReadings) (codes "TooManyReading") 115 (omega arith) e)
told_by_memory_alone id other Decimal e = absurd (other_last_letter id other (fault_code Decimal) (codes "Decima") 108 (omega arith) e)
told_by_memory_alone id other Moment e = absurd (other_last_letter id other (fault_code Moment) (codes "Momen") 116 (omega arith) e)
told_by_memory_alone id other OutOfMemory e = refl

-- a fault's reply reports OutOfMemory where that is the fault
pub fault_tells : (id : List ℕ) (payload : Data) (fault : PayloadFault) (reply : List ℕ) (memory : Bool)
    → (IsTrue memory ↔ (fault ≡ OutOfMemory)) → (fault ≡ OutOfMemory → PayloadGrows payload) → reply ≡ fault_reply id fault
    → IsTrue memory ↔ IsMemoryReply (Called id TransactionEvent payload) reply
fault_tells id payload fault reply memory is grows told =
    let memory_alone : (other : List ℕ) → reply ≡ memory_reply other → IsTrue memory = λ other same. is.1 (told_by_memory_alone id other fault (sym told ∙ same)) in (
      λ yes. inr (told ∙ ap (fault_reply id) (is.0 yes), grows (is.0 yes)),
      λ wants. elim wants [ inl unread ↦ memory_alone (codes "-1") unread | inr same ↦ memory_alone id same.0 ],
    )

-- OutOfMemory while a text is read is reported with the id `-1`
pub unread_tells : (asked : Frame) (reply : List ℕ) → reply ≡ memory_reply (codes "-1") → IsMemoryReply asked reply
unread_tells (Called id BootNotification payload) reply e = e
unread_tells (Called id Heartbeat payload) reply e = e
unread_tells (Called id StatusNotification payload) reply e = e
unread_tells (Called id MeterValues payload) reply e = e
unread_tells (Called id TransactionEvent payload) reply e = inl e
unread_tells Silence reply e = e
unread_tells (Ready ready) reply e = e

-- a fault's reply is what its call means
pub fault_answers : (id : List ℕ) (payload : Data) (fault : PayloadFault) (reply : List ℕ) (memory : Bool)
    → (IsTrue memory ↔ (fault ≡ OutOfMemory)) → (fault ≢ OutOfMemory → event_reading payload ≡ Err fault)
    → (fault ≡ OutOfMemory → PayloadGrows payload) → reply ≡ fault_reply id fault → (now : ℕ)
    → Answers now (Called id TransactionEvent payload) reply memory
fault_answers id payload fault reply true is reads grows told now = inr (told ∙ ap (fault_reply id) (is.0 refl), grows (is.0 refl))
fault_answers id payload fault reply false is reads grows told now =
    let other : fault ≢ OutOfMemory = λ memory. let impossible : IsTrue false = is.1 memory in cc in
    ap (meaning.event_or_fault id) (reads other) ∙ ap meaning.Ready (sym told)

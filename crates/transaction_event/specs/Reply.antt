-- The replies to a TransactionEventRequest (OCPP 2.0.1 Part 4); the codes of the faults are this product's profile.
use Rattle.std.specs.Prelude.{ℕ, Bool, true, false, List}
use Rattle.ledger_model.{specs.declared.answer.Answer.Answer, specs.declared.answer.Answer.TheVariants.{Accepted, Repeat, Refused}, specs.declared.answer.Refusal.Refusal, specs.declared.answer.Refusal.TheVariants.{ConflictingEvent, TooManyTransactions, EventsFull, ReadingsFull, NoSuchEvent, AlreadyVoided, NotVoided, ChangesExhausted}, specs.Refusal.refusal_name}
use Rattle.ocppj_frame.{specs.declared.body.Body.Body, specs.declared.body.Body.TheVariants.{Empty, TokenAccepted}, specs.declared.error_code.ErrorCode.ErrorCode, specs.declared.error_code.ErrorCode.TheVariants.{FormatViolation, OccurrenceConstraintViolation, TypeConstraintViolation, PropertyConstraintViolation, GenericError, InternalError}, specs.Reply.{result_bytes, error_bytes}}
use Rattle.transaction_event.{specs.declared.fault.PayloadFault.PayloadFault, specs.declared.fault.PayloadFault.TheVariants.{Format, Missing, WrongType, Range, TooManyReadings, Decimal, Moment, OutOfMemory}, specs.Fault.fault_name}

-- The code of a payload's fault.
abbrev pub fault_code : PayloadFault → ErrorCode
fault_code Format = FormatViolation
fault_code Missing = OccurrenceConstraintViolation
fault_code WrongType = TypeConstraintViolation
fault_code Range = PropertyConstraintViolation
fault_code TooManyReadings = OccurrenceConstraintViolation
fault_code Decimal = PropertyConstraintViolation
fault_code Moment = PropertyConstraintViolation
fault_code OutOfMemory = InternalError

-- The reply to a payload with a fault.
abbrev pub fault_reply : List ℕ → PayloadFault → List ℕ
fault_reply id fault = error_bytes id (fault_code fault) (fault_name fault)

-- The reply that reports OutOfMemory.
abbrev pub memory_reply : List ℕ → List ℕ
memory_reply id = fault_reply id OutOfMemory

-- Whether a delivery can get this refusal.
abbrev pub refuses_delivery : Refusal → Bool
refuses_delivery ConflictingEvent = true
refuses_delivery TooManyTransactions = true
refuses_delivery EventsFull = true
refuses_delivery ReadingsFull = true
refuses_delivery NoSuchEvent = false
refuses_delivery AlreadyVoided = false
refuses_delivery NotVoided = false
refuses_delivery ChangesExhausted = true

-- Whether a delivery can get this answer.
abbrev pub answers_delivery : Answer → Bool
answers_delivery (Accepted changes) = true
answers_delivery Repeat = true
answers_delivery (Refused why) = refuses_delivery why

-- The code of a refused delivery: the station contradicts itself, or the ledger has no room.
abbrev pub refusal_code : Refusal → ErrorCode
refusal_code ConflictingEvent = GenericError
refusal_code _ = InternalError

-- The payload of the reply to an event that was taken; an id token is accepted as it is.
abbrev pub event_body : Bool → Body
event_body true = TokenAccepted
event_body false = Empty

-- The reply to an event, by the answer to its delivery.
abbrev pub event_reply_bytes : List ℕ → Bool → Answer → List ℕ
event_reply_bytes id token (Accepted changes) = result_bytes id (event_body token)
event_reply_bytes id token Repeat = result_bytes id (event_body token)
event_reply_bytes id token (Refused why) = error_bytes id (refusal_code why) (refusal_name why)

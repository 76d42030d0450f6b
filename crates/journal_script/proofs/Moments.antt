-- What a text asks for does not depend on the moment when it is read.
use Rattle.std.proofs.Common.{◌≡◌, ℕ, List, refl}
use Rattle.ocppj_frame.{specs.declared.action.Action.Action, specs.declared.action.Action.TheVariants.{BootNotification, Heartbeat, StatusNotification, MeterValues, TransactionEvent}, specs.Frame.{Frame, frame}}
use Rattle.ocppj_frame.specs.Frame as framed
use Rattle.serde_json.specs.Data.{Data}
use Rattle.transaction_event.{specs.Message.{Event, called, meaning_of}, specs.Request.Request}
use Rattle.journal_script.specs.Speaking.{EventsAskAtAnyMoment}

call_any : (now later : ℕ) (id : List ℕ) (action : Action) (payload : Data) (told : List ℕ) (request : Request)
    → called now id action payload ≡ Event told request → called later id action payload ≡ Event told request
call_any now later id BootNotification payload told request e = cc e
call_any now later id Heartbeat payload told request e = cc e
call_any now later id StatusNotification payload told request e = cc e
call_any now later id MeterValues payload told request e = cc e
call_any now later id TransactionEvent payload told request e = e

any_moment : (now later : ℕ) (f : Frame) (told : List ℕ) (request : Request) → meaning_of now f ≡ Event told request → meaning_of later f ≡ Event told request
any_moment now later (framed.Called id action payload) told request e = call_any now later id action payload told request e
any_moment now later framed.Silence told request e = cc e
any_moment now later (framed.Ready reply) told request e = cc e

pub events_ask_at_any_moment : EventsAskAtAnyMoment
events_ask_at_any_moment text now id request e = record { id = id; request = request; means = λ later. any_moment now later (frame text) id request e; delivers = refl }

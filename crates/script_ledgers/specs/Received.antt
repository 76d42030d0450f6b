-- What a running script does with a message.
use Rattle.std.specs.Prelude.{◌≡◌, ℕ, true, false, List, IfSome, codes, slice_get}
use Rattle.ledger_model.{specs.declared.command.Command.TheVariants.Deliver, specs.Step.answer, specs.World.{Station, world_after}}
use Rattle.transaction_event.{specs.declared.message.Message.Message, specs.Reply.event_reply_bytes}
use Rattle.transaction_event.specs.declared.message.Message.TheVariants as message
use Rattle.script_lines.specs.Texts.{ended_line}
use Rattle.script_ledgers.{specs.declared.detail.Detail.Detail, specs.Detail.{event_text, ready_text}, specs.Script.Script}

-- an event takes the station's step and gets the answer's reply; any other message leaves the
-- script as it was; a reply that reports OutOfMemory does not occur
abbrev pub TakesMessage : Detail → Script → Script → Station → Message → List ℕ → Type 0
TakesMessage detail old new s (message.Event id key event token) reply =
    let answered = answer s.limits s.content (Deliver key event) in
    (new ≡ record old { world = world_after old.world (s.name, Deliver key event) })
    × (reply ≡ event_text detail answered (event_reply_bytes id.bytes token answered))
TakesMessage detail old new s (message.Reply text true) reply = ⊥
TakesMessage detail old new s (message.Reply text false) reply = (new ≡ old) × (reply ≡ ready_text detail text.bytes)
TakesMessage detail old new s message.Silent reply = (new ≡ old) × (reply ≡ ended_line (codes "silent"))

-- the same for a message to the station of this number, if there is one
abbrev pub TakesMessageAt : Detail → ℕ → Script → Script → Message → List ℕ → Type 0
TakesMessageAt detail number old new m reply = IfSome (slice_get old.world number) (λ s. TakesMessage detail old new s m reply)

use Rattle.std.{specs.Prelude.{◌≡◌, ℕ, zero, suc, ◌+◌, ◌&&◌, List, Option, None, Some, true, false, if◌then◌else◌, not, Bool, nat_lt, nat_le, length, sum_by}, specs.FinMap.FinMap}
use Rattle.std.specs.FinMap as finite
use Rattle.ledger_model.{specs.declared.command.Command.Command, specs.declared.command.Command.TheVariants.{Deliver, Void, Restore, Erase}, specs.declared.answer.Answer.Answer, specs.declared.answer.Answer.TheVariants.{Accepted, Repeat, Refused}, specs.declared.answer.Refusal.TheVariants.{ConflictingEvent, TooManyTransactions, EventsFull, ReadingsFull, NoSuchEvent, AlreadyVoided, NotVoided, ChangesExhausted}, specs.Key.{KeyName, key_cmp}, specs.Event.{EventContent, same_event}, specs.Limits.Bounds, specs.Admissible.IsAdmissible, specs.Content.{Content, Stored, Entry, empty_content, entries, transactions_of, has_transaction}}

-- How many readings the stored events have, voided events included.
abbrev pub readings_stored : List Entry → ℕ
readings_stored es = sum_by (λ e. length e.1.event.readings) es

-- One more change, if the limit of changes allows it.
abbrev pub accepted_within_limit : Bounds → Content → Answer
accepted_within_limit limits c = if nat_le limits.changes c.changes then Refused ChangesExhausted else Accepted (c.changes + 1)

-- The answer to a delivery: by the event under its key, and for a new key the first limit that is reached.
abbrev pub answer_to_deliver : Bounds → Content → KeyName → EventContent → Option Stored → Answer
answer_to_deliver limits c key event (Some stored) = if same_event stored.event event then Repeat else Refused ConflictingEvent
answer_to_deliver limits c key event None =
    if not (has_transaction key.tx (entries c)) && nat_le limits.transactions (length (transactions_of (entries c))) then Refused TooManyTransactions
    else (if nat_le limits.events (length (entries c)) then Refused EventsFull
    else (if nat_lt limits.readings (readings_stored (entries c) + length event.readings) then Refused ReadingsFull
    else accepted_within_limit limits c))

-- The answer to a void, by the event under its key.
abbrev pub answer_to_void : Bounds → Content → Option Stored → Answer
answer_to_void limits c None = Refused NoSuchEvent
answer_to_void limits c (Some stored) = if stored.voided then Refused AlreadyVoided else accepted_within_limit limits c

-- The answer to a restoration or an erasure, by the event under its key.
abbrev pub answer_to_voided : Bounds → Content → Option Stored → Answer
answer_to_voided limits c None = Refused NoSuchEvent
answer_to_voided limits c (Some stored) = if stored.voided then accepted_within_limit limits c else Refused NotVoided

-- What a ledger of these limits answers to a command; the first check that applies decides.
abbrev pub answer : Bounds → Content → Command → Answer
answer limits c (Deliver key event) = answer_to_deliver limits c key event (finite.get c.events key)
answer limits c (Void key) = answer_to_void limits c (finite.get c.events key)
answer limits c (Restore key) = answer_to_voided limits c (finite.get c.events key)
answer limits c (Erase key) = answer_to_voided limits c (finite.get c.events key)

-- The events with the one under this key marked as voided or not; that event was looked up before.
abbrev pub marked_at : FinMap key_cmp Stored → KeyName → Bool → Option Stored → FinMap key_cmp Stored
marked_at events key voided None = events
marked_at events key voided (Some stored) = finite.insert events key (record { event = stored.event; voided = voided })

-- The events with the one under this key marked as voided or not.
abbrev pub marked : FinMap key_cmp Stored → KeyName → Bool → FinMap key_cmp Stored
marked events key voided = marked_at events key voided (finite.get events key)

-- The events after an accepted command.
abbrev pub events_after : FinMap key_cmp Stored → Command → FinMap key_cmp Stored
events_after events (Deliver key event) = finite.insert events key (record { event = event; voided = false })
events_after events (Void key) = marked events key true
events_after events (Restore key) = marked events key false
events_after events (Erase key) = finite.remove events key

-- The content that an answer leaves: an accepted command changes the events and is counted, any other answer changes
-- nothing.
abbrev pub content_after : Content → Command → Answer → Content
content_after c command (Accepted n) = record { events = events_after c.events command; changes = n }
content_after c command Repeat = c
content_after c command (Refused why) = c

-- The step of a station's ledger: the content that a command leaves, and the answer.
abbrev pub step : Bounds → Content → Command → Content × Answer
step limits c command = (content_after c command (answer limits c command), answer limits c command)

-- A content that some list of n admissible commands, each accepted under these limits, reaches from the empty
-- content.
abbrev pub Reached : Bounds → ℕ → Content → Type 0
Reached limits zero c = c ≡ empty_content
Reached limits (suc n) c =
    (before : Content) × (command : Command) × (IsAdmissible command × Reached limits n before × (step limits before command ≡ (c, Accepted (suc n))))

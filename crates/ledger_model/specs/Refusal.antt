use Rattle.std.specs.Prelude.{ℕ, List, codes}
use Rattle.ledger_model.{specs.declared.answer.Refusal.Refusal, specs.declared.answer.Refusal.TheVariants.{ConflictingEvent, TooManyTransactions, EventsFull, ReadingsFull, NoSuchEvent, AlreadyVoided, NotVoided, ChangesExhausted}}

-- The number of a refusal, from 1 to 8.
abbrev pub refusal_number : Refusal → ℕ
refusal_number ConflictingEvent = 1
refusal_number TooManyTransactions = 2
refusal_number EventsFull = 3
refusal_number ReadingsFull = 4
refusal_number NoSuchEvent = 5
refusal_number AlreadyVoided = 6
refusal_number NotVoided = 7
refusal_number ChangesExhausted = 8

-- The name of a refusal, as it is printed.
abbrev pub refusal_name : Refusal → List ℕ
refusal_name ConflictingEvent = codes "ConflictingEvent"
refusal_name TooManyTransactions = codes "TooManyTransactions"
refusal_name EventsFull = codes "EventsFull"
refusal_name ReadingsFull = codes "ReadingsFull"
refusal_name NoSuchEvent = codes "NoSuchEvent"
refusal_name AlreadyVoided = codes "AlreadyVoided"
refusal_name NotVoided = codes "NotVoided"
refusal_name ChangesExhausted = codes "ChangesExhausted"

use Rattle.std.specs.Prelude.{ℕ, ◌+◌, Bool, ◌&&◌, not, nat_le, nat_lt, if◌then◌else◌, List, length}
use Rattle.ledger_model.{specs.declared.answer.Answer.Answer, specs.declared.answer.Answer.TheVariants.Refused, specs.declared.answer.Refusal.TheVariants.{TooManyTransactions, EventsFull, ReadingsFull}, specs.Limits.Bounds, specs.Content.{Content, Entry, entries, transactions_of, has_transaction}, specs.Step.{readings_stored, accepted_within_limit}}

-- The transaction is new, and as many as the limits allow are stored.
abbrev pub is_transaction_too_many : Bounds → List Entry → List ℕ → Bool
is_transaction_too_many limits es tx = not (has_transaction tx es) && nat_le limits.transactions (length (transactions_of es))

-- As many events as the limits allow are stored.
abbrev pub is_full : Bounds → List Entry → Bool
is_full limits es = nat_le limits.events (length es)

-- With this many more readings there would be more than the limits allow.
abbrev pub are_readings_too_many : Bounds → List Entry → ℕ → Bool
are_readings_too_many limits es more = nat_lt limits.readings (readings_stored es + more)

-- The answer to an event under a new key, of this transaction and with this many readings.
abbrev pub answer_to_new : Bounds → Content → List ℕ → ℕ → Answer
answer_to_new limits c tx readings =
    if is_transaction_too_many limits (entries c) tx then Refused TooManyTransactions
    else (if is_full limits (entries c) then Refused EventsFull
    else (if are_readings_too_many limits (entries c) readings then Refused ReadingsFull
    else accepted_within_limit limits c))

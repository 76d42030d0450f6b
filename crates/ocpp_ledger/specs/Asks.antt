-- What a message asks a ledger for, as far as a caller in C learns it.
use Rattle.std.specs.Prelude.{◌≡◌, ℕ, List}
use Rattle.transaction_event.specs.Message.{Meaning, Event, Ready, Silence}

-- The message delivers an event of this transaction with this sequence number.
abbrev pub IsEventOf : Meaning → List ℕ → ℕ → Type 0
IsEventOf (Event id request) tx seq = (request.key.tx ≡ tx) × (request.key.seq ≡ seq)
IsEventOf (Ready reply) tx seq = ⊥
IsEventOf Silence tx seq = ⊥

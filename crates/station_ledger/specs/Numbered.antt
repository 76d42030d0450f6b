-- Entries with numbers in range.
use Rattle.std.specs.Prelude.{ℕ, ◌<◌, ◌≤◌, List, [], ◌∷◌, IfSome}
use Rattle.ledger_model.{specs.Content.Entry, specs.Ranges.{greatest_evse, sequence_end}}

-- The number of the event is in range, and that of the EVSE if it names one.
pub record IsNumbered (e : Entry) : Type 0 where
  pub sequence : e.0.seq < sequence_end
  pub evse : IfSome e.1.event.evse (λ number. number ≤ greatest_evse)

-- The numbers of all entries are in range.
abbrev pub AreNumbered : List Entry → Type 0
AreNumbered [] = Unit {0}
AreNumbered (e ∷ es) = IsNumbered e × AreNumbered es

-- Numbers of events.
abbrev pub AreNumbers : List ℕ → Type 0
AreNumbers [] = Unit {0}
AreNumbers (n ∷ ns) = (n < sequence_end) × AreNumbers ns

use Rattle.std.{specs.Prelude.{ℕ, Bool, List, [], ◌∷◌, not, map, filter}, specs.List.list_any, specs.Str.bytes_eq, specs.FinMap.FinMap}
use Rattle.std.specs.FinMap as finite
use Rattle.ledger_model.{specs.Key.{KeyName, key_cmp}, specs.Event.EventContent}

-- An event that is stored, and whether it is voided.
pub record Stored : Type 0 where
  pub event : EventContent
  pub voided : Bool

-- What a station's ledger holds: its events by their keys, each voided or not, and the number of changes accepted so
-- far.
pub record Content : Type 0 where
  pub events : FinMap key_cmp Stored
  pub changes : ℕ

-- A stored event with its key.
abbrev pub Entry : Type 0
Entry = KeyName × Stored

-- No event, and no change.
abbrev pub empty_content : Content
empty_content = record { events = finite.empty; changes = 0 }

-- The stored events in the order of their keys.
abbrev pub entries : Content → List Entry
entries c = finite.entries c.events

-- The live events: those that are stored and not voided.
abbrev pub live : List Entry → List Entry
live es = filter (λ e. not e.1.voided) es

-- The live events of a transaction.
abbrev pub live_of : List ℕ → List Entry → List Entry
live_of tx es = filter (λ e. bytes_eq tx e.0.tx) (live es)

-- Each text once, at its first place.
abbrev pub distinct : List (List ℕ) → List (List ℕ)
distinct [] = []
distinct (x ∷ xs) = x ∷ filter (λ y. not (bytes_eq x y)) (distinct xs)

-- The ids of the transactions that these events belong to.
abbrev pub transactions_of : List Entry → List (List ℕ)
transactions_of es = distinct (map (λ e. e.0.tx) es)

-- Whether one of these events is of this transaction.
abbrev pub has_transaction : List ℕ → List Entry → Bool
has_transaction tx es = list_any (λ e. bytes_eq tx e.0.tx) es

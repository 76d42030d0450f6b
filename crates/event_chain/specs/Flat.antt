-- The stored events of a station, as its tables and slots hold them.
use Rattle.std.{specs.Prelude.{ℕ, ◌/◌, ◌%◌, ◌^◌, ◌==◌, nat_lt, true, cond, List, [], Option, Some, None, map}, specs.List.{filter, flat_map}, specs.Ordering.nat_cmp, specs.FinMap.find}
use Rattle.slot_arena.specs.Arena.{value_at}
use Rattle.key_index.specs.Key.{rank}
use Rattle.ledger_model.{specs.declared.kind.Kind.TheVariants.Updated, specs.Key.KeyName, specs.Content.{Entry, Stored}}
use Rattle.event_store.specs.Slots.{Held}
use Rattle.event_chain.{specs.declared.row.TableRow.TableRow, specs.Table.{TxRow, row_of}}

-- A rank in an index with the slot number of its event.
abbrev pub EventPlace : Type 0
EventPlace = ℕ × ℕ

-- The slot number under a rank.
abbrev pub place_of : ℕ → List EventPlace → Option ℕ
place_of r es = find nat_cmp r es

-- A value in place of an event that is not there.
abbrev pub no_stored : Stored
no_stored = record { event = record { kind = Updated; moment = 0; evse = None; readings = [] }; voided = true }

-- The stored event of a slot.
abbrev pub stored_in : Option Held → Stored
stored_in None = no_stored
stored_in (Some held) = held.1

-- The stored event of a slot, by the slot's number.
abbrev pub stored_at : List (Option Held) → ℕ → Stored
stored_at slots s = stored_in (value_at slots s)

-- The entry of an event of this transaction.
abbrev pub entry_of : List ℕ → List (Option Held) → EventPlace → Entry
entry_of tx slots e = (record { tx = tx; seq = e.0 % 2 ^ 31 }, stored_at slots e.1)

-- The places of the transaction of a slot.
abbrev pub segment : ℕ → List EventPlace → List EventPlace
segment t es = filter (λ e. e.0 / 2 ^ 31 == t) es

-- The events of a transaction.
abbrev pub entries_of : List EventPlace → List (Option Held) → TxRow → List Entry
entries_of es slots row = map (entry_of row.0 slots) (segment row.1.slot es)

-- All stored events, transaction by transaction.
abbrev pub flat : List TxRow → List EventPlace → List (Option Held) → List Entry
flat rows es slots = flat_map (entries_of es slots) rows

-- The event of a place, if there is one.
abbrev pub event_at : List (Option Held) → Option ℕ → Option Stored
event_at slots None = None
event_at slots (Some s) = Some (stored_at slots s)

-- The place of a number of the transaction of a slot.
abbrev pub number_at : ℕ → ℕ → List EventPlace → Option ℕ
number_at t seq es = cond (nat_lt seq (2 ^ 31)) (place_of (rank t seq) es) None

-- The event of a number, if its transaction is known.
abbrev pub look_in : List EventPlace → List (Option Held) → ℕ → Option TableRow → Option Stored
look_in es slots seq None = None
look_in es slots seq (Some row) = event_at slots (number_at row.slot seq es)

-- The event of a key.
abbrev pub look : List TxRow → List EventPlace → List (Option Held) → KeyName → Option Stored
look rows es slots key = look_in es slots key.seq (row_of key.tx rows)

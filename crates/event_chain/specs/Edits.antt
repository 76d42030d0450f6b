-- Places put into an index and taken out of it, and what a look-up finds then.
use Rattle.std.{specs.Prelude.{◌≡◌, ℕ, ◌/◌, ◌^◌, ◌==◌, ◌<◌, nat_lt, Bool, not, cond, List, Option, Some, None, length, slice_get, unwrap_or}, specs.List.filter, specs.Ordering.{eq_by_cmp, nat_cmp}, specs.FinMap.put}
use Rattle.slot_arena.specs.Arena.{IsHeld}
use Rattle.key_index.{specs.Entries.last_of, specs.Key.rank}
use Rattle.ledger_model.{specs.declared.kind.Kind.Kind, specs.Key.KeyName, specs.ByDirection.in_direction, specs.declared.by_direction.ByDirection.ByDirection, specs.declared.reading.Direction.Direction, specs.Event.{MeterReading, toward}, specs.Deltas.{first_reading, last_reading}, specs.Ranges.sequence_end}
use Rattle.event_chain.{specs.declared.row.TableRow.TableRow, specs.declared.look_ups.EventLocation.EventLocation, specs.Table.{TxRow, row_of}, specs.Flat.{EventPlace, number_at, place_of, stored_at, segment}, specs.Placed.{Placed, carriers_of, index}}
use Rattle.event_store.specs.Slots.{Held}

-- Places with one put in if a test says so.
abbrev pub put_if : Bool → ℕ → ℕ → List EventPlace → List EventPlace
put_if b r0 s0 es = cond b (put nat_cmp r0 s0 es) es

-- Places without that of a rank.
abbrev pub out : ℕ → List EventPlace → List EventPlace
out r0 es = filter (λ e. not (eq_by_cmp nat_cmp r0 e.0)) es

-- Places with one taken out if a test says so.
abbrev pub out_if : Bool → ℕ → List EventPlace → List EventPlace
out_if b r0 es = cond b (out r0 es) es

-- The place of a number, if its transaction is known.
abbrev pub place_in : List EventPlace → ℕ → Option TableRow → Option ℕ
place_in es seq None = None
place_in es seq (Some row) = number_at row.slot seq es

-- The place of a key.
abbrev pub place_at : List TxRow → List EventPlace → KeyName → Option ℕ
place_at rows es key = place_in es key.seq (row_of key.tx rows)

-- The first place of a transaction in an index, if it is known.
abbrev pub first_under : List EventPlace → Option TableRow → Option EventPlace
first_under es None = None
first_under es (Some row) = slice_get (segment row.slot es) 0

-- The last one.
abbrev pub last_under : List EventPlace → Option TableRow → Option EventPlace
last_under es None = None
last_under es (Some row) = last_of (segment row.slot es)

-- The counts of a transaction, if it is known.
abbrev pub counts_under : Option TableRow → ℕ × ℕ
counts_under None = (0, 0)
counts_under (Some row) = (row.live, row.ends)

-- A place, if it belongs to the transaction of a slot.
abbrev pub at_home : ℕ → Option EventPlace → Option EventPlace
at_home t None = None
at_home t (Some e) = cond (e.0 / 2 ^ 31 == t) (Some e) None

-- The places of a rank's transaction in front of the rank.
abbrev pub places_before : ℕ → List EventPlace → List EventPlace
places_before r es = filter (λ e. nat_lt e.0 r) (segment (r / 2 ^ 31) es)

-- Those behind it.
abbrev pub places_behind : ℕ → List EventPlace → List EventPlace
places_behind r es = filter (λ e. nat_lt r e.0) (segment (r / 2 ^ 31) es)

-- The place, if there is one, is that of an event.
abbrev pub IsStored : List (Option Held) → Option EventPlace → Type 0
IsStored slots None = Unit {0}
IsStored slots (Some e) = IsHeld slots e.1

-- The first reading of a direction of the event of a place.
abbrev pub first_at : List (Option Held) → Direction → Option EventPlace → Option MeterReading
first_at slots d None = None
first_at slots d (Some e) = first_reading (toward d (stored_at slots e.1).event.readings)

-- The last one.
abbrev pub last_at : List (Option Held) → Direction → Option EventPlace → Option MeterReading
last_at slots d None = None
last_at slots d (Some e) = last_reading (toward d (stored_at slots e.1).event.readings)

-- The kind of the event of a place.
abbrev pub kind_in : List (Option Held) → EventPlace → Kind
kind_in slots e = (stored_at slots e.1).event.kind

-- The EVSE that the event of a place names, or 0.
abbrev pub evse_at : List (Option Held) → Option EventPlace → ℕ
evse_at slots None = 0
evse_at slots (Some e) = unwrap_or (stored_at slots e.1).event.evse 0

-- Where the event of a key is: the row of its transaction, its rank, and its slot.
pub record IsLocation (rows : List TxRow) (es : List EventPlace) (key : KeyName) (location : EventLocation) : Type 0 where
  pub row : row_of key.tx rows ≡ Some location.row
  pub key_is : location.key ≡ rank location.row.slot key.seq
  pub slot : place_of location.key es ≡ Some location.slot
  pub number : key.seq < sequence_end

-- No live event has the key.
pub record IsNotLive (key : ℕ) (p : Placed) : Type 0 where
  pub live : place_of key p.live.entries ≡ None
  pub carriers : (d : Direction) → place_of key (carriers_of p d).entries ≡ None
  pub naming : place_of key p.naming.entries ≡ None

-- A slot for a live event: it is one, and no other's.
pub record IsSlotFor (slot : ℕ) (p : Placed) : Type 0 where
  pub within : slot < p.live.capacity
  pub unused : (rank : ℕ) → place_of rank p.live.entries ≡ Some slot → ⊥

-- An event may be put in under the key.
pub record CanPutIn (key slot : ℕ) (p : Placed) : Type 0 where
  pub absent : place_of key p.stored.entries ≡ None
  pub room : length p.stored.entries < p.stored.capacity
  pub slot_for : IsSlotFor slot p

-- The voided event of the key may live again.
pub record CanRestore (key slot : ℕ) (p : Placed) : Type 0 where
  pub stored : place_of key p.stored.entries ≡ Some slot
  pub not_live : IsNotLive key p
  pub slot_for : IsSlotFor slot p

-- A live event came, with readings of these directions and perhaps an EVSE.
pub record IsLiveMore (key slot : ℕ) (carries : ByDirection Bool) (names_evse : Bool) (old new : Placed) : Type 0 where
  pub live : new.live ≡ index (put nat_cmp key slot old.live.entries) old.live.capacity
  pub carriers : (d : Direction) → carriers_of new d ≡ index (put_if (in_direction d carries) key slot (carriers_of old d).entries) (carriers_of old d).capacity
  pub naming : new.naming ≡ index (put_if names_evse key slot old.naming.entries) old.naming.capacity

-- A live event went.
pub record IsLiveLess (key : ℕ) (old new : Placed) : Type 0 where
  pub live : new.live ≡ index (out key old.live.entries) old.live.capacity
  pub carriers : (d : Direction) → carriers_of new d ≡ index (out key (carriers_of old d).entries) (carriers_of old d).capacity
  pub naming : new.naming ≡ index (out key old.naming.entries) old.naming.capacity

-- The live events stay.
pub record IsLiveSame (old new : Placed) : Type 0 where
  pub live : new.live ≡ old.live
  pub carriers : (d : Direction) → carriers_of new d ≡ carriers_of old d
  pub naming : new.naming ≡ old.naming

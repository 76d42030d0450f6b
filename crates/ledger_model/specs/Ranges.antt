-- The bounds of a ledger's values (this product's profile).
use Rattle.std.specs.Prelude.{ℕ, ◌^◌}

-- The greatest reading, in milliwatt-hours: ten gigawatt-hours.
abbrev pub greatest_reading : ℕ
greatest_reading = 10_000_000_000_000

-- How many counted readings an event may have.
abbrev pub most_event_readings : ℕ
most_event_readings = 1_024

-- How many characters a transaction's id may have.
abbrev pub most_id_characters : ℕ
most_id_characters = 36

-- How many characters the name of a site or a station may have.
abbrev pub most_name_characters : ℕ
most_name_characters = 48

-- The first number above all sequence numbers.
abbrev pub sequence_end : ℕ
sequence_end = 2 ^ 31

-- The greatest number of an EVSE.
abbrev pub greatest_evse : ℕ
greatest_evse = 64

-- How many transactions one station may store.
abbrev pub most_transactions : ℕ
most_transactions = 4_096

-- How many events one station may store.
abbrev pub most_events : ℕ
most_events = 65_536

-- How many readings one station may store.
abbrev pub most_readings : ℕ
most_readings = 65_536

-- How many changes one station may accept.
abbrev pub most_changes : ℕ
most_changes = 2 ^ 63

-- How many sites a plan may have.
abbrev pub most_sites : ℕ
most_sites = 16

-- How many stations a plan may have, over all its sites.
abbrev pub most_stations : ℕ
most_stations = 64

-- How many readings the stations of a plan may store in all.
abbrev pub most_plan_readings : ℕ
most_plan_readings = 1_048_576

-- The places of events in one index, by their marks.
use Rattle.std.specs.Prelude.{ℕ, Bool, true, List, Option, Some, None, map}
use Rattle.ledger_model.{specs.declared.reading.Direction.Direction, specs.declared.reading.Direction.TheVariants.{Import, Export}}
use Rattle.key_index.{specs.declared.filed.Mark.Mark, specs.declared.filed.Mark.TheVariants.{Live, Imports, Exports, Names}, specs.declared.filed.Marks.Marks, specs.Entries.Entry, specs.Marks.{has_mark, marked}}
use Rattle.key_index.specs.Index as keyed
use Rattle.event_chain.specs.Flat.{EventPlace}

-- Places by rising rank, and how many there may be.
pub record Index : Type 0 where
  pub entries : List EventPlace
  pub capacity : ℕ

-- An index of these places.
abbrev pub index : List EventPlace → ℕ → Index
index entries capacity = record { entries = entries; capacity = capacity }

-- The rank of an entry and its slot.
abbrev pub place_in : Entry ℕ → EventPlace
place_in e = (e.0, e.1.value)

-- The places of the entries that have a mark, or of all entries.
abbrev pub marked_places : Option Mark → List (Entry ℕ) → List EventPlace
marked_places None es = map place_in es
marked_places (Some m) es = map place_in (marked m es)

-- An entry with these marks is one of them.
abbrev pub passes : Option Mark → Marks → Bool
passes None marks = true
passes (Some m) marks = has_mark m marks

-- The mark of the live events that have a reading of this direction.
abbrev pub mark_of : Direction → Mark
mark_of Import = Imports
mark_of Export = Exports

-- The places of all events, of the live ones, of those with a reading of each direction, and of those that name an
-- EVSE.
pub record Placed : Type 0 where
  pub stored : Index
  pub live : Index
  pub imports : Index
  pub exports : Index
  pub naming : Index

-- An index of the places that have a mark, or of all.
abbrev pub marked_index : Option Mark → keyed.Index ℕ → Index
marked_index o i = index (marked_places o i.entries) i.capacity

-- The places of one index, all and by each mark.
abbrev pub placed : keyed.Index ℕ → Placed
placed i = record {
  stored = marked_index None i;
  live = marked_index (Some Live) i;
  imports = marked_index (Some Imports) i;
  exports = marked_index (Some Exports) i;
  naming = marked_index (Some Names) i;
}

-- The places of the live events that have a reading of this direction.
abbrev pub carriers_of : Placed → Direction → Index
carriers_of p Import = p.imports
carriers_of p Export = p.exports

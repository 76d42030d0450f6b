-- The standing of a transaction with a live event.
use Rattle.std.specs.Prelude.{ℕ, Bool, true, false, ◌&&◌, ◌==◌, if◌then◌else◌, List, Option, None, Some, length, slice_get, unwrap_or}
use Rattle.energy_flow.specs.Flow.{Energy}
use Rattle.ledger_model.{specs.declared.by_direction.ByDirection.ByDirection, specs.Content.{Entry, live_of}, specs.Complete.is_complete, specs.declared.kind.Kind.Kind, specs.declared.kind.Kind.TheVariants.{Started, Ended}, specs.declared.order.Order.Order, specs.Energy.flows_of_by, specs.Evse.evse_of, specs.Gaps.{numbers_of, missing}}
use Rattle.station_ledger.specs.declared.standing.Standing.{Standing}

-- A transaction's standing, with these energies.
abbrev pub standing_with : ByDirection Energy → List ℕ → List Entry → Standing
standing_with energy tx es = record {
  first = unwrap_or (slice_get (numbers_of tx es) 0) 0;
  live = length (live_of tx es);
  evse = evse_of tx es;
  complete = is_complete tx es;
  missing = missing (numbers_of tx es);
  energy = energy;
}

-- A transaction's standing with these energies, if it has a live event.
abbrev pub kept_with : ByDirection Energy → List ℕ → List Entry → Option Standing
kept_with energy tx es = if length (live_of tx es) == 0 then None else Some (standing_with energy tx es)

-- A transaction's standing with its energies, with its readings in the given order.
abbrev pub standing_by : Order → List ℕ → List Entry → Standing
standing_by order tx es = standing_with (flows_of_by order tx es) tx es

-- What the ledger keeps of a transaction, with its readings in the given order: its standing with its energies, if it
-- has a live event.
abbrev pub kept_of : Order → List ℕ → List Entry → Option Standing
kept_of order tx es = kept_with (flows_of_by order tx es) tx es

-- Whether the first kind is Started.
abbrev pub is_started : Option Kind → Bool
is_started (Some Started) = true
is_started _ = false

-- Whether the last kind is Ended.
abbrev pub is_ended : Option Kind → Bool
is_ended (Some Ended) = true
is_ended _ = false

-- Whether events start and end, by the first kind, the last, and how many are either.
abbrev pub starts_and_ends_by : Option Kind → Option Kind → ℕ → Bool
starts_and_ends_by first last ends = (ends == 2) && (is_started first && is_ended last)

-- The standing of a transaction, and one live event that came since.
use Rattle.std.specs.Prelude.{◌≡◌, ℕ, ◌+◌, ◌<◌, ◌≤◌, List, Some, length, slice_get}
use Rattle.ledger_model.{specs.Content.{Entry, live_of}, specs.Evse.evse_of, specs.Gaps.{numbers_of, missing}}
use Rattle.station_ledger.specs.declared.standing.Standing.{Standing}

-- The standing of a transaction before the live event of a number came that names no EVSE, compared with its events
-- since. Behind the first event, that number shows what is missing.
pub record IsOneLess (was : Standing) (tx : List ℕ) (seq : ℕ) (es : List Entry) : Type 0 where
  pub live : length (live_of tx es) ≡ was.live + 1
  pub first : was.first < seq → slice_get (numbers_of tx es) 0 ≡ Some was.first
  pub evse : evse_of tx es ≡ was.evse
  pub within : (first : ℕ) → slice_get (numbers_of tx es) 0 ≡ Some first → first < seq → seq < first + was.live + was.missing → missing (numbers_of tx es) + 1 ≡ was.missing
  pub beyond : (first : ℕ) → slice_get (numbers_of tx es) 0 ≡ Some first → first < seq → first + was.live + was.missing ≤ seq
      → missing (numbers_of tx es) + (first + was.live + was.missing) ≡ was.missing + seq

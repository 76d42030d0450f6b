-- The events of a station as the callers of `Chains` see them.
use Rattle.std.{specs.Prelude.{ℕ, List, refl}, specs.Coded.{Coded, code_by, coded×, coded_ℕ}, specs.FinMap.FinMap}
use Rattle.std.specs.FinMap as finite
use Rattle.event_store.specs.Slots.{stored_code}
use Rattle.ledger_model.{specs.Key.{key_cmp, key_code}, specs.Limits.Bounds, specs.Content.{Stored, Entry}}

-- The limits of a station, and its stored events by their keys, each voided or not.
pub record Chained : Type 0 where
  pub limits : Bounds
  pub events : FinMap key_cmp Stored

-- Limits are kept as the tuple of their parts.
abbrev pub bounds_code : Coded Bounds
bounds_code = code_by (ℕ × (ℕ × (ℕ × ℕ))) (coded× coded_ℕ (coded× coded_ℕ (coded× coded_ℕ coded_ℕ)))
    (λ b. (b.transactions, (b.events, (b.readings, b.changes))))
    (λ p. record { transactions = p.0; events = p.1.0; readings = p.1.1.0; changes = p.1.1.1 }) (λ _. refl)

-- Chains are kept as the pair of their parts.
abbrev pub chained_code : Coded Chained
chained_code = code_by (Bounds × FinMap key_cmp Stored) (coded× bounds_code (finite.code key_code stored_code)) (λ c. (c.limits, c.events)) (λ p. record { limits = p.0; events = p.1 }) (λ _. refl)

-- The stored events in the order of their keys.
abbrev pub stored : Chained → List Entry
stored c = finite.entries c.events

use Rattle.std.{specs.Prelude.{ℕ, Bool, refl}, specs.Coded.{Coded, code_by, coded×, coded_bool, coded_ℕ}, specs.FinMap.FinMap}
use Rattle.std.specs.FinMap as finite
use Rattle.ledger_model.{specs.Periods.{Periods, periods_code}, specs.contracts.event.Event.the_row, specs.Event.EventContent, specs.Key.{key_cmp, key_code}, specs.Limits.Bounds, specs.Content.{Content, Stored}, specs.declared.order.Order.Order}
use Rattle.ledger_model.specs.contracts.order.Order as orders

-- A station's ledger: its limits, its settlement periods, the order in which it takes the readings of
-- a transaction, and what it holds.
pub record Ledger : Type 0 where
  pub limits : Bounds
  pub period : Periods
  pub order : Order
  pub content : Content

-- A stored event is kept as the pair of its parts.
abbrev pub stored_code : Coded Stored
stored_code = code_by (EventContent × Bool) (coded× the_row.coded coded_bool) (λ s. (s.event, s.voided)) (λ p. record { event = p.0; voided = p.1 }) (λ _. refl)

-- A content is kept as the pair of its parts.
abbrev pub content_code : Coded Content
content_code = code_by (FinMap key_cmp Stored × ℕ) (coded× (finite.code key_code stored_code) coded_ℕ) (λ c. (c.events, c.changes)) (λ p. record { events = p.0; changes = p.1 }) (λ _. refl)

-- Limits are kept as the tuple of their parts.
abbrev pub bounds_code : Coded Bounds
bounds_code = code_by (ℕ × (ℕ × (ℕ × ℕ))) (coded× coded_ℕ (coded× coded_ℕ (coded× coded_ℕ coded_ℕ)))
    (λ b. (b.transactions, (b.events, (b.readings, b.changes))))
    (λ p. record { transactions = p.0; events = p.1.0; readings = p.1.1.0; changes = p.1.1.1 }) (λ _. refl)

-- A ledger is kept as the tuple of its parts.
abbrev pub ledger_code : Coded Ledger
ledger_code = code_by (Bounds × (Periods × (Order × Content)))
    (coded× bounds_code (coded× periods_code (coded× orders.the_row.coded content_code)))
    (λ l. (l.limits, (l.period, (l.order, l.content))))
    (λ p. record { limits = p.0; period = p.1.0; order = p.1.1.0; content = p.1.1.1 }) (λ _. refl)

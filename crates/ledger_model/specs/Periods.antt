-- The settlement periods of a site.
use Rattle.std.{specs.Prelude.{ℕ, refl}, specs.Coded.{Coded, code_by, coded×, coded_ℕ}}
use Rattle.ledger_model.specs.contracts.settle.Settle as settles
use Rattle.ledger_model.specs.declared.settle.Settle.{Settle}

-- The length of each in seconds, and the rule by which differences count in them.
pub record Periods : Type 0 where
  pub length : ℕ
  pub rule : Settle

-- Periods are kept as the pair of their parts.
abbrev pub periods_code : Coded Periods
periods_code = code_by (ℕ × Settle) (coded× coded_ℕ settles.the_row.coded) (λ p. (p.length, p.rule)) (λ p. record { length = p.0; rule = p.1 }) (λ _. refl)

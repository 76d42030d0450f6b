-- The moments of a session's clock.
use Rattle.std.specs.Prelude.{◌≡◌, ℕ, Option, unwrap_or}
use Rattle.ledger_model.specs.Moment.{first_moment}

-- The clock was read once: the moment is the one that it gave, or the first of all if it gave none.
pub record IsPresent {C : Type 0} (reads : C → Option ℕ → C → Type 0) (before : C) (moment : ℕ) (after : C) : Type 0 where
  pub given : Option ℕ
  pub gave : reads before given after
  pub is : moment ≡ unwrap_or given first_moment

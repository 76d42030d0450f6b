use Rattle.std.specs.Prelude.{ℕ, List}
use Rattle.ledger_model.{specs.Periods.Periods, specs.declared.figures.Figures.Figures, specs.declared.order.Order.Order, specs.Board.{Board, Flowed}}

-- A site's board under the site's name: its settlement periods, the order of its readings, its
-- figures, its periods with their energies, and its stations' boards by name.
pub record NamedBoard : Type 0 where
  pub name : List ℕ
  pub period : Periods
  pub order : Order
  pub figures : Figures
  pub quarters : List Flowed
  pub stations : List (List ℕ × Board)

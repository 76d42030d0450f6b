-- The four sums of energies of both directions.
use Rattle.std.{proofs.Common.{◌≡◌, ℕ, ◌+◌, ◌-◌, List, refl, arith}, specs.List.sum_by}
use Rattle.ledger_model.{specs.Board.Flowed, specs.ByDirection.{minus_flows, no_flows, plus_flows}, specs.declared.by_direction.ByDirection.ByDirection}
use Rattle.energy_flow.specs.Flow.{Energy}
use Rattle.quarter_table.specs.Pairs.{total}

-- One of them: it adds up and is taken off by itself.
pub record Part : Type 0 where
  pub measure : ByDirection Energy → ℕ
  pub plus_of : (a b : ByDirection Energy) → measure (plus_flows a b) ≡ measure a + measure b
  pub minus_of : (a b : ByDirection Energy) → measure (minus_flows a b) ≡ measure a - measure b
  pub total_of : (fs : List Flowed) → measure (total fs) ≡ sum_by (λ f. measure f.1) fs

abbrev up : Part
up = record { measure = λ f. f.import.up; plus_of = λ a b. refl; minus_of = λ a b. refl; total_of = λ fs. refl }

abbrev down : Part
down = record { measure = λ f. f.import.down; plus_of = λ a b. refl; minus_of = λ a b. refl; total_of = λ fs. refl }

abbrev export_up : Part
export_up = record { measure = λ f. f.export.up; plus_of = λ a b. refl; minus_of = λ a b. refl; total_of = λ fs. refl }

abbrev export_down : Part
export_down = record { measure = λ f. f.export.down; plus_of = λ a b. refl; minus_of = λ a b. refl; total_of = λ fs. refl }

-- Energies that agree in each of them are the same.
pub same_flows : (a b : ByDirection Energy) → ((p : Part) → p.measure a ≡ p.measure b) → a ≡ b
same_flows a b each =
    let up_is : a.import.up ≡ b.import.up = each up in
    let down_is : a.import.down ≡ b.import.down = each down in
    let export_up_is : a.export.up ≡ b.export.up = each export_up in
    let export_down_is : a.export.down ≡ b.export.down = each export_down in
    λ i. record { import = record { up = up_is i; down = down_is i }; export = record { up = export_up_is i; down = export_down_is i } }

-- Energies added to none are the same.
pub plus_none : (e : ByDirection Energy) → plus_flows no_flows e ≡ e
plus_none e =
    let up_is : 0 + e.import.up ≡ e.import.up = omega arith in
    let down_is : 0 + e.import.down ≡ e.import.down = omega arith in
    let export_up_is : 0 + e.export.up ≡ e.export.up = omega arith in
    let export_down_is : 0 + e.export.down ≡ e.export.down = omega arith in
    λ i. record { import = record { up = up_is i; down = down_is i }; export = record { up = export_up_is i; down = export_down_is i } }

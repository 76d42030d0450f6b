use Rattle.std.specs.Prelude.{ℕ, ◌+◌, ◌*◌, ◌^◌, ◌≤◌, List, [], ◌∷◌, slice_index}
use Rattle.ledger_model.{specs.declared.figures.Figures.Figures, specs.Limits.Bounds, specs.Ranges.{greatest_reading, sequence_end}}

-- The figures in the order of a board's line.
abbrev pub figure_list : Figures → List ℕ
figure_list f = f.events ∷ f.voided ∷ f.transactions ∷ f.complete ∷ f.missing ∷ f.up ∷ f.down ∷ f.export_up ∷ f.export_down ∷ []

-- The figures of a list in that order; those behind its end are 0.
abbrev pub figures_from : List ℕ → Figures
figures_from ns = record {
  events = slice_index ns 0;
  voided = slice_index ns 1;
  transactions = slice_index ns 2;
  complete = slice_index ns 3;
  missing = slice_index ns 4;
  up = slice_index ns 5;
  down = slice_index ns 6;
  export_up = slice_index ns 7;
  export_down = slice_index ns 8;
}

-- The figure at a place of that list; 0 behind its end.
abbrev pub figure_at : ℕ → Figures → ℕ
figure_at k f = slice_index (figure_list f) k

-- The figures of a station without events.
abbrev pub no_figures : Figures
no_figures = figures_from []

-- The sum of two figures at one place does not fit in 64 bits.
pub record Overflow (a b : Figures) : Type 0 where
  pub place : ℕ
  pub exceeds : 2 ^ 64 ≤ figure_at place a + figure_at place b

-- Figures that a station of these limits can have.
pub record AreWithin (limits : Bounds) (f : Figures) : Type 0 where
  pub events : f.events + f.voided ≤ limits.events
  pub transactions : f.transactions ≤ limits.transactions
  pub complete : f.complete ≤ limits.transactions
  pub missing : f.missing ≤ sequence_end * limits.transactions
  pub up : f.up ≤ greatest_reading * limits.readings
  pub down : f.down ≤ greatest_reading * limits.readings
  pub export_up : f.export_up ≤ greatest_reading * limits.readings
  pub export_down : f.export_down ≤ greatest_reading * limits.readings

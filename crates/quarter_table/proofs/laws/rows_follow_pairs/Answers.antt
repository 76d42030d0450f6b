use Rattle.std.proofs.Common.{refl}
use Rattle.quarter_table.proofs.Made.{made_added, made_removed, made_alike}
use Rattle.quarter_table.proofs.laws.rows_follow_pairs.Goals as goal

pub returns : goal.returns
returns c = record {
  empty = refl;
  added = λ front f back. made_added front f.0 f.1 back;
  removed = λ front f back. made_removed front f.0 f.1 back;
  alike = made_alike;
}

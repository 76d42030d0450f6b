use Rattle.std.proofs.Common.{◌≡◌, ◌≤◌, ◌-◌, ◌*◌, ◌++◌, ℕ}
use Rattle.energy_flow.specs.Flow.{CanMinus, difference_of}
use Rattle.ledger_model.specs.Parts.{shares, shares_from}
use Rattle.quarter_table.{specs.Shares.come_by, proofs.Coming.level_by}
use Rattle.quarter_table.proofs.shares.Change.put_shares.Given as goal

-- the shares that are left come behind those that are listed, from the level that what has come leads to
abbrev pub invariant-loop-number : goal.invariant-loop-number
invariant-loop-number l = record {
  order : l.first ≤ l.last;
  whole : CanMinus (difference_of l.self.earlier l.self.later) l.come;
  later : (second : ℕ) → l.number * l.length ≤ second → CanMinus (come_by l.self second) l.come;
  left : l.parts.items ++ shares_from l.length l.self l.number (level_by l.self l.come) (l.last - l.number) ≡ l.fn.parts.items ++ shares l.length l.self;
}

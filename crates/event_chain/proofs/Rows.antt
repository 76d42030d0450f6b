-- The slots of transactions.
use Rattle.std.{proofs.Common.{◌≡◌, ℕ, ◌<◌, ◌≤◌, List, Option, sym, ◌∙◌, arith}, specs.Option.ForSome}
use Rattle.event_chain.{specs.declared.row.TableRow.TableRow, specs.Table.{TxRow, AreBelow, row_of}}

-- A transaction's slot has one above it.
pub row_below : (rows : List TxRow) (n : ℕ) (tx : List ℕ) (o : Option TableRow) → AreBelow n rows → n ≤ 4294967295 → o ≡ row_of tx rows → ForSome o (λ r. r.slot < 4294967295)
row_below rows n tx o below few is = λ row at. let lt = below tx row (sym is ∙ at) in omega arith

-- What is counted of a transaction, known or not.
use Rattle.std.{proofs.lemmas.Grind.common_steps, proofs.Common.{arith, ◌≡◌, ℕ, List, Option, length}, specs.List.count_by}
use Rattle.ledger_model.{specs.Content.live_of, specs.Complete.kinds_of}
use Rattle.event_store.specs.Slots.{Held}
use Rattle.event_chain.{specs.declared.row.TableRow.TableRow, specs.Table.{TxRow, row_of}, specs.Flat.{EventPlace, flat}, specs.Kept.{is_end, AreFigured}, specs.Edits.counts_under, proofs.Figures.{none_flat, live_zero, end_zero}, proofs.Lives.{live_length, ends_length}}

module _ (rows : List TxRow) (es : List EventPlace) (slots : List (Option Held)) (figured : AreFigured rows (flat rows es slots)) (tx : List ℕ) where
  -- The live events are as many as the table counts.
  pub live_counted : (o : Option TableRow) → o ≡ row_of tx rows → (counts_under o).0 ≡ length (live_of tx (flat rows es slots))
  live_counted o is = grind (arith, common_steps, none_flat, live_zero, live_length)

  -- So are those that are Started or Ended.
  pub ends_counted : (o : Option TableRow) → o ≡ row_of tx rows → (counts_under o).1 ≡ count_by is_end (kinds_of tx (flat rows es slots))
  ends_counted o is = grind (arith, common_steps, none_flat, end_zero, ends_length)

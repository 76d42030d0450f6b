-- Rows of transactions, after one was put in, written or taken out.
use Rattle.std.{proofs.lemmas.Grind.common_steps, proofs.Common.{arith, ◌≡◌, ℕ, cond, List, Some, refl, ap, ◌∙◌}}
use Rattle.transaction_map.proofs.Found.{found_put, found_out}
use Rattle.event_chain.{specs.declared.row.TableRow.TableRow, specs.Table.{TxRow, row_of, with_row, without_row}, specs.Flat.EventPlace, specs.Kept.{IsBare, IsNamed, IsEntered, IsLeft}, proofs.Decided.{id_test, not_so}}

-- The row of the transaction that was put in.
pub row_here : (tx : List ℕ) (r : TableRow) (rows : List TxRow) → row_of tx (with_row tx r rows) ≡ Some r
row_here tx r rows = found_put tx tx r rows ∙ ap (λ b. cond b (Some r) (row_of tx rows)) ((id_test tx tx).1 refl)

-- The row of another.
pub row_other : (q tx : List ℕ) (r : TableRow) (rows : List TxRow) → (q ≡ tx → ⊥) → row_of q (with_row tx r rows) ≡ row_of q rows
row_other q tx r rows other = found_put q tx r rows ∙ ap (λ b. cond b (Some r) (row_of q rows)) (not_so _ (id_test q tx) other)

-- A transaction that was taken out, as no place of it is left.
pub left_out : (rows new : List TxRow) (left : List EventPlace) (tx : List ℕ) (row : TableRow) → new ≡ without_row tx rows
    → row_of tx rows ≡ Some row → IsBare left row.slot → IsLeft rows new left tx row
left_out rows new left tx row is was bare = grind (arith, common_steps, found_out, not_so, id_test)

-- A transaction that was entered, and its row written.
pub named_after : (rows mid new : List TxRow) (tx : List ℕ) (row after : TableRow) → IsEntered rows mid tx row → new ≡ with_row tx after mid → after.slot ≡ row.slot → IsNamed rows new tx row after
named_after rows mid new tx row after entered is same = grind (arith, common_steps, row_here, row_other)

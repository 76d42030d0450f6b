use Rattle.std.{proofs.Common.{◌<◌, length, sym, ◌∙◌, arith}, proofs.lemmas.Bool.Decides.nat_tests}
use Rattle.ledger_model.proofs.Ids.{IsFoldedId-from_parts}
use Rattle.ledger_model.proofs.tx_id.TxId.new.Goals as goal

pub invariant_of-result : goal.invariant_of-result
invariant_of-result c =
    let text = c.as_bytes-bytes.result.now in
    let e = c.is_empty.ensures in
    let f = c.if-is_empty.false in
    let some : 0 < length text = grind (arith, nat_tests) in
    rw c.folded_text.ensures (IsFoldedId-from_parts text some c.if-bytes-gt-MAX_TX_ID.false (sym c.are_visible.ensures ∙ c.if-not-are_visible.false))

use Rattle.std.{proofs.Common.rules, proofs.lemmas.Fn.always_returns_same}
use Rattle.transaction_map.{specs.Map.id_cmp, proofs.Places.searched}
use Rattle.transaction_map.proofs.map.place.Goals as goal

-- the closure compares a row's id, and the rows rise
pub returns : goal.returns
returns g c =
    let facts = c.binary_search_by.ensures in
    let by_key = facts.position (λ e. id_cmp e.0 c.args.tx.now) (always_returns_same _ _ _ (λ a r h called. (search rules, search rules))) in
    searched c.args.rows.now c.args.tx.now _ c.requires facts.bound by_key

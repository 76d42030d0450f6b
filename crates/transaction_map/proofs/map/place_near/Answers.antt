use Rattle.std.proofs.Common.{sym, ap, ◌∙◌}
use Rattle.transaction_map.{proofs.Places.at_from_found, proofs.Rising.tied_ids}
use Rattle.transaction_map.proofs.map.place_near.Goals as goal

pub returns-then-is_of-clause-at : goal.returns-then-is_of-clause-at
returns-then-is_of-clause-at g c =
    at_from_found _ _ _ c.index-rows-near.result c.requires c.if-near-rows.true (tied_ids _ _ (ap (λ r. r.0) (sym c.index-rows-near.is) ∙ c.is_of.ensures.0 c.if-is_of.true))

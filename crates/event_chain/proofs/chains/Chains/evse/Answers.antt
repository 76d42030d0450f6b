use Rattle.std.proofs.Common.{subst, sym, ap, ◌∙◌}
use Rattle.ledger_model.specs.Evse.{evse_of}
use Rattle.event_chain.{specs.Edits.{IsStored, first_under, evse_at}, proofs.Facts.all_seen, proofs.Lives.evse_number, proofs.Members.first_held}
use Rattle.event_chain.proofs.chains.Chains.evse.Goals as goal

pub evse_at-requires : goal.evse_at-requires
evse_at-requires c = subst (IsStored c.self.inside.store.slots) (sym c.first_naming.ensures) (first_held c.get.result c.self.invariant.keyed c.self.invariant.indexed.names)

pub returns : goal.returns
returns c =
    let m = c.self.inside in let k = c.self.invariant in
    c.evse_at.ensures ∙ ap (evse_at m.store.slots) (c.first_naming.ensures ∙ ap (first_under m.places.naming.entries) c.get.ensures.value)
    ∙ sym (evse_number k.keyed k.indexed.names c.args.tx.now) ∙ ap (evse_of c.args.tx.now) (all_seen k c.self.view_is)

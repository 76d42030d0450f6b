use Rattle.std.proofs.Common.{option_map, sym, ap, ◌∙◌}
use Rattle.ledger_model.specs.Gaps.{numbers_of}
use Rattle.event_chain.{specs.declared.row.TableRow.TableRow, specs.Walk.numbers_at, proofs.Facts.all_seen, proofs.Lives.live_numbers, proofs.Used.live_under}
use Rattle.event_chain.proofs.chains.Chains.walk.Goals as goal

pub over-requires : goal.over-requires
over-requires c = live_under c.self.invariant.keyed c.self.invariant.indexed.lives

pub over-requires-in-None : goal.over-requires-in-None
over-requires-in-None c = live_under c.self.invariant.keyed c.self.invariant.indexed.lives

pub returns-in-Some : goal.returns-in-Some
returns-in-Some c =
    c.over.ensures ∙ ap (λ o. numbers_at c.self.inside.places.live.entries (option_map (λ (r : TableRow). r.slot) o)) c.in-Some.ensures.value
    ∙ sym (live_numbers c.self.invariant.keyed c.args.tx.now c.self.invariant.indexed.lives) ∙ ap (numbers_of c.args.tx.now) (all_seen c.self.invariant c.self.view_is)

pub returns-in-None : goal.returns-in-None
returns-in-None c =
    c.over-in-None.ensures ∙ ap (λ o. numbers_at c.self.inside.places.live.entries (option_map (λ (r : TableRow). r.slot) o)) c.in-None.ensures.value
    ∙ sym (live_numbers c.self.invariant.keyed c.args.tx.now c.self.invariant.indexed.lives) ∙ ap (numbers_of c.args.tx.now) (all_seen c.self.invariant c.self.view_is)

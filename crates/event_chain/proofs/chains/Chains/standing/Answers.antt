use Rattle.std.proofs.Common.{ℕ, option_map, sym, ap, ◌∙◌, subst}
use Rattle.event_chain.{specs.Edits.{IsStored, first_under, last_under, kind_in, evse_at}, specs.Kept.IsTxStanding, specs.Walk.number_in, proofs.Counts.{live_counted, ends_counted}, proofs.Facts.all_seen, proofs.Lives.{first_live, last_live, evse_number}, proofs.Members.{first_held, last_held}, proofs.Rows.row_below}
use Rattle.event_chain.proofs.chains.Chains.standing.Goals as goal

pub last_live-last-requires : goal.last_live-last-requires
last_live-last-requires c =
    row_below c.self.inside.table.rows c.self.inside.table.capacity c.args.tx.now c.get-row.result c.get-row.ensures.slotted.below c.get-row.ensures.slotted.few c.get-row.ensures.value

pub kind_at-first_kind-requires : goal.kind_at-first_kind-requires
kind_at-first_kind-requires c = subst (IsStored c.self.inside.store.slots) (sym c.first_live-first.ensures) (first_held c.get-row.result c.self.invariant.keyed c.self.invariant.indexed.lives)

pub kind_at-last_kind-requires : goal.kind_at-last_kind-requires
kind_at-last_kind-requires c = subst (IsStored c.self.inside.store.slots) (sym c.last_live-last.ensures) (last_held c.get-row.result c.self.invariant.keyed c.self.invariant.indexed.lives)

pub evse_at-requires : goal.evse_at-requires
evse_at-requires c = subst (IsStored c.self.inside.store.slots) (sym c.first_naming.ensures) (first_held c.get-row.result c.self.invariant.keyed c.self.invariant.indexed.names)

pub returns : goal.returns
returns c =
    let m = c.self.inside in let k = c.self.invariant in let tx = c.args.tx.now in let row = c.get-row.ensures.value in
    let first = c.first_live-first.ensures ∙ ap (first_under m.places.live.entries) row in let last = c.last_live-last.ensures ∙ ap (last_under m.places.live.entries) row in
    subst (λ es. IsTxStanding tx es
    (record {
      first = c.number_of.result;
      last = c.number_of-2.result;
      first_kind = c.kind_at-first_kind.result;
      last_kind = c.kind_at-last_kind.result;
      live = c.counts_in-counts.result.0;
      ends = c.counts_in-counts.result.1;
      evse = c.evse_at.result;
    }))
    (all_seen k c.self.view_is) (record {
      first = c.number_of.ensures ∙ ap (option_map number_in) first ∙ sym (first_live k.keyed tx k.indexed.lives (λ e. e.0.seq));
      last = c.number_of-2.ensures ∙ ap (option_map number_in) last ∙ sym (last_live k.keyed tx k.indexed.lives (λ e. e.0.seq));
      first_kind = c.kind_at-first_kind.ensures ∙ ap (option_map (kind_in m.store.slots)) first ∙ sym (first_live k.keyed tx k.indexed.lives (λ e. e.1.event.kind));
      last_kind = c.kind_at-last_kind.ensures ∙ ap (option_map (kind_in m.store.slots)) last ∙ sym (last_live k.keyed tx k.indexed.lives (λ e. e.1.event.kind));
      live = ap (λ (p : ℕ × ℕ). p.0) c.counts_in-counts.ensures ∙ live_counted m.table.rows m.places.stored.entries m.store.slots k.figured tx c.get-row.result row;
      ends = ap (λ (p : ℕ × ℕ). p.1) c.counts_in-counts.ensures ∙ ends_counted m.table.rows m.places.stored.entries m.store.slots k.figured tx c.get-row.result row;
      evse = c.evse_at.ensures ∙ ap (evse_at m.store.slots) (c.first_naming.ensures ∙ ap (first_under m.places.naming.entries) row) ∙ sym (evse_number k.keyed k.indexed.names tx);
    })

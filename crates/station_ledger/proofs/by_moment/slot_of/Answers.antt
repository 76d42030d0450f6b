use Rattle.std.{proofs.Common.{◌≡◌, cond, None, Some, length, refl, sym, ap, ◌∙◌}, specs.Cmp.eq_by_cmp_equiv, specs.FinMap.find}
use Rattle.event_chain.specs.Table.{row_of}
use Rattle.transaction_map.{specs.Map.id_cmp, proofs.Found.{found_put, length_put}, proofs.Rising.id_total}
use Rattle.station_ledger.proofs.MomentEvents.{not_tied}
use Rattle.station_ledger.proofs.by_moment.slot_of.Goals as goal

pub returns-in-None-clause-given : goal.returns-in-None-clause-given
returns-in-None-clause-given c =
    let tx = c.args.tx.now in let rows = c.args.slots.now.rows in let row = c.add.result in
    let absent : row_of tx rows ≡ None = sym c.in-None.ensures.value in
    record {
      row = row;
      there = ap (row_of tx) c.add.ensures.rows ∙ found_put tx tx row rows ∙ ap (λ b. cond b (Some row) (find id_cmp tx rows)) ((eq_by_cmp_equiv id_total).refl tx);
      is = refl;
      others = λ u apart. ap (row_of u) c.add.ensures.rows ∙ found_put u tx row rows ∙ ap (λ b. cond b (Some row) (find id_cmp u rows)) (not_tied u tx apart);
      kept = λ was there. absurd (let f : None ≡ Some was = sym absent ∙ there in cc);
      fresh = λ _. c.add.ensures.fresh;
      number = ap length c.add.ensures.rows ∙ length_put tx row rows c.in-None.ensures.slotted.rising;
      capacity = c.add.ensures.capacity;
    }

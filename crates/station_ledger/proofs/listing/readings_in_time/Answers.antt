use Rattle.std.proofs.Common.{◌++◌, map, sym, ap, ◌∙◌}
use Rattle.reading_index.{specs.Ranks.owner, specs.Timed.{owned, placed_at}}
use Rattle.station_ledger.{proofs.MomentLists.placed-timed, proofs.Sharing.none_in_time, proofs.listing.readings_in_time.Goals.{in-Some+in_ok-list, in_default}}
use Rattle.station_ledger.proofs.listing.readings_in_time.Goals as goal

-- those under the slot of the transaction; without a slot it has no live event
pub returns : goal.returns
returns c order limits es allowed timed =
    let d = c.args.direction in let tx = c.args.tx.now in
    elim c.match-get.branch [
      | in-Some+in_ok-list w ↦
          let slot = w.in-Some.row.slot in
          ap (λ v. v.items) w.listed-is ∙ w.in_ok-list.ensures ∙ ap (λ rs. rs ++ map placed_at (owned (owner slot d) c.args.by_moment.now.index.entries)) c.new-listed.ensures.items
          ∙ ap (map placed_at) (timed.held d tx w.in-Some.row (sym c.get.ensures.value ∙ w.in-Some.is))
          ∙ placed-timed slot d tx es allowed.in_range (allowed.rising tx)
      | in_default w ↦ ap (λ v. v.items) w.listed-is ∙ c.new-listed.ensures.items ∙ sym (none_in_time d tx limits es c.args.by_moment.now.slots timed.slots (sym c.get.ensures.value ∙ w.in_default.is))
    ]

use Rattle.std.{proofs.Common.{◌≡◌, length, subst, arith}, specs.Prelude.vec_len}
use Rattle.site_desk.{specs.Roster.AreNewPlaces, proofs.Ends.new_desk}
use Rattle.site_desk.proofs.desk.Desk.over.Goals as goal

pub invariant_of-result : goal.invariant_of-result
invariant_of-result g c =
    let plan = c.args.plan.now in
    let cells : vec_len c.lock_up.new.locked ≡ length plan.stations.items = omega (arith, c.lock_up.ensures.all, c.in_ok-cells.ensures.len, c.requires.cells) in
    let books : vec_len c.lock_up-2.new.locked ≡ length plan.sites.items = omega (arith, c.lock_up-2.ensures.all, c.in_ok-books.ensures.len, c.requires.books) in
    let places = subst (λ xs. AreNewPlaces xs plan.stations.items c.in_ok-places.places.items) c.as_slice.ensures.value
    (subst (λ ys. AreNewPlaces c.as_slice.result.now ys c.in_ok-places.places.items) c.as_slice-2.ensures.value c.in_ok-places.ensures) in
    new_desk plan.sites.items plan.stations.items c.in_ok-places.places.items _ _ c.requires.faultless places
    (omega (arith, c.len.ensures.value, c.len.ensures.fits)) (omega (arith, c.len-2.ensures.value, c.len-2.ensures.fits)) cells books

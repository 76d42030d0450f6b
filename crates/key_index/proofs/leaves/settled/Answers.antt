use Rattle.std.proofs.Common.{◌<◌, ◌≤◌, [], length, get_or, subst, arith}
use Rattle.key_index.{proofs.Belonging.read_leaf, proofs.Placing.place_fits}
use Rattle.key_index.proofs.leaves.settled.Goals as goal

pub returns-then-fits : goal.returns-then-fits
returns-then-fits g c =
    let ls = c.args.leaves.now.items in let place = c.args.place in
    let leaf : place.leaf < length ls = omega (arith, c.if-place-len.true, c.len.ensures) in
    let here = read_leaf ls place.leaf c.index.result.now leaf c.index.ensures in
    let entry : place.entry ≤ length (get_or ls place.leaf []) = subst (λ l. place.entry ≤ length l) here (omega (arith, c.if-place-len-2.true, c.len-then-place-len.ensures.len)) in
    place_fits (g.K.Ranked.rank c.args.key) ls place c.requires.2 leaf entry (c.fits.ensures c.if-fits.true)

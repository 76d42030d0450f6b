use Rattle.std.{proofs.Common.{sym, ◌∙◌, get_or, arith}, proofs.lemmas.Option.slice_get-get_or, proofs.lemmas.Slice.Eq.bytes_eq-Decides}
use Rattle.site_desk.proofs.roster.number_of.Goals as goal

pub returns-then-eq-clause-named : goal.returns-then-eq-clause-named
returns-then-eq-clause-named c =
    let place = get_or c.args.places.now c.loop-k.k c.index-places-k.result in
    record {
      place = place;
      there = slice_get-get_or c.args.places.now c.loop-k.k c.index-places-k.result (omega arith);
      same = sym ((bytes_eq-Decides c.args.name.now place.name).0 (sym c.eq.ensures ∙ c.if-eq.true));
    }

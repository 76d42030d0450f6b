use Rattle.std.proofs.Common.{◌≡◌, ◌∷◌, ◌++◌, take, drop, sym, ap, ◌∙◌}
use Rattle.reading_index.specs.Timed.{from_on, in_front}
use Rattle.station_ledger.proofs.MomentRanks.{put-between}
use Rattle.station_ledger.proofs.by_moment.enter.Goals as goal

pub returns-clause-items : goal.returns-clause-items
returns-clause-items c =
    let x = c.args.entry in let ts = c.args.listed.now.items in let n = c.place_of-at.result in
    let same = c.deref.ensures.value in let found = c.place_of-at.ensures in
    let front : take n ts ≡ in_front x.0 ts = ap (take n) (sym same) ∙ found.front ∙ ap (in_front x.0) same in
    let rest : drop n ts ≡ from_on x.0 ts = ap (drop n) (sym same) ∙ found.rest ∙ ap (from_on x.0) same in
    c.in-Ok.ensures.items ∙ (λ i. front i ++ x ∷ rest i) ∙ sym (put-between x ts c.requires.ranked)

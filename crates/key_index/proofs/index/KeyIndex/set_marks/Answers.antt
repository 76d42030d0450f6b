use Rattle.std.proofs.Common.{◌≡◌, ◌++◌, [], is_some, length, get_or, subst, sym, ap, ◌∙◌, arith, length-set, length-append}
use Rattle.key_index.{specs.Entries.{below, from, filed_at, AreRising}, specs.Leaves.{all_of, AreFilled}, specs.Marks.mark_at, proofs.Orders.cut_whole, proofs.Edits.{filled_round, filled_set}, proofs.Belonging.rising_leaf, proofs.Cuts.{some_left, place_within}, proofs.Counting.length-mark_at, proofs.Placing.{mark_all, rising_mark}}
use Rattle.key_index.proofs.index.KeyIndex.set_marks.Goals as goal

pub mark-requires : goal.mark-requires
mark-requires g c =
    let ls = c.self.inside.leaves.items in let at = c.leaf_of-at.result in let b = c.leaf_of-at.ensures in let key = g.K.Ranked.rank c.args.key in let leaf = get_or ls at [] in
    let some = some_left key ls at b (ap (λ i. is_some (filed_at key (from key i.entries))) c.self.view_is ∙ c.requires) in
    (b.within, rising_leaf ls at b.within c.self.invariant.kept.rising, place_within key leaf some)

pub returns-clause-entries : goal.returns-clause-entries
returns-clause-entries g c =
    let ls = c.self.inside.leaves.items in
    let at = c.leaf_of-at.result in
    let b = c.leaf_of-at.ensures in
    let key = g.K.Ranked.rank c.args.key in
    let leaf = get_or ls at [] in
    let marks = c.args.marks in
    let some = some_left key ls at b (ap (λ i. is_some (filed_at key (from key i.entries))) c.self.view_is ∙ c.requires) in
    ap all_of c.mark.ensures.items ∙ mark_all marks key ls at b some ∙ ap (λ i. below key i.entries ++ mark_at marks 0 (from key i.entries)) c.self.view_is

pub invariant_of-self : goal.invariant_of-self
invariant_of-self g c =
    let was = c.self.invariant in
    let ls = c.self.inside.leaves.items in
    let at = c.leaf_of-at.result in
    let b = c.leaf_of-at.ensures in
    let key = g.K.Ranked.rank c.args.key in
    let leaf = get_or ls at [] in
    let marks = c.args.marks in
    let es = all_of ls in let new = mark_at marks (length (below key leaf)) leaf in
    let some = some_left key ls at b (ap (λ i. is_some (filed_at key (from key i.entries))) c.self.view_is ∙ c.requires) in
    let all : all_of c.mark.new.leaves.items ≡ below key es ++ mark_at marks 0 (from key es) = ap all_of c.mark.ensures.items ∙ mark_all marks key ls at b some in
    let long : length (all_of c.mark.new.leaves.items) ≡ length es =
    omega (
      arith,
      ap length all,
      length-append (below key es) (mark_at marks 0 (from key es)),
      length-mark_at marks (from key es) 0,
      length-append (below key es) (from key es),
      ap length (cut_whole key es),
    ) in
    let as_many : length c.mark.new.leaves.items ≡ length ls = ap length c.mark.ensures.items ∙ length-set ls at new in let round = filled_round ls at b.within was.kept.filled in
    record {
      kept = record {
        filled = subst AreFilled (sym c.mark.ensures.items)
            (filled_set ls at new b.within round.0 round.1 (omega (arith, length-mark_at marks leaf (length (below key leaf)), place_within key leaf some)));
        rising = subst AreRising (sym all) (rising_mark marks key es was.kept.rising);
        empty = was.kept.empty;
      };
      room = omega (arith, was.room, as_many, c.mark.ensures.capacity, c.mark.new.leaves.ok.0, c.self.inside.leaves.ok.0);
      total = omega (arith, was.total, as_many);
      count = omega (arith, was.count, long);
      few = omega (arith, was.few);
    }

pub returns-clause-rising : goal.returns-clause-rising
returns-clause-rising g c = (invariant_of-self g c).kept.rising

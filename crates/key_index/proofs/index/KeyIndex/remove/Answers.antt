use Rattle.std.{proofs.Common.{◌≡◌, ◌<◌, ◌++◌, suc, [], is_some, length, take, drop, get_or, subst, sym, ap, ◌∙◌, arith, length-set, length-append}, specs.List.remove}
use Rattle.key_index.{specs.Entries.{below, from, filed_at, AreRising}, specs.Leaves.{all_of, AreFilled}, proofs.Edits.filled_round, proofs.Belonging.rising_leaf, proofs.Cuts.{from_at, out_all, some_left, place_within, set_round, rising_out, length_out}}
use Rattle.key_index.proofs.index.KeyIndex.remove.Goals as goal

pub take_out-requires : goal.take_out-requires
take_out-requires g c =
    let ls = c.self.inside.leaves.items in let at = c.leaf_of-at.result in let b = c.leaf_of-at.ensures in let key = g.K.Ranked.rank c.args.key in let leaf = get_or ls at [] in
    let some = some_left key ls at b (ap (λ i. is_some (filed_at key (from key i.entries))) c.self.view_is ∙ c.requires) in
    (b.within, rising_leaf ls at b.within c.self.invariant.kept.rising, place_within key leaf some)

pub release_empty-requires-clause-filled : goal.release_empty-requires-clause-filled
release_empty-requires-clause-filled g c =
    let ls = c.self.inside.leaves.items in
    let at = c.leaf_of-at.result in
    let b = c.leaf_of-at.ensures in
    let leaf = get_or ls at [] in
    let less = remove leaf (length (below (g.K.Ranked.rank c.args.key) leaf)) in
    let round = filled_round ls at b.within c.self.invariant.kept.filled in let kept = set_round ls at less in
    (subst AreFilled (sym (ap (take at) c.take_out.ensures.items ∙ kept.0)) round.0, subst AreFilled (sym (ap (drop (suc at)) c.take_out.ensures.items ∙ kept.1)) round.1)

pub returns-clause-entries : goal.returns-clause-entries
returns-clause-entries g c =
    let ls = c.self.inside.leaves.items in let at = c.leaf_of-at.result in let b = c.leaf_of-at.ensures in let key = g.K.Ranked.rank c.args.key in let leaf = get_or ls at [] in
    let some = some_left key ls at b (ap (λ i. is_some (filed_at key (from key i.entries))) c.self.view_is ∙ c.requires) in
    c.release_empty.ensures.same ∙ ap all_of c.take_out.ensures.items ∙ out_all key ls at b some ∙ ap (λ i. below key i.entries ++ drop 1 (from key i.entries)) c.self.view_is

pub invariant_of-self : goal.invariant_of-self
invariant_of-self g c =
    let was = c.self.invariant in
    let ls = c.self.inside.leaves.items in
    let at = c.leaf_of-at.result in
    let b = c.leaf_of-at.ensures in
    let key = g.K.Ranked.rank c.args.key in
    let leaf = get_or ls at [] in
    let less = remove leaf (length (below key leaf)) in let es = all_of ls in
    let some = some_left key ls at b (ap (λ i. is_some (filed_at key (from key i.entries))) c.self.view_is ∙ c.requires) in
    let found : 0 < length (from key es) = omega (arith, some, ap length (from_at key ls at b), length-append (from key leaf) (all_of (drop (suc at) ls))) in
    let all : all_of c.release_empty.new.leaves.items ≡ below key es ++ drop 1 (from key es) = c.release_empty.ensures.same ∙ ap all_of c.take_out.ensures.items ∙ out_all key ls at b some in
    let as_many : length c.take_out.new.leaves.items ≡ length ls = ap length c.take_out.ensures.items ∙ length-set ls at less in
    record {
      kept = record {
        filled = c.release_empty.ensures.filled;
        rising = subst AreRising (sym all) (rising_out key es was.kept.rising);
        empty = c.release_empty.ensures.empty;
      };
      room = omega (
        arith,
        was.room,
        as_many,
        c.release_empty.ensures.total,
        c.release_empty.ensures.capacity,
        c.take_out.ensures.capacity,
        c.release_empty.new.leaves.ok.0,
        c.release_empty.new.spare.ok.0,
        c.self.inside.leaves.ok.0,
        c.self.inside.spare.ok.0,
      );
      total = omega (arith, was.total, as_many, c.release_empty.ensures.total);
      count = omega (arith, was.count, ap length all, length_out key es found);
      few = omega (arith, was.few);
    }

pub returns-clause-rising : goal.returns-clause-rising
returns-clause-rising g c = (invariant_of-self g c).kept.rising

use Rattle.std.{proofs.Common.{◌≡◌, ◌<◌, ◌++◌, ◌∷◌, [], None, length, get_or, subst, sym, ap, ◌∙◌, arith, length-set}, specs.List.insert, proofs.lemmas.List.Edits.length-insert}
use Rattle.key_index.{specs.Entries.{below, from, filed_at, AreRising}, specs.Leaves.{all_of, AreFilled}, proofs.Edits.{filled_round, filled_set}, proofs.Cuts.{rising_put, length_put}, proofs.Placing.put_place}
use Rattle.key_index.proofs.index.KeyIndex.insert.Goals as goal

pub returns-then-len-lt-LEAF_SIZE-clause-entries : goal.returns-then-len-lt-LEAF_SIZE-clause-entries
returns-then-len-lt-LEAF_SIZE-clause-entries g c =
    let ls = c.self.inside.leaves.items in let key = g.K.Ranked.rank c.args.key in let filed = c.args.filed in
    ap all_of c.put_at.ensures.items ∙ put_place key c.new.result ls c.settled-at.result c.settled-at.ensures
    ∙ ap (λ e. below key (all_of ls) ++ e ∷ from key (all_of ls)) c.new.ensures
    ∙ ap (λ i. below key i.entries ++ (key, filed) ∷ from key i.entries) c.self.view_is

pub invariant_of-self : goal.invariant_of-self
invariant_of-self g c =
    let was = c.self.invariant in
    let ls = c.self.inside.leaves.items in
    let key = g.K.Ranked.rank c.args.key in
    let filed = c.args.filed in
    let e = c.new.result in
    let place = c.settled-at.result in
    let is = c.settled-at.ensures in
    let at = place.leaf in let leaf = get_or ls at [] in let more = insert leaf place.entry e in let es = all_of ls in
    let all : all_of c.put_at.new.leaves.items ≡ below key es ++ (key, filed) ∷ from key es =
    ap all_of c.put_at.ensures.items ∙ put_place key e ls place is ∙ ap (λ x. below key es ++ x ∷ from key es) c.new.ensures in
    let absent : filed_at key (from key es) ≡ None = ap (λ i. filed_at key (from key i.entries)) c.self.view_is ∙ c.requires.absent in
    let some : 0 < length more = omega (arith, length-insert leaf place.entry e is.entry) in
    let as_many : length c.put_at.new.leaves.items ≡ length ls = ap length c.put_at.ensures.items ∙ length-set ls at more in let round = filled_round ls at is.leaf was.kept.filled in
    let entries : length es ≡ length c.args.self.now.entries = ap (λ i. length i.entries) c.self.view_is in
    let limit : c.self.inside.capacity ≡ c.args.self.now.capacity = ap (λ i. i.capacity) c.self.view_is in
    record {
      kept = record {
        filled = subst AreFilled (sym c.put_at.ensures.items) (filled_set ls at more is.leaf round.0 round.1 some);
        rising = subst AreRising (sym all) (rising_put key filed es was.kept.rising absent);
        empty = was.kept.empty;
      };
      room = omega (arith, was.room, as_many, c.put_at.ensures.capacity, c.put_at.new.leaves.ok.0, c.self.inside.leaves.ok.0);
      total = omega (arith, was.total, as_many);
      count = omega (arith, was.count, ap length all, length_put key filed es);
      few = omega (arith, was.count, entries, limit, c.requires.room);
    }

pub returns-then-len-lt-LEAF_SIZE-clause-rising : goal.returns-then-len-lt-LEAF_SIZE-clause-rising
returns-then-len-lt-LEAF_SIZE-clause-rising g c = (invariant_of-self g c).kept.rising

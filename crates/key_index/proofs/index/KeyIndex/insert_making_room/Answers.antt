use Rattle.std.{proofs.Common.{◌≡◌, ℕ, ◌<◌, List, ◌++◌, ◌∷◌, [], None, length, get_or, set, subst, sym, ap, ◌∙◌, arith, length-set}, proofs.lemmas.List.Edits.length-insert, specs.List.insert}
use Rattle.key_index.{specs.Entries.{Entry, below, from, filed_at, AreRising}, specs.Leaves.{all_of, AreFilled}, proofs.Orders.below_within, proofs.Edits.filled_set, proofs.Belonging.rising_leaf, proofs.Cuts.{put_all, rising_put, length_put}}
use Rattle.key_index.proofs.index.KeyIndex.insert_making_room.Goals as goal

-- An entry put in, given by its parts.
put_told : {V : Type 0} (new ls : List (List (Entry V))) (at : ℕ) (e f : Entry V)
    → new ≡ set ls at (insert (get_or ls at []) (length (below e.0 (get_or ls at []))) e) → e ≡ f
    → new ≡ set ls at (insert (get_or ls at []) (length (below f.0 (get_or ls at []))) f)
put_told {V} new ls at e f is same = is ∙ ap (λ (x : Entry V). set ls at (insert (get_or ls at []) (length (below x.0 (get_or ls at []))) x)) same

pub put-requires : goal.put-requires
put-requires g c =
    let ready = c.make_room-at.ensures.ready in let ls = c.make_room-at.new.leaves.items in
    (ready.belongs.within, ready.room, rising_leaf ls c.make_room-at.result ready.belongs.within (subst AreRising (sym ready.same) c.reclaim.ensures.kept.rising))

pub returns-clause-entries : goal.returns-clause-entries
returns-clause-entries g c =
    let ready = c.make_room-at.ensures.ready in let ls = c.make_room-at.new.leaves.items in let key = g.K.Ranked.rank c.args.key in let filed = c.args.filed in
    let same : all_of ls ≡ c.args.self.now.entries = ready.same ∙ c.reclaim.ensures.same ∙ ap (λ i. i.entries) c.self.view_is in
    ap all_of (put_told _ _ _ _ _ c.put.ensures.items c.new.ensures) ∙ put_all key filed ls c.make_room-at.result ready.belongs ∙ ap (λ es. below key es ++ (key, filed) ∷ from key es) same

pub invariant_of-self : goal.invariant_of-self
invariant_of-self g c =
    let was = c.self.invariant in
    let room = c.make_room-at in
    let ready = room.ensures.ready in
    let ls = room.new.leaves.items in
    let at = room.result in
    let key = g.K.Ranked.rank c.args.key in
    let filed = c.args.filed in
    let leaf = get_or ls at [] in let more = insert leaf (length (below key leaf)) (key, filed) in let old = c.self.inside.leaves.items in let es = all_of old in
    let same : all_of ls ≡ es = ready.same ∙ c.reclaim.ensures.same in
    let put : c.put.new.leaves.items ≡ set ls at more = put_told _ _ _ _ _ c.put.ensures.items c.new.ensures in
    let all : all_of c.put.new.leaves.items ≡ below key es ++ (key, filed) ∷ from key es =
    ap all_of put ∙ put_all key filed ls at ready.belongs ∙ ap (λ l. below key l ++ (key, filed) ∷ from key l) same in
    let absent : filed_at key (from key es) ≡ None = ap (λ i. filed_at key (from key i.entries)) c.self.view_is ∙ c.requires.absent in
    let some : 0 < length more = omega (arith, length-insert leaf (length (below key leaf)) (key, filed) (below_within key leaf)) in
    let as_many : length c.put.new.leaves.items ≡ length ls = ap length put ∙ length-set ls at more in
    let entries : length es ≡ length c.args.self.now.entries = ap (λ i. length i.entries) c.self.view_is in
    let limit : c.self.inside.capacity ≡ c.args.self.now.capacity = ap (λ i. i.capacity) c.self.view_is in
    record {
      kept = record {
        filled = subst AreFilled (sym put) (filled_set ls at more ready.belongs.within ready.front ready.back some);
        rising = subst AreRising (sym all) (rising_put key filed es was.kept.rising absent);
        empty = room.ensures.empty;
      };
      room = omega (
        arith,
        was.room,
        as_many,
        room.ensures.total,
        room.ensures.capacity,
        c.reclaim.ensures.total,
        c.reclaim.ensures.capacity,
        c.put.ensures.capacity,
        c.put.new.leaves.ok.0,
        room.new.spare.ok.0,
        c.self.inside.leaves.ok.0,
        c.self.inside.spare.ok.0,
      );
      total = omega (arith, was.total, as_many, room.ensures.total, c.reclaim.ensures.total);
      count = omega (arith, was.count, ap length all, length_put key filed es);
      few = omega (arith, was.count, entries, limit, c.requires.room);
    }

pub returns-clause-rising : goal.returns-clause-rising
returns-clause-rising g c = (invariant_of-self g c).kept.rising

use Rattle.std.{proofs.Common.{◌≡◌, ℕ, ◌+◌, ◌<◌, ◌≤◌, List, suc, [], ◌∷◌, ◌++◌, length, take, drop, get_or, set, subst, sym, ap, refl, ◌∙◌, arith, length-set}, proofs.lemmas.Bool.Decides.nat_tests, proofs.lemmas.List.Edits.length-insert, specs.List.insert, specs.Vec.vec_len}
use Rattle.key_index.{specs.Entries.Entry, specs.Leaves.{first_key, IsReady}, proofs.Belonging.{read_leaf, first_is}, proofs.Edits.{filled_round, upper_read, other_half, ready_lower, ready_upper, ready_first}}
use Rattle.key_index.proofs.leaves.make_room.Goals as goal

-- A split given with the next number is one given with the successor.
split_told : {V : Type 0} (old new : List (List (Entry V))) (at i : ℕ) → i ≡ suc at → new ≡ insert (set old at (take 64 (get_or old at []))) i (drop 64 (get_or old at []))
    → new ≡ insert (set old at (take 64 (get_or old at []))) (suc at) (drop 64 (get_or old at []))
split_told old new at i up is = is ∙ ap (λ n. insert (set old at (take 64 (get_or old at []))) n (drop 64 (get_or old at []))) up

-- A split makes one leaf more.
one_more : {V : Type 0} (old new : List (List (Entry V))) (at : ℕ) (lower upper : List (Entry V)) → at < length old → new ≡ insert (set old at lower) (at + 1) upper → length new ≡ length old + 1
one_more old new at lower upper within is =
    ap length is ∙ length-insert (set old at lower) (at + 1) upper (omega (arith, length-set old at lower)) ∙ ap (λ n. n + 1) (length-set old at lower)

-- An empty leaf put where there was none is ready.
ready_alone : {V : Type 0} (old new : List (List (Entry V))) (leaf : List (Entry V)) (key : ℕ) → length old ≡ 0 → leaf ≡ [] → new ≡ old ++ leaf ∷ [] → IsReady old new key 0
ready_alone [] new leaf key none empty is = ready_first new key (is ∙ ap (λ l. l ∷ []) empty)
ready_alone (l ∷ old) new leaf key none empty is = absurd (omega arith)

pub returns-then-is_empty-clause-ready : goal.returns-then-is_empty-clause-ready
returns-then-is_empty-clause-ready g c =
    let ls = c.args.leaves.now in let none : vec_len ls ≡ 0 = grind (arith, nat_tests, c.is_empty.ensures, c.if-is_empty.true) in
    ready_alone ls.items c.push_reserved.new.self.items c.taken.result (g.K.Ranked.rank c.args.key) (omega (arith, none, ls.ok.0)) c.taken.ensures.empty c.push_reserved.ensures.items

pub returns-then-len-lt-LEAF_SIZE-clause-ready : goal.returns-then-len-lt-LEAF_SIZE-clause-ready
returns-then-len-lt-LEAF_SIZE-clause-ready g c =
    let ls = c.args.leaves.now.items in let at = c.leaf_of-at.result in let belongs = c.leaf_of-at.ensures in let round = filled_round ls at belongs.within c.requires.kept.filled in
    let here = read_leaf ls at c.index.result.now belongs.within c.index.ensures in
    record {
      same = refl;
      belongs = belongs;
      room = subst (λ l. length l < 128) here (omega (arith, c.len.ensures.len, c.if-len-lt-LEAF_SIZE.true));
      front = round.0;
      back = round.1;
    }

pub split-requires : goal.split-requires
split-requires g c =
    let ls = c.args.leaves.now in let at = c.leaf_of-at.result in let within = c.leaf_of-at.ensures.within in
    let here = read_leaf ls.items at c.index.result.now within c.index.ensures in
    let full : length (get_or ls.items at []) ≡ 128 = subst (λ l. length l ≡ 128) here (omega (arith, c.len.ensures.len, c.len.ensures.within, c.if-len-lt-LEAF_SIZE.false)) in
    (within, full, c.taken-2.ensures.empty, omega (arith, c.requires.room.0, c.requires.some, c.args.spare.now.ok.0))

pub index-requires-2 : goal.index-requires-2
index-requires-2 g c =
    let long = one_more _ _ c.leaf_of-at.result _ _ c.leaf_of-at.ensures.within c.split.ensures.items in
    omega (arith, long, c.leaf_of-at.ensures.within, c.split.new.leaves.ok.0)

pub entry-requires : goal.entry-requires
entry-requires g c =
    let ls = c.args.leaves.now.items in let new = c.split.new.leaves.items in let at = c.leaf_of-at.result in let belongs = c.leaf_of-at.ensures in
    let here = read_leaf ls at c.index.result.now belongs.within c.index.ensures in let leaf = c.index-2.result.now in
    let full : length (get_or ls at []) ≡ 128 = subst (λ l. length l ≡ 128) here (omega (arith, c.len.ensures.len, c.len.ensures.within, c.if-len-lt-LEAF_SIZE.false)) in
    let is = split_told ls new at (at + 1) (omega arith) c.split.ensures.items in let key = g.K.Ranked.rank c.args.key in
    let read = upper_read ls new key at belongs c.requires.kept.filled c.requires.kept.rising full is (at + 1) leaf (omega arith) c.index-2.ensures in
    subst (λ l. 0 < length l) (sym read) (omega (arith, other_half ls new key at belongs c.requires.kept.filled c.requires.kept.rising full is))

pub returns-then-is_after-clause-ready : goal.returns-then-is_after-clause-ready
returns-then-is_after-clause-ready g c =
    let ls = c.args.leaves.now.items in let new = c.split.new.leaves.items in let at = c.leaf_of-at.result in let belongs = c.leaf_of-at.ensures in
    let here = read_leaf ls at c.index.result.now belongs.within c.index.ensures in let leaf = c.index-2.result.now in
    let full : length (get_or ls at []) ≡ 128 = subst (λ l. length l ≡ 128) here (omega (arith, c.len.ensures.len, c.len.ensures.within, c.if-len-lt-LEAF_SIZE.false)) in
    let is = split_told ls new at (at + 1) (omega arith) c.split.ensures.items in let key = g.K.Ranked.rank c.args.key in let e = c.entry.result in
    let read = upper_read ls new key at belongs c.requires.kept.filled c.requires.kept.rising full is (at + 1) leaf (omega arith) c.index-2.ensures in
    let first = first_is leaf e c.entry.ensures in let great : key < e.0 = grind (arith, nat_tests, c.is_after.ensures, c.if-is_after.true) in
    ready_lower ls new key at belongs c.requires.kept.filled c.requires.kept.rising full is (subst (λ l. key < first_key l) read (omega (arith, first, great)))

pub returns-then-is_after-clause-total : goal.returns-then-is_after-clause-total
returns-then-is_after-clause-total g c =
    let long = one_more _ _ c.leaf_of-at.result _ _ c.leaf_of-at.ensures.within c.split.ensures.items in
    omega (arith, long, c.taken-2.ensures.others.1)

pub returns-clause-ready : goal.returns-clause-ready
returns-clause-ready g c =
    let ls = c.args.leaves.now.items in let new = c.split.new.leaves.items in let at = c.leaf_of-at.result in let belongs = c.leaf_of-at.ensures in
    let here = read_leaf ls at c.index.result.now belongs.within c.index.ensures in let leaf = c.index-2.result.now in
    let full : length (get_or ls at []) ≡ 128 = subst (λ l. length l ≡ 128) here (omega (arith, c.len.ensures.len, c.len.ensures.within, c.if-len-lt-LEAF_SIZE.false)) in
    let is = split_told ls new at (at + 1) (omega arith) c.split.ensures.items in let key = g.K.Ranked.rank c.args.key in let e = c.entry.result in
    let read = upper_read ls new key at belongs c.requires.kept.filled c.requires.kept.rising full is (at + 1) leaf (omega arith) c.index-2.ensures in
    let first = first_is leaf e c.entry.ensures in let small : e.0 ≤ key = grind (arith, nat_tests, c.is_after.ensures, c.if-is_after.false) in
    let up : suc at ≡ at + 1 = omega arith in
    subst (λ n. IsReady ls new key n) up (ready_upper ls new key at belongs c.requires.kept.filled c.requires.kept.rising full is (subst (λ l. first_key l ≤ key) read (omega (arith, first, small))))

pub returns-clause-total : goal.returns-clause-total
returns-clause-total g c =
    let long = one_more _ _ c.leaf_of-at.result _ _ c.leaf_of-at.ensures.within c.split.ensures.items in
    omega (arith, long, c.taken-2.ensures.others.1)

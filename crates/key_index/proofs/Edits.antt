-- The edits of leaves: an entry put in or taken out, a leaf split, two joined, one that is empty left out.
use Rattle.std.{proofs.Common.{◌≡◌, ℕ, zero, suc, ◌+◌, ◌-◌, ◌<◌, ◌≤◌, List, [], ◌∷◌, ◌++◌, length, take, drop, get_or, set, refl, sym, ap, ◌∙◌, subst, arith, append_assoc, length-append, length-set, length-take, length-drop, take-append-drop}, specs.List.{copy_within, insert, remove}, proofs.lemmas.List.set-get_or, proofs.lemmas.List.Edits.length-insert}
use Rattle.key_index.{specs.Entries.{Entry, AreAbove, AreRising, AreBelow}, specs.Leaves.{all_of, AreFilled, AreEmpty, first_key, Belongs, IsReady}, proofs.Orders.{rising_parts, below_both, below_more, above_both}, proofs.Belonging.{read_leaf, all_at, rising_front, rising_leaf, leaf_above}}

module _ {V : Type 0} where
  -- Filled leaves round a filled one.
  pub filled_set : (leaves : List (List (Entry V))) (at : ℕ) (leaf : List (Entry V)) → at < length leaves
      → AreFilled (take at leaves) → AreFilled (drop (suc at) leaves) → 0 < length leaf → AreFilled (set leaves at leaf)
  filled_set [] at leaf lt front back some = absurd (omega arith)
  filled_set (l ∷ leaves) zero leaf lt front back some = (some, back)
  filled_set (l ∷ leaves) (suc at) leaf lt front back some = (front.0, filled_set leaves at leaf (omega arith) front.1 back some)

  -- Filled leaves are filled in front of one and behind it.
  pub filled_round : (leaves : List (List (Entry V))) (at : ℕ) → at < length leaves → AreFilled leaves → AreFilled (take at leaves) × AreFilled (drop (suc at) leaves)
  filled_round [] at lt filled = absurd (omega arith)
  filled_round (l ∷ leaves) zero lt filled = (tt, filled.1)
  filled_round (l ∷ leaves) (suc at) lt filled = let rest = filled_round leaves at (omega arith) filled.1 in ((filled.0, rest.0), rest.1)

  -- Two leaves joined hold the same entries, and stay filled.
  joined_next : (leaves : List (List (Entry V))) (at : ℕ) → suc at < length leaves → AreFilled leaves
      → let joined = set (remove leaves (suc at)) at (get_or leaves at [] ++ get_or leaves (suc at) []) in (all_of joined ≡ all_of leaves) × AreFilled joined
  joined_next [] at lt filled = absurd (omega arith)
  joined_next (l ∷ []) at lt filled = absurd (omega arith)
  joined_next (l ∷ m ∷ leaves) zero lt filled = (append_assoc l m (all_of leaves), (omega (arith, length-append l m, filled.0), filled.1.1))
  joined_next (l ∷ m ∷ leaves) (suc at) lt filled =
      let rest = joined_next (m ∷ leaves) at (omega arith) filled.1 in
      (ap (λ es. l ++ es) rest.0, (filled.0, rest.1))

  -- The same, with the second place given by a number.
  pub joined : (leaves : List (List (Entry V))) (at i : ℕ) → i ≡ suc at → i < length leaves → AreFilled leaves
      → let joined = set (remove leaves i) at (get_or leaves at [] ++ get_or leaves i []) in (all_of joined ≡ all_of leaves) × AreFilled joined
  joined leaves at i up lt filled =
      let P : ℕ → Type 0 = λ n. let joined = set (remove leaves n) at (get_or leaves at [] ++ get_or leaves n []) in (all_of joined ≡ all_of leaves) × AreFilled joined in
      subst P (sym up) (joined_next leaves at (omega (arith, up, lt)) filled)

  -- A leaf split in two, seen from the first half and from the second.
  pub record IsSplit (leaves new : List (List (Entry V))) (at : ℕ) (a b : List (Entry V)) : Type 0 where
    pub front : take at new ≡ take at leaves
    pub first : get_or new at [] ≡ a
    pub behind : drop (suc at) new ≡ b ∷ drop (suc at) leaves
    pub front_more : take (suc at) new ≡ take at leaves ++ a ∷ []
    pub second : get_or new (suc at) [] ≡ b
    pub back : drop (suc (suc at)) new ≡ drop (suc at) leaves

  -- That is what a split leaves.
  pub split_is : (leaves : List (List (Entry V))) (at : ℕ) (a b : List (Entry V)) → at < length leaves → IsSplit leaves (insert (set leaves at a) (suc at) b) at a b
  split_is [] at a b lt = absurd (omega arith)
  split_is (l ∷ leaves) zero a b lt = record { front = refl; first = refl; behind = refl; front_more = refl; second = refl; back = refl }
  split_is (l ∷ leaves) (suc at) a b lt = let rest = split_is leaves at a b (omega arith) in
      record { front = ap (λ ls. l ∷ ls) rest.front; first = rest.first; behind = rest.behind; front_more = ap (λ ls. l ∷ ls) rest.front_more; second = rest.second; back = rest.back }

  -- All entries of leaves in two parts.
  pub all_both : (ls ms : List (List (Entry V))) → all_of (ls ++ ms) ≡ all_of ls ++ all_of ms
  all_both [] ms = refl
  all_both (l ∷ ls) ms = ap (λ rest. l ++ rest) (all_both ls ms) ∙ sym (append_assoc l (all_of ls) (all_of ms))

  -- Filled leaves in two parts.
  filled_both : (ls ms : List (List (Entry V))) → AreFilled ls → AreFilled ms → AreFilled (ls ++ ms)
  filled_both [] ms a b = b
  filled_both (l ∷ ls) ms a b = (a.0, filled_both ls ms a.1 b)

  -- A leaf left out that is empty changes no entry.
  pub left_out_same : (leaves : List (List (Entry V))) (at : ℕ) → at < length leaves → length (get_or leaves at []) ≤ 0 → all_of (remove leaves at) ≡ all_of leaves
  left_out_same [] at lt none = absurd (omega arith)
  left_out_same ([] ∷ leaves) zero lt none = refl
  left_out_same ((x ∷ l) ∷ leaves) zero lt none = absurd (omega (arith, none))
  left_out_same (l ∷ leaves) (suc at) lt none = ap (λ rest. l ++ rest) (left_out_same leaves at (omega arith) none)

  -- What is left is filled.
  pub left_out_filled : (leaves : List (List (Entry V))) (at : ℕ) → AreFilled (take at leaves) → AreFilled (drop (suc at) leaves) → AreFilled (remove leaves at)
  left_out_filled leaves at front back = filled_both (take at leaves) (drop (suc at) leaves) front back

  -- Filled round a leaf and in it.
  pub filled_whole : (leaves : List (List (Entry V))) (at : ℕ) → at < length leaves → AreFilled (take at leaves)
      → AreFilled (drop (suc at) leaves) → 0 < length (get_or leaves at []) → AreFilled leaves
  filled_whole leaves at lt front back some = subst AreFilled (set-get_or leaves at []) (filled_set leaves at (get_or leaves at []) lt front back some)

  -- Empty leaves in two parts.
  pub empty_parts : (ls ms : List (List (Entry V))) → AreEmpty (ls ++ ms) → AreEmpty ls × AreEmpty ms
  empty_parts [] ms e = (tt, e)
  empty_parts (l ∷ ls) ms e = let rest = empty_parts ls ms e.1 in ((e.0, rest.0), rest.1)

  -- One more empty leaf.
  pub empty_more : (ls : List (List (Entry V))) (l : List (Entry V)) → AreEmpty ls → l ≡ [] → AreEmpty (ls ++ l ∷ [])
  empty_more [] l e is = (is, tt)
  empty_more (k ∷ ls) l e is = (e.0, empty_more ls l e.1 is)

  -- A rising list in front of a key that it does not reach is below it.
  under : (key : ℕ) (a b : List (Entry V)) → AreRising (a ++ b) → 0 < length b → first_key b ≤ key → AreBelow key a
  under key a [] rising some le = absurd (omega arith)
  under key a (y ∷ b) rising some le = below_more y.0 key a le (rising_front a y b rising)

  -- A full leaf that was split, with the key in one half or the other.
  module _ (old new : List (List (Entry V))) (key at : ℕ) (belongs : Belongs key old at) (filled : AreFilled old) (rising : AreRising (all_of old)) (full : length (get_or old at []) ≡ 128)
      (is : new ≡ insert (set old at (take 64 (get_or old at []))) (suc at) (drop 64 (get_or old at []))) where
    -- The leaf that was full.
    abbrev whole : List (Entry V)
    whole = get_or old at []

    -- Its first half.
    abbrev lower : List (Entry V)
    lower = take 64 whole

    -- Its second half.
    abbrev upper : List (Entry V)
    upper = drop 64 whole

    -- The split, seen from both halves.
    parts : IsSplit old new at lower upper
    parts = subst (λ ls. IsSplit old ls at lower upper) (sym is) (split_is old at lower upper belongs.within)

    -- There is one leaf more.
    long : length new ≡ length old + 1
    long = ap length is ∙ length-insert (set old at lower) (suc at) upper (omega (arith, length-set old at lower, belongs.within)) ∙ ap (λ n. n + 1) (length-set old at lower)

    -- The lower half is half.
    half : length lower ≡ 64
    half = omega (arith, length-take 64 whole, full)

    -- So is the upper one.
    pub other_half : length upper ≡ 64
    other_half = omega (arith, length-drop 64 whole, full)

    -- Both are the whole.
    halves : lower ++ upper ≡ whole
    halves = take-append-drop 64 whole

    -- The leaf rises.
    rising_whole : AreRising whole
    rising_whole = rising_leaf old at belongs.within rising

    -- So do its halves.
    rising_halves : AreRising (lower ++ upper)
    rising_halves = subst AreRising (sym halves) rising_whole

    -- The entries are the same.
    split_same : all_of new ≡ all_of old
    split_same =
        let back = all_of (drop (suc at) old) in
        all_at new at (omega (arith, long, belongs.within)) ∙ ap (λ ls. all_of ls ++ (get_or new at [] ++ all_of (drop (suc at) new))) parts.front
        ∙ ap (λ l. all_of (take at old) ++ (l ++ all_of (drop (suc at) new))) parts.first ∙ ap (λ ls. all_of (take at old) ++ (lower ++ all_of ls)) parts.behind
        ∙ ap (λ l. all_of (take at old) ++ l) (sym (append_assoc lower upper back) ∙ ap (λ l. l ++ back) halves) ∙ sym (all_at old at belongs.within)

    -- What is read behind the lower half is the upper one.
    pub upper_read : (i : ℕ) (leaf : List (Entry V)) → i ≡ suc at → leaf ≡ get_or new i leaf → leaf ≡ upper
    upper_read i leaf up read = read_leaf new i leaf (omega (arith, up, long, belongs.within)) read ∙ ap (λ n. get_or new n []) up ∙ parts.second

    -- The key is in front of the upper half.
    pub ready_lower : key < first_key upper → IsReady old new key at
    ready_lower lt = let round = filled_round old at belongs.within filled in record {
      same = split_same;
      belongs = record {
        within = omega (arith, long, belongs.within);
        front = subst (λ ls. AreBelow key (all_of ls)) (sym parts.front) belongs.front;
        back = subst (λ ls. AreAbove key (all_of ls)) (sym parts.behind)
            (above_both key upper (all_of (drop (suc at) old)) (leaf_above key upper (rising_parts lower upper rising_halves).1 lt) belongs.back);
      };
      room = subst (λ l. length l < 128) (sym parts.first) (omega (arith, half));
      front = subst AreFilled (sym parts.front) round.0;
      back = subst AreFilled (sym parts.behind) (omega (arith, other_half), round.1);
    }

    -- The key is not.
    pub ready_upper : first_key upper ≤ key → IsReady old new key (suc at)
    ready_upper le = let round = filled_round old at belongs.within filled in record {
      same = split_same;
      belongs = record {
        within = omega (arith, long, belongs.within);
        front = subst (λ ls. AreBelow key (all_of ls)) (sym parts.front_more) (subst (λ l. AreBelow key l) (sym (all_both (take at old) (lower ∷ [])))
            (below_both key (all_of (take at old)) (lower ++ []) belongs.front (below_both key lower [] (under key lower upper rising_halves (omega (arith, other_half)) le) tt)));
        back = subst (λ ls. AreAbove key (all_of ls)) (sym parts.back) belongs.back;
      };
      room = subst (λ l. length l < 128) (sym parts.second) (omega (arith, other_half));
      front = subst AreFilled (sym parts.front_more) (filled_both (take at old) (lower ∷ []) round.0 (omega (arith, half), tt));
      back = subst AreFilled (sym parts.back) round.1;
    }

  -- An index with no leaf takes its first.
  pub ready_first : (new : List (List (Entry V))) (key : ℕ) → new ≡ [] ∷ [] → IsReady [] new key 0
  ready_first new key is = subst (λ ls. IsReady [] ls key 0) (sym is) (record {
    same = refl;
    belongs = record { within = omega arith; front = tt; back = tt };
    room = omega arith;
    front = tt;
    back = tt;
  })

  -- A list with one more, without it.
  without_last : (es : List (Entry V)) (e : Entry V) → take (length es) (es ++ e ∷ []) ++ drop (suc (length es)) (es ++ e ∷ []) ≡ es
  without_last [] e = refl
  without_last (x ∷ es) e = ap (λ l. x ∷ l) (without_last es e)

  -- The entries from a place on moved up by one, and one put there.
  moved_up : (es : List (Entry V)) (i k : ℕ) (e : Entry V) → i + k ≡ length es
      → set (take (suc i) (es ++ e ∷ []) ++ take k (drop i (es ++ e ∷ [])) ++ drop (suc (length es)) (es ++ e ∷ [])) i e ≡ insert es i e
  moved_up [] zero k e is = let none : k ≡ 0 = omega arith in ap (λ n. set ((e ∷ []) ++ take n (e ∷ []) ++ []) 0 e) none
  moved_up (x ∷ es) zero k e is =
      let all : k ≡ length (x ∷ es) = omega arith in let more = x ∷ es ++ e ∷ [] in
      ap (λ n. e ∷ (take n more ++ drop (suc (length (x ∷ es))) more)) all ∙ ap (λ l. e ∷ l) (without_last (x ∷ es) e)
  moved_up [] (suc i) k e is = absurd (omega arith)
  moved_up (x ∷ es) (suc i) k e is = ap (λ l. x ∷ l) (moved_up es i k e (omega arith))

  -- An entry put in by way of the end.
  pub put_between : (es : List (Entry V)) (i n at : ℕ) (e : Entry V) → i ≤ length es → n ≡ length es → at ≡ suc i → set (copy_within (es ++ e ∷ []) i n at) i e ≡ insert es i e
  put_between es i n at e le is up =
      let more = es ++ e ∷ [] in let end : at + (n - i) ≡ suc (length es) = omega arith in
      (λ j. set (take (up j) more ++ take (n - i) (drop i more) ++ drop (end j) more) i e) ∙ moved_up es i (n - i) e (omega arith)

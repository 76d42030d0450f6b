-- Places in an index, and edits at them.
use Rattle.std.{proofs.Common.{◌≡◌, ℕ, zero, suc, ◌<◌, ◌≤◌, List, [], ◌∷◌, ◌++◌, Some, length, take, drop, get_or, set, refl, sym, ap, ◌∙◌, subst, arith, append_assoc, take-append-drop}, specs.List.insert, proofs.lemmas.List.append-nil}
use Rattle.key_index.{specs.declared.filed.Marks.Marks, specs.declared.place.KeyPlace.KeyPlace, specs.Entries.{Entry, below, from, first_of, last_of, AreAbove, AreRising, AreBelow}, specs.Leaves.{all_of, Belongs}, specs.Marks.mark_at, specs.Places.{in_front, on_from, IsCutAt, IsPlace}, proofs.Orders.{below_end, from_end, cut_cases, take_below, drop_below, rising_parts}, proofs.Belonging.{all_at, all_set, last_both, cut_front}, proofs.Cuts.{below_at, edited, from_at}}

module _ {V : Type 0} where
  -- A place parts all entries.
  parted : (at i : ℕ) (ls : List (List (Entry V))) → at < length ls → in_front at i ls ++ on_from at i ls ≡ all_of ls
  parted at i ls lt =
      let front = all_of (take at ls) in let leaf = get_or ls at [] in let back = all_of (drop (suc at) ls) in
      append_assoc front (take i leaf) (drop i leaf ++ back)
      ∙ ap (λ l. front ++ l) (sym (append_assoc (take i leaf) (drop i leaf) back) ∙ ap (λ l. l ++ back) (take-append-drop i leaf))
      ∙ sym (all_at ls at lt)

  -- A rising list whose last entry is below a key is below it.
  all_below : (key : ℕ) (xs : List (Entry V)) → AreRising xs → ((e : Entry V) → last_of xs ≡ Some e → e.0 < key) → AreBelow key xs
  all_below key [] rising last = tt
  all_below key (x ∷ []) rising last = (last x refl, tt)
  all_below key (x ∷ y ∷ xs) rising last = let rest = all_below key (y ∷ xs) rising.1 (λ e is. last e (last_both (x ∷ []) (y ∷ xs) (omega arith) ∙ is)) in
      (omega (arith, rising.0.0, rest.0), rest)

  -- Where the first entry is not before a key, none is.
  cut_first : (key : ℕ) (ys : List (Entry V)) → ((e : Entry V) → first_of ys ≡ Some e → key ≤ e.0) → (below key ys ≡ []) × (from key ys ≡ ys)
  cut_first key [] first = (refl, refl)
  cut_first key (y ∷ ys) first = let le = first y refl in (below_end key y ys le, from_end key y ys le)

  -- Rising entries are cut by a key between its neighbours.
  cut_here : (key : ℕ) (xs ys : List (Entry V)) → AreRising (xs ++ ys) → IsCutAt key xs ys → (below key (xs ++ ys) ≡ xs) × (from key (xs ++ ys) ≡ ys)
  cut_here key xs ys rising cut =
      let under = all_below key xs (rising_parts xs ys rising).0 cut.0 in let ends = cut_first key ys cut.1 in let parts = cut_front key xs ys under in
      (parts.0 ∙ ap (λ l. xs ++ l) ends.0 ∙ append-nil xs, parts.1 ∙ ends.1)

  -- A place that fits is the key's.
  pub place_fits : (key : ℕ) (ls : List (List (Entry V))) (place : KeyPlace) → AreRising (all_of ls) → place.leaf < length ls
      → place.entry ≤ length (get_or ls place.leaf [])
      → IsCutAt key (in_front place.leaf place.entry ls) (on_from place.leaf place.entry ls) → IsPlace key ls place
  place_fits key ls place rising leaf entry cut =
      let front = in_front place.leaf place.entry ls in let back = on_from place.leaf place.entry ls in let all = parted place.leaf place.entry ls leaf in
      let is = cut_here key front back (subst AreRising (sym all) rising) cut in
      record { leaf = leaf; entry = entry; front = sym is.0 ∙ ap (below key) all; back = sym is.1 ∙ ap (from key) all }

  -- The place that is found is.
  pub place_found : (key : ℕ) (ls : List (List (Entry V))) (place : KeyPlace) → Belongs key ls place.leaf
      → place.entry ≡ length (below key (get_or ls place.leaf [])) → place.entry ≤ length (get_or ls place.leaf [])
      → IsPlace key ls place
  place_found key ls place b is within =
      let at = place.leaf in let leaf = get_or ls at [] in let front = all_of (take at ls) in let back = all_of (drop (suc at) ls) in
      record {
        leaf = b.within;
        entry = within;
        front = ap (λ n. front ++ take n leaf) is ∙ ap (λ l. front ++ l) (take_below key leaf) ∙ sym (below_at key ls at b);
        back = ap (λ n. drop n leaf ++ back) is ∙ ap (λ l. l ++ back) (drop_below key leaf) ∙ sym (from_at key ls at b);
      }

  -- An entry put in at its key's place.
  pub put_place : (key : ℕ) (e : Entry V) (ls : List (List (Entry V))) (place : KeyPlace) → IsPlace key ls place
      → all_of (set ls place.leaf (insert (get_or ls place.leaf []) place.entry e)) ≡ below key (all_of ls) ++ e ∷ from key (all_of ls)
  put_place key e ls place is =
      let at = place.leaf in let i = place.entry in let leaf = get_or ls at [] in let front = all_of (take at ls) in let back = all_of (drop (suc at) ls) in
      all_set ls at (insert leaf i e) is.leaf ∙ ap (λ l. front ++ l) (append_assoc (take i leaf) (e ∷ drop i leaf) back) ∙ sym (append_assoc front (take i leaf) (e ∷ drop i leaf ++ back))
      ∙ (λ j. is.front j ++ e ∷ is.back j)

  -- The first of some entries marked.
  first_set : (marks : Marks) (xs ys : List (Entry V)) → 0 < length xs → mark_at marks 0 (xs ++ ys) ≡ mark_at marks 0 xs ++ ys
  first_set marks [] ys some = absurd (omega arith)
  first_set marks (x ∷ xs) ys some = refl

  -- An entry marked, in two parts.
  mark_parts : (marks : Marks) (i : ℕ) (es : List (Entry V)) → mark_at marks i es ≡ take i es ++ mark_at marks 0 (drop i es)
  mark_parts marks zero [] = refl
  mark_parts marks (suc i) [] = refl
  mark_parts marks zero (e ∷ es) = refl
  mark_parts marks (suc i) (e ∷ es) = ap (λ l. e ∷ l) (mark_parts marks i es)

  -- The entry of a key marked in its leaf.
  pub mark_all : (marks : Marks) (key : ℕ) (ls : List (List (Entry V))) (at : ℕ) → Belongs key ls at → 0 < length (from key (get_or ls at []))
      → all_of (set ls at (mark_at marks (length (below key (get_or ls at []))) (get_or ls at []))) ≡ below key (all_of ls) ++ mark_at marks 0 (from key (all_of ls))
  mark_all marks key ls at b some =
      let leaf = get_or ls at [] in let n = length (below key leaf) in let rest = mark_at marks 0 (from key leaf) in
      edited key ls at _ rest b (mark_parts marks n leaf ∙ (λ j. take_below key leaf j ++ mark_at marks 0 (drop_below key leaf j)))
      ∙ ap (λ l. below key (all_of ls) ++ l) (sym (first_set marks (from key leaf) (all_of (drop (suc at) ls)) some) ∙ ap (mark_at marks 0) (sym (from_at key ls at b)))

  -- Entries above a number stay so with one marked.
  above_mark : (marks : Marks) (n key : ℕ) (es : List (Entry V)) → AreAbove n es → AreAbove n (below key es ++ mark_at marks 0 (from key es))
  above_mark marks n key [] above = tt
  above_mark marks n key (e ∷ es) above = cut_cases (λ front back. AreAbove n (front ++ mark_at marks 0 back)) key e es (λ on. (above.0, above_mark marks n key es above.1)) (λ le. above)

  -- Rising entries rise with one marked.
  pub rising_mark : (marks : Marks) (key : ℕ) (es : List (Entry V)) → AreRising es → AreRising (below key es ++ mark_at marks 0 (from key es))
  rising_mark marks key [] rising = tt
  rising_mark marks key (e ∷ es) rising =
      cut_cases (λ front back. AreRising (front ++ mark_at marks 0 back)) key e es (λ on. (above_mark marks e.0 key es rising.0, rising_mark marks key es rising.1)) (λ le. rising)

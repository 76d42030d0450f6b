-- How many entries have a mark, after an edit.
use Rattle.std.{proofs.Common.{◌≡◌, ℕ, zero, suc, ◌+◌, ◌-◌, ◌<◌, ◌≤◌, true, false, cond, List, [], ◌∷◌, ◌++◌, length, take, drop, get_or, set, refl, sym, ap, ◌∙◌, arith, length-append, length-drop, take-append-drop}, proofs.lemmas.List.take_all, specs.List.{insert, remove}, proofs.lemmas.List.Elements.filter-append, proofs.lemmas.List.Sums.{count_by-le-length, length-filter}}
use Rattle.key_index.{specs.declared.filed.Mark.Mark, specs.declared.filed.Marks.Marks, specs.Entries.Entry, specs.Marks.{has_mark, weigh, marked, with_marks, mark_at}}

module _ {V : Type 0} where
  -- The marked ones of two lists.
  pub marked_both : (m : Mark) (xs ys : List (Entry V)) → marked m (xs ++ ys) ≡ marked m xs ++ marked m ys
  marked_both m xs ys = filter-append (λ e. has_mark m e.1.marks) xs ys

  -- One more in front.
  pub count_on : (m : Mark) (e : Entry V) (es : List (Entry V)) → length (marked m (e ∷ es)) ≡ weigh (has_mark m e.1.marks) + length (marked m es)
  count_on m e es = elim (has_mark m e.1.marks) as (λ b. length (cond b (e ∷ marked m es) (marked m es)) ≡ weigh b + length (marked m es)) [ true ↦ omega arith | false ↦ omega arith ]

  -- The counts of two lists add up.
  pub count_both : (m : Mark) (xs ys : List (Entry V)) → length (marked m (xs ++ ys)) ≡ length (marked m xs) + length (marked m ys)
  count_both m xs ys = ap length (marked_both m xs ys) ∙ length-append (marked m xs) (marked m ys)

  -- Those of a cut list do.
  pub count_cut : (m : Mark) (i : ℕ) (es : List (Entry V)) → length (marked m (take i es)) + length (marked m (drop i es)) ≡ length (marked m es)
  count_cut m i es = sym (count_both m (take i es) (drop i es)) ∙ ap (λ l. length (marked m l)) (take-append-drop i es)

  -- No more are marked than there are.
  pub count_within : (m : Mark) (es : List (Entry V)) → length (marked m es) ≤ length es
  count_within m es = omega (arith, length-filter (λ (e : Entry V). has_mark m e.1.marks) es, count_by-le-length (λ (e : Entry V). has_mark m e.1.marks) es)

  -- An entry put in.
  pub count_put : (m : Mark) (es : List (Entry V)) (i : ℕ) (e : Entry V) → length (marked m (insert es i e)) ≡ length (marked m es) + weigh (has_mark m e.1.marks)
  count_put m es i e = omega (arith, count_both m (take i es) (e ∷ drop i es), count_on m e (drop i es), count_cut m i es)

  -- One taken out.
  pub count_out : (m : Mark) (es : List (Entry V)) (i : ℕ) (e : Entry V) → i < length es → e ≡ get_or es i e → length (marked m (remove es i)) + weigh (has_mark m e.1.marks) ≡ length (marked m es)
  count_out m [] i e lt is = absurd (omega arith)
  count_out m (x ∷ es) zero e lt is = omega (arith, count_on m x es, ap (λ (y : Entry V). weigh (has_mark m y.1.marks)) is)
  count_out m (x ∷ es) (suc i) e lt is = omega (arith, count_on m x (remove es i), count_on m x es, count_out m es i e (omega arith) is)

  -- One marked anew.
  pub count_set : (m : Mark) (marks : Marks) (es : List (Entry V)) (i : ℕ) (e : Entry V) → i < length es → e ≡ get_or es i e
      → length (marked m (mark_at marks i es)) + weigh (has_mark m e.1.marks) ≡ length (marked m es) + weigh (has_mark m marks)
  count_set m marks [] i e lt is = absurd (omega arith)
  count_set m marks (x ∷ es) zero e lt is = omega (arith, count_on m x es, count_on m (with_marks marks x) es, ap (λ (y : Entry V). weigh (has_mark m y.1.marks)) is)
  count_set m marks (x ∷ es) (suc i) e lt is = omega (arith, count_on m x (mark_at marks i es), count_on m x es, count_set m marks es i e (omega arith) is)

  -- A marked one counts.
  pub count_has : (m : Mark) (es : List (Entry V)) (i : ℕ) (e : Entry V) → i < length es → e ≡ get_or es i e → weigh (has_mark m e.1.marks) ≤ length (marked m es)
  count_has m es i e lt is = omega (arith, count_out m es i e lt is)

  -- An entry written over by itself with other marks.
  pub set_mark : (marks : Marks) (es : List (Entry V)) (i : ℕ) (e : Entry V) → i < length es → e ≡ get_or es i e → set es i (with_marks marks e) ≡ mark_at marks i es
  set_mark marks [] i e lt is = absurd (omega arith)
  set_mark marks (x ∷ es) zero e lt is = ap (λ (y : Entry V). with_marks marks y ∷ es) is
  set_mark marks (x ∷ es) (suc i) e lt is = ap (λ l. x ∷ l) (set_mark marks es i e (omega arith) is)

  -- As many entries as before.
  pub length-mark_at : (marks : Marks) (es : List (Entry V)) (i : ℕ) → length (mark_at marks i es) ≡ length es
  length-mark_at marks [] i = refl
  length-mark_at marks (x ∷ es) zero = refl
  length-mark_at marks (x ∷ es) (suc i) = ap suc (length-mark_at marks es i)

  -- What a slice from a place on counts.
  pub count_rest : (m : Mark) (i : ℕ) (es ds : List (Entry V)) → ds ≡ es → length (marked m (take (length ds - i) (drop i ds))) ≡ length (marked m (drop i es))
  count_rest m i es ds is = ap (λ l. length (marked m l)) (take_all (length ds - i) (drop i ds) (omega (arith, length-drop i ds))) ∙ ap (λ l. length (marked m (drop i l))) is

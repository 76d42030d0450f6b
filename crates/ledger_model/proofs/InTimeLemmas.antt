-- Lists in the order of moments.
use Rattle.std.{proofs.Common.{length, ◌≡◌, ℕ, ◌+◌, ◌<◌, ◌≤◌, ◌⊎◌, Bool, true, false, cond, List, [], ◌∷◌, ◌++◌, refl, sym, ap, subst, ◌∙◌, ⊎_elim, map, nat_lt, eqb, arith}, specs.List.{filter, sum_by}, proofs.lemmas.Bool.{cond_both, eqb-true, ltb-true, ltb-false, lt-ltb, le-ltb, cases_lt, cases_eq, cases_order, eq-eqb, ne_eqb}, proofs.lemmas.List.Sums.sum_by-cons}
use Rattle.ledger_model.{specs.declared.order.Order.Order, specs.declared.order.Order.TheVariants.{Sequence, Moment}, specs.InTime.{put_in_time, in_order, in_time, AreInTime}, proofs.SumLemmas.sum_by-const}

module _ {X : Type 0} (when : X → ℕ) where
  -- An element goes behind an earlier one, and in front of any other.
  pub put-behind : (x y : X) (ys : List X) → when y < when x → put_in_time when x (y ∷ ys) ≡ y ∷ put_in_time when x ys
  put-behind x y ys lt = ap (λ b. cond b (y ∷ put_in_time when x ys) (x ∷ y ∷ ys)) (lt-ltb (when y) (when x) lt)

  pub put-front : (x y : X) (ys : List X) → when x ≤ when y → put_in_time when x (y ∷ ys) ≡ x ∷ y ∷ ys
  put-front x y ys le = ap (λ b. cond b (y ∷ put_in_time when x ys) (x ∷ y ∷ ys)) (le-ltb (when y) (when x) le)

  -- What is so of each list that putting an element in may give.
  put_cases : (P : List X → Type 0) (x y : X) (ys : List X) → (when y < when x → P (y ∷ put_in_time when x ys)) → (when x ≤ when y → P (x ∷ y ∷ ys)) → P (put_in_time when x (y ∷ ys))
  put_cases P x y ys behind front = cond_both (nat_lt (when y) (when x)) _ _ P (λ lt. behind (ltb-true (when y) (when x) lt)) (λ ge. front (ltb-false (when y) (when x) ge))

  -- Each element is at this moment or later.
  abbrev pub AreFrom : ℕ → List X → Type 0
  AreFrom n [] = Unit {0}
  AreFrom n (x ∷ xs) = (n ≤ when x) × AreFrom n xs

  -- Each is at this moment or earlier.
  abbrev pub AreUpTo : ℕ → List X → Type 0
  AreUpTo n [] = Unit {0}
  AreUpTo n (x ∷ xs) = (when x ≤ n) × AreUpTo n xs

  pub later_from : (m n : ℕ) (xs : List X) → m ≤ n → AreFrom n xs → AreFrom m xs
  later_from m n [] le h = tt
  later_from m n (x ∷ xs) le h = (let a : n ≤ when x = h.0 in omega (arith, a, le), later_from m n xs le h.1)

  -- What rises is behind its first element.
  pub rest_from : (x : X) (xs : List X) → AreInTime when (x ∷ xs) → AreFrom (when x) xs
  rest_from x [] up = tt
  rest_from x (y ∷ ys) up = (up.0, later_from (when x) (when y) ys up.0 (rest_from y ys up.1))

  pub tail_rises : (x : X) (xs : List X) → AreInTime when (x ∷ xs) → AreInTime when xs
  tail_rises x [] up = tt
  tail_rises x (y ∷ ys) up = up.1

  pub cons_rises : (x : X) (xs : List X) → AreFrom (when x) xs → AreInTime when xs → AreInTime when (x ∷ xs)
  cons_rises x [] from up = tt
  cons_rises x (y ∷ ys) from up = (from.0, up)

  put_from : (n : ℕ) (x : X) (ys : List X) → n ≤ when x → AreFrom n ys → AreFrom n (put_in_time when x ys)
  put_from n x [] le from = (le, tt)
  put_from n x (y ∷ ys) le from = put_cases (AreFrom n) x y ys (λ lt. (from.0, put_from n x ys le from.1)) (λ ge. (le, from))

  pub put_rises : (x : X) (ys : List X) → AreInTime when ys → AreInTime when (put_in_time when x ys)
  put_rises x [] up = tt
  put_rises x (y ∷ ys) up = put_cases (AreInTime when) x y ys
      (λ lt. cons_rises y (put_in_time when x ys) (put_from (when y) x ys (omega (arith, lt)) (rest_from y ys up)) (put_rises x ys (tail_rises y ys up)))
      (λ ge. (ge, up))

  -- By moment, no element is earlier than the one in front of it.
  pub in_time-rises : (xs : List X) → AreInTime when (in_time when xs)
  in_time-rises [] = tt
  in_time-rises (x ∷ xs) = put_rises x (in_time when xs) (in_time-rises xs)

  -- An element in front of all that are not earlier stays there.
  pub put-first : (x : X) (ys : List X) → AreFrom (when x) ys → put_in_time when x ys ≡ x ∷ ys
  put-first x [] from = refl
  put-first x (y ∷ ys) from = put-front x y ys from.0

  -- What rises stays as it is.
  pub in_time-same : (xs : List X) → AreInTime when xs → in_time when xs ≡ xs
  in_time-same [] up = refl
  in_time-same (x ∷ xs) up = ap (put_in_time when x) (in_time-same xs (tail_rises x xs up)) ∙ put-first x xs (rest_from x xs up)

  pub put-sum : (f : X → ℕ) (x : X) (ys : List X) → sum_by f (put_in_time when x ys) ≡ f x + sum_by f ys
  put-sum f x [] = sum_by-cons f x []
  put-sum f x (y ∷ ys) = put_cases (λ zs. sum_by f zs ≡ f x + sum_by f (y ∷ ys)) x y ys
      (λ lt. let rest = put-sum f x ys in omega (arith, rest, sum_by-cons f y (put_in_time when x ys), sum_by-cons f y ys))
      (λ ge. sum_by-cons f x (y ∷ ys))

  -- The elements stay the same.
  pub in_time-sum : (f : X → ℕ) (xs : List X) → sum_by f (in_time when xs) ≡ sum_by f xs
  in_time-sum f [] = refl
  in_time-sum f (x ∷ xs) = omega (arith, in_time-sum f xs, put-sum f x (in_time when xs), sum_by-cons f x xs)

  -- Those that pass a test.
  from_passed : (p : X → Bool) (n : ℕ) (ys : List X) → AreFrom n ys → AreFrom n (filter p ys)
  from_passed p n [] from = tt
  from_passed p n (y ∷ ys) from = (elim (p y) as (λ b. AreFrom n (cond b (y ∷ filter p ys) (filter p ys))) [ true ↦ (from.0, from_passed p n ys from.1) | false ↦ from_passed p n ys from.1 ])

  pub put-passed : (p : X → Bool) (x : X) (ys : List X) → AreInTime when ys → filter p (put_in_time when x ys) ≡ cond (p x) (put_in_time when x (filter p ys)) (filter p ys)
  put-passed p x [] up = refl
  put-passed p x (y ∷ ys) up = ⊎_elim
      (λ (lt : when y < when x).
      ap (filter p) (put-behind x y ys lt)
      ∙ ap (λ zs. cond (p y) (y ∷ zs) zs) (put-passed p x ys (tail_rises y ys up))
      ∙ (elim (p x) as (λ a. cond (p y) (y ∷ cond a (put_in_time when x (filter p ys)) (filter p ys)) (cond a (put_in_time when x (filter p ys)) (filter p ys))
      ≡ cond a (put_in_time when x (cond (p y) (y ∷ filter p ys) (filter p ys))) (cond (p y) (y ∷ filter p ys) (filter p ys))) [
        | true ↦ (elim (p y) as (λ b. cond b (y ∷ put_in_time when x (filter p ys)) (put_in_time when x (filter p ys))
            ≡ put_in_time when x (cond b (y ∷ filter p ys) (filter p ys))) [ true ↦ sym (put-behind x y (filter p ys) lt) | false ↦ refl ])
        | false ↦ refl
      ]))
      (λ (ge : when x ≤ when y).
      ap (filter p) (put-front x y ys ge)
      ∙ ap (λ zs. cond (p x) zs (filter p (y ∷ ys))) (sym (put-first x (filter p (y ∷ ys)) (from_passed p (when x) (y ∷ ys) (ge, later_from (when x) (when y) ys ge (rest_from y ys up))))))
      (cases_lt (when y) (when x))

  -- Those that pass a test, by moment, are of all by moment those that pass it.
  pub in_time-passed : (p : X → Bool) (xs : List X) → in_time when (filter p xs) ≡ filter p (in_time when xs)
  in_time-passed p [] = refl
  in_time-passed p (x ∷ xs) =
      (elim (p x) as (λ b. in_time when (cond b (x ∷ filter p xs) (filter p xs)) ≡ cond b (put_in_time when x (filter p (in_time when xs))) (filter p (in_time when xs))) [
        | true ↦ ap (put_in_time when x) (in_time-passed p xs)
        | false ↦ in_time-passed p xs
      ])
      ∙ sym (put-passed p x (in_time when xs) (in_time-rises xs))

  -- Those of one moment, in their order.
  abbrev pub of_moment : ℕ → List X → List X
  of_moment n xs = filter (λ x. eqb (when x) n) xs

  all_one : (n : ℕ) (xs : List X) → AreFrom n (of_moment n xs) × AreUpTo n (of_moment n xs)
  all_one n [] = (tt, tt)
  all_one n (x ∷ xs) =
      let rest = all_one n xs in
      cond_both (eqb (when x) n) _ _ (λ zs. AreFrom n zs × AreUpTo n zs) (λ e. let same = eqb-true (when x) n e in ((omega (arith, same), rest.0), (omega (arith, same), rest.1))) (λ apart. rest)

  one_moment_rises : (n : ℕ) (xs : List X) → AreFrom n xs → AreUpTo n xs → AreInTime when xs
  one_moment_rises n [] from upto = tt
  one_moment_rises n (x ∷ xs) from upto = cons_rises x xs (later_from (when x) n xs upto.0 from.1) (one_moment_rises n xs from.1 upto.1)

  -- Those of one moment stay in their order.
  pub in_time-stable : (n : ℕ) (xs : List X) → of_moment n (in_time when xs) ≡ of_moment n xs
  in_time-stable n xs =
      sym (in_time-passed (λ x. eqb (when x) n) xs)
      ∙ in_time-same (of_moment n xs) (one_moment_rises n (of_moment n xs) (all_one n xs).0 (all_one n xs).1)

  -- Nothing of an earlier moment is among what is later.
  pub none_earlier : (n m : ℕ) (xs : List X) → n < m → AreFrom m xs → of_moment n xs ≡ []
  none_earlier n m [] lt from = refl
  none_earlier n m (x ∷ xs) lt from =
      ap (λ b. cond b (x ∷ of_moment n xs) (of_moment n xs)) (ne_eqb (when x) n (λ e. absurd (let a : m ≤ when x = from.0 in omega (arith, a, lt, e)))) ∙ none_earlier n m xs lt from.1

  here : (x : X) (xs : List X) → of_moment (when x) (x ∷ xs) ≡ x ∷ of_moment (when x) xs
  here x xs = ap (λ b. cond b (x ∷ of_moment (when x) xs) (of_moment (when x) xs)) (eq-eqb (when x) (when x) refl)

  nil_cons : (x : X) (xs : List X) → [] ≡ x ∷ xs → ⊥
  nil_cons x xs e = cc

  heads : (x y : X) (xs ys : List X) → x ∷ xs ≡ y ∷ ys → (x ≡ y) × (xs ≡ ys)
  heads x y xs ys e = (cc, cc)

  -- Two lists that rise and have the same elements of each moment, in one order, are one.
  pub rising-one : (xs ys : List X) → AreInTime when xs → AreInTime when ys → ((n : ℕ) → of_moment n xs ≡ of_moment n ys) → xs ≡ ys
  rising-one [] [] up down same = refl
  rising-one [] (y ∷ ys) up down same = absurd (nil_cons y (of_moment (when y) ys) (same (when y) ∙ here y ys))
  rising-one (x ∷ xs) [] up down same = absurd (nil_cons x (of_moment (when x) xs) (sym (same (when x)) ∙ here x xs))
  rising-one (x ∷ xs) (y ∷ ys) up down same = ⊎_elim
      (λ (e : when x ≡ when y).
      let firsts = heads x y _ _ (sym (here x xs) ∙ same (when x) ∙ ap (λ n. of_moment n (y ∷ ys)) e ∙ here y ys) in
      let rest : (n : ℕ) → of_moment n xs ≡ of_moment n ys = λ n. ⊎_elim
      (λ (is : when x ≡ n). subst (λ m. of_moment m xs ≡ of_moment m ys) is (firsts.1 ∙ ap (λ m. of_moment m ys) (sym e)))
      (λ (apart : when x ≡ n → ⊥).
      sym (ap (λ b. cond b (x ∷ of_moment n xs) (of_moment n xs)) (ne_eqb (when x) n apart))
      ∙ same n ∙ ap (λ b. cond b (y ∷ of_moment n ys) (of_moment n ys)) (ne_eqb (when y) n (λ i. apart (e ∙ i))))
      (cases_eq (when x) n) in
      (λ i. firsts.0 i ∷ rising-one xs ys (tail_rises x xs up) (tail_rises y ys down) rest i))
      (λ (o : (when x < when y) ⊎ (when y < when x)). ⊎_elim
      (λ (lt : when x < when y). absurd (nil_cons x (of_moment (when x) xs)
      (sym (none_earlier (when x) (when y) (y ∷ ys) lt (omega arith, rest_from y ys down)) ∙ sym (same (when x)) ∙ here x xs)))
      (λ (gt : when y < when x). absurd (nil_cons y (of_moment (when y) ys)
      (sym (none_earlier (when y) (when x) (x ∷ xs) gt (omega arith, rest_from x xs up)) ∙ same (when y) ∙ here y ys)))
      o)
      (cases_order (when x) (when y))

  -- So a list that rises and has the same elements of each moment in their order is that by moment.
  pub in_time-only : (xs rs : List X) → AreInTime when xs → ((n : ℕ) → of_moment n xs ≡ of_moment n rs) → xs ≡ in_time when rs
  in_time-only xs rs up same = rising-one xs (in_time when rs) up (in_time-rises rs) (λ n. same n ∙ sym (in_time-stable n rs))

  -- One element more among others: at its place, nothing in front is later and nothing behind is earlier.
  pub record IsPutIn (x : X) (less more : List X) : Type 0 where
    pub front : List X
    pub back : List X
    pub less_is : less ≡ front ++ back
    pub more_is : more ≡ front ++ x ∷ back
    pub early : AreUpTo (when x) front
    pub late : AreFrom (when x) back

  put_early : (y : X) (front back : List X) → AreFrom (when y) back → put_in_time when y (front ++ back) ≡ put_in_time when y front ++ back
  put_early y [] back from = put-first y back from
  put_early y (z ∷ front) back from = ⊎_elim
      (λ (lt : when z < when y). put-behind y z (front ++ back) lt ∙ ap (λ zs. z ∷ zs) (put_early y front back from) ∙ ap (λ zs. zs ++ back) (sym (put-behind y z front lt)))
      (λ (ge : when y ≤ when z). put-front y z (front ++ back) ge ∙ ap (λ zs. zs ++ back) (sym (put-front y z front ge)))
      (cases_lt (when z) (when y))

  put_late : (y : X) (n : ℕ) (front back : List X) → AreUpTo n front → n < when y → put_in_time when y (front ++ back) ≡ front ++ put_in_time when y back
  put_late y n [] back upto lt = refl
  put_late y n (z ∷ front) back upto lt = put-behind y z (front ++ back) (let a : when z ≤ n = upto.0 in omega (arith, a, lt)) ∙ ap (λ zs. z ∷ zs) (put_late y n front back upto.1 lt)

  put_upto : (n : ℕ) (y : X) (ys : List X) → when y ≤ n → AreUpTo n ys → AreUpTo n (put_in_time when y ys)
  put_upto n y [] le upto = (le, tt)
  put_upto n y (z ∷ ys) le upto = put_cases (AreUpTo n) y z ys (λ lt. (upto.0, put_upto n y ys le upto.1)) (λ ge. (le, upto))

  put_itself : (x : X) (ys : List X) → AreInTime when ys → IsPutIn x ys (put_in_time when x ys)
  put_itself x [] up = record { front = []; back = []; less_is = refl; more_is = refl; early = tt; late = tt }
  put_itself x (y ∷ ys) up = put_cases (IsPutIn x (y ∷ ys)) x y ys
      (λ lt.
      let rest : IsPutIn x ys (put_in_time when x ys) = put_itself x ys (tail_rises y ys up) in
      record {
        front = y ∷ rest.front;
        back = rest.back;
        less_is = ap (λ zs. y ∷ zs) rest.less_is;
        more_is = ap (λ zs. y ∷ zs) rest.more_is;
        early = (omega (arith, lt), rest.early);
        late = rest.late;
      })
      (λ ge. record { front = []; back = y ∷ ys; less_is = refl; more_is = refl; early = tt; late = (ge, later_from (when x) (when y) ys ge (rest_from y ys up)) })

  pub one_put_in : (x : X) (xs ys : List X) → IsPutIn x (in_time when (xs ++ ys)) (in_time when (xs ++ x ∷ ys))
  one_put_in x [] ys = put_itself x (in_time when ys) (in_time-rises ys)
  one_put_in x (y ∷ xs) ys =
      let rest : IsPutIn x (in_time when (xs ++ ys)) (in_time when (xs ++ x ∷ ys)) = one_put_in x xs ys in
      ⊎_elim
      (λ (lt : when x < when y).
      record {
        front = rest.front;
        back = put_in_time when y rest.back;
        less_is = ap (put_in_time when y) rest.less_is ∙ put_late y (when x) rest.front rest.back rest.early lt;
        more_is = ap (put_in_time when y) rest.more_is ∙ put_late y (when x) rest.front (x ∷ rest.back) rest.early lt ∙ ap (λ zs. rest.front ++ zs) (put-behind y x rest.back lt);
        early = rest.early;
        late = put_from (when x) y rest.back (omega (arith, lt)) rest.late;
      })
      (λ (ge : when y ≤ when x).
      record {
        front = put_in_time when y rest.front;
        back = rest.back;
        less_is = ap (put_in_time when y) rest.less_is ∙ put_early y rest.front rest.back (later_from (when y) (when x) rest.back ge rest.late);
        more_is = ap (put_in_time when y) rest.more_is ∙ put_early y rest.front (x ∷ rest.back) (ge, later_from (when y) (when x) rest.back ge rest.late);
        early = put_upto (when x) y rest.front ge rest.early;
        late = rest.late;
      })
      (cases_lt (when x) (when y))

module _ {X Y : Type 0} (when : Y → ℕ) (h : X → Y) where
  put-map : (x : X) (ys : List X) → put_in_time when (h x) (map h ys) ≡ map h (put_in_time (λ x. when (h x)) x ys)
  put-map x [] = refl
  put-map x (y ∷ ys) =
      (elim (nat_lt (when (h y)) (when (h x))) as (λ b. cond b (h y ∷ put_in_time when (h x) (map h ys)) (h x ∷ h y ∷ map h ys)
      ≡ map h (cond b (y ∷ put_in_time (λ x. when (h x)) x ys) (x ∷ y ∷ ys))) [
        | true ↦ ap (λ zs. h y ∷ zs) (put-map x ys)
        | false ↦ refl
      ])

  -- What is read off elements, by the moment that is read off, is what is read off them by moment.
  pub in_time-map : (xs : List X) → in_time when (map h xs) ≡ map h (in_time (λ x. when (h x)) xs)
  in_time-map [] = refl
  in_time-map (x ∷ xs) = ap (put_in_time when (h x)) (in_time-map xs) ∙ put-map x (in_time (λ x. when (h x)) xs)

-- In either order.
module _ {X : Type 0} (when : X → ℕ) where
  pub order-nil : (order : Order) → in_order order when [] ≡ []
  order-nil Sequence = refl
  order-nil Moment = refl

  pub order-passed : (order : Order) (p : X → Bool) (xs : List X) → in_order order when (filter p xs) ≡ filter p (in_order order when xs)
  order-passed Sequence p xs = refl
  order-passed Moment p xs = in_time-passed when p xs

  pub order-sum : (order : Order) (f : X → ℕ) (xs : List X) → sum_by f (in_order order when xs) ≡ sum_by f xs
  order-sum Sequence f xs = refl
  order-sum Moment f xs = in_time-sum when f xs

  pub order-length : (order : Order) (xs : List X) → length (in_order order when xs) ≡ length xs
  order-length order xs = omega (arith, sum_by-const 1 (in_order order when xs), order-sum order (λ x. 1) xs, sum_by-const 1 xs)

pub order-map : {X Y : Type 0} (order : Order) (when : Y → ℕ) (h : X → Y) (xs : List X) → in_order order when (map h xs) ≡ map h (in_order order (λ x. when (h x)) xs)
order-map Sequence when h xs = refl
order-map Moment when h xs = in_time-map when h xs

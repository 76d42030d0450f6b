-- Sums over lists, and over the distinct keys of their elements.
use Rattle.std.{proofs.Common.{◌≡◌, ℕ, ◌<◌, ◌+◌, ◌*◌, ◌⊎◌, ◌↔◌, Bool, true, false, cond, List, [], ◌∷◌, ◌++◌, refl, ap, sym, ◌∙◌, subst, ⊎_elim, inl, inr, arith, map, eqb}, specs.Prelude.{filter, sum_by, count_by, nat_lt, length, All}, specs.List.flat_map, proofs.Math.Path.fun_ext, proofs.lemmas.Bool.{cond_both, eqb-true, eqb-false, ltb-true, ltb-false, eq-eqb, ne_eqb, lt-ltb, le-ltb, cases_eq}, proofs.lemmas.List.Elements.{All-nil, All-cons, All-head, All-tail}, proofs.lemmas.List.Folds.fold-map, proofs.lemmas.List.Recursion.is_sum_by, proofs.lemmas.List.Sums.{sum_by-cons, sum_by-append, length-filter}, proofs.Math.Nat.mul_comm}
use Rattle.ledger_model.{specs.Energy.{put_in, rising}, specs.BoardLaws.{AreRising, IsIn}}

pub sum_by-same : {X : Type 0} (f g : X → ℕ) → ((x : X) → f x ≡ g x) → (xs : List X) → sum_by f xs ≡ sum_by g xs
sum_by-same f g e xs = ap (λ h. sum_by h xs) (fun_ext e)

pub sum_by-none : {X : Type 0} (xs : List X) → sum_by (λ x. 0) xs ≡ 0
sum_by-none xs = sym (is_sum_by (λ xs. 0) (λ x. 0) refl (λ x xs. refl) xs)

pub sum_by-const : {X : Type 0} (n : ℕ) (xs : List X) → sum_by (λ x. n) xs ≡ n * length xs
sum_by-const n xs = sym (is_sum_by (λ xs. n * length xs) (λ x. n) (omega arith) (λ x xs. omega arith) xs)

pub sum_by-plus : {X : Type 0} (f g : X → ℕ) (xs : List X) → sum_by (λ x. f x + g x) xs ≡ sum_by f xs + sum_by g xs
sum_by-plus f g xs = sym (is_sum_by (λ xs. sum_by f xs + sum_by g xs) (λ x. f x + g x) refl (λ x xs. omega (arith, sum_by-cons f x xs, sum_by-cons g x xs)) xs)

pub sum_by-map : {X Y : Type 0} (f : Y → ℕ) (h : X → Y) (xs : List X) → sum_by f (map h xs) ≡ sum_by (λ x. f (h x)) xs
sum_by-map f h xs = fold-map (λ n y. n + f y) h 0 xs

pub sum_by-flat_map : {X Y : Type 0} (f : Y → ℕ) (h : X → List Y) (xs : List X) → sum_by f (flat_map h xs) ≡ sum_by (λ x. sum_by f (h x)) xs
sum_by-flat_map f h xs = is_sum_by (λ xs. sum_by f (flat_map h xs)) (λ x. sum_by f (h x)) refl (λ x xs. sum_by-append f (h x) (flat_map h xs)) xs

pub sum_by-filter_cons : {X : Type 0} (f : X → ℕ) (p : X → Bool) (x : X) (xs : List X) → sum_by f (filter p (x ∷ xs)) ≡ cond (p x) (f x) 0 + sum_by f (filter p xs)
sum_by-filter_cons f p x xs =
    elim (p x) as (λ b. sum_by f (cond b (x ∷ filter p xs) (filter p xs)) ≡ cond b (f x) 0 + sum_by f (filter p xs)) [
      | true ↦ sum_by-cons f x (filter p xs)
      | false ↦ omega arith
    ]

-- What is taken of a sum where a test holds.
abbrev pub taken : Bool → ℕ → ℕ
taken b n = cond b n 0

-- A sum over those that pass a test, as one over all.
pub passed_sum : {X : Type 0} (measure : X → ℕ) (p : X → Bool) (xs : List X) → sum_by measure (filter p xs) ≡ sum_by (λ x. taken (p x) (measure x)) xs
passed_sum measure p xs = is_sum_by (λ xs. sum_by measure (filter p xs)) (λ x. taken (p x) (measure x)) refl (λ x xs. sum_by-filter_cons measure p x xs) xs

-- one term, at each element that passes a test
pub sum_by-count : {X : Type 0} (p : X → Bool) (c : ℕ) (xs : List X) → sum_by (λ x. taken (p x) c) xs ≡ count_by p xs * c
sum_by-count p c xs = sym (passed_sum (λ x. c) p xs) ∙ sum_by-const c (filter p xs) ∙ ap (λ n. c * n) (length-filter p xs) ∙ mul_comm c (count_by p xs)

-- how often a number is in a list
abbrev pub times : ℕ → List ℕ → ℕ
times n ns = count_by (λ m. eqb n m) ns

pub times-here : (n m : ℕ) (ns : List ℕ) → n ≡ m → times n (m ∷ ns) ≡ 1 + times n ns
times-here n m ns e = sum_by-cons (λ k. cond (eqb n k) 1 0) m ns ∙ ap (λ b. cond b 1 0 + times n ns) (eq-eqb n m e)

pub times-other : (n m : ℕ) (ns : List ℕ) → (n ≡ m → ⊥) → times n (m ∷ ns) ≡ times n ns
times-other n m ns apart =
    let e : times n (m ∷ ns) ≡ 0 + times n ns = sum_by-cons (λ k. cond (eqb n k) 1 0) m ns ∙ ap (λ b. cond b 1 0 + times n ns) (ne_eqb n m apart) in
    omega (arith, e)

-- a sum over keys, of the sums over the elements that belong to each, is the sum over all elements, where each
-- belongs to one key
pub sum_by_keys : {K X : Type 0} (f : X → ℕ) (has : K → X → Bool) (ks : List K) (xs : List X) → All (λ x. count_by (λ k. has k x) ks ≡ 1) xs
    → sum_by (λ k. sum_by f (filter (has k) xs)) ks ≡ sum_by f xs
sum_by_keys f has ks [] once = sum_by-none ks
sum_by_keys f has ks (x ∷ xs) once =
    let each = sum_by-same _ _ (λ k. sum_by-filter_cons f (has k) x xs) ks in
    let one : count_by (λ k. has k x) ks ≡ 1 = All-head (λ x. count_by (λ k. has k x) ks ≡ 1) x xs once in
    let here = sum_by-count (λ k. has k x) (f x) ks ∙ ap (λ n. n * f x) one in
    omega (
      arith,
      each,
      sum_by-plus (λ k. taken (has k x) (f x)) (λ k. sum_by f (filter (has k) xs)) ks,
      here,
      sum_by_keys f has ks xs (All-tail (λ x. count_by (λ k. has k x) ks ≡ 1) x xs once),
      sum_by-cons f x xs,
    )

-- what put_in does, by where the number is
pub put_in-same : (n m : ℕ) (ms : List ℕ) → n ≡ m → put_in n (m ∷ ms) ≡ m ∷ ms
put_in-same n m ms e = rw (eq-eqb n m e)

pub put_in-below : (n m : ℕ) (ms : List ℕ) → n < m → put_in n (m ∷ ms) ≡ n ∷ m ∷ ms
put_in-below n m ms less = rw (ne_eqb n m (λ e. absurd (omega arith)), lt-ltb n m less)

pub put_in-above : (n m : ℕ) (ms : List ℕ) → m < n → put_in n (m ∷ ms) ≡ m ∷ put_in n ms
put_in-above n m ms less = rw (ne_eqb n m (λ e. absurd (omega arith)), le-ltb n m (omega arith))

-- what is so of each list that put_in may give
put_in_cases : (P : List ℕ → Type 0) (n m : ℕ) (ms : List ℕ) → (n ≡ m → P (m ∷ ms)) → (n < m → P (n ∷ m ∷ ms)) → (m < n → P (m ∷ put_in n ms)) → P (put_in n (m ∷ ms))
put_in_cases P n m ms same below above = cond_both (eqb n m) _ _ P (λ e. same (eqb-true n m e)) (λ apart.
    cond_both (nat_lt n m) _ _ P (λ less. below (ltb-true n m less)) (λ more. above (omega (arith, ltb-false n m more, eqb-false n m apart))))

-- put_in keeps a list rising
rising_behind : (low n : ℕ) (ms : List ℕ) → low < n → AreRising (low ∷ ms) → AreRising (low ∷ put_in n ms)
rising_behind low n [] less up = (less, tt)
rising_behind low n (m ∷ ms) less up =
    put_in_cases (λ ks. AreRising (low ∷ ks)) n m ms (λ same. up) (λ below. (less, (below, up.1))) (λ above. (up.0, rising_behind m n ms above up.1))

put_in-AreRising : (n : ℕ) (ms : List ℕ) → AreRising ms → AreRising (put_in n ms)
put_in-AreRising n [] up = tt
put_in-AreRising n (m ∷ ms) up = put_in_cases AreRising n m ms (λ same. up) (λ below. (below, up)) (λ above. rising_behind m n ms above up)

pub rising-AreRising : (ns : List ℕ) → AreRising (rising ns)
rising-AreRising [] = tt
rising-AreRising (n ∷ ns) = put_in-AreRising n (rising ns) (rising-AreRising ns)

-- a number below a rising list isn't in it
times-below : (n m : ℕ) (ms : List ℕ) → n < m → AreRising (m ∷ ms) → times n (m ∷ ms) ≡ 0
times-below n m [] less up = times-other n m [] (λ e. absurd (omega arith))
times-below n m (k ∷ ms) less up = times-other n m (k ∷ ms) (λ e. absurd (omega arith)) ∙ times-below n k ms (let a : m < k = up.0 in omega arith) up.1

times-behind : (n : ℕ) (ms : List ℕ) → AreRising (n ∷ ms) → times n ms ≡ 0
times-behind n [] up = refl
times-behind n (m ∷ ms) up = times-below n m ms up.0 up.1

times-put_in : (n : ℕ) (ms : List ℕ) → AreRising ms → times n (put_in n ms) ≡ 1
times-put_in n [] up = times-here n n [] refl
times-put_in n (m ∷ ms) up = put_in_cases (λ ks. times n ks ≡ 1) n m ms
    (λ e. times-here n m ms e ∙ ap (λ k. 1 + k) (times-behind n ms (subst (λ k. AreRising (k ∷ ms)) (sym e) up)))
    (λ below. times-here n n (m ∷ ms) refl ∙ ap (λ k. 1 + k) (times-below n m ms below up))
    (λ above. times-other n m (put_in n ms) (λ e. absurd (omega arith)) ∙ times-put_in n ms (tail m ms up))
  where
    tail : (m : ℕ) (ms : List ℕ) → AreRising (m ∷ ms) → AreRising ms
    tail m [] up = tt
    tail m (k ∷ ms) up = up.1

times-put_other : (n k : ℕ) (ms : List ℕ) → (n ≡ k → ⊥) → times n (put_in k ms) ≡ times n ms
times-put_other n k [] apart = times-other n k [] apart
times-put_other n k (m ∷ ms) apart = put_in_cases (λ ks. times n ks ≡ times n (m ∷ ms)) k m ms (λ same. refl) (λ below. times-other n k (m ∷ ms) apart)
    (λ above. let rest = times-put_other n k ms apart in omega (arith, rest, sum_by-cons (λ j. cond (eqb n j) 1 0) m (put_in k ms), sum_by-cons (λ j. cond (eqb n j) 1 0) m ms))

-- each number of a list occurs once among its rising numbers
times-rising : (n : ℕ) (ns : List ℕ) → IsIn n ns → times n (rising ns) ≡ 1
times-rising n [] h = absurd h
times-rising n (m ∷ ns) h = ⊎_elim
    (λ (e : n ≡ m). ap (λ k. times n (put_in k (rising ns))) (sym e) ∙ times-put_in n (rising ns) (rising-AreRising ns))
    (λ (apart : n ≡ m → ⊥). times-put_other n m (rising ns) apart ∙ times-rising n ns (⊎_elim (λ (e : n ≡ m). absurd (apart e)) (λ (there : IsIn n ns). there) h))
    (cases_eq n m)

once_each : {X : Type 0} (key : X → ℕ) (ks : List ℕ) (xs : List X) → ((n : ℕ) → IsIn n (map key xs) → times n ks ≡ 1) → All (λ x. times (key x) ks ≡ 1) xs
once_each key ks [] h = All-nil (λ x. times (key x) ks ≡ 1)
once_each key ks (x ∷ xs) h = All-cons (λ x. times (key x) ks ≡ 1) x xs (h (key x) (inl refl)) (once_each key ks xs (λ n there. h n (inr there)))

-- a sum over the rising keys of a list that has each key of the elements
pub sum_by_among : {X : Type 0} (f key : X → ℕ) (xs ys : List X) → ((n : ℕ) → IsIn n (map key xs) → IsIn n (map key ys))
    → sum_by (λ k. sum_by f (filter (λ x. eqb (key x) k) xs)) (rising (map key ys)) ≡ sum_by f xs
sum_by_among f key xs ys among =
    sum_by_keys f (λ k x. eqb (key x) k) (rising (map key ys)) xs (once_each key (rising (map key ys)) xs (λ n there. times-rising n (map key ys) (among n there)))

pub sum_by_rising : {X : Type 0} (f key : X → ℕ) (xs : List X) → sum_by (λ k. sum_by f (filter (λ x. eqb (key x) k) xs)) (rising (map key xs)) ≡ sum_by f xs
sum_by_rising f key xs = sum_by_among f key xs xs (λ n there. there)

-- the keys of a list are among those of it with another
pub among_front : {X : Type 0} (key : X → ℕ) (xs ys : List X) (n : ℕ) → IsIn n (map key xs) → IsIn n (map key (xs ++ ys))
among_front key [] ys n h = absurd h
among_front key (x ∷ xs) ys n h = ⊎_elim {C = IsIn n (map key (x ∷ xs ++ ys))} (λ (e : n ≡ key x). inl e) (λ (there : IsIn n (map key xs)). inr (among_front key xs ys n there)) h

pub among_back : {X : Type 0} (key : X → ℕ) (xs ys : List X) (n : ℕ) → IsIn n (map key ys) → IsIn n (map key (xs ++ ys))
among_back key [] ys n h = h
among_back key (x ∷ xs) ys n h = inr (among_back key xs ys n h)

-- put_in adds one number
put_in-IsIn : (n k : ℕ) (ms : List ℕ) → IsIn n (put_in k ms) ↔ ((n ≡ k) ⊎ IsIn n ms)
put_in-IsIn n k [] = ((λ h. h), (λ h. h))
put_in-IsIn n k (m ∷ ms) = put_in_cases (λ ks. IsIn n ks ↔ ((n ≡ k) ⊎ IsIn n (m ∷ ms))) k m ms
    (λ same. (λ h. inr h, λ h. elim h [ inl is ↦ inl (is ∙ same) | inr there ↦ there ]))
    (λ below. (λ h. h, λ h. h))
    (λ above. let rest = put_in-IsIn n k ms in (
      λ h. elim h [ inl is ↦ inr (inl is) | inr there ↦ elim (rest.0 there) [ inl is ↦ inl is | inr more ↦ inr (inr more) ] ],
      λ h. elim h [ inl is ↦ inr (rest.1 (inl is)) | inr there ↦ elim there [ inl is ↦ inl is | inr more ↦ inr (rest.1 (inr more)) ] ],
    ))

-- the rising numbers of a list are its numbers
pub rising-IsIn : (n : ℕ) (ns : List ℕ) → IsIn n (rising ns) ↔ IsIn n ns
rising-IsIn n [] = ((λ h. h), (λ h. h))
rising-IsIn n (m ∷ ns) = (
  (λ h. ⊎_elim {C = IsIn n (m ∷ ns)} (λ (e : n ≡ m). inl e) (λ (there : IsIn n (rising ns)). inr ((rising-IsIn n ns).0 there)) ((put_in-IsIn n m (rising ns)).0 h)),
  (λ h. (put_in-IsIn n m (rising ns)).1 (⊎_elim {C = (n ≡ m) ⊎ IsIn n (rising ns)} (λ (e : n ≡ m). inl e) (λ (there : IsIn n ns). inr ((rising-IsIn n ns).1 there)) h)),
)

-- elements of a key, or none and no sum
pub key_or_none : {X : Type 0} (f key : X → ℕ) (k : ℕ) (xs : List X) → IsIn k (map key xs) ⊎ (sum_by f (filter (λ x. eqb (key x) k) xs) ≡ 0)
key_or_none f key k [] = inr refl
key_or_none f key k (x ∷ xs) = ⊎_elim {C = IsIn k (map key (x ∷ xs)) ⊎ (sum_by f (filter (λ y. eqb (key y) k) (x ∷ xs)) ≡ 0)}
    (λ (e : k ≡ key x). inl (inl e))
    (λ (apart : k ≡ key x → ⊥). ⊎_elim {C = IsIn k (map key (x ∷ xs)) ⊎ (sum_by f (filter (λ y. eqb (key y) k) (x ∷ xs)) ≡ 0)}
    (λ (there : IsIn k (map key xs)). inl (inr there))
    (λ (none : sum_by f (filter (λ y. eqb (key y) k) xs) ≡ 0). inr
    (sum_by-filter_cons f (λ y. eqb (key y) k) x xs
    ∙ ap (λ b. cond b (f x) 0 + sum_by f (filter (λ y. eqb (key y) k) xs)) (ne_eqb (key x) k (λ e. apart (sym e)))
    ∙ ap (λ n. 0 + n) none))
    (key_or_none f key k xs))
    (cases_eq k (key x))

-- the sum of a key occurs once among the sums by rising keys of a list that has them all, or is
-- nothing
pub times-among_sum : {X : Type 0} (f key : X → ℕ) (k : ℕ) (xs ys : List X) → ((n : ℕ) → IsIn n (map key xs) → IsIn n (map key ys))
    → times k (rising (map key ys)) * sum_by f (filter (λ x. eqb (key x) k) xs) ≡ sum_by f (filter (λ x. eqb (key x) k) xs)
times-among_sum f key k xs ys among = ⊎_elim
    (λ (there : IsIn k (map key xs)). ap (λ n. n * sum_by f (filter (λ x. eqb (key x) k) xs)) (times-rising k (map key ys) (among k there)) ∙ one_times (sum_by f (filter (λ x. eqb (key x) k) xs)))
    (λ (none : sum_by f (filter (λ x. eqb (key x) k) xs) ≡ 0). ap (λ n. times k (rising (map key ys)) * n) none ∙ times_none (times k (rising (map key ys))) ∙ sym none)
    (key_or_none f key k xs)
  where
    one_times : (n : ℕ) → 1 * n ≡ n
    one_times n = omega arith

    times_none : (n : ℕ) → n * 0 ≡ 0
    times_none n = omega arith

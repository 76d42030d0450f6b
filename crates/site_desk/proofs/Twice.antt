-- A loop that looks for a name that occurs twice.
use Rattle.std.{proofs.Common.{◌≡◌, ℕ, zero, suc, ◌+◌, ◌-◌, take, ◌<◌, ◌≤◌, ◌||◌, Bool, true, false, List, [], ◌∷◌, length, map, drop, get_or, refl, ap, sym, ◌∙◌, arith, bytes_eq}, specs.List.list_any, proofs.lemmas.List.{drop_more, drop_all, take_rest}, specs.Prelude.{Some, if◌then◌else◌}}
use Rattle.site_desk.specs.Plan.{first_twice, has_twice}

any-map : {X Y : Type 0} (p : Y → Bool) (f : X → Y) (xs : List X) → list_any p (map f xs) ≡ list_any (λ x. p (f x)) xs
any-map p f [] = refl
any-map p f (x ∷ xs) = ap (λ b. p (f x) || b) (any-map p f xs)

-- an element that is there, whatever is put in place of one that is not
pub same_at : {X : Type 0} (xs : List X) (i : ℕ) (x y : X) → i < length xs → get_or xs i x ≡ get_or xs i y
same_at [] i x y less = absurd (omega (arith, less))
same_at (z ∷ xs) zero x y less = refl
same_at (z ∷ xs) (suc i) x y less = same_at xs i x y (omega (arith, less))

module _ {X : Type 0} (name : X → List ℕ) where
  -- what is left begins with this element
  left : (xs : List X) (i : ℕ) (x : X) → i < length xs
      → has_twice (map name (drop i xs)) ≡ (list_any (λ y. bytes_eq (name (get_or xs i x)) (name y)) (drop (i + 1) xs) || has_twice (map name (drop (i + 1) xs)))
  left xs i x less =
      ap (λ ys. has_twice (map name ys)) (drop_more xs i x less)
      ∙ ap (λ b. b || has_twice (map name (drop (i + 1) xs))) (any-map (bytes_eq (name (get_or xs i x))) name (drop (i + 1) xs))

  rest : (xs : List X) (i : ℕ) (x : X) → list_any (λ y. bytes_eq (name x) (name y)) (drop i xs) ≡ list_any (λ y. bytes_eq (name x) (name y)) (take (length xs - i) (drop i xs))
  rest xs i x = ap (list_any (λ y. bytes_eq (name x) (name y))) (sym (take_rest xs i))

  -- its name occurs again
  pub twice_here : (xs : List X) (i : ℕ) (x : X) → i < length xs → list_any (λ y. bytes_eq (name (get_or xs i x)) (name y)) (take (length xs - (i + 1)) (drop (i + 1) xs)) ≡ true
      → has_twice (map name (drop i xs)) ≡ true
  twice_here xs i x less again = left xs i x less ∙ ap (λ b. b || has_twice (map name (drop (i + 1) xs))) (rest xs (i + 1) (get_or xs i x) ∙ again)

  -- its name does not occur again
  pub twice_later : (xs : List X) (i : ℕ) (x : X) → i < length xs → list_any (λ y. bytes_eq (name (get_or xs i x)) (name y)) (take (length xs - (i + 1)) (drop (i + 1) xs)) ≡ false
      → has_twice (map name (drop (i + 1) xs)) ≡ has_twice (map name (drop i xs))
  twice_later xs i x less once = sym (left xs i x less ∙ ap (λ b. b || has_twice (map name (drop (i + 1) xs))) (rest xs (i + 1) (get_or xs i x) ∙ once))

  -- the first that occurs again, where what is left begins with this element
  first_left : (xs : List X) (i : ℕ) (x : X) → i < length xs
      → first_twice (map name (drop i xs))
      ≡ (if list_any (λ y. bytes_eq (name (get_or xs i x)) (name y)) (drop (i + 1) xs) then Some (name (get_or xs i x)) else first_twice (map name (drop (i + 1) xs)))
  first_left xs i x less =
      ap (λ ys. first_twice (map name ys)) (drop_more xs i x less)
      ∙ ap (λ b. if b then Some (name (get_or xs i x)) else first_twice (map name (drop (i + 1) xs))) (any-map (bytes_eq (name (get_or xs i x))) name (drop (i + 1) xs))

  -- it is this one
  pub first_here : (xs : List X) (i : ℕ) (x : X) → i < length xs → list_any (λ y. bytes_eq (name (get_or xs i x)) (name y)) (take (length xs - (i + 1)) (drop (i + 1) xs)) ≡ true
      → first_twice (map name (drop i xs)) ≡ Some (name (get_or xs i x))
  first_here xs i x less again =
      first_left xs i x less ∙ ap (λ b. if b then Some (name (get_or xs i x)) else first_twice (map name (drop (i + 1) xs))) (rest xs (i + 1) (get_or xs i x) ∙ again)

  -- it comes later
  pub first_later : (xs : List X) (i : ℕ) (x : X) → i < length xs → list_any (λ y. bytes_eq (name (get_or xs i x)) (name y)) (take (length xs - (i + 1)) (drop (i + 1) xs)) ≡ false
      → first_twice (map name (drop (i + 1) xs)) ≡ first_twice (map name (drop i xs))
  first_later xs i x less once =
      sym (first_left xs i x less ∙ ap (λ b. if b then Some (name (get_or xs i x)) else first_twice (map name (drop (i + 1) xs))) (rest xs (i + 1) (get_or xs i x) ∙ once))

-- Names in lists, and their places.
use Rattle.std.{proofs.Common.{◌≡◌, ℕ, suc, ◌+◌, ◌<◌, ◌||◌, Bool, true, false, cond, List, [], ◌∷◌, ◌++◌, None, Some, length, map, get_or, refl, subst, ap, sym, ◌∙◌, bytes_eq, arith}, specs.List.{list_any, position, position_from}, specs.Prelude.slice_get, proofs.lemmas.Iterator.Adapters.position_from-zero, proofs.lemmas.Slice.Eq.bytes_eq-Decides}
use Rattle.ledger_model.specs.World.{Station, World}
use Rattle.site_desk.specs.Plan.{has_twice}
use Rattle.script_ledgers.specs.Script.{station_named}

pub differ_back : (s t : List ℕ) → bytes_eq s t ≡ false → bytes_eq t s ≡ false
differ_back s t apart = at (bytes_eq t s) refl
  where
    at : (b : Bool) → bytes_eq t s ≡ b → b ≡ false
    at true e = let is : bytes_eq s t ≡ true = (bytes_eq-Decides s t).1 (sym ((bytes_eq-Decides t s).0 e)) in cc
    at false e = refl

pub neither : (a b : Bool) → (a || b) ≡ false → (a ≡ false) × (b ≡ false)
neither true b e = cc e
neither false b e = (refl, e)

pub both_no : (a b : Bool) → a ≡ false → b ≡ false → (a || b) ≡ false
both_no true b e f = cc e
both_no false b e f = f

none_behind : (names : List (List ℕ)) (m n : List ℕ) → list_any (bytes_eq m) names ≡ false → bytes_eq m n ≡ false → list_any (bytes_eq m) (names ++ n ∷ []) ≡ false
none_behind [] m n none apart = both_no (bytes_eq m n) false apart refl
none_behind (x ∷ names) m n none apart =
    let p = neither (bytes_eq m x) (list_any (bytes_eq m) names) none in
    both_no (bytes_eq m x) (list_any (bytes_eq m) (names ++ n ∷ [])) p.0 (none_behind names m n p.1 apart)

-- a new name behind names that occur once
pub once_behind : (names : List (List ℕ)) (n : List ℕ) → has_twice names ≡ false → list_any (bytes_eq n) names ≡ false → has_twice (names ++ n ∷ []) ≡ false
once_behind [] n once new = refl
once_behind (m ∷ names) n once new =
    let p = neither (list_any (bytes_eq m) names) (has_twice names) once in
    let q = neither (bytes_eq n m) (list_any (bytes_eq n) names) new in
    both_no (list_any (bytes_eq m) (names ++ n ∷ [])) (has_twice (names ++ n ∷ [])) (none_behind names m n p.0 (differ_back n m q.0)) (once_behind names n p.1 q.1)

-- the stations of a world have the names of these, in their order
abbrev pub AreAlike : {X : Type 0} → (X → List ℕ) → List X → World → Type 0
AreAlike f [] [] = Unit {0}
AreAlike f [] (s ∷ ss) = ⊥
AreAlike f (x ∷ xs) [] = ⊥
AreAlike f (x ∷ xs) (s ∷ ss) = (f x ≡ s.name) × AreAlike f xs ss

-- ---- where a name is

module _ {X : Type 0} (f : X → List ℕ) (name : List ℕ) where
  -- the place of an element of this name
  pub record IsPlace (i : ℕ) (xs : List X) (n : ℕ) : Type 0 where
    pub offset : ℕ
    pub is : n ≡ i + offset
    pub less : offset < length xs
    pub among : list_any (bytes_eq name) (map f xs) ≡ true
    pub named : get_or (map f xs) offset [] ≡ name

  none_from : (i : ℕ) (xs : List X) → position_from (λ x. bytes_eq name (f x)) i xs ≡ None → list_any (bytes_eq name) (map f xs) ≡ false
  none_from i [] e = refl
  none_from i (x ∷ xs) e = at (bytes_eq name (f x)) e (none_from (i + 1) xs)
    where
      at : (b : Bool) → cond b (Some i) (position_from (λ y. bytes_eq name (f y)) (i + 1) xs) ≡ None
          → (position_from (λ y. bytes_eq name (f y)) (i + 1) xs ≡ None → list_any (bytes_eq name) (map f xs) ≡ false) → (b || list_any (bytes_eq name) (map f xs)) ≡ false
      at true g later = cc g
      at false g later = later g

  some_from : (i : ℕ) (xs : List X) (n : ℕ) → position_from (λ x. bytes_eq name (f x)) i xs ≡ Some n → IsPlace i xs n
  some_from i [] n e = cc e
  some_from i (x ∷ xs) n e = at (bytes_eq name (f x)) refl e (some_from (i + 1) xs n)
    where
      at : (b : Bool) → bytes_eq name (f x) ≡ b → cond b (Some i) (position_from (λ y. bytes_eq name (f y)) (i + 1) xs) ≡ Some n
          → (position_from (λ y. bytes_eq name (f y)) (i + 1) xs ≡ Some n → IsPlace (i + 1) xs n) → IsPlace i (x ∷ xs) n
      at true is g later =
          let here : i ≡ n = cc g in
          record { offset = 0; is = omega (arith, here); less = omega arith; among = ap (λ b. b || list_any (bytes_eq name) (map f xs)) is; named = sym ((bytes_eq-Decides name (f x)).0 is) }
      at false is g later =
          let p = later g in
          record { offset = suc p.offset; is = omega (arith, p.is); less = omega (arith, p.less); among = ap (λ b. b || list_any (bytes_eq name) (map f xs)) is ∙ p.among; named = p.named }

  pub none_placed : (xs : List X) → position (λ x. bytes_eq name (f x)) xs ≡ None → list_any (bytes_eq name) (map f xs) ≡ false
  none_placed xs e = none_from 0 xs (sym (position_from-zero (λ x. bytes_eq name (f x)) xs) ∙ e)

  pub record IsPlaced (xs : List X) (n : ℕ) : Type 0 where
    pub less : n < length xs
    pub among : list_any (bytes_eq name) (map f xs) ≡ true
    pub named : get_or (map f xs) n [] ≡ name

  pub some_placed : (xs : List X) (n : ℕ) → position (λ x. bytes_eq name (f x)) xs ≡ Some n → IsPlaced xs n
  some_placed xs n e =
      let p = some_from 0 xs n (sym (position_from-zero (λ x. bytes_eq name (f x)) xs) ∙ e) in
      let is : p.offset ≡ n = omega (arith, p.is) in
      record { less = omega (arith, is, p.less); among = p.among; named = ap (λ k. get_or (map f xs) k []) (sym is) ∙ p.named }

  -- the station of this name, at a place
  pub record IsStation (w : World) (n : ℕ) : Type 0 where
    pub station : Station
    pub there : slice_get w n ≡ Some station
    pub is_named : station_named name w ≡ Some station

  unnamed_from : (i : ℕ) (xs : List X) (w : World) → AreAlike f xs w → position_from (λ x. bytes_eq name (f x)) i xs ≡ None → station_named name w ≡ None
  unnamed_from i [] [] alike e = refl
  unnamed_from i [] (s ∷ ss) alike e = absurd alike
  unnamed_from i (x ∷ xs) [] alike e = absurd alike
  unnamed_from i (x ∷ xs) (s ∷ ss) alike e = ap (λ t. cond (bytes_eq name t) (Some s) (station_named name ss)) (sym alike.0) ∙ at (bytes_eq name (f x)) e (unnamed_from (i + 1) xs ss alike.1)
    where
      at : (b : Bool) → cond b (Some i) (position_from (λ y. bytes_eq name (f y)) (i + 1) xs) ≡ None
          → (position_from (λ y. bytes_eq name (f y)) (i + 1) xs ≡ None → station_named name ss ≡ None) → cond b (Some s) (station_named name ss) ≡ None
      at true g later = cc g
      at false g later = later g

  named_from : (i : ℕ) (xs : List X) (w : World) (n : ℕ) → AreAlike f xs w → position_from (λ x. bytes_eq name (f x)) i xs ≡ Some n → (k : ℕ) × ((n ≡ i + k) × IsStation w k)
  named_from i [] w n alike e = cc e
  named_from i (x ∷ xs) [] n alike e = absurd alike
  named_from i (x ∷ xs) (s ∷ ss) n alike e = at (bytes_eq name (f x)) (ap (λ t. bytes_eq name t) (sym alike.0)) e (named_from (i + 1) xs ss n alike.1)
    where
      at : (b : Bool) → bytes_eq name s.name ≡ b → cond b (Some i) (position_from (λ y. bytes_eq name (f y)) (i + 1) xs) ≡ Some n
          → (position_from (λ y. bytes_eq name (f y)) (i + 1) xs ≡ Some n → (k : ℕ) × ((n ≡ i + 1 + k) × IsStation ss k))
          → (k : ℕ) × ((n ≡ i + k) × IsStation (s ∷ ss) k)
      at true is g later =
          let here : i ≡ n = cc g in
          (0, (omega (arith, here), record { station = s; there = refl; is_named = ap (λ b. cond b (Some s) (station_named name ss)) is }))
      at false is g later =
          let p = later g in
          (suc p.0, (omega (arith, p.1.0), record { station = p.1.1.station; there = p.1.1.there; is_named = ap (λ b. cond b (Some s) (station_named name ss)) is ∙ p.1.1.is_named }))

  pub unnamed : (xs : List X) (w : World) → AreAlike f xs w → position (λ x. bytes_eq name (f x)) xs ≡ None → station_named name w ≡ None
  unnamed xs w alike e = unnamed_from 0 xs w alike (sym (position_from-zero (λ x. bytes_eq name (f x)) xs) ∙ e)

  pub is_station : (xs : List X) (w : World) (n : ℕ) → AreAlike f xs w → position (λ x. bytes_eq name (f x)) xs ≡ Some n → IsStation w n
  is_station xs w n alike e =
      let p = named_from 0 xs w n alike (sym (position_from-zero (λ x. bytes_eq name (f x)) xs) ∙ e) in
      let is : p.0 ≡ n = omega (arith, p.1.0) in
      subst (IsStation w) is p.1.1

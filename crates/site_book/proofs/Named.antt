-- Tables of sites, and what names them.
use Rattle.std.{proofs.Common.{◌≡◌, ℕ, zero, suc, ◌+◌, ◌<◌, ◌≤◌, ◌≢◌, get_or, IsTrue, List, [], ◌∷◌, ◌++◌, length, set, Some, None, ⊎_elim, refl, ap, sym, ◌∙◌, arith}, specs.Prelude.{Option, is_some, slice_get}, proofs.lemmas.Option.{slice_get_read, slice_get_past}, proofs.lemmas.Bool.{cases_eq, false≢true}}
use Rattle.atomic_table.specs.Seated.{TableId}
use Rattle.site_book.specs.Tables.{Unopened, HasTable, NamedBy, names_of}

module _ {A : Type 0} where
  -- an element is written back
  pub set_back : (xs : List A) (i : ℕ) (x y : A) → slice_get xs i ≡ Some x → set (set xs i y) i x ≡ xs
  set_back [] i x y e = refl
  set_back (z ∷ xs) zero x y e = let same : z ≡ x = cc (e) in ap (λ w. w ∷ xs) (sym same)
  set_back (z ∷ xs) (suc i) x y e = ap (λ ws. z ∷ ws) (set_back xs i x y e)

  -- an element that another one's place leaves
  pub get_else : (xs : List A) (i k : ℕ) (y : A) → k ≢ i → slice_get (set xs i y) k ≡ slice_get xs k
  get_else [] i k y apart = refl
  get_else (z ∷ xs) zero zero y apart = absurd (apart refl)
  get_else (z ∷ xs) zero (suc k) y apart = refl
  get_else (z ∷ xs) (suc i) zero y apart = refl
  get_else (z ∷ xs) (suc i) (suc k) y apart = get_else xs i k y (λ e. apart (ap suc e))

  pub get_here : (xs : List A) (i : ℕ) (x y : A) → slice_get xs i ≡ Some x → slice_get (set xs i y) i ≡ Some y
  get_here [] i x y e = absurd (cc (e))
  get_here (z ∷ xs) zero x y e = refl
  get_here (z ∷ xs) (suc i) x y e = get_here xs i x y e

  pub get_front : (xs : List A) (k : ℕ) (x y : A) → slice_get xs k ≡ Some x → slice_get (xs ++ y ∷ []) k ≡ Some x
  get_front [] k x y e = absurd (cc (e))
  get_front (z ∷ xs) zero x y e = e
  get_front (z ∷ xs) (suc k) x y e = get_front xs k x y e

  pub get_last : (xs : List A) (y : A) → slice_get (xs ++ y ∷ []) (length xs) ≡ Some y
  get_last [] y = refl
  get_last (z ∷ xs) y = get_last xs y

-- another site's table stays
pub has-others : (tables : Unopened) (site other : ℕ) → other ≢ site → HasTable tables other → HasTable (set tables site None) other
has-others tables site other apart has = record { table = has.table; there = get_else tables site other None apart ∙ has.there }

-- one table more
pub has-more : (tables : Unopened) (z : TableId) (n : ℕ) → length tables ≡ n → ((site : ℕ) → site < n → HasTable tables site) → (site : ℕ) → site < n + 1 → HasTable (tables ++ Some z ∷ []) site
has-more tables z n count each site less = ⊎_elim
    (λ (e : site ≡ n). record { table = z; there = ap (slice_get (tables ++ Some z ∷ [])) (e ∙ sym count) ∙ get_last tables (Some z) })
    (λ (apart : site ≢ n). let has = each site (below site n less apart) in record { table = has.table; there = get_front tables site (Some has.table) (Some z) has.there })
    (cases_eq site n)
  where
    below : (site n : ℕ) → site < n + 1 → site ≢ n → site < n
    below site n less apart = omega arith

-- a table that is read, and whether it is there
pub has-read : (tables : Unopened) (site : ℕ) (o : Option TableId) → site < length tables → o ≡ get_or tables site o
    → (IsTrue (is_some o) → HasTable tables site) × (HasTable tables site → IsTrue (is_some o))
has-read tables site o less read = of o (slice_get_read tables (length tables) site o refl less read)
  where
    of : (o : Option TableId) → slice_get tables site ≡ Some o → (IsTrue (is_some o) → HasTable tables site) × (HasTable tables site → IsTrue (is_some o))
    of None at = ((λ t. absurd (false≢true t)), (λ has. let there = has.there in absurd (cc (at, there))))
    of (Some z) at = ((λ _. record { table = z; there = at }), (λ _. refl))

pub has-past : (tables : Unopened) (site : ℕ) → length tables ≤ site → HasTable tables site → ⊥
has-past tables site past has = let there = has.there in let none = slice_get_past tables site past in cc (there, none)

-- tables that were just made are named by what is in their list
pub named-made : (tables : Unopened) → NamedBy (names_of tables) tables
named-made [] site z at = absurd (cc (at))
named-made (None ∷ tables) zero z at = absurd (cc (at))
named-made (Some w ∷ tables) zero z at = cc (at)
named-made (None ∷ tables) (suc site) z at = named-made tables site z at
named-made (Some w ∷ tables) (suc site) z at = named-made tables site z at

-- Lists of slots that share none.
use Rattle.std.proofs.Common.{ℕ, List, [], ◌∷◌, ◌++◌, sym}
use Rattle.slot_arena.specs.Free.{IsApart, AreApart}
use Rattle.event_chain.specs.LinkChain.{AreElsewhere}

-- A slot absent from a list is absent from both its parts.
pub absent_parts : (s : ℕ) (xs ys : List ℕ) → IsApart s (xs ++ ys) → IsApart s xs × IsApart s ys
absent_parts s [] ys absent = (tt, absent)
absent_parts s (x ∷ xs) ys absent = let rest = absent_parts s xs ys absent.1 in ((absent.0, rest.0), rest.1)

-- A slot absent from two lists is absent from both together.
pub absent_both : (s : ℕ) (xs ys : List ℕ) → IsApart s xs → IsApart s ys → IsApart s (xs ++ ys)
absent_both s [] ys a b = b
absent_both s (x ∷ xs) ys a b = (a.0, absent_both s xs ys a.1 b)

-- No slot is in the empty list.
pub elsewhere_none : (xs : List ℕ) → AreElsewhere xs []
elsewhere_none [] = tt
elsewhere_none (x ∷ xs) = (tt, elsewhere_none xs)

-- A list shares no slot with another; nor does it after one more slot of the other that is not in
-- it.
pub elsewhere_more : (xs : List ℕ) (y : ℕ) (ys : List ℕ) → IsApart y xs → AreElsewhere xs ys → AreElsewhere xs (y ∷ ys)
elsewhere_more [] y ys absent elsewhere = tt
elsewhere_more (x ∷ xs) y ys absent elsewhere = (((λ e. absent.0 (sym e)), elsewhere.0), elsewhere_more xs y ys absent.1 elsewhere.1)

-- Two lists that share no slot, the other way round.
pub elsewhere_back : (xs ys : List ℕ) → AreElsewhere xs ys → AreElsewhere ys xs
elsewhere_back [] ys elsewhere = elsewhere_none ys
elsewhere_back (x ∷ xs) ys elsewhere = elsewhere_more ys x xs elsewhere.0 (elsewhere_back xs ys elsewhere.1)

-- Nor does it after one slot of the other less.
pub elsewhere_less : (xs : List ℕ) (y : ℕ) (ys : List ℕ) → AreElsewhere xs (y ∷ ys) → AreElsewhere xs ys
elsewhere_less [] y ys elsewhere = tt
elsewhere_less (x ∷ xs) y ys elsewhere = (elsewhere.0.1, elsewhere_less xs y ys elsewhere.1)

-- The parts of a list that shares no slot with another share none with it.
pub parts_elsewhere : (xs ys zs : List ℕ) → AreElsewhere (xs ++ ys) zs → AreElsewhere xs zs × AreElsewhere ys zs
parts_elsewhere [] ys zs elsewhere = (tt, elsewhere)
parts_elsewhere (x ∷ xs) ys zs elsewhere = let rest = parts_elsewhere xs ys zs elsewhere.1 in ((elsewhere.0, rest.0), rest.1)

-- Where no slot occurs twice, none does so in a part, and the parts share none.
pub apart_parts : (xs ys : List ℕ) → AreApart (xs ++ ys) → AreApart xs × AreApart ys × AreElsewhere xs ys
apart_parts [] ys apart = (tt, apart, tt)
apart_parts (x ∷ xs) ys apart = let first = absent_parts x xs ys apart.0 in let rest = apart_parts xs ys apart.1 in
    ((first.0, rest.0), rest.1, (first.1, rest.2))

-- Two lists that share no slot, together.
pub apart_both : (xs ys : List ℕ) → AreApart xs → AreApart ys → AreElsewhere xs ys → AreApart (xs ++ ys)
apart_both [] ys a b elsewhere = b
apart_both (x ∷ xs) ys a b elsewhere = (absent_both x xs ys a.0 elsewhere.0, apart_both xs ys a.1 b elsewhere.1)

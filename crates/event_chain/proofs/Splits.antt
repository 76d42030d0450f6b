-- The places of a transaction in front of a rank and behind it, before and after an edit.
use Rattle.std.{proofs.lemmas.Grind.common_steps, proofs.Common.{◌≡◌, ℕ, ◌+◌, ◌/◌, ◌^◌, ◌==◌, cond, List, [], ◌∷◌, ◌++◌, Some, None, is_some, drop, refl, sym, ap, ◌∙◌, subst, arith, inl, inr}, proofs.lemmas.Bool.{cases_lt, cases_eq}, proofs.lemmas.Bool.Decides.Decides-eqb, proofs.lemmas.List.Elements.filter-append, specs.Ordering.nat_cmp, specs.FinMap.put}
use Rattle.key_index.{specs.Entries.{below, from, filed_at, AreAbove, AreRising}, proofs.Orders.{cut_whole, from_end, from_on}}
use Rattle.event_chain.{specs.Flat.{EventPlace, place_of, segment}, specs.Edits.{out, places_before, places_behind}, proofs.Decided.not_so, proofs.Places.{found_at, put_is, out_is}, proofs.Cuts.{seg_below, seg_from}}

-- All greater ranks are from the next one on.
from_above : (r : ℕ) (es : List EventPlace) → AreAbove r es → from (r + 1) es ≡ es
from_above r [] h = refl
from_above r (e ∷ es) h = let up = h.0 in from_end (r + 1) e es (omega arith)

-- From a rank that is not there on come those behind it.
from_absent : (r : ℕ) (es : List EventPlace) → AreRising es → filed_at r (from r es) ≡ None → from r es ≡ from (r + 1) es
from_absent r [] h none = refl
from_absent r (e ∷ es) h none = elim (cases_lt e.0 r) [
  | inl lt ↦ from_on r e es lt ∙ from_absent r es h.1 (ap (filed_at r) (sym (from_on r e es lt)) ∙ none) ∙ sym (from_on (r + 1) e es (omega arith))
  | inr le ↦ elim (cases_eq e.0 r) [
    | inl is ↦ let f : Some e.1 ≡ None = sym (ap (λ b. cond b (Some e.1) None) ((Decides-eqb e.0 r).1 is)) ∙ ap (filed_at r) (sym (from_end r e es le)) ∙ none in cc
    | inr other ↦ from_end r e es le ∙ sym (from_end (r + 1) e es (omega (arith, other)))
  ]
]

-- From a rank that is there on comes its place, and those behind it.
from_present : (r s : ℕ) (es : List EventPlace) → AreRising es → filed_at r (from r es) ≡ Some s → from r es ≡ (r, s) ∷ from (r + 1) es
from_present r s [] h some = cc
from_present r s (e ∷ es) h some = elim (cases_lt e.0 r) [
  | inl lt ↦ from_on r e es lt ∙ from_present r s es h.1 (ap (filed_at r) (sym (from_on r e es lt)) ∙ some) ∙ ap (λ (xs : List EventPlace). (r, s) ∷ xs) (sym (from_on (r + 1) e es (omega arith)))
  | inr le ↦ elim (cases_eq e.0 r) [
    | inl is ↦
        let slot : Some e.1 ≡ Some s = sym (ap (λ b. cond b (Some e.1) None) ((Decides-eqb e.0 r).1 is)) ∙ ap (filed_at r) (sym (from_end r e es le)) ∙ some in
        let same : e.1 ≡ s = cc in
        from_end r e es le ∙ (λ i. (is i, same i) ∷ es)
        ∙ ap (λ (xs : List EventPlace). (r, s) ∷ xs) (sym (from_above r es (subst (λ k. AreAbove k es) is h.0)) ∙ sym (from_on (r + 1) e es (omega (arith, is))))
    | inr other ↦ let f : None ≡ Some s = sym (ap (λ b. cond b (Some e.1) None) (not_so _ (Decides-eqb e.0 r) other)) ∙ ap (filed_at r) (sym (from_end r e es le)) ∙ some in cc
  ]
]

-- The places of a transaction, of two parts.
seg_both : (t : ℕ) (xs ys : List EventPlace) → segment t (xs ++ ys) ≡ segment t xs ++ segment t ys
seg_both t xs ys = filter-append (λ (e : EventPlace). e.0 / 2 ^ 31 == t) xs ys

-- One more of the transaction.
seg_own : (t r s : ℕ) (es : List EventPlace) → r / 2 ^ 31 ≡ t → segment t ((r, s) ∷ es) ≡ (r, s) ∷ segment t es
seg_own t r s es is = ap (λ b. cond b ((r, s) ∷ segment t es) (segment t es)) ((Decides-eqb (r / 2 ^ 31) t).1 is)

-- One more of another.
seg_other : (t r s : ℕ) (es : List EventPlace) → (r / 2 ^ 31 ≡ t → ⊥) → segment t ((r, s) ∷ es) ≡ segment t es
seg_other t r s es other = ap (λ b. cond b ((r, s) ∷ segment t es) (segment t es)) (not_so _ (Decides-eqb (r / 2 ^ 31) t) other)

module _ (r : ℕ) (es : List EventPlace) (h : AreRising es) where
  abbrev home : ℕ
  home = r / 2 ^ 31

  front_is : segment home (below r es) ≡ places_before r es
  front_is = sym (seg_below home r es h)

  back_is : segment home (from (r + 1) es) ≡ places_behind r es
  back_is = sym (seg_from home r (r + 1) es refl h)

  module _ (none : place_of r es ≡ None) where
    gap : filed_at r (from r es) ≡ None
    gap = found_at r es h ∙ none

    -- Where the rank is not there, its transaction's places are those on either side.
    pub seg_absent : segment home es ≡ places_before r es ++ places_behind r es
    seg_absent = ap (segment home) (sym (cut_whole r es)) ∙ seg_both home (below r es) (from r es) ∙ (λ i. front_is i ++ (ap (segment home) (from_absent r es h gap) ∙ back_is) i)

    -- One put in is between them.
    pub seg_put : (s : ℕ) → segment home (put nat_cmp r s es) ≡ places_before r es ++ (r, s) ∷ places_behind r es
    seg_put s =
        ap (segment home) (sym (put_is r s es gap)) ∙ seg_both home (below r es) ((r, s) ∷ from r es) ∙ ap (λ xs. segment home (below r es) ++ xs) (seg_own home r s (from r es) refl)
        ∙ (λ i. front_is i ++ (r, s) ∷ (ap (segment home) (from_absent r es h gap) ∙ back_is) i)

    -- Other transactions keep theirs.
    pub seg_put_other : (s t : ℕ) → (home ≡ t → ⊥) → segment t (put nat_cmp r s es) ≡ segment t es
    seg_put_other s t other =
        ap (segment t) (sym (put_is r s es gap)) ∙ seg_both t (below r es) ((r, s) ∷ from r es) ∙ ap (λ xs. segment t (below r es) ++ xs) (seg_other t r s (from r es) other)
        ∙ sym (seg_both t (below r es) (from r es)) ∙ ap (segment t) (cut_whole r es)

  module _ (s : ℕ) (some : place_of r es ≡ Some s) where
    there : filed_at r (from r es) ≡ Some s
    there = found_at r es h ∙ some

    on : from r es ≡ (r, s) ∷ from (r + 1) es
    on = from_present r s es h there

    gone : out r es ≡ below r es ++ from (r + 1) es
    gone = sym (out_is r es h (ap is_some there)) ∙ ap (λ xs. below r es ++ drop 1 xs) on

    -- All places, cut at one.
    pub cut_present : es ≡ below r es ++ (r, s) ∷ from (r + 1) es
    cut_present = sym (cut_whole r es) ∙ ap (λ xs. below r es ++ xs) on

    -- Where the rank is there, its place is between those on either side.
    pub seg_present : segment home es ≡ places_before r es ++ (r, s) ∷ places_behind r es
    seg_present = grind (arith, common_steps, cut_present, seg_both, seg_own, front_is, back_is)

    -- Taken out, it leaves those.
    pub seg_out : segment home (out r es) ≡ places_before r es ++ places_behind r es
    seg_out = ap (segment home) gone ∙ seg_both home (below r es) (from (r + 1) es) ∙ (λ i. front_is i ++ back_is i)

    -- Other transactions keep theirs.
    pub seg_out_other : (t : ℕ) → (home ≡ t → ⊥) → segment t (out r es) ≡ segment t es
    seg_out_other t other = grind (arith, common_steps, gone, seg_both, cut_present, seg_other)

    -- Behind it are all of its transaction that come later.
    pub behind_present : segment home (from (r + 1) es) ≡ places_behind r es
    behind_present = back_is

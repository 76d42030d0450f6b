-- Rows by rising id.
use Rattle.std.{proofs.lemmas.Grind.common_steps, proofs.Common.{◌≡◌, ℕ, zero, suc, ◌<◌, Bool, true, false, cond, T, ◌&&◌, List, [], ◌∷◌, length, get_or, Some, None, refl, sym, ap, subst, ◌∙◌, arith}, specs.declared.cmp.Ordering.Ordering, specs.declared.cmp.Ordering.TheVariants.{Less, Equal, Greater}, specs.Ordering.{is_lt, is_eq, ordering_reverse, eq_by_cmp}, specs.FinMap.Entries.{below_all, find}, specs.FinMap.{IsAntisymmetric, nat_cmp-IsAntisymmetric, slice_cmp-IsAntisymmetric}, specs.Cmp.{IsTotalOrder, eq_by_cmp_equiv}, specs.Cmp.Lexicographic.nat_list_cmp_total}
use Rattle.ledger_model.proofs.Callers.{first, second, less}
use Rattle.transaction_map.specs.Map.{id_cmp}

-- Ids are in a total order.
pub id_total : IsTotalOrder id_cmp
id_total = nat_list_cmp_total

-- Only equal ids tie.
pub exact_ids : IsAntisymmetric id_cmp
exact_ids = slice_cmp-IsAntisymmetric nat_cmp-IsAntisymmetric

-- Ids that a test finds equal are.
pub equal_ids : (q tx : List ℕ) → eq_by_cmp id_cmp q tx ≡ true → q ≡ tx
equal_ids q tx e = grind (arith, common_steps, exact_ids)

-- An id ties with itself.
pub same_id : (tx : List ℕ) → eq_by_cmp id_cmp tx tx ≡ true
same_id tx = (eq_by_cmp_equiv id_total).refl tx

-- The same ids tie.
pub tied_ids : (q tx : List ℕ) → q ≡ tx → id_cmp q tx ≡ Equal
tied_ids q tx e = elim (id_cmp q tx) as (λ (o : Ordering). is_eq o ≡ true → o ≡ Equal) [
  | Less ↦ λ f. cc
  | Equal ↦ λ _. refl
  | Greater ↦ λ f. cc
] (subst (λ t. eq_by_cmp id_cmp q t ≡ true) e (same_id q))

-- The other way round, a comparison is turned.
pub turned : (a b : List ℕ) (o : Ordering) → id_cmp a b ≡ o → id_cmp b a ≡ ordering_reverse o
turned a b o h = id_total.antisymm b a ∙ ap ordering_reverse h

both : (a b : Bool) → T a → T b → T (a && b)
both a b g h = grind (arith, common_steps)

module _ {X : Type 0} where
  -- The id of each later row is greater.
  pub below_at : (x : List ℕ) (es : List (List ℕ × X)) (i : ℕ) (d : List ℕ × X) → T (below_all id_cmp x es) → i < length es → id_cmp x (get_or es i d).0 ≡ Less
  below_at x [] i d h lt = absurd (omega arith)
  below_at x (e ∷ es) zero d h lt = less _ (first _ _ h)
  below_at x (e ∷ es) (suc i) d h lt = below_at x es i d (second _ _ h) (omega arith)

  -- An id below another is below all that the other is below.
  pub below_less : (x y : List ℕ) (es : List (List ℕ × X)) → id_cmp x y ≡ Less → T (below_all id_cmp y es) → T (below_all id_cmp x es)
  below_less x y [] p h = tt
  below_less x y (e ∷ es) p h = both _ _ (subst (λ r. T (is_lt r)) (sym (id_total.trans x y e.0 p (less _ (first _ _ h)))) tt) (below_less x y es p (second _ _ h))

  -- An id below all others is not in the map.
  pub find_below : (key : List ℕ) (es : List (List ℕ × X)) → T (below_all id_cmp key es) → find id_cmp key es ≡ None
  find_below key [] h = refl
  find_below key (e ∷ es) h = ap (λ r. cond (is_eq r) (Some e.1) (find id_cmp key es)) (less _ (first _ _ h)) ∙ find_below key es (second _ _ h)

-- Entries in the order of their keys, cut at a key.
use Rattle.std.{proofs.Common.{◌≡◌, not, cond, T, List, [], ◌∷◌, ◌++◌, map, Option, Some, None, refl, sym, ap, subst, ◌∙◌}, specs.List.filter, specs.Ordering.{is_lt, is_eq}, specs.declared.cmp.Ordering.Ordering, specs.declared.cmp.Ordering.TheVariants.{Less, Equal, Greater}, specs.FinMap.Entries.{find, put, by_order, below_all}, proofs.lemmas.List.map-append}
use Rattle.ledger_model.{specs.Key.{KeyName, key_cmp}, specs.Content.{Entry, Stored}, specs.Entries.{IsRising, entries_without}, proofs.Keys.exact_keys, proofs.Rising.{first, second, both, less, turned, below_less, find_below}}

module _ (key : KeyName) where
  -- The entries in front of the key, and those behind it.
  abbrev pub in_front : List Entry → List Entry
  in_front es = filter (λ e. is_lt (key_cmp e.0 key)) es

  abbrev pub behind : List Entry → List Entry
  behind es = filter (λ e. is_lt (key_cmp key e.0)) es

  -- The entry of the key, where it is stored.
  abbrev pub at_key : Option Stored → List Entry
  at_key None = []
  at_key (Some s) = (key, s) ∷ []

  -- Where all keys are greater, no entry is in front, and all are behind and stay.
  record IsBelow (es : List Entry) : Type 0 where
    none : in_front es ≡ []
    all : behind es ≡ es
    stay : entries_without key es ≡ es

  is_below : (es : List Entry) → T (below_all key_cmp key es) → IsBelow es
  is_below [] h = record { none = refl; all = refl; stay = refl }
  is_below (e ∷ es) h =
      let rest = is_below es (second _ _ h) in
      let lt : key_cmp key e.0 ≡ Less = less _ (first _ _ h) in
      record {
        none = ap (λ o. cond (is_lt o) (e ∷ in_front es) (in_front es)) (turned key e.0 Less lt) ∙ rest.none;
        all = ap (λ o. cond (is_lt o) (e ∷ behind es) (behind es)) lt ∙ ap (λ l. e ∷ l) rest.all;
        stay = ap (λ o. cond (not (is_eq o)) (e ∷ entries_without key es) (entries_without key es)) lt ∙ ap (λ l. e ∷ l) rest.stay;
      }

  -- The entries, with an entry put under the key, and without the key's.
  pub record IsCut (es : List Entry) : Type 0 where
    pub all : es ≡ in_front es ++ (at_key (find key_cmp key es) ++ behind es)
    pub with_put : (v : Stored) → put key_cmp key v es ≡ in_front es ++ (key, v) ∷ behind es
    pub without : entries_without key es ≡ in_front es ++ behind es

  -- The same, from what the parts are.
  from_parts : (es front back : List Entry) (o : Option Stored) → in_front es ≡ front → behind es ≡ back → find key_cmp key es ≡ o
      → es ≡ front ++ (at_key o ++ back) → ((v : Stored) → put key_cmp key v es ≡ front ++ (key, v) ∷ back) → entries_without key es ≡ front ++ back → IsCut es
  from_parts es front back o f b found all with_put without = record {
    all = all ∙ sym (λ i. f i ++ (at_key (found i) ++ b i));
    with_put = λ v. with_put v ∙ sym (λ i. f i ++ (key, v) ∷ b i);
    without = without ∙ sym (λ i. f i ++ b i);
  }

  pub cut : (es : List Entry) → IsRising es → IsCut es
  cut [] rising = record { all = refl; with_put = λ v. refl; without = refl }
  cut (e ∷ es) rising =
      let front = λ (o : Ordering). cond (is_lt o) (e ∷ in_front es) (in_front es) in
      let back = λ (o : Ordering). cond (is_lt o) (e ∷ behind es) (behind es) in
      let found = λ (o : Ordering). cond (is_eq o) (Some e.1) (find key_cmp key es) in
      let with_put = λ (o : Ordering) (v : Stored). by_order o ((key, v) ∷ e ∷ es) ((e.0, v) ∷ es) (e ∷ put key_cmp key v es) in
      let without = λ (o : Ordering). cond (not (is_eq o)) (e ∷ entries_without key es) (entries_without key es) in
      (elim (key_cmp key e.0) as (λ (o : Ordering). key_cmp key e.0 ≡ o → IsCut (e ∷ es)) [
        | Less ↦ λ lt.
            let below : T (below_all key_cmp key (e ∷ es)) = both _ _ (subst (λ o. T (is_lt o)) (sym lt) tt) (below_less key e.0 es lt (first _ _ rising)) in
            let parts = is_below (e ∷ es) below in
            from_parts (e ∷ es) [] (e ∷ es) None parts.none parts.all (find_below key (e ∷ es) below) refl (λ v. ap (λ o. with_put o v) lt) parts.stay
        | Equal ↦ λ eq.
            let same : key ≡ e.0 = exact_keys key e.0 eq in
            let parts = is_below es (subst (λ k. T (below_all key_cmp k es)) (sym same) (first _ _ rising)) in
            from_parts (e ∷ es) [] es (Some e.1) (ap front (turned key e.0 Equal eq) ∙ parts.none) (ap back eq ∙ parts.all) (ap found eq)
            (λ i. (sym same i, e.1) ∷ es) (λ v. ap (λ o. with_put o v) eq ∙ (λ i. (sym same i, v) ∷ es)) (ap without eq ∙ parts.stay)
        | Greater ↦ λ gt.
            let rest = cut es (second _ _ rising) in
            from_parts (e ∷ es) (e ∷ in_front es) (behind es) (find key_cmp key es) (ap front (turned key e.0 Greater gt)) (ap back gt) (ap found gt)
            (ap (λ l. e ∷ l) rest.all) (λ v. ap (λ o. with_put o v) gt ∙ ap (λ l. e ∷ l) (rest.with_put v)) (ap without gt ∙ ap (λ l. e ∷ l) rest.without)
      ]) refl

  -- The entries, where one is stored under the key.
  pub cut_at : (s : Stored) (es : List Entry) → IsRising es → find key_cmp key es ≡ Some s → es ≡ in_front es ++ (key, s) ∷ behind es
  cut_at s es rising there = (cut es rising).all ∙ ap (λ o. in_front es ++ (at_key o ++ behind es)) there

  -- What another entry in the place of one leaves as it was.
  pub map_put_old : {A : Type 0} (h : Entry → A) (v s : Stored) (es : List Entry) → IsRising es → find key_cmp key es ≡ Some s → h (key, v) ≡ h (key, s) → map h (put key_cmp key v es) ≡ map h es
  map_put_old h v s es rising there same =
      ap (map h) ((cut es rising).with_put v) ∙ map-append h (in_front es) ((key, v) ∷ behind es) ∙ ap (λ a. map h (in_front es) ++ a ∷ map h (behind es)) same
      ∙ sym (ap (map h) (cut_at s es rising there) ∙ map-append h (in_front es) ((key, s) ∷ behind es))

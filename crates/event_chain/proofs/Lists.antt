-- The linked lists of the live events, under an edit.
use Rattle.std.{proofs.lemmas.Grind.common_steps, proofs.Common.{arith, ◌≡◌, ◌≢◌, ℕ, ◌<◌, ◌/◌, ◌^◌, ◌==◌, Bool, true, not, List, [], ◌∷◌, ◌++◌, Option, Some, None, map, slice_get, option_map, replicate, refl, sym, ap, ◌∙◌, subst, inl, inr}, proofs.lemmas.Bool.cases_eq, proofs.lemmas.Bool.Decides.Decides-eqb, proofs.lemmas.List.{map-append, length-replicate}, specs.List.filter, specs.Ordering.{eq_by_cmp, nat_cmp}, specs.Cmp.nat_cmp_total, specs.FinMap.{put, nat_cmp-IsAntisymmetric}, specs.FinMap.Entries.{is_sorted-put, is_sorted-where_key}}
use Rattle.key_index.specs.Index as keyed
use Rattle.key_index.{specs.Entries.{last_of, AreRising}, specs.declared.filed.Mark.TheVariants.Live, proofs.Orders.last_cons}
use Rattle.event_chain.{specs.Placed.{Index, Placed, index, marked_index, placed}, specs.Links.{Links, links, linked_in, linked_out, prev_of, next_of, IsSlot}, specs.LinkChain.{head_or, last_or, IsChain, AreElsewhere, AreSlots, IsLinked}, proofs.LinksChains.{chain_parts, slots_parts, length-linked_in, length-linked_out}, proofs.LinksLists.{linked_with_slot, linked_without_slot, linked_beside_in, linked_beside_out}, specs.Flat.{EventPlace, place_of}, specs.Kept.AreRanks, specs.Edits.{out, places_before, places_behind, IsSlotFor}, specs.Lists.{slot_in, slots_of, slot_before, slot_after, AreOwn, AreListed, ArePlaced}, proofs.MarkedIndexes.marked_rising, proofs.Members.{AllPlaces, all_found}, proofs.Places.ranks_of, proofs.Changes.{IsChange, change_here, change_other, change_put, change_out}, proofs.Splits.{seg_absent, seg_put, seg_put_other, seg_present, seg_out, seg_out_other}}
use Rattle.slot_arena.specs.Free.{IsApart}

-- The first slot of places.
pub first_slot : (ps : List EventPlace) → head_or None (map slot_in ps) ≡ option_map slot_in (slice_get ps 0)
first_slot [] = refl
first_slot (p ∷ ps) = refl

-- The last one.
pub last_slot : (ps : List EventPlace) → last_or None (map slot_in ps) ≡ option_map slot_in (last_of ps)
last_slot [] = refl
last_slot (p ∷ []) = refl
last_slot (p ∷ q ∷ ps) = last_slot (q ∷ ps) ∙ ap (option_map slot_in) (sym (last_cons p q ps))

-- The first of slots is one.
first_is_slot : (l : Links) (ss : List ℕ) → AreSlots l ss → (x : ℕ) → head_or None ss ≡ Some x → IsSlot l x
first_is_slot l ss h x is = grind (arith, common_steps)

-- So is the last.
last_is_slot : (l : Links) (ss : List ℕ) → AreSlots l ss → (x : ℕ) → last_or None ss ≡ Some x → IsSlot l x
last_is_slot l [] h x is = cc
last_is_slot l (s ∷ []) h x is = let same : s ≡ x = cc in subst (IsSlot l) same h.0
last_is_slot l (s ∷ t ∷ ts) h x is = last_is_slot l (t ∷ ts) h.1 x is

-- What comes after the last slot of a chain.
after_last : (l : Links) (before : Option ℕ) (ss : List ℕ) (after : Option ℕ) (s : ℕ) → IsChain l before ss after → last_or None ss ≡ Some s → next_of l s ≡ after
after_last l before [] after s chain last = cc
after_last l before (x ∷ []) after s chain last = let same : x ≡ s = cc in ap (next_of l) (sym same) ∙ chain.1
after_last l before (x ∷ y ∷ ys) after s chain last = after_last l (Some x) (y ∷ ys) after s chain.2 last

-- A slot is absent where no place that passes a test has it.
absent_left : (s : ℕ) (f : EventPlace → Bool) (ps : List EventPlace) → AllPlaces (λ p. f p ≡ true → s ≢ p.1) ps → IsApart s (map slot_in (filter f ps))
absent_left s f [] h = tt
absent_left s f (p ∷ ps) h = grind (arith, common_steps, absent_left s f ps h.1)

-- Slots are elsewhere where those of the places that pass a test are absent.
elsewhere_left : (f : EventPlace → Bool) (zs : List ℕ) (ps : List EventPlace) → AllPlaces (λ p. f p ≡ true → IsApart p.1 zs) ps → AreElsewhere (map slot_in (filter f ps)) zs
elsewhere_left f zs [] h = tt
elsewhere_left f zs (p ∷ ps) h = grind (arith, common_steps, elsewhere_left f zs ps h.1)

-- A slot that has no place of a transaction is absent from its list.
pub absent_of : (s t : ℕ) (es : List EventPlace) → AreRanks es → ((r : ℕ) → place_of r es ≡ Some s → r / 2 ^ 31 ≡ t → ⊥) → IsApart s (slots_of t es)
absent_of s t es ranks never = grind (arith, common_steps, absent_left, all_found, Decides-eqb)

-- The lists of two transactions share no slot.
pub lists_elsewhere : (t q : ℕ) (es : List EventPlace) → AreRanks es → AreOwn es → (t ≡ q → ⊥) → AreElsewhere (slots_of t es) (slots_of q es)
lists_elsewhere t q es ranks own other = elsewhere_left (λ e. e.0 / 2 ^ 31 == t) (slots_of q es) es (all_found (λ p. (p.0 / 2 ^ 31 == t) ≡ true → IsApart p.1 (slots_of q es)) es ranks (λ p at y.
    absent_of p.1 q es ranks (λ r there home. other (sym ((Decides-eqb (p.0 / 2 ^ 31) t).0 y) ∙ ap (λ k. k / 2 ^ 31) (own p.0 r p.1 at there) ∙ home))))

-- No slot gets two ranks where a slot without one is put in, or one is taken out.
own_change : (r0 : ℕ) (o : Option ℕ) (es more : List EventPlace) → AreOwn es → IsChange nat_cmp r0 o es more → ((r s : ℕ) → o ≡ Some s → place_of r es ≡ Some s → ⊥) → AreOwn more
own_change r0 o es more own change unused q r s a b =
    let here = change_here nat_cmp nat_cmp_total nat_cmp-IsAntisymmetric r0 o es more change in let same = change_other nat_cmp nat_cmp_total nat_cmp-IsAntisymmetric r0 o es more change in
    elim (cases_eq q r0) [
      | inl x ↦ elim (cases_eq r r0) [ inl y ↦ x ∙ sym y | inr y ↦ absurd (unused r s (sym here ∙ ap (λ k. place_of k more) (sym x) ∙ a) (sym (same r y) ∙ b)) ]
      | inr x ↦ elim (cases_eq r r0) [
        | inl y ↦ absurd (unused q s (sym here ∙ ap (λ k. place_of k more) (sym y) ∙ b) (sym (same q x) ∙ a))
        | inr y ↦ own q r s (sym (same q x) ∙ a) (sym (same r y) ∙ b)
      ]
    ]

-- What is in front of a place put in, and what behind it.
abbrev pub front_of : ℕ → List EventPlace → List ℕ
front_of r es = map slot_in (places_before r es)

abbrev pub back_of : ℕ → List EventPlace → List ℕ
back_of r es = map slot_in (places_behind r es)

-- What is on a side of a rank is a slot, if there is one.
abbrev pub IsSide : Links → Option ℕ → Type 0
IsSide l o = (x : ℕ) → o ≡ Some x → IsSlot l x

-- Links and an index, made of the same.
pub listed_same : (a b : Index) (l m : Links) → a ≡ b → l ≡ m → AreListed b m → AreListed a l
listed_same a b l m same links h = subst (λ x. AreListed x l) (sym same) (subst (AreListed b) (sym links) h)

module _ (live : Index) (l : Links) (listed : AreListed live l) (rising : AreRising live.entries) (r : ℕ) where
  abbrev es : List EventPlace
  es = live.entries

  abbrev t : ℕ
  t = r / 2 ^ 31

  abbrev front : List ℕ
  front = front_of r es

  abbrev back : List ℕ
  back = back_of r es

  module _ (none : place_of r es ≡ None) where
    list_is : slots_of t es ≡ front ++ back
    list_is = ap (map slot_in) (seg_absent r es rising none) ∙ map-append slot_in (places_before r es) (places_behind r es)

    list : IsLinked l (front ++ back)
    list = subst (IsLinked l) list_is (listed.lists t)

    -- The slots on either side are slots.
    pub sides_absent : IsSide l (slot_before r es) × IsSide l (slot_after r es)
    sides_absent = let parts = slots_parts l front back list.slots in
        ((λ x is. last_is_slot l front parts.0 x (last_slot (places_before r es) ∙ is)), (λ x is. first_is_slot l back parts.1 x (first_slot (places_behind r es) ∙ is)))

    -- The slot behind the one in front of a new rank comes behind the rank.
    pub next_absent : (s : ℕ) → slot_before r es ≡ Some s → next_of l s ≡ slot_after r es
    next_absent s is = after_last l None front (head_or None back) s (chain_parts l None front back None list.chain).0 (last_slot (places_before r es) ∙ is) ∙ first_slot (places_behind r es)

    module _ (s : ℕ) (within : s < live.capacity) (unused : (k : ℕ) → place_of k es ≡ Some s → ⊥) where
      -- The slot is one.
      pub slot_within : IsSlot l s
      slot_within = record { prev = subst (λ n. s < n) (sym listed.prevs) within; next = subst (λ n. s < n) (sym listed.nexts) within }

      abbrev more : List EventPlace
      more = put nat_cmp r s es

      abbrev m : Links
      m = linked_in l (slot_before r es) s s (slot_after r es)

      linked : linked_in l (last_or None front) s s (head_or None back) ≡ m
      linked = (λ i. linked_in l (last_slot (places_before r es) i) s s (first_slot (places_behind r es) i))

      more_is : slots_of t more ≡ front ++ s ∷ back
      more_is = ap (map slot_in) (seg_put r es rising none s) ∙ map-append slot_in (places_before r es) ((r, s) ∷ places_behind r es)

      -- The links with a slot put in.
      pub listed_put : AreListed (index more live.capacity) m
      listed_put =
          let up : AreRanks more = is_sorted-put nat_cmp nat_cmp_total r s es (ranks_of es rising) in
          let lens = length-linked_in l (slot_before r es) s (slot_after r es) in
          let own = own_change r (Some s) es more listed.own (change_put true r s (Some s) live (index more live.capacity) refl none refl) (λ k x e at. unused k (at ∙ sym e)) in
          record {
            prevs = lens.0 ∙ listed.prevs;
            nexts = lens.1 ∙ listed.nexts;
            own = own;
            lists = λ q. elim (cases_eq t q) [
              | inl same ↦ subst (λ k. IsLinked m (slots_of k more)) same (subst (IsLinked m) (sym more_is) (subst (λ x. IsLinked x (front ++ s ∷ back)) linked
                  (linked_with_slot l front s back slot_within (subst (IsApart s) list_is (absent_of s t es (ranks_of es rising) (λ k at _. unused k at))) list)))
              | inr other ↦
                  let apart = subst (λ zs. AreElsewhere zs (slots_of q more)) more_is (lists_elsewhere t q more up own other) in
                  let same = ap (map slot_in) (seg_put_other r es rising none s q other) in
                  subst (λ x. IsLinked x (slots_of q more)) linked (linked_beside_in l front s back (slots_of q more) apart (subst (IsLinked l) (sym same) (listed.lists q)))
            ];
          }

  module _ (s : ℕ) (some : place_of r es ≡ Some s) where
    place_is : slots_of t es ≡ front ++ s ∷ back
    place_is = ap (map slot_in) (seg_present r es rising s some) ∙ map-append slot_in (places_before r es) ((r, s) ∷ places_behind r es)

    whole : IsLinked l (front ++ s ∷ back)
    whole = subst (IsLinked l) place_is (listed.lists t)

    -- The slots on either side are slots.
    pub sides_present : IsSide l (slot_before r es) × IsSide l (slot_after r es)
    sides_present = let parts = slots_parts l front (s ∷ back) whole.slots in
        ((λ x is. last_is_slot l front parts.0 x (last_slot (places_before r es) ∙ is)), (λ x is. first_is_slot l back parts.1.1 x (first_slot (places_behind r es) ∙ is)))

    -- The slot is one.
    pub slot_present : IsSlot l s
    slot_present = (slots_parts l front (s ∷ back) whole.slots).1.0

    -- The next slot is that of the next place.
    pub next_present : next_of l s ≡ slot_after r es
    next_present = (chain_parts l None front (s ∷ back) None whole.chain).1.1 ∙ first_slot (places_behind r es)

    -- The one before is that of the place in front.
    pub prev_present : prev_of l s ≡ slot_before r es
    prev_present = (chain_parts l None front (s ∷ back) None whole.chain).1.0 ∙ last_slot (places_before r es)

    abbrev fewer : List EventPlace
    fewer = out r es

    abbrev left : Links
    left = linked_out l (slot_before r es) (slot_after r es)

    unlinked : linked_out l (last_or None front) (head_or None back) ≡ left
    unlinked = (λ i. linked_out l (last_slot (places_before r es) i) (first_slot (places_behind r es) i))

    rest_is : slots_of t fewer ≡ front ++ back
    rest_is = ap (map slot_in) (seg_out r es rising s some) ∙ map-append slot_in (places_before r es) (places_behind r es)

    -- The links with a slot left out.
    pub listed_out : AreListed (index fewer live.capacity) left
    listed_out =
        let up : AreRanks fewer = is_sorted-where_key nat_cmp (λ x. not (eq_by_cmp nat_cmp r x)) es (ranks_of es rising) in
        let lens = length-linked_out l (slot_before r es) (slot_after r es) in
        let own = own_change r None es fewer listed.own (change_out r None live (index fewer live.capacity) refl refl) (λ k x e _. let f : None ≡ Some x = e in cc) in
        record {
          prevs = lens.0 ∙ listed.prevs;
          nexts = lens.1 ∙ listed.nexts;
          own = own;
          lists = λ q. elim (cases_eq t q) [
            | inl same ↦ subst (λ k. IsLinked left (slots_of k fewer)) same
                (subst (IsLinked left) (sym rest_is) (subst (λ x. IsLinked x (front ++ back)) unlinked (linked_without_slot l front s back whole)))
            | inr other ↦
                let apart = subst (λ zs. AreElsewhere zs (slots_of q fewer)) rest_is (lists_elsewhere t q fewer up own other) in
                let same = ap (map slot_in) (seg_out_other r es rising s some q other) in
                subst (λ x. IsLinked x (slots_of q fewer)) unlinked (linked_beside_out l front back (slots_of q fewer) apart (subst (IsLinked l) (sym same) (listed.lists q)))
          ];
        }

-- No links, no lists.
pub listed_none : (n : ℕ) → AreListed (index [] n) (links (replicate n None) (replicate n None))
listed_none n = grind (arith, common_steps, length-replicate)

module _ {i : keyed.Index ℕ} {l : Links} {p : Placed} (kept : ArePlaced i l) (view : placed i ≡ p) where
  abbrev lives : Index
  lives = marked_index (Some Live) i

  rises : AreRising lives.entries
  rises = marked_rising (Some Live) i.entries kept.rising

  module _ (key : ℕ) {slot : ℕ} (at : place_of key p.live.entries ≡ Some slot) where
    live_at : place_of key lives.entries ≡ Some slot
    live_at = ap (λ (x : Placed). place_of key x.live.entries) view ∙ at

    -- The slot of a live event is one.
    pub live_slot : IsSlot l slot
    live_slot = slot_present lives l kept.listed rises key slot live_at

    -- Its links lead to the slots of the places on either side.
    pub live_next : next_of l slot ≡ slot_after key p.live.entries
    live_next = next_present lives l kept.listed rises key slot live_at ∙ ap (λ (x : Placed). slot_after key x.live.entries) view

    -- These are slots.
    pub live_sides : IsSide l (prev_of l slot) × IsSide l (next_of l slot)
    live_sides = let sides = sides_present lives l kept.listed rises key slot live_at in (
      (λ x is. sides.0 x (sym (prev_present lives l kept.listed rises key slot live_at) ∙ is)),
      (λ x is. sides.1 x (sym (next_present lives l kept.listed rises key slot live_at) ∙ is)),
    )

    -- The lists with it left out.
    pub placed_out : (j : keyed.Index ℕ) (m : Links) → AreRising j.entries → marked_index (Some Live) j ≡ index (out key lives.entries) lives.capacity
        → m ≡ linked_out l (prev_of l slot) (next_of l slot) → ArePlaced j m
    placed_out j m up same links = record {
      rising = up;
      listed = listed_same (marked_index (Some Live) j) (index (out key lives.entries) lives.capacity) m _ same
          (links ∙ (λ k. linked_out l (prev_present lives l kept.listed rises key slot live_at k) (next_present lives l kept.listed rises key slot live_at k)))
          (listed_out lives l kept.listed rises key slot live_at);
    }

  -- The lists with a slot put in.
  pub placed_in : (key slot : ℕ) (j : keyed.Index ℕ) (m : Links) → place_of key p.live.entries ≡ None → IsSlotFor slot p → AreRising j.entries
      → marked_index (Some Live) j ≡ index (put nat_cmp key slot lives.entries) lives.capacity
      → m ≡ linked_in l (slot_before key lives.entries) slot slot (slot_after key lives.entries) → ArePlaced j m
  placed_in key slot j m none slot_for up same links = let own = subst (IsSlotFor slot) (sym view) slot_for in record {
    rising = up;
    listed = listed_same (marked_index (Some Live) j) (index (put nat_cmp key slot lives.entries) lives.capacity) m _ same links
        (listed_put lives l kept.listed rises key (ap (λ (x : Placed). place_of key x.live.entries) view ∙ none) slot own.within own.unused);
  }

-- The places of an index that have a mark, or all: how its edits change them.
use Rattle.std.{proofs.lemmas.Grind.common_steps, proofs.Common.{◌≡◌, ℕ, ◌≤◌, ◌==◌, Bool, true, false, cond, List, [], ◌∷◌, ◌++◌, Option, Some, None, is_some, length, ◌-◌, slice_get, map, option_map, drop, refl, sym, ap, ◌∙◌, subst, arith}, proofs.lemmas.Bool.Decides.Decides-eqb, proofs.lemmas.List.{append_cancel_left, length-map, map-append}, proofs.lemmas.Option.slice_get-map, proofs.lemmas.List.Elements.filter-append, specs.Ordering.nat_cmp, specs.FinMap.put}
use Rattle.ledger_model.{proofs.Directions.each_way, specs.declared.by_direction.ByDirection.ByDirection, specs.declared.reading.Direction.TheVariants.{Import, Export}}
use Rattle.key_index.specs.Index as keyed
use Rattle.key_index.{specs.declared.filed.Mark.Mark, specs.declared.filed.Mark.TheVariants.{Live, Imports, Exports, Names}, specs.declared.filed.Marks.Marks, specs.declared.filed.Filed.Filed, specs.Entries.{Entry, below, from, filed_at, first_of, last_of, AreAbove, AreRising}, proofs.Orders.{cut_none, cut_whole, rising_parts}, specs.Marks.{has_mark, mark_at, marked}}
use Rattle.event_chain.{specs.Flat.{EventPlace, place_of}, specs.Edits.{put_if, out, IsLiveLess, IsLiveMore, IsLiveSame, IsNotLive}, specs.Placed.{Index, carriers_of, index, marked_places, marked_index, passes, place_in, placed, Placed}, proofs.Decided.not_so, proofs.Places.{found_at, put_is, out_is, not_less}}

-- No entries have no places.
marked_nil : (o : Option Mark) → marked_places o [] ≡ []
marked_nil o = grind (arith, common_steps)

-- The places of entries with one in front.
marked_on : (o : Option Mark) (e : Entry ℕ) (es : List (Entry ℕ)) → marked_places o (e ∷ es) ≡ cond (passes o e.1.marks) (place_in e ∷ marked_places o es) (marked_places o es)
marked_on o e es = grind (arith, common_steps)

-- The places of two lists.
marked_both : (o : Option Mark) (xs ys : List (Entry ℕ)) → marked_places o (xs ++ ys) ≡ marked_places o xs ++ marked_places o ys
marked_both o xs ys = grind (arith, common_steps, map-append, filter-append)

-- Entries above a number have places above it.
marked_above : (o : Option Mark) (n : ℕ) (es : List (Entry ℕ)) → AreAbove n es → AreAbove n (marked_places o es)
marked_above o n [] h = subst (AreAbove n) (sym (marked_nil o)) tt
marked_above o n (e ∷ es) h = grind (arith, common_steps, marked_above o n es h.1)

-- The places with a mark rise.
pub marked_rising : (o : Option Mark) (es : List (Entry ℕ)) → AreRising es → AreRising (marked_places o es)
marked_rising o [] h = subst AreRising (sym (marked_nil o)) tt
marked_rising o (e ∷ es) h = grind (arith, common_steps, marked_on, marked_above, marked_rising o es h.1)

-- None has the rank.
slot_none : (r n : ℕ) (xs : List EventPlace) → AreAbove n xs → r ≤ n → filed_at r xs ≡ None
slot_none r n xs h le = grind (arith, common_steps, not_so, Decides-eqb)

-- Places cut at a rank: what is in front.
pub marked_below : (o : Option Mark) (r : ℕ) (es : List (Entry ℕ)) → AreRising es → marked_places o (below r es) ≡ below r (marked_places o es)
marked_below o r [] h = marked_nil o ∙ sym (ap (below r) (marked_nil o))
marked_below o r (e ∷ es) h = grind (arith, common_steps, marked_on, marked_nil, cut_none, marked_above, not_less, marked_below o r es h.1)

-- And what is left.
pub marked_from : (o : Option Mark) (r : ℕ) (es : List (Entry ℕ)) → AreRising es → marked_places o (from r es) ≡ from r (marked_places o es)
marked_from o r es h = let ms = marked_places o es in append_cancel_left (below r ms) (marked_places o (from r es)) (from r ms)
    (ap (λ xs. xs ++ marked_places o (from r es)) (sym (marked_below o r es h)) ∙ sym (marked_both o (below r es) (from r es)) ∙ ap (marked_places o) (cut_whole r es) ∙ sym (cut_whole r ms))

-- The entries that have a mark, or all.
abbrev pub marked_or_all : Option Mark → List (Entry ℕ) → List (Entry ℕ)
marked_or_all None es = es
marked_or_all (Some m) es = marked m es

-- The place of an entry at a number.
place_at : (o : Option Mark) (es : List (Entry ℕ)) (n : ℕ) → option_map place_in (slice_get (marked_or_all o es) n) ≡ slice_get (marked_places o es) n
place_at None es n = sym (slice_get-map place_in es n)
place_at (Some m) es n = sym (slice_get-map place_in (marked m es) n)

-- There are as many places as entries.
length_places : (o : Option Mark) (es : List (Entry ℕ)) → length (marked_places o es) ≡ length (marked_or_all o es)
length_places None es = length-map es place_in
length_places (Some m) es = length-map (marked m es) place_in

-- What callers see of places with a mark, or of all.
module _ (i : keyed.Index ℕ) {o k : Option Mark} {x : Index} (is : o ≡ k) (view : marked_index o i ≡ x) (up : AreRising i.entries) where
  pub rises_read : AreRising x.entries
  rises_read = subst (λ (y : Index). AreRising y.entries) view (marked_rising o i.entries up)

  -- The first place from a rank on.
  pub first_read : (r : ℕ) → option_map place_in (first_of (marked_or_all k (from r i.entries))) ≡ first_of (from r x.entries)
  first_read r = place_at k (from r i.entries) 0 ∙ ap first_of (marked_from k r i.entries up)
      ∙ ap (λ q. first_of (from r (marked_places q i.entries))) (sym is) ∙ ap (λ (y : Index). first_of (from r y.entries)) view

  -- The last place in front of a rank.
  pub last_read : (r : ℕ) → option_map place_in (last_of (marked_or_all k (below r i.entries))) ≡ last_of (below r x.entries)
  last_read r = let es = below r i.entries in
      place_at k es (length (marked_or_all k es) - 1) ∙ ap (λ n. slice_get (marked_places k es) (n - 1)) (sym (length_places k es))
      ∙ ap last_of (marked_below k r i.entries up) ∙ ap (λ q. last_of (below r (marked_places q i.entries))) (sym is) ∙ ap (λ (y : Index). last_of (below r y.entries)) view

-- Where no entry has the rank, no place with a mark has.
pub marked_absent : (o : Option Mark) (r : ℕ) (es : List (Entry ℕ)) → place_of r (marked_places None es) ≡ None → place_of r (marked_places o es) ≡ None
marked_absent o r [] none = ap (place_of r) (marked_nil o)
marked_absent o r (e ∷ es) none = grind (arith, common_steps, marked_absent o r es)

-- The slot under a rank.
slot_filed : (r : ℕ) (l : List (Entry ℕ)) → filed_at r (map place_in l) ≡ option_map (λ (f : Filed ℕ). f.value) (filed_at r l)
slot_filed r l = grind (arith, common_steps)

-- What is under a rank, by its place.
filed_place : (r : ℕ) (es : List (Entry ℕ)) → AreRising es → option_map (λ (f : Filed ℕ). f.value) (filed_at r (from r es)) ≡ place_of r (marked_places None es)
filed_place r es h = sym (slot_filed r (from r es)) ∙ ap (filed_at r) (marked_from None r es h) ∙ found_at r (marked_places None es) (marked_rising None es h)

-- Nothing does where there is no place.
pub filed_absent : (r : ℕ) (es : List (Entry ℕ)) → AreRising es → place_of r (marked_places None es) ≡ None → filed_at r (from r es) ≡ None
filed_absent r es h none = no_filed (filed_at r (from r es)) (filed_place r es h ∙ none) where
  no_filed : (o : Option (Filed ℕ)) → option_map (λ (f : Filed ℕ). f.value) o ≡ None → o ≡ None
  no_filed o is = grind (arith, common_steps)

-- What is filed under a rank that has a place.
pub filed_there : (r s : ℕ) (es : List (Entry ℕ)) → AreRising es → place_of r (marked_places None es) ≡ Some s → (f : Filed ℕ) × ((filed_at r (from r es) ≡ Some f) × (f.value ≡ s))
filed_there r s es h at = a_filed (filed_at r (from r es)) (filed_place r es h ∙ at) where
  a_filed : (o : Option (Filed ℕ)) → option_map (λ (f : Filed ℕ). f.value) o ≡ Some s → (f : Filed ℕ) × ((o ≡ Some f) × (f.value ≡ s))
  a_filed o is = grind (arith, common_steps)

-- Something is filed under a rank that has a place.
pub filed_some : (r : ℕ) (es : List (Entry ℕ)) → AreRising es → is_some (place_of r (marked_places None es)) ≡ true → (f : Filed ℕ) × (filed_at r (from r es) ≡ Some f)
filed_some r es h some = a_filed (filed_at r (from r es)) (ap is_some (filed_place r es h) ∙ some) where
  a_filed : (o : Option (Filed ℕ)) → is_some (option_map (λ (f : Filed ℕ). f.value) o) ≡ true → (f : Filed ℕ) × (o ≡ Some f)
  a_filed o is = grind (arith, common_steps)

-- Places with that of an entry put in.
pub marked_put : (o : Option Mark) (r : ℕ) (f : Filed ℕ) (es : List (Entry ℕ)) → AreRising es
    → place_of r (marked_places None es) ≡ None
    → marked_places o (below r es ++ (r, f) ∷ from r es) ≡ put_if (passes o f.marks) r f.value (marked_places o es)
marked_put o r f es h none = grind (arith, common_steps, found_at, marked_rising, marked_absent, marked_both, marked_below, marked_on, marked_from, put_is, cut_whole)

-- An entry that is found is the first of what is left.
from_parts : (r : ℕ) (f : Filed ℕ) (l : List (Entry ℕ)) → filed_at r l ≡ Some f → (rest : List (Entry ℕ)) × (l ≡ (r, f) ∷ rest)
from_parts r f [] h = cc
from_parts r f (e ∷ l) h =
    elim (e.0 == r) as (λ b. (e.0 == r) ≡ b → cond b (Some e.1) None ≡ Some f → (rest : List (Entry ℕ)) × ((e ∷ l) ≡ (r, f) ∷ rest)) [
      | true ↦ λ y is. let key : e.0 ≡ r = (Decides-eqb e.0 r).0 y in let value : e.1 ≡ f = cc in (l, λ i. (key i, value i) ∷ l)
      | false ↦ λ _ is. cc
    ] refl h

-- What is left from a rank on rises.
from_rising : (r : ℕ) (es : List (Entry ℕ)) → AreRising es → AreRising (from r es)
from_rising r es h = (rising_parts (below r es) (from r es) (subst AreRising (sym (cut_whole r es)) h)).1

-- Nothing is left out where the rank is absent.
pub out_absent : (r : ℕ) (xs : List EventPlace) → place_of r xs ≡ None → out r xs ≡ xs
out_absent r [] none = refl
out_absent r (x ∷ xs) none = grind (arith, common_steps, out_absent r xs)

module _ (o : Option Mark) (r : ℕ) (f : Filed ℕ) (es : List (Entry ℕ)) (h : AreRising es) (there : filed_at r (from r es) ≡ Some f) where
  abbrev L : List EventPlace
  L = marked_places o es

  -- The entries behind that of the rank.
  abbrev rest : List (Entry ℕ)
  rest = (from_parts r f (from r es) there).0

  rest_is : from r es ≡ (r, f) ∷ rest
  rest_is = (from_parts r f (from r es) there).1

  rest_above : AreAbove r (marked_places o rest)
  rest_above = marked_above o r rest (subst AreRising rest_is (from_rising r es h)).0

  left_is : from r L ≡ cond (passes o f.marks) ((r, f.value) ∷ marked_places o rest) (marked_places o rest)
  left_is = sym (marked_from o r es h) ∙ ap (marked_places o) rest_is ∙ marked_on o (r, f) rest

  -- Places without that of the entry.
  gone : below r L ++ marked_places o rest ≡ out r L
  gone = elim (passes o f.marks) as (λ b. from r L ≡ cond b ((r, f.value) ∷ marked_places o rest) (marked_places o rest) → below r L ++ marked_places o rest ≡ out r L) [
    | true ↦ λ e. ap (λ l. below r L ++ drop 1 l) (sym e)
        ∙ out_is r L (marked_rising o es h) (ap (λ l. is_some (filed_at r l)) e ∙ ap (λ b. is_some (cond b (Some f.value) None)) ((Decides-eqb r r).1 refl))
    | false ↦ λ e. let none : place_of r L ≡ None = sym (found_at r L (marked_rising o es h)) ∙ ap (filed_at r) e ∙ slot_none r r (marked_places o rest) rest_above (omega arith) in
        ap (λ l. below r L ++ l) (sym e) ∙ cut_whole r L ∙ sym (out_absent r L none)
  ] left_is

  -- Places with that of the entry taken out.
  pub marked_out : marked_places o (below r es ++ drop 1 (from r es)) ≡ out r L
  marked_out = marked_both o (below r es) (drop 1 (from r es)) ∙ (λ i. marked_below o r es h i ++ marked_places o (drop 1 (rest_is i))) ∙ gone

  module _ (marks : Marks) where
    marked_set : marked_places o (below r es ++ mark_at marks 0 (from r es)) ≡ below r L ++ cond (passes o marks) ((r, f.value) ∷ marked_places o rest) (marked_places o rest)
    marked_set = grind (arith, common_steps, marked_both, marked_below, marked_on)

    -- Places that the entry leaves by its marks.
    pub marked_void : passes o marks ≡ false → marked_places o (below r es ++ mark_at marks 0 (from r es)) ≡ out r L
    marked_void never = marked_set ∙ ap (λ b. below r L ++ cond b ((r, f.value) ∷ marked_places o rest) (marked_places o rest)) never ∙ gone

    -- Places among which it stays.
    pub marked_stays : passes o f.marks ≡ true → passes o marks ≡ true → marked_places o (below r es ++ mark_at marks 0 (from r es)) ≡ L
    marked_stays was is = grind (arith, common_steps, marked_set, left_is, cut_whole)

    -- Places that it enters where it was none of them.
    pub marked_enter : place_of r L ≡ None → marked_places o (below r es ++ mark_at marks 0 (from r es)) ≡ put_if (passes o marks) r f.value L
    marked_enter none = grind (arith, common_steps, found_at, marked_rising, marked_set, put_is, cut_whole, Decides-eqb, left_is)

-- The marks of a live event.
abbrev pub live_marks : ByDirection Bool → Bool → Marks
live_marks carries names_evse = record { live = true; imports = carries.import; exports = carries.export; names = names_evse }

-- No marks.
abbrev pub unmarked : Marks
unmarked = record { live = false; imports = false; exports = false; names = false }

-- What a change of one index does to its places by each mark.
module _ (old new : keyed.Index ℕ) {p : Placed} (view : placed old ≡ p) (key : ℕ) (up : AreRising old.entries) (room : new.capacity ≡ old.capacity) where
  marked_is : (o : Option Mark) (xs : List EventPlace) → marked_places o new.entries ≡ xs → marked_index o new ≡ index xs old.capacity
  marked_is o xs is = λ i. index (is i) (room i)

  more : (slot : ℕ) (carries : ByDirection Bool) (names_evse : Bool)
      → ((m : Mark) → marked_index (Some m) new ≡ index (put_if (has_mark m (live_marks carries names_evse)) key slot (marked_places (Some m) old.entries)) old.capacity)
      → IsLiveMore key slot carries names_evse p (placed new)
  more slot carries names_evse each =
      let all : IsLiveMore key slot carries names_evse (placed old) (placed new) = grind (arith, common_steps, each_way) in subst (λ x. IsLiveMore key slot carries names_evse x (placed new)) view all

  -- A live event is put in.
  module _ (slot : ℕ) (carries : ByDirection Bool) (names_evse : Bool) (none : place_of key p.stored.entries ≡ None)
      (is : new.entries ≡ below key old.entries ++ (key, record { value = slot; marks = live_marks carries names_evse }) ∷ from key old.entries) where
    pub put_in : (o : Option Mark) → marked_index o new ≡ index (put_if (passes o (live_marks carries names_evse)) key slot (marked_places o old.entries)) old.capacity
    put_in o = marked_is o _ (ap (marked_places o) is
        ∙ marked_put o key (record { value = slot; marks = live_marks carries names_evse }) old.entries up (ap (λ (x : Placed). place_of key x.stored.entries) view ∙ none))

    pub stored_more : marked_index None new ≡ index (put nat_cmp key slot p.stored.entries) p.stored.capacity
    stored_more = put_in None ∙ ap (λ (x : Placed). index (put nat_cmp key slot x.stored.entries) x.stored.capacity) view

    pub lives_more : IsLiveMore key slot carries names_evse p (placed new)
    lives_more = more slot carries names_evse (λ m. put_in (Some m))

  -- The marks of an event change.
  module _ (slot : ℕ) (at : place_of key p.stored.entries ≡ Some slot) (marks : Marks) (is : new.entries ≡ below key old.entries ++ mark_at marks 0 (from key old.entries)) where
    abbrev f : (f : Filed ℕ) × ((filed_at key (from key old.entries) ≡ Some f) × (f.value ≡ slot))
    f = filed_there key slot old.entries up (ap (λ (x : Placed). place_of key x.stored.entries) view ∙ at)

    pub stored_stays : marked_index None new ≡ p.stored
    stored_stays = marked_is None _ (ap (marked_places None) is ∙ marked_stays None key f.0 old.entries up f.1.0 marks refl refl) ∙ ap (λ (x : Placed). x.stored) view

    module _ (none : marks ≡ unmarked) where
      pub gone_from : (m : Mark) → marked_index (Some m) new ≡ index (out key (marked_places (Some m) old.entries)) old.capacity
      gone_from m = marked_is (Some m) _ (ap (marked_places (Some m)) is ∙ marked_void (Some m) key f.0 old.entries up f.1.0 marks (ap (has_mark m) none ∙ none_has m)) where
        none_has : (k : Mark) → has_mark k unmarked ≡ false
        none_has k = grind (arith, common_steps)

      pub lives_less : IsLiveLess key p (placed new)
      lives_less = subst (λ x. IsLiveLess key x (placed new)) view (record {
        live = gone_from Live;
        carriers = each_way (λ d. carriers_of (placed new) d ≡ index (out key (carriers_of (placed old) d).entries) (carriers_of (placed old) d).capacity) (gone_from Imports) (gone_from Exports);
        naming = gone_from Names;
      })

    module _ (carries : ByDirection Bool) (names_evse : Bool) (marks_are : marks ≡ live_marks carries names_evse) (none : IsNotLive key p) where
      absent : (m : Mark) → place_of key (marked_places (Some m) old.entries) ≡ None
      absent m = let dark = subst (IsNotLive key) (sym view) none in elim m as (λ k. place_of key (marked_places (Some k) old.entries) ≡ None) [
        | Live ↦ dark.live
        | Imports ↦ dark.carriers Import
        | Exports ↦ dark.carriers Export
        | Names ↦ dark.naming
      ]

      pub again_in : (m : Mark) → marked_index (Some m) new ≡ index (put_if (has_mark m (live_marks carries names_evse)) key slot (marked_places (Some m) old.entries)) old.capacity
      again_in m = marked_is (Some m) _ (ap (marked_places (Some m)) is ∙ marked_enter (Some m) key f.0 old.entries up f.1.0 marks (absent m)
          ∙ ap (λ s. put_if (has_mark m marks) key s (marked_places (Some m) old.entries)) f.1.1 ∙ ap (λ b. put_if (has_mark m b) key slot (marked_places (Some m) old.entries)) marks_are)

      pub lives_again : IsLiveMore key slot carries names_evse p (placed new)
      lives_again = more slot carries names_evse again_in

  -- An event that is not live is taken out.
  module _ (some : is_some (place_of key p.stored.entries) ≡ true) (is : new.entries ≡ below key old.entries ++ drop 1 (from key old.entries)) where
    abbrev g : (f : Filed ℕ) × (filed_at key (from key old.entries) ≡ Some f)
    g = filed_some key old.entries up (ap (λ (x : Placed). is_some (place_of key x.stored.entries)) view ∙ some)

    pub stored_less : marked_index None new ≡ index (out key p.stored.entries) p.stored.capacity
    stored_less = marked_is None _ (ap (marked_places None) is ∙ marked_out None key g.0 old.entries up g.1) ∙ ap (λ (x : Placed). index (out key x.stored.entries) x.stored.capacity) view

    module _ (none : IsNotLive key p) where
      pub stays_in : (m : Mark) → place_of key (marked_places (Some m) old.entries) ≡ None → marked_index (Some m) new ≡ marked_index (Some m) old
      stays_in m absent = marked_is (Some m) _ (ap (marked_places (Some m)) is ∙ marked_out (Some m) key g.0 old.entries up g.1 ∙ out_absent key (marked_places (Some m) old.entries) absent)

      pub lives_stay : IsLiveSame p (placed new)
      lives_stay = let dark = subst (IsNotLive key) (sym view) none in subst (λ x. IsLiveSame x (placed new)) view (record {
        live = stays_in Live dark.live;
        carriers = each_way (λ d. carriers_of (placed new) d ≡ carriers_of (placed old) d) (stays_in Imports (dark.carriers Import)) (stays_in Exports (dark.carriers Export));
        naming = stays_in Names dark.naming;
      })

-- What is kept of a transaction, when one more live event comes.
use Rattle.std.{proofs.lemmas.Bool.Decides.nat_tests, proofs.Common.{◌≡◌, ℕ, ◌+◌, ◌<◌, ◌≤◌, true, false, List, [], ◌∷◌, ◌++◌, Option, None, Some, IfSome, length, map, slice_get, unwrap_or, option_map, refl, sym, ap, ◌∙◌, subst, arith, length-append, inl, inr, ◌⊎◌}, specs.List.filter_map, proofs.lemmas.List.{length-map, map-append}}
use Rattle.energy_flow.specs.Flow.{Energy}
use Rattle.ledger_model.{specs.declared.by_direction.ByDirection.ByDirection, specs.Board.last_or_zero, specs.BoardLaws.AreRising, specs.Content.{Entry, Stored, live_of}, specs.Deltas.{own_events, before_key, behind_key}, specs.Event.EventContent, specs.Evse.first_or_zero, specs.Gaps.{numbers_of, missing}, specs.Key.KeyName, proofs.Callers.{live_with, live_without}, proofs.GapLemmas.missing-fills}
use Rattle.event_chain.{specs.Chains.{Chained, stored}, specs.declared.around.Sides.Sides}
use Rattle.station_ledger.{specs.declared.pairs.Way.Way, specs.declared.pairs.Way.TheVariants.{Coming, Going}, specs.declared.standing.Standing.Standing, specs.Standing.{standing_with, kept_with}, specs.Coming.IsOneLess, specs.Quarters.HasEvent, specs.Sums.IsTurning, proofs.EndNumbers.first_is}

-- The last of two lists.
last_both : (ns : List ℕ) (m : ℕ) (ms : List ℕ) → last_or_zero (ns ++ m ∷ ms) ≡ last_or_zero (m ∷ ms)
last_both [] m ms = refl
last_both (n ∷ []) m ms = refl
last_both (n ∷ k ∷ ns) m ms = last_both (k ∷ ns) m ms

-- A number behind rising ones is above the last of them.
last_below : (n : ℕ) (ns : List ℕ) (m : ℕ) → AreRising (n ∷ ns ++ m ∷ []) → last_or_zero (n ∷ ns ++ []) < m
last_below n [] m up = up.0
last_below n (k ∷ ns) m up = last_below k ns m up.1

-- The last of rising numbers is above the first.
last_above : (n m : ℕ) (ms : List ℕ) → AreRising (n ∷ m ∷ ms) → n < last_or_zero (m ∷ ms)
last_above n m [] up = up.0
last_above n m (k ∷ ms) up = omega (arith, up.0, last_above m k ms up.1)

-- The back of rising numbers rises.
back_rises : (ns : List ℕ) (m : ℕ) (ms : List ℕ) → AreRising (ns ++ m ∷ ms) → AreRising (m ∷ ms)
back_rises [] m ms up = up
back_rises (n ∷ []) m ms up = up.1
back_rises (n ∷ k ∷ ns) m ms up = back_rises (k ∷ ns) m ms up.1

-- Rising numbers without one of them rise.
others_rise : (ns : List ℕ) (n : ℕ) (ms : List ℕ) → AreRising (ns ++ n ∷ ms) → AreRising (ns ++ ms)
others_rise [] n ms up = grind (arith, up)
others_rise (k ∷ []) n ms up = grind (arith, up)
others_rise (k ∷ j ∷ ns) n ms up = (up.0, others_rise (j ∷ ns) n ms up.1)

-- A number behind the first leaves the last where it was, or is the last.
ends : (k : ℕ) (front : List ℕ) (n : ℕ) (back : List ℕ) → AreRising (k ∷ front ++ n ∷ back)
    → ((last_or_zero (k ∷ front ++ n ∷ back) ≡ last_or_zero (k ∷ front ++ back)) × (n < last_or_zero (k ∷ front ++ back)))
    ⊎ ((last_or_zero (k ∷ front ++ n ∷ back) ≡ n) × (last_or_zero (k ∷ front ++ back) < n))
ends k front n [] up = inr (last_both (k ∷ front) n [], last_below k front n up)
ends k front n (m ∷ back) up =
    let before = last_both (k ∷ front) m back in let high = last_above n m back (back_rises (k ∷ front) n (m ∷ back) up) in
    inl (last_both (k ∷ front) n (m ∷ back) ∙ sym before, omega (arith, before, high))

-- What is missing, by a number behind the first: it was missing, or it comes last.
filled : (front back : List ℕ) (n f : ℕ) → AreRising (front ++ n ∷ back) → slice_get (front ++ n ∷ back) 0 ≡ Some f → f < n
    → (n < f + length (front ++ back) + missing (front ++ back) → missing (front ++ n ∷ back) + 1 ≡ missing (front ++ back))
    × (f + length (front ++ back) + missing (front ++ back) ≤ n → missing (front ++ n ∷ back) + (f + length (front ++ back) + missing (front ++ back)) ≡ missing (front ++ back) + n)
filled [] back n f up first lt = absurd (omega (arith, (first_is (n ∷ back) f first).0, lt))
filled (k ∷ front) back n f up first lt =
    let now = missing-fills (k ∷ front ++ n ∷ back) up (omega arith) in let was = missing-fills (k ∷ front ++ back) (others_rise (k ∷ front) n back up) (omega arith) in
    let same = (first_is (k ∷ front ++ n ∷ back) f first).0 in let end = ends k front n back up in
    omega (arith, now, was, same, end, length-append front (n ∷ back), length-append front back)

-- A number behind the first of some leaves it the first.
keeps_first : (front back : List ℕ) (n f : ℕ) → AreRising (front ++ n ∷ back) → f ≡ unwrap_or (slice_get (front ++ back) 0) 0
    → 0 < length (front ++ back) → f < n → slice_get (front ++ n ∷ back) 0 ≡ Some f
keeps_first [] back n f up is some lt = grind (arith, up, is, some)
keeps_first (k ∷ front) back n f up is some lt = ap Some (sym is)

-- An event that names no EVSE is passed over.
passed : (front : List Entry) (e : Entry) (back : List Entry) → e.1.event.evse ≡ None
    → filter_map (λ (x : Entry). x.1.event.evse) (front ++ e ∷ back) ≡ filter_map (λ (x : Entry). x.1.event.evse) (front ++ back)
passed [] e back none = grind (arith, none)
passed (f ∷ front) e back none = grind (arith, passed front e back none)

-- What is kept, where something is: there is a live event.
kept_is : (energy : ByDirection Energy) (tx : List ℕ) (es : List Entry) (was : Standing) → Some was ≡ kept_with energy tx es → (was ≡ standing_with energy tx es) × (0 < length (live_of tx es))
kept_is energy tx es was h = grind (arith, nat_tests, h)

-- The standing of a transaction, compared with its events after one more has come that names no EVSE.
one_less : (es : List Entry) (chains : Chained) (key : KeyName) (place : ByDirection Sides) (come : IsTurning Coming es chains key place)
    → come.event.event.evse ≡ None → AreRising (numbers_of key.tx (stored chains))
    → (energy : ByDirection Energy) (was : Standing) → Some was ≡ kept_with energy key.tx es → IsOneLess was key.tx key.seq (stored chains)
one_less es chains key place come none up energy was kept =
    let new = stored chains in let tx = key.tx in let e : Entry = (key, come.event) in let front = before_key key es in let back = behind_key key es in
    let own = own_events tx front in let rest = own_events tx back in
    let some = kept_is energy tx es was kept in let is = some.0 in
    let with = live_with es new front e back come.one in let without = live_without es new front e back come.one in
    let seq_of = λ (x : Entry). x.0.seq in
    let now : numbers_of tx new ≡ map seq_of own ++ key.seq ∷ map seq_of rest = ap (map seq_of) with ∙ map-append seq_of own (e ∷ rest) in
    let before : numbers_of tx es ≡ map seq_of own ++ map seq_of rest = ap (map seq_of) without ∙ map-append seq_of own rest in
    let lives : was.live ≡ length (map seq_of own ++ map seq_of rest) = ap (λ (s : Standing). s.live) is ∙ sym (length-map (live_of tx es) seq_of) ∙ ap length before in
    let gone : was.missing ≡ missing (map seq_of own ++ map seq_of rest) = ap (λ (s : Standing). s.missing) is ∙ ap missing before in
    let rises = subst AreRising now up in
    let fills = λ (first : ℕ) (at : slice_get (numbers_of tx new) 0 ≡ Some first). filled (map seq_of own) (map seq_of rest) key.seq first rises (ap (λ ns. slice_get ns 0) (sym now) ∙ at) in
    record {
      live = omega (arith, ap length with, length-append own (e ∷ rest), ap (λ (s : Standing). s.live) is, ap length without, length-append own rest);
      first = λ lt. ap (λ ns. slice_get ns 0) now
          ∙ keeps_first (map seq_of own) (map seq_of rest) key.seq was.first rises (ap (λ (s : Standing). s.first) is ∙ ap (λ ns. unwrap_or (slice_get ns 0) 0) before)
          (omega (arith, lives, ap (λ (s : Standing). s.live) is, some.1)) lt;
      evse = ap (λ xs. first_or_zero (filter_map (λ (x : Entry). x.1.event.evse) xs)) with ∙ ap first_or_zero (passed own e rest none)
          ∙ sym (ap (λ (s : Standing). s.evse) is ∙ ap (λ xs. first_or_zero (filter_map (λ (x : Entry). x.1.event.evse) xs)) without);
      within = λ first at lt le. let so = (fills first at lt).0 (omega (arith, le, lives, gone)) in omega (arith, so, ap missing now, gone);
      beyond = λ first at lt le. let so = (fills first at lt).1 (omega (arith, le, lives, gone)) in omega (arith, so, ap missing now, gone, lives);
    }

-- The EVSE that a stored event names.
abbrev evse_in : Option Stored → Option ℕ
evse_in None = None
evse_in (Some s) = s.event.evse

-- The same of an event that the chains have, where anything was kept.
pub all_less : (way : Way) (es : List Entry) (chains : Chained) (key : KeyName) (place : ByDirection Sides) → IsTurning way es chains key place
    → AreRising (numbers_of key.tx (stored chains)) → (tx : List ℕ) (seq : ℕ) → tx ≡ key.tx → seq ≡ key.seq → (energy : ByDirection Energy) (was : Option Standing) → was ≡ kept_with energy tx es
    → (event : EventContent) → HasEvent key event chains → event.evse ≡ None → IfSome was (λ w. IsOneLess w tx seq (stored chains))
all_less way es chains key place turning up tx seq tx_is seq_is energy None kept event has none = tt
all_less Coming es chains key place come up tx seq tx_is seq_is energy (Some was) kept event has none =
    subst (λ t. IsOneLess was t seq (stored chains)) (sym tx_is) (subst (λ n. IsOneLess was key.tx n (stored chains)) (sym seq_is)
    (one_less es chains key place come (ap evse_in (sym come.there ∙ has) ∙ none) up energy was (kept ∙ ap (λ t. kept_with energy t es) tx_is)))
all_less Going es chains key place go up tx seq tx_is seq_is energy (Some was) kept event has none = absurd
    (let e : true ≡ false = ap (λ (o : Option Stored). unwrap_or (option_map (λ (s : Stored). s.voided) o) true) (sym go.there ∙ has) in cc)

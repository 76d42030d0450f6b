-- The parts of an even share, added up to a boundary.
use Rattle.std.{proofs.Common.{◌≡◌, ℕ, zero, suc, ◌+◌, ◌*◌, ◌-◌, ◌/◌, ◌≤◌, ◌<◌, Bool, true, false, cond, List, [], ◌∷◌, refl, sym, ap, subst, ◌∙◌, inl, inr, ⊎_elim, append-nil, map, arith}, specs.Prelude.{sum_by, nat_lt, nat_le, not, ◌&&◌}, proofs.Math.Nat.{div-le_of_le-mul, div-mul-le_self, div-zero, mul-le-mul_left, mul-div_cancel, zero-div}, proofs.lemmas.Bool.{cases_lt, lt-ltb, le-ltb, le-leb, ltb-true, leb-true, and_parts}, proofs.lemmas.List.Filters.sum_by-filter_both, proofs.lemmas.List.Sums.sum_by-cons, proofs.lemmas.Nat.{le-div, div_below}}
use Rattle.energy_flow.specs.Flow.{difference_of}
use Rattle.ledger_model.{specs.BoardLaws.{AreRising, IsIn}, specs.Energy.{Pair, change_of, difference, parts_of, parts_over}, specs.Parts.{Change, Part, is_shared, level_at, longest_share, share, shares, shares_from, whole}, specs.Quarter.quarter_at, specs.Settling.closed_at, specs.declared.settle.Settle.TheVariants.Even, proofs.PartLemmas.{parts_down, parts_up}, proofs.SumLemmas.sum_by-filter_cons}
use Rattle.reading_laws.specs.EvenShares.{AreEvenShares, IsWithinDay, begun_before, evenly}

div-rises : (a b k : ℕ) → a ≤ b → a / k ≤ b / k
div-rises a b zero le = omega (arith, div-zero a)
div-rises a b (suc k) le = le-div (a / suc k) b (suc k) (omega arith) (omega (arith, div-mul-le_self a (suc k), le))

abbrev up_of : Part → ℕ
up_of t = t.1.up

abbrev down_of : Part → ℕ
down_of t = t.1.down

-- A sum over the parts that begin before a period.
abbrev before : (Part → ℕ) → ℕ → List Part → ℕ
before f k ts = sum_by f (begun_before k ts)

not_begun : (f : Part → ℕ) (k : ℕ) (t : Part) (ts : List Part) → k ≤ t.0 → before f k (t ∷ ts) ≡ before f k ts
not_begun f k t ts le =
    let one = sum_by-filter_cons f (λ (s : Part). nat_lt s.0 k) t ts in
    let no : cond (nat_lt t.0 k) (f t) 0 ≡ 0 = ap (λ b. cond b (f t) 0) (le-ltb t.0 k le) in
    omega (arith, one, no)

before_within : (f : Part → ℕ) (k : ℕ) (ts : List Part) → before f k ts ≤ sum_by f ts
before_within f k ts = omega (arith, sum_by-filter_both (λ (t : Part). nat_lt t.0 k) (λ t. not (nat_lt t.0 k)) (λ t. refl) f ts)

begun : (f : Part → ℕ) (k : ℕ) (t : Part) (ts : List Part) → t.0 < k → before f k (t ∷ ts) ≡ f t + before f k ts
begun f k t ts less =
    let one = sum_by-filter_cons f (λ (s : Part). nat_lt s.0 k) t ts in
    let yes : cond (nat_lt t.0 k) (f t) 0 ≡ f t = ap (λ b. cond b (f t) 0) (lt-ltb t.0 k less) in
    omega (arith, one, yes)

module _ (c : Change) where
  -- The seconds from the earlier moment to a second, and to the later moment.
  abbrev gone : ℕ → ℕ
  gone second = second - c.since / 1_000_000_000

  abbrev long : ℕ
  long = c.until / 1_000_000_000 - c.since / 1_000_000_000

  share_within : (number second : ℕ) → gone second ≤ long → share c number second ≤ number
  share_within number second le =
      let all : number * gone second ≤ number * long = mul-le-mul_left number le in
      div-le_of_le-mul long (omega (arith, all))

  share_rises : (number second then : ℕ) → second ≤ then → share c number second ≤ share c number then
  share_rises number second then le =
      let less : gone second ≤ gone then = omega (arith, le) in
      div-rises (number * gone second) (number * gone then) long (mul-le-mul_left number less)

  none_shared : (second : ℕ) → share c 0 second ≡ 0
  none_shared second = ap (λ n. n / long) (omega arith) ∙ zero-div long

  none_yet : (number second : ℕ) → second ≤ c.since / 1_000_000_000 → share c number second ≡ 0
  none_yet number second le =
      let nothing : gone second ≡ 0 = omega (arith, le) in
      ap (λ n. number * n / long) nothing ∙ ap (λ n. n / long) (omega arith) ∙ zero-div long

  all_shared : (number second : ℕ) → second ≡ c.until / 1_000_000_000 → 0 < long → share c number second ≡ number
  all_shared number second e some = ap (λ s. share c number s) e ∙ mul-div_cancel number some

  level_up : (second : ℕ) → c.earlier ≤ c.later → level_at c second ≡ c.earlier + share c (c.later - c.earlier) second
  level_up second rises =
      let nothing : share c (c.earlier - c.later) second ≡ 0 = ap (λ n. share c n second) (omega (arith, rises)) ∙ none_shared second in
      omega (arith, nothing)

  level_down : (second : ℕ) → c.later ≤ c.earlier → level_at c second ≡ c.earlier - share c (c.earlier - c.later) second
  level_down second falls =
      let nothing : share c (c.later - c.earlier) second ≡ 0 = ap (λ n. share c n second) (omega (arith, falls)) ∙ none_shared second in
      omega (arith, nothing)

  level_rises : c.earlier ≤ c.later → (second then : ℕ) → second ≤ then → level_at c second ≤ level_at c then
  level_rises rises second then le = omega (arith, level_up second rises, level_up then rises, share_rises (c.later - c.earlier) second then le)

  level_falls : c.later ≤ c.earlier → (second then : ℕ) → second ≤ then → level_at c then ≤ level_at c second
  level_falls falls second then le = omega (arith, level_down second falls, level_down then falls, share_rises (c.earlier - c.later) second then le)

  module _ (length : ℕ) where
    -- The level where a period ends.
    abbrev at_end : ℕ → ℕ
    at_end quarter = level_at c ((quarter + 1) * length)

    later_boundary : (j k : ℕ) → j ≤ k → j * length ≤ k * length
    later_boundary j k le = let far : length * j ≤ length * k = mul-le-mul_left length le in omega (arith, far)

    none_begun : (f : Part → ℕ) (k quarter level more : ℕ) → k ≤ quarter → before f k (shares_from length c quarter level more) ≡ 0
    none_begun f k quarter level zero le = not_begun f k (quarter, difference_of level c.later) [] le
    none_begun f k quarter level (suc more) le =
        not_begun f k (quarter, difference_of level (at_end quarter)) (shares_from length c (quarter + 1) (at_end quarter) more) le
        ∙ none_begun f k (quarter + 1) (at_end quarter) more (omega (arith, le))

    all_begun : (f : Part → ℕ) (k quarter level more : ℕ) → quarter + more < k → before f k (shares_from length c quarter level more) ≡ sum_by f (shares_from length c quarter level more)
    all_begun f k quarter level zero less =
        let one = begun f k (quarter, difference_of level c.later) [] (omega (arith, less)) in
        omega (arith, one, sum_by-cons f (quarter, difference_of level c.later) [])
    all_begun f k quarter level (suc more) less =
        let one = begun f k (quarter, difference_of level (at_end quarter)) (shares_from length c (quarter + 1) (at_end quarter) more) (omega (arith, less)) in
        let rest = all_begun f k (quarter + 1) (at_end quarter) more (omega (arith, less)) in
        omega (arith, one, rest, sum_by-cons f (quarter, difference_of level (at_end quarter)) (shares_from length c (quarter + 1) (at_end quarter) more))

    rise_to : c.earlier ≤ c.later → (k quarter level more : ℕ) → level ≤ at_end quarter → quarter < k → k ≤ quarter + more
        → before up_of k (shares_from length c quarter level more) ≡ level_at c (k * length) - level
    rise_to rises k quarter level zero low from to = absurd (omega (arith, from, to))
    rise_to rises k quarter level (suc more) low from to =
        let rest = shares_from length c (quarter + 1) (at_end quarter) more in
        let one : before up_of k (shares_from length c quarter level (suc more)) ≡ (at_end quarter - level) + before up_of k rest = begun up_of k (quarter, difference_of level (at_end quarter)) rest from in
        ⊎_elim
        (λ (less : quarter + 1 < k).
        let high : at_end quarter ≤ level_at c (k * length) = level_rises rises ((quarter + 1) * length) (k * length) (later_boundary (quarter + 1) k (omega (arith, less))) in
        let next : at_end quarter ≤ at_end (quarter + 1) = level_rises rises ((quarter + 1) * length) ((quarter + 1 + 1) * length) (later_boundary (quarter + 1) (quarter + 1 + 1) (omega arith)) in
        omega (arith, one, rise_to rises k (quarter + 1) (at_end quarter) more next less (omega (arith, to)), high, low))
        (λ (near : k ≤ quarter + 1).
        let here : k ≡ quarter + 1 = omega (arith, near, from) in
        let same : level_at c (k * length) ≡ at_end quarter = ap (λ j. level_at c (j * length)) here in
        omega (arith, one, none_begun up_of k (quarter + 1) (at_end quarter) more near, same))
        (cases_lt (quarter + 1) k)

    fall_to : c.later ≤ c.earlier → (k quarter level more : ℕ) → at_end quarter ≤ level → quarter < k → k ≤ quarter + more
        → before down_of k (shares_from length c quarter level more) ≡ level - level_at c (k * length)
    fall_to falls k quarter level zero low from to = absurd (omega (arith, from, to))
    fall_to falls k quarter level (suc more) low from to =
        let rest = shares_from length c (quarter + 1) (at_end quarter) more in
        let one : before down_of k (shares_from length c quarter level (suc more)) ≡ (level - at_end quarter) + before down_of k rest = begun down_of k (quarter, difference_of level (at_end quarter)) rest from in
        ⊎_elim
        (λ (less : quarter + 1 < k).
        let high : level_at c (k * length) ≤ at_end quarter = level_falls falls ((quarter + 1) * length) (k * length) (later_boundary (quarter + 1) k (omega (arith, less))) in
        let next : at_end (quarter + 1) ≤ at_end quarter = level_falls falls ((quarter + 1) * length) ((quarter + 1 + 1) * length) (later_boundary (quarter + 1) (quarter + 1 + 1) (omega arith)) in
        omega (arith, one, fall_to falls k (quarter + 1) (at_end quarter) more next less (omega (arith, to)), high, low))
        (λ (near : k ≤ quarter + 1).
        let here : k ≡ quarter + 1 = omega (arith, near, from) in
        let same : level_at c (k * length) ≡ at_end quarter = ap (λ j. level_at c (j * length)) here in
        omega (arith, one, none_begun down_of k (quarter + 1) (at_end quarter) more near, same))
        (cases_lt (quarter + 1) k)

    -- The first and the last period of the parts.
    abbrev first : ℕ
    first = quarter_at length c.since

    abbrev last : ℕ
    last = quarter_at length (c.until - 1)

    in_order : c.since < c.until → first ≤ last
    in_order apart = div-rises (c.since / 1_000_000_000) ((c.until - 1) / 1_000_000_000) length (div-rises c.since (c.until - 1) 1_000_000_000 (omega (arith, apart)))

    -- A boundary up to the later moment, behind the last period, is the later moment.
    at_until : 0 < length → (k : ℕ) → last < k → k * length ≤ c.until / 1_000_000_000 → k * length ≡ c.until / 1_000_000_000
    at_until some k behind le =
        ⊎_elim
        (λ (less : (c.until - 1) / 1_000_000_000 < k * length). omega (arith, less, le))
        (λ (more : k * length ≤ (c.until - 1) / 1_000_000_000). absurd (omega (arith, le-div k ((c.until - 1) / 1_000_000_000) length some more, behind)))
        (cases_lt ((c.until - 1) / 1_000_000_000) (k * length))

    -- What begins before a boundary, by where it is: before the first period's end, at a boundary of parts, or at the end.
    up_to : 0 < length → c.since < c.until → (k : ℕ) → sum_by up_of (shares length c) ≡ c.later - c.earlier → c.earlier ≤ c.later
        → k * length ≤ c.until / 1_000_000_000 → 0 < long → before up_of k (shares length c) ≡ share c (c.later - c.earlier) (k * length)
    up_to some apart k all rises le long_some =
        let order = in_order apart in
        ⊎_elim
        (λ (less : first < k).
        ⊎_elim
        (λ (behind : last < k).
        let end = all_shared (c.later - c.earlier) (k * length) (at_until some k behind le) long_some in
        omega (arith, all_begun up_of k first c.earlier (last - first) (omega (arith, behind, order)), all, end))
        (λ (within : k ≤ last).
        let low : c.earlier ≤ at_end first = omega (arith, level_up ((first + 1) * length) rises) in
        omega (arith, rise_to rises k first c.earlier (last - first) low less (omega (arith, within, order)), level_up (k * length) rises))
        (cases_lt last k))
        (λ (early : k ≤ first).
        let none = none_begun up_of k first c.earlier (last - first) early in
        let far = later_boundary k first early in
        let nothing = none_yet (c.later - c.earlier) (k * length) (omega (arith, far, div-mul-le_self (c.since / 1_000_000_000) length)) in
        omega (arith, none, nothing))
        (cases_lt first k)

    down_to : 0 < length → c.since < c.until → (k : ℕ) → sum_by down_of (shares length c) ≡ c.earlier - c.later → c.later ≤ c.earlier
        → k * length ≤ c.until / 1_000_000_000 → 0 < long → before down_of k (shares length c) ≡ share c (c.earlier - c.later) (k * length)
    down_to some apart k all falls le long_some =
        let order = in_order apart in
        ⊎_elim
        (λ (less : first < k).
        ⊎_elim
        (λ (behind : last < k).
        let end = all_shared (c.earlier - c.later) (k * length) (at_until some k behind le) long_some in
        omega (arith, all_begun down_of k first c.earlier (last - first) (omega (arith, behind, order)), all, end))
        (λ (within : k ≤ last).
        let low : at_end first ≤ c.earlier = omega (arith, level_down ((first + 1) * length) falls) in
        let few = share_within (c.earlier - c.later) (k * length) (omega (arith, le)) in
        omega (arith, fall_to falls k first c.earlier (last - first) low less (omega (arith, within, order)), level_down (k * length) falls, few))
        (cases_lt last k))
        (λ (early : k ≤ first).
        let none = none_begun down_of k first c.earlier (last - first) early in
        let far = later_boundary k first early in
        let nothing = none_yet (c.earlier - c.later) (k * length) (omega (arith, far, div-mul-le_self (c.since / 1_000_000_000) length)) in
        omega (arith, none, nothing))
        (cases_lt first k)

    -- The sums of the parts that begin before a boundary are the shares at the boundary.
    record Comes (k : ℕ) : Type 0 where
      up : before up_of k (shares length c) ≡ share c (c.later - c.earlier) (k * length)
      down : before down_of k (shares length c) ≡ share c (c.earlier - c.later) (k * length)

    comes : 0 < length → c.since < c.until → sum_by up_of (shares length c) ≡ c.later - c.earlier → sum_by down_of (shares length c) ≡ c.earlier - c.later
        → (k : ℕ) → k * length ≤ c.until / 1_000_000_000 → 0 < long → Comes k
    comes some apart up down k le long_some =
        ⊎_elim
        (λ (less : c.earlier < c.later). record {
          up = up_to some apart k up (omega (arith, less)) le long_some;
          down =
              let none : share c (c.earlier - c.later) (k * length) ≡ 0 = ap (λ n. share c n (k * length)) (omega (arith, less)) ∙ none_shared (k * length) in
              omega (arith, less, none, down, before_within down_of k (shares length c));
        })
        (λ (falls : c.later ≤ c.earlier). record {
          up =
              let none : share c (c.later - c.earlier) (k * length) ≡ 0 = ap (λ n. share c n (k * length)) (omega (arith, falls)) ∙ none_shared (k * length) in
              omega (arith, falls, none, up, before_within up_of k (shares length c));
          down = down_to some apart k down falls le long_some;
        })
        (cases_lt c.earlier c.later)

    -- The periods of the parts.
    abbrev numbers : ℕ → ℕ → ℕ → List ℕ
    numbers quarter level more = map (λ (t : Part). t.0) (shares_from length c quarter level more)

    is_in : (k quarter level more : ℕ) → quarter ≤ k → k ≤ quarter + more → IsIn k (numbers quarter level more)
    is_in k quarter level zero from to = inl (omega (arith, from, to))
    is_in k quarter level (suc more) from to =
        ⊎_elim
        (λ (less : quarter < k). inr (is_in k (quarter + 1) (at_end quarter) more (omega (arith, less)) (omega (arith, to))))
        (λ (near : k ≤ quarter). inl (omega (arith, near, from)))
        (cases_lt quarter k)

    has_in : (k quarter level more : ℕ) → IsIn k (numbers quarter level more) → (quarter ≤ k) × (k ≤ quarter + more)
    has_in k quarter level zero (inl e) = (omega (arith, e), omega (arith, e))
    has_in k quarter level zero (inr none) = absurd none
    has_in k quarter level (suc more) (inl e) = (omega (arith, e), omega (arith, e))
    has_in k quarter level (suc more) (inr there) =
        let in_rest = has_in k (quarter + 1) (at_end quarter) more there in
        (omega (arith, in_rest.0), omega (arith, in_rest.1))

    numbers_rise : (quarter level more : ℕ) → AreRising (numbers quarter level more)
    numbers_rise quarter level zero = tt
    numbers_rise quarter level (suc zero) = (omega arith, tt)
    numbers_rise quarter level (suc (suc more)) = (omega arith, numbers_rise (quarter + 1) (at_end quarter) (suc more))

    begins : 0 < length → c.since < c.until → (k : ℕ) → k ≤ last → k * length * 1_000_000_000 < c.until
    begins some apart k le =
        let far = later_boundary k last le in
        let whole_seconds = div-mul-le_self ((c.until - 1) / 1_000_000_000) length in
        omega (arith, far, whole_seconds, apart)

    ends : 0 < length → (k : ℕ) → first ≤ k → c.since < (k + 1) * length * 1_000_000_000
    ends some k le =
        ⊎_elim
        (λ (less : c.since / 1_000_000_000 < (k + 1) * length). omega (arith, less))
        (λ (more : (k + 1) * length ≤ c.since / 1_000_000_000). absurd (omega (arith, le-div (k + 1) (c.since / 1_000_000_000) length some more, le)))
        (cases_lt (c.since / 1_000_000_000) ((k + 1) * length))

    from_begins : 0 < length → c.since < c.until → (k : ℕ) → k * length * 1_000_000_000 < c.until → k ≤ last
    from_begins some apart k less =
        let second : k * length ≤ (c.until - 1) / 1_000_000_000 = omega (arith, less) in
        le-div k ((c.until - 1) / 1_000_000_000) length some second

    from_ends : 0 < length → (k : ℕ) → c.since < (k + 1) * length * 1_000_000_000 → first ≤ k
    from_ends some k less =
        let second : c.since / 1_000_000_000 < (k + 1) * length = omega (arith, less) in
        omega (arith, div_below (c.since / 1_000_000_000) length (k + 1) some second)

-- ---- of a pair

is_shared-true : (p : Pair) → IsWithinDay p → is_shared (change_of p) ≡ true
is_shared-true p w = ap (λ b. b && nat_le (p.1.moment - p.0.moment) longest_share) (lt-ltb p.0.moment p.1.moment w.later) ∙ le-leb (p.1.moment - p.0.moment) longest_share w.day

shares_are : (length : ℕ) (p : Pair) → IsWithinDay p → parts_of (evenly length) p ≡ shares length (change_of p)
shares_are length p w = ap (λ b. cond b (shares length (change_of p)) (whole Even length (change_of p))) (is_shared-true p w)

sum_of_parts : (f : Part → ℕ) (length : ℕ) (p : Pair) → IsWithinDay p → sum_by f (shares length (change_of p)) ≡ sum_by f (parts_over (evenly length) (p ∷ []))
sum_of_parts f length p w = ap (sum_by f) (sym (shares_are length p w) ∙ sym (append-nil (parts_of (evenly length) p)))

rise_is : (length : ℕ) (p : Pair) → IsWithinDay p → sum_by up_of (shares length (change_of p)) ≡ p.1.mwh - p.0.mwh
rise_is length p w =
    let one = sum_by-cons (λ (q : Pair). (difference q).up) p [] in
    omega (arith, sum_of_parts up_of length p w, parts_up (evenly length) (p ∷ []), one)

fall_is : (length : ℕ) (p : Pair) → IsWithinDay p → sum_by down_of (shares length (change_of p)) ≡ p.0.mwh - p.1.mwh
fall_is length p w =
    let one = sum_by-cons (λ (q : Pair). (difference q).down) p [] in
    omega (arith, sum_of_parts down_of length p w, parts_down (evenly length) (p ∷ []), one)

even_shares : (length : ℕ) (p : Pair) → 0 < length → IsWithinDay p → AreEvenShares length p (shares length (change_of p))
even_shares length p some w =
    let c = change_of p in
    let order = in_order c length w.later in
    record {
      add_up = λ k between.
          let sums = comes c length some w.later (rise_is length p w) (fall_is length p w) k between.before (omega (arith, between.apart)) in
          λ i. record { up = sums.up i; down = sums.down i };
      periods = λ k. (
        (λ there.
            let within = has_in c length k (first c length) p.0.mwh (last c length - first c length) there in
            record { begins = begins c length some w.later k (omega (arith, within.1, order)); ends = ends c length some k within.0 }),
        (λ overlaps.
            is_in c length k (first c length) p.0.mwh (last c length - first c length) (from_ends c length some k overlaps.ends)
            (omega (arith, from_begins c length some w.later k overlaps.begins, order))),
      );
      once = numbers_rise c length (first c length) p.0.mwh (last c length - first c length);
    }

pub shared : (length : ℕ) (p : Pair) → 0 < length → IsWithinDay p → AreEvenShares length p (parts_of (evenly length) p)
shared length p some w = subst (λ ts. AreEvenShares length p ts) (sym (shares_are length p w)) (even_shares length p some w)

within_day : (p : Pair) → is_shared (change_of p) ≡ true → IsWithinDay p
within_day p e =
    let both = and_parts (nat_lt p.0.moment p.1.moment) (nat_le (p.1.moment - p.0.moment) longest_share) e in
    record { later = ltb-true p.0.moment p.1.moment both.0; day = leb-true (p.1.moment - p.0.moment) longest_share both.1 }

pub whole_else : (length : ℕ) (p : Pair) → (IsWithinDay p → ⊥) → parts_of (evenly length) p ≡ (closed_at length p.1.moment, difference p) ∷ []
whole_else length p apart = go (is_shared (change_of p)) refl
  where
    go : (b : Bool) → is_shared (change_of p) ≡ b → cond b (shares length (change_of p)) (whole Even length (change_of p)) ≡ (closed_at length p.1.moment, difference p) ∷ []
    go true e = absurd (apart (within_day p e))
    go false e = refl

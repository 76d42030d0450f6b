-- The parts of a difference add up to it, by each rule.
use Rattle.std.{proofs.Common.{◌≡◌, ℕ, zero, suc, ◌+◌, ◌*◌, ◌-◌, ◌/◌, ◌≤◌, ◌<◌, Bool, true, false, cond, List, [], ◌∷◌, refl, ap, subst, ◌∙◌, ◌⊎◌, inl, inr, ⊎_elim, arith}, specs.Prelude.{sum_by, nat_le, nat_lt}, proofs.Math.Nat.{div-le_of_le-mul, div-mul-le_self, div-zero, mul-le-mul_left, zero-div}, proofs.lemmas.Bool.{cases_lt, ltb-true, and_parts}, proofs.lemmas.List.Sums.sum_by-cons, proofs.lemmas.Nat.le-div}
use Rattle.energy_flow.specs.Flow.{difference_of}
use Rattle.ledger_model.{specs.Energy.{Pair, change_of, difference, energy_over, parts_of, parts_over}, specs.Parts.{Change, Part, energy_of_parts, is_shared, level_at, longest_share, parts_by, share, shares, shares_from, whole}, specs.Periods.Periods, specs.Quarter.quarter_at, specs.declared.settle.Settle.Settle, specs.declared.settle.Settle.TheVariants.{Later, Closing, Even}, proofs.SumLemmas.{sum_by-flat_map, sum_by-same}}

div-rises : (a b k : ℕ) → a ≤ b → a / k ≤ b / k
div-rises a b zero le = omega (arith, div-zero a)
div-rises a b (suc k) le = le-div (a / suc k) b (suc k) (omega arith) (omega (arith, div-mul-le_self a (suc k), le))

-- The sums of parts are a difference.
record AddUp (ts : List Part) (earlier later : ℕ) : Type 0 where
  up : sum_by (λ t. t.1.up) ts ≡ later - earlier
  down : sum_by (λ t. t.1.down) ts ≡ earlier - later

one_adds : (quarter earlier later : ℕ) → AddUp ((quarter, difference_of earlier later) ∷ []) earlier later
one_adds quarter earlier later = record {
  up = sum_by-cons (λ (t : Part). t.1.up) (quarter, difference_of earlier later) [] ∙ omega arith;
  down = sum_by-cons (λ (t : Part). t.1.down) (quarter, difference_of earlier later) [] ∙ omega arith;
}

module _ (c : Change) where
  -- The seconds from the earlier moment to a second, and to the later moment.
  abbrev gone : ℕ → ℕ
  gone second = second - c.since / 1_000_000_000

  abbrev long : ℕ
  long = c.until / 1_000_000_000 - c.since / 1_000_000_000

  share_within : (number second : ℕ) → gone second ≤ long → share c number second ≤ number
  share_within number second le =
      let all : number * gone second ≤ number * long = mul-le-mul_left number le in
      div-le_of_le-mul long (omega (arith, all))

  share_rises : (number second then : ℕ) → gone second ≤ gone then → share c number second ≤ share c number then
  share_rises number second then le = div-rises (number * gone second) (number * gone then) long (mul-le-mul_left number le)

  none_shared : (second : ℕ) → share c 0 second ≡ 0
  none_shared second = ap (λ n. n / long) (omega arith) ∙ zero-div long

  level_up : (second : ℕ) → c.earlier ≤ c.later → level_at c second ≡ c.earlier + share c (c.later - c.earlier) second
  level_up second rises =
      let nothing : share c (c.earlier - c.later) second ≡ 0 = ap (λ n. share c n second) (omega (arith, rises)) ∙ none_shared second in
      omega (arith, nothing)

  level_down : (second : ℕ) → c.later ≤ c.earlier → level_at c second ≡ c.earlier - share c (c.earlier - c.later) second
  level_down second falls =
      let nothing : share c (c.later - c.earlier) second ≡ 0 = ap (λ n. share c n second) (omega (arith, falls)) ∙ none_shared second in
      omega (arith, nothing)

  module _ (length : ℕ) where
    -- The level where a period ends.
    abbrev at_end : ℕ → ℕ
    at_end quarter = level_at c ((quarter + 1) * length)

    ends_later : (quarter : ℕ) → gone ((quarter + 1) * length) ≤ gone ((quarter + 1 + 1) * length)
    ends_later quarter = omega arith

    first_ends : (quarter more : ℕ) → gone ((quarter + suc more) * length) ≤ long → gone ((quarter + 1) * length) ≤ long
    first_ends quarter more within =
        let far : length * (quarter + 1) ≤ length * (quarter + suc more) = mul-le-mul_left length (omega arith) in
        omega (arith, far, within)

    others_end : (quarter more : ℕ) → gone ((quarter + suc more) * length) ≤ long → gone ((quarter + 1 + more) * length) ≤ long
    others_end quarter more within = subst (λ k. gone (k * length) ≤ long) (omega arith) within

    cons_adds : (quarter level then : ℕ) (ts : List Part) → AddUp ts then c.later
        → (level ≤ then) × (then ≤ c.later) ⊎ (then ≤ level) × (c.later ≤ then)
        → AddUp ((quarter, difference_of level then) ∷ ts) level c.later
    cons_adds quarter level then ts rest way =
        let up = sum_by-cons (λ (t : Part). t.1.up) (quarter, difference_of level then) ts in
        let down = sum_by-cons (λ (t : Part). t.1.down) (quarter, difference_of level then) ts in
        record {
          up = ⊎_elim (λ w. omega (arith, up, rest.up, w.0, w.1)) (λ w. omega (arith, up, rest.up, w.0, w.1)) way;
          down = ⊎_elim (λ w. omega (arith, down, rest.down, w.0, w.1)) (λ w. omega (arith, down, rest.down, w.0, w.1)) way;
        }

    rising_add : c.earlier ≤ c.later → (quarter level more : ℕ) → level ≤ c.later → level ≤ at_end quarter
        → gone ((quarter + more) * length) ≤ long → AddUp (shares_from length c quarter level more) level c.later
    rising_add rises quarter level zero within next ends = one_adds quarter level c.later
    rising_add rises quarter level (suc more) within next ends =
        let up : at_end quarter ≤ c.later = omega (arith, level_up ((quarter + 1) * length) rises, share_within (c.later - c.earlier) ((quarter + 1) * length) (first_ends quarter more ends), rises) in
        let then : at_end quarter ≤ at_end (quarter + 1) =
        omega (
          arith,
          level_up ((quarter + 1) * length) rises,
          level_up ((quarter + 1 + 1) * length) rises,
          share_rises (c.later - c.earlier) ((quarter + 1) * length) ((quarter + 1 + 1) * length) (ends_later quarter),
        ) in
        cons_adds quarter level (at_end quarter) (shares_from length c (quarter + 1) (at_end quarter) more)
        (rising_add rises (quarter + 1) (at_end quarter) more up then (others_end quarter more ends)) (inl (next, up))

    falling_add : c.later ≤ c.earlier → (quarter level more : ℕ) → c.later ≤ level → at_end quarter ≤ level
        → gone ((quarter + more) * length) ≤ long → AddUp (shares_from length c quarter level more) level c.later
    falling_add falls quarter level zero within next ends = one_adds quarter level c.later
    falling_add falls quarter level (suc more) within next ends =
        let down : c.later ≤ at_end quarter =
        omega (arith, level_down ((quarter + 1) * length) falls, share_within (c.earlier - c.later) ((quarter + 1) * length) (first_ends quarter more ends), falls) in
        let then : at_end (quarter + 1) ≤ at_end quarter =
        omega (
          arith,
          level_down ((quarter + 1) * length) falls,
          level_down ((quarter + 1 + 1) * length) falls,
          share_rises (c.earlier - c.later) ((quarter + 1) * length) ((quarter + 1 + 1) * length) (ends_later quarter),
        ) in
        cons_adds quarter level (at_end quarter) (shares_from length c (quarter + 1) (at_end quarter) more)
        (falling_add falls (quarter + 1) (at_end quarter) more down then (others_end quarter more ends)) (inr (next, down))

    shares_add : c.since < c.until → AddUp (shares length c) c.earlier c.later
    shares_add apart =
        let first = quarter_at length c.since in
        let last = quarter_at length (c.until - 1) in
        let order : first ≤ last = div-rises (c.since / 1_000_000_000) ((c.until - 1) / 1_000_000_000) length (div-rises c.since (c.until - 1) 1_000_000_000 (omega (arith, apart))) in
        let seconds : (c.until - 1) / 1_000_000_000 ≤ c.until / 1_000_000_000 = div-rises (c.until - 1) c.until 1_000_000_000 (omega arith) in
        let all : last ≡ first + (last - first) = omega (arith, order) in
        let at_last : gone (last * length) ≤ long = omega (arith, div-mul-le_self ((c.until - 1) / 1_000_000_000) length, seconds) in
        let ends : gone ((first + (last - first)) * length) ≤ long = subst (λ k. gone (k * length) ≤ long) all at_last in
        ⊎_elim
        (λ (less : c.earlier < c.later).
        let rises : c.earlier ≤ c.later = omega (arith, less) in
        rising_add rises first c.earlier (last - first) rises (omega (arith, level_up ((first + 1) * length) rises)) ends)
        (λ (falls : c.later ≤ c.earlier). falling_add falls first c.earlier (last - first) falls (omega (arith, level_down ((first + 1) * length) falls)) ends)
        (cases_lt c.earlier c.later)

    even_adds : (b : Bool) → is_shared c ≡ b → AddUp (cond b (shares length c) (whole Even length c)) c.earlier c.later
    even_adds true is = shares_add (ltb-true c.since c.until (and_parts (nat_lt c.since c.until) (nat_le (c.until - c.since) longest_share) is).0)
    even_adds false is = one_adds _ c.earlier c.later

    rule_adds : (rule : Settle) → AddUp (parts_by rule length c) c.earlier c.later
    rule_adds Later = one_adds _ c.earlier c.later
    rule_adds Closing = one_adds _ c.earlier c.later
    rule_adds Even = even_adds (is_shared c) refl

-- Over pairs.
pub parts_up : (period : Periods) (ps : List Pair) → sum_by (λ t. t.1.up) (parts_over period ps) ≡ sum_by (λ p. (difference p).up) ps
parts_up period ps = sum_by-flat_map (λ (t : Part). t.1.up) (parts_of period) ps ∙ sum_by-same _ _ (λ p. (rule_adds (change_of p) period.length period.rule).up) ps

pub parts_down : (period : Periods) (ps : List Pair) → sum_by (λ t. t.1.down) (parts_over period ps) ≡ sum_by (λ p. (difference p).down) ps
parts_down period ps = sum_by-flat_map (λ (t : Part). t.1.down) (parts_of period) ps ∙ sum_by-same _ _ (λ p. (rule_adds (change_of p) period.length period.rule).down) ps

-- The parts of pairs have the energy of the pairs.
pub parts_energy : (period : Periods) (ps : List Pair) → energy_of_parts (parts_over period ps) ≡ energy_over ps
parts_energy period ps = let up = parts_up period ps in let down = parts_down period ps in λ i. record { up = up i; down = down i }

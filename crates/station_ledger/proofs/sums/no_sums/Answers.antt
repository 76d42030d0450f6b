use Rattle.std.{proofs.Common.{◌≡◌, ℕ, zero, suc, ◌+◌, ◌≤◌, List, [], ◌∷◌, ◌++◌, length, refl, sym, ap, ◌∙◌, subst}, proofs.lemmas.List.length_push}
use Rattle.station_ledger.{specs.declared.totals.EvseSum.EvseSum, specs.Moved.{sum_at, no_sum}}
use Rattle.station_ledger.proofs.sums.no_sums.Goals as goal

-- A sum of nothing put behind such sums leaves each of them one.
none_more : (sums : List EvseSum) (sum : EvseSum) (n : ℕ) → ((k : ℕ) → sum_at sums k ≡ no_sum) → sum ≡ no_sum → sum_at (sums ++ sum ∷ []) n ≡ no_sum
none_more [] sum zero none is = is
none_more [] sum (suc n) none is = refl
none_more (s ∷ sums) sum zero none is = none zero
none_more (s ∷ sums) sum (suc n) none is = none_more sums sum n (λ k. none (suc k)) is

pub loop-preserved : goal.loop-preserved
loop-preserved c =
    let was = c.loop.invariant in let pushed = c.push_reserved.ensures in
    let sum : EvseSum = record { transactions = 0; energy = c.zero.result } in
    let nothing : sum ≡ no_sum = cc in
    record {
      all = ap length pushed.items ∙ length_push c.loop.evses.items sum ∙ ap (λ n. n + 1) was.all;
      room = subst (λ n. c.from-count.result + 1 ≤ n) (sym pushed.capacity) was.room;
      none = λ n. ap (λ sums. sum_at sums n) pushed.items ∙ none_more c.loop.evses.items sum n was.none nothing;
    }

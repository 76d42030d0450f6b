use Rattle.std.{proofs.Common.{◌≡◌, ℕ, ◌+◌, ◌-◌, ◌<◌, ◌≤◌, List, [], length, drop, sym, ap, arith}, specs.Prelude.{sum_by, slice_index}}
use Rattle.ledger_model.{specs.BoardLaws.AreRising, specs.Gaps.{gap_size, missing}}
use Rattle.gap_list.proofs.Steps.{gaps_last, rising_on, missing_on}
use Rattle.gap_list.proofs.missing.missing_after.Goals as goal

-- A step counts what is missing between a number and the next.
stepped : (xs ys : List ℕ) (total all low high apart : ℕ) → 0 < length xs → 0 < length ys → ys ≡ drop 1 xs → AreRising xs
    → total + missing xs ≡ all → total ≤ slice_index xs 0 → low ≡ slice_index xs 0 → high ≡ slice_index ys 0 → apart ≡ high - low
    → (0 < length ys) × AreRising ys × (total + (apart - 1) + missing ys ≡ all) × (total + (apart - 1) ≤ slice_index ys 0)
stepped xs ys total all low high apart some more e rising sum few lo hi is =
    let up = rising_on xs ys some more e rising in let count = missing_on xs ys some more e up.1 in
    (more, up.0, omega (arith, count, up.1), omega (arith, up.1))

-- Nothing is missing after the last number.
ended : (xs : List ℕ) (total all : ℕ) → [] ≡ drop 1 xs → total + missing xs ≡ all → total ≡ all
ended xs total all e sum = let none = ap (sum_by gap_size) (gaps_last xs (sym e)) in omega arith

pub loop-after-preserved : goal.loop-after-preserved
loop-after-preserved g c =
    let was = c.loop-after.invariant in let next = c.in-Some.ensures in
    stepped _ _ c.loop-after.total _ c.number-low.result c.number-high.result c.from.result was.0 next.stands next.rest was.1 was.2 was.3 c.number-low.ensures c.number-high.ensures c.from.ensures

pub returns : goal.returns
returns g c = ended (g.W.NumberWalk.ahead c.args.walk.now c.loop-after.here) c.loop-after.total _ c.in_default.ensures.rest c.loop-after.invariant.2

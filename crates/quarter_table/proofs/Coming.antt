-- Shares of a difference, and the levels between which they lie.
use Rattle.std.{proofs.Common.{◌≡◌, ℕ, ◌+◌, ◌-◌, ◌*◌, ◌/◌, ◌<◌, ◌≤◌, ◌^◌, true, zero, suc, arith}, proofs.Math.Nat.{div-le_of_le-mul, div-mul-le_self, div-zero, mul-le-mul_left}, proofs.lemmas.Nat.le-div}
use Rattle.energy_flow.specs.Flow.{Energy, CanMinus, difference_of, minus, no_energy}
use Rattle.ledger_model.{specs.Parts.{Change, is_shared, longest_share, share}, specs.Ranges.greatest_reading}
use Rattle.quarter_table.specs.Shares.{come_by}

-- What the register shows once so much of the difference has come.
abbrev pub level_by : Change → Energy → ℕ
level_by c come = (c.earlier + come.up) - come.down

-- A greater number over the same divisor is no less.
div_mono : (m n k : ℕ) → m ≤ n → m / k ≤ n / k
div_mono m n zero le = omega (arith, div-zero m, div-zero n)
div_mono m n (suc k) le = le-div (m / suc k) n (suc k) (omega arith) (omega (arith, div-mul-le_self m (suc k)))

-- By a later second no less has come.
pub share_later : (c : Change) (number s t : ℕ) → s ≤ t → share c number s ≤ share c number t
share_later c number s t le =
    let first = c.since / 1_000_000_000 in
    let less : s - first ≤ t - first = omega arith in
    div_mono (number * (s - first)) (number * (t - first)) (c.until / 1_000_000_000 - first) (mul-le-mul_left number less)

-- By the later moment's second no more than all has come.
pub share_within : (c : Change) (number s : ℕ) → s ≤ c.until / 1_000_000_000 → share c number s ≤ number
share_within c number s le =
    let first = c.since / 1_000_000_000 in
    let long = c.until / 1_000_000_000 - first in
    let part : s - first ≤ long = omega arith in
    div-le_of_le-mul long (omega (arith, mul-le-mul_left number part))

-- What has come by a second can be taken from what has come by a later one.
pub come_later : (c : Change) (s t : ℕ) → s ≤ t → CanMinus (come_by c t) (come_by c s)
come_later c s t le = record { up = share_later c (c.later - c.earlier) s t le; down = share_later c (c.earlier - c.later) s t le }

-- It can be taken from the whole difference.
pub come_within : (c : Change) (s : ℕ) → s ≤ c.until / 1_000_000_000 → CanMinus (difference_of c.earlier c.later) (come_by c s)
come_within c s le = record { up = share_within c (c.later - c.earlier) s le; down = share_within c (c.earlier - c.later) s le }

-- Nothing can be taken from any energy.
pub none_within : (e : Energy) → CanMinus e no_energy
none_within e = record { up = omega arith; down = omega arith }

-- What comes between two seconds is the difference of the levels there.
pub between_levels : (c : Change) (come next : Energy) → CanMinus next come → CanMinus (difference_of c.earlier c.later) next
    → difference_of (level_by c come) (level_by c next) ≡ minus next come
between_levels c come next less within =
    let up : level_by c next - level_by c come ≡ next.up - come.up = omega (arith, less.up, less.down, within.up, within.down) in
    let down : level_by c come - level_by c next ≡ next.down - come.down = omega (arith, less.up, less.down, within.up, within.down) in
    λ i. record { up = up i; down = down i }

-- What comes after a second is the difference from the level there to the later one.
pub last_level : (c : Change) (come : Energy) → CanMinus (difference_of c.earlier c.later) come → difference_of (level_by c come) c.later ≡ minus (difference_of c.earlier c.later) come
last_level c come within =
    let up : c.later - level_by c come ≡ (c.later - c.earlier) - come.up = omega (arith, within.up, within.down) in
    let down : level_by c come - c.later ≡ (c.earlier - c.later) - come.down = omega (arith, within.up, within.down) in
    λ i. record { up = up i; down = down i }

-- A shared difference lasts at most a day, and the product of a level and so many seconds fits in 64 bits.
pub product_fits : (c : Change) (number s : ℕ) → is_shared c ≡ true → number ≤ greatest_reading → s ≤ c.until / 1_000_000_000
    → number * (s - c.since / 1_000_000_000) < 2 ^ 64
product_fits c number s shared small within =
    let day : c.until - c.since ≤ longest_share = grind arith in
    let part : s - c.since / 1_000_000_000 ≤ 86_400 = omega arith in
    omega (arith, mul-le-mul_left number part)

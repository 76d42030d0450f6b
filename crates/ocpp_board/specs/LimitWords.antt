-- The words of a server for its stations' limits (this product's profile).
use Rattle.std.specs.Prelude.{◌≡◌, ℕ, ◌<◌, ◌^◌, List, [], ◌∷◌, Option, None, Some}
use Rattle.core.specs.Str.Parse.{IsNumeral, digits_value, without_leading_plus}
use Rattle.ledger_model.specs.Limits.{AreBounds, Bounds, default_limits}

-- A word says this number: a decimal below 2^64.
abbrev pub Says : List ℕ → ℕ → Type 0
Says word n = IsNumeral 10 (without_leading_plus word) × (digits_value 10 (without_leading_plus word) < 2 ^ 64) × (n ≡ digits_value 10 (without_leading_plus word))

-- Four words say these limits.
abbrev pub SayLimits : List (List ℕ) → Bounds → Type 0
SayLimits (transactions ∷ events ∷ readings ∷ changes ∷ []) l =
    Says transactions l.transactions × (Says events l.events × (Says readings l.readings × Says changes l.changes))
SayLimits words l = ⊥

-- Words state the limits that they say; none if they say no limits, or limits out of their ranges.
abbrev pub StateLimits : List (List ℕ) → Option Bounds → Type 0
StateLimits words (Some l) = SayLimits words l
StateLimits words None = (l : Bounds) → AreBounds l.transactions l.events l.readings l.changes → SayLimits words l → ⊥

-- The limits of each station: those that words state, or the default ones if there are no words.
abbrev pub AsksLimits : Option (List (List ℕ)) → Option Bounds → Type 0
AsksLimits None l = l ≡ Some default_limits
AsksLimits (Some words) l = StateLimits words l

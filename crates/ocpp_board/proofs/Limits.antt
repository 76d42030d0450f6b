-- What words of limits say.
use Rattle.std.proofs.Common.{◌≡◌, ℕ, List, [], ◌∷◌, map, slice_index_or, Bor, Option, None, subst, sym}
use Rattle.ledger_model.specs.Limits.{Bounds}
use Rattle.ocpp_board.specs.LimitWords.{SayLimits, Says, StateLimits}

-- Words that say limits say them in their order.
in_order : (words : List (Bor (List ℕ))) (d : Bor (List ℕ)) (l : Bounds) → SayLimits (map (λ w. w.now) words) l
    → Says (slice_index_or words 0 d).now l.transactions
    × (Says (slice_index_or words 1 d).now l.events × (Says (slice_index_or words 2 d).now l.readings × Says (slice_index_or words 3 d).now l.changes))
in_order [] d l s = absurd s
in_order (a ∷ []) d l s = absurd s
in_order (a ∷ b ∷ []) d l s = absurd s
in_order (a ∷ b ∷ e ∷ []) d l s = absurd s
in_order (a ∷ b ∷ e ∷ f ∷ []) d l s = s
in_order (a ∷ b ∷ e ∷ f ∷ g ∷ more) d l s = absurd s

-- No limits are stated where one of the words says no number.
pub no_transactions : (words : List (Bor (List ℕ))) (d : Bor (List ℕ)) (r : Option Bounds) → r ≡ None → ((n : ℕ) → Says (slice_index_or words 0 d).now n → ⊥) → StateLimits (map (λ w. w.now) words) r
no_transactions words d r e none = subst (StateLimits (map (λ w. w.now) words)) (sym e) (λ l _ s. none l.transactions (in_order words d l s).0)

pub no_events : (words : List (Bor (List ℕ))) (d : Bor (List ℕ)) (r : Option Bounds) → r ≡ None → ((n : ℕ) → Says (slice_index_or words 1 d).now n → ⊥) → StateLimits (map (λ w. w.now) words) r
no_events words d r e none = subst (StateLimits (map (λ w. w.now) words)) (sym e) (λ l _ s. none l.events (in_order words d l s).1.0)

pub no_readings : (words : List (Bor (List ℕ))) (d : Bor (List ℕ)) (r : Option Bounds) → r ≡ None → ((n : ℕ) → Says (slice_index_or words 2 d).now n → ⊥) → StateLimits (map (λ w. w.now) words) r
no_readings words d r e none = subst (StateLimits (map (λ w. w.now) words)) (sym e) (λ l _ s. none l.readings (in_order words d l s).1.1.0)

pub no_changes : (words : List (Bor (List ℕ))) (d : Bor (List ℕ)) (r : Option Bounds) → r ≡ None → ((n : ℕ) → Says (slice_index_or words 3 d).now n → ⊥) → StateLimits (map (λ w. w.now) words) r
no_changes words d r e none = subst (StateLimits (map (λ w. w.now) words)) (sym e) (λ l _ s. none l.changes (in_order words d l s).1.1.1)

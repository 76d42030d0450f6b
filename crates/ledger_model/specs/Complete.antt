use Rattle.std.specs.Prelude.{ℕ, Bool, true, false, List, [], ◌∷◌, ◌&&◌, ◌==◌, map}
use Rattle.ledger_model.{specs.declared.kind.Kind.Kind, specs.declared.kind.Kind.TheVariants.{Started, Updated, Ended}, specs.Content.{Entry, live_of}, specs.Gaps.{numbers_of, missing}}

-- The kinds of a transaction's live events, in the order of their numbers.
abbrev pub kinds_of : List ℕ → List Entry → List Kind
kinds_of tx es = map (λ e. e.1.event.kind) (live_of tx es)

-- Updated again and again, and Ended once, last.
abbrev pub goes_on_and_ends : List Kind → Bool
goes_on_and_ends (Ended ∷ []) = true
goes_on_and_ends (Updated ∷ kinds) = goes_on_and_ends kinds
goes_on_and_ends _ = false

-- Started once, first, and Ended once, last.
abbrev pub starts_and_ends : List Kind → Bool
starts_and_ends (Started ∷ kinds) = goes_on_and_ends kinds
starts_and_ends _ = false

-- A transaction is complete: its lowest live event is Started, its highest is Ended, no other is either, and no number
-- is missing.
abbrev pub is_complete : List ℕ → List Entry → Bool
is_complete tx es = starts_and_ends (kinds_of tx es) && (missing (numbers_of tx es) == 0)

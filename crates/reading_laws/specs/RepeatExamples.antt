-- A worked example of an event that lists readings again.
use Rattle.std.specs.Prelude.{List, [], ◌∷◌, ◌++◌, None}
use Rattle.ledger_model.{specs.declared.kind.Kind.TheVariants.Ended, specs.BoardExamples.{late_event, reading, told}, specs.Content.Entry}

-- The end of a transaction, which lists two readings of earlier events again, the later one first.
abbrev pub end_with_repeats : Entry
end_with_repeats = told Ended 3 40 None (reading 14 1_200 ∷ reading 0 1_000 ∷ [])

-- The three events of the transaction, and then its end.
abbrev pub ended_with_repeats : List Entry
ended_with_repeats = late_event ++ end_with_repeats ∷ []

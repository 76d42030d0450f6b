use Rattle.std.specs.Prelude.{ℕ, ◌+◌, ◌*◌, List, [], ◌∷◌, ◌++◌, None, codes}
use Rattle.ledger_model.{specs.declared.kind.Kind.Kind, specs.declared.kind.Kind.TheVariants.{Started, Updated}, specs.declared.reading.Direction.Direction, specs.declared.reading.Direction.TheVariants.{Import, Export}, specs.declared.command.Command.Command, specs.declared.command.Command.TheVariants.{Deliver, Void, Restore, Erase}, specs.declared.answer.Answer.Answer, specs.declared.answer.Answer.TheVariants.{Accepted, Repeat, Refused}, specs.declared.answer.Refusal.TheVariants.{ConflictingEvent, NoSuchEvent, AlreadyVoided, NotVoided}, specs.Key.KeyName, specs.Limits.Bounds}

-- The limits of a station that is soon full.
abbrev pub narrow_limits : Bounds
narrow_limits = record { transactions = 2; events = 2; readings = 4; changes = 9 }

-- The key of transaction t1 with a number.
abbrev pub numbered : ℕ → KeyName
numbered seq = record { tx = codes "t1"; seq = seq }

-- The moment so many minutes after 2026-03-01T10:00:00Z, in nanoseconds from 1970.
abbrev pub after_ten : ℕ → ℕ
after_ten minutes = (1_772_359_200 + 60 * minutes) * 1_000_000_000

-- The delivery of an event of t1: its kind, its number, its moment in minutes after ten, and one reading of that moment
-- in watt-hours.
abbrev pub delivery : Kind → ℕ → ℕ → ℕ → Command
delivery kind seq minutes wh = Deliver (numbered seq) (record {
  kind = kind;
  moment = after_ten minutes;
  evse = None;
  readings = record { moment = after_ten minutes; mwh = 1_000 * wh; direction = Import } ∷ [];
})

-- The delivery of an event of t1 with one reading of this direction's register, of 1,000 watt-hours at ten.
abbrev pub of_direction : Direction → Command
of_direction d = Deliver (numbered 0) (record {
  kind = Started;
  moment = after_ten 0;
  evse = None;
  readings = record { moment = after_ten 0; mwh = 1_000_000; direction = d } ∷ [];
})

-- An event, and then one of its key with its value in the other direction.
abbrev pub other_direction : List Command
other_direction = of_direction Import ∷ of_direction Export ∷ []

-- Events 0 and 2 of a transaction; event 1 is missing.
abbrev pub first_run : List Command
first_run = delivery Started 0 0 1_000 ∷ delivery Updated 2 31 1_600 ∷ []

-- Then event 1 comes late.
abbrev pub late_event : List Command
late_event = first_run ++ delivery Updated 1 14 1_200 ∷ []

-- Then event 1 comes once more, and then with another value.
abbrev pub conflict : List Command
conflict = late_event ++ delivery Updated 1 14 1_200 ∷ delivery Updated 1 14 1_201 ∷ []

-- Then event 1 is voided, comes once more, is voided again; a missing one is voided, a live one erased; event 1 is
-- restored, and restored again.
abbrev pub void_and_restore : List Command
void_and_restore =
    conflict
    ++ Void (numbered 1)
    ∷ delivery Updated 1 14 1_200
    ∷ Void (numbered 1)
    ∷ Void (numbered 9)
    ∷ Erase (numbered 0)
    ∷ Restore (numbered 1)
    ∷ Restore (numbered 1)
    ∷ []

-- The answers to these.
abbrev pub void_and_restore_answers : List Answer
void_and_restore_answers =
    Accepted 1 ∷ Accepted 2 ∷ Accepted 3 ∷ Repeat ∷ Refused ConflictingEvent ∷ Accepted 4 ∷ Repeat ∷ Refused AlreadyVoided
    ∷ Refused NoSuchEvent ∷ Refused NotVoided ∷ Accepted 5 ∷ Refused NotVoided ∷ []

-- A register that falls from 1600 Wh to 100 Wh and then rises to 150 Wh.
abbrev pub falling_register : List Command
falling_register = delivery Started 0 0 1_600 ∷ delivery Updated 1 5 100 ∷ delivery Updated 2 10 150 ∷ []

-- Two events, and a third that finds no room at once, none after event 1 is voided, but room after event 1
-- is erased.
abbrev pub full_until_erased : List Command
full_until_erased =
    delivery Started 0 0 1_000
    ∷ delivery Updated 1 15 1_100
    ∷ delivery Updated 2 10 1_200
    ∷ Void (numbered 1)
    ∷ delivery Updated 2 10 1_200
    ∷ Erase (numbered 1)
    ∷ delivery Updated 2 10 1_200
    ∷ []

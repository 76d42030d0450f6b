-- How lines of settlement periods are added up.
use Rattle.std.specs.Prelude.{◌≤◌, ◌≡◌, ◌==◌, nat_lt, if◌then◌else◌, List, [], ◌∷◌, map}
use Rattle.ledger_model.{specs.Board.{Flowed, flows_under}, specs.ByDirection.{plus_flows, CanPlusFlows}, specs.Energy.rising}

-- Each period of these lines once, in rising order, with the sums of its energies.
abbrev pub quarter_sums : List Flowed → List Flowed
quarter_sums lines = map (λ quarter. (quarter, flows_under quarter lines)) (rising (map (λ line. line.0) lines))

-- No line is of an earlier period than the line in front of it.
abbrev pub AreInOrder : List Flowed → Type 0
AreInOrder [] = Unit {0}
AreInOrder (line ∷ []) = Unit {0}
AreInOrder (line ∷ next ∷ lines) = (line.0 ≤ next.0) × AreInOrder (next ∷ lines)

-- A line added to rising lines, to the one of its number, or else in its place.
abbrev pub put_line : Flowed → List Flowed → List Flowed
put_line new [] = new ∷ []
put_line new (line ∷ lines) =
    if new.0 == line.0 then (line.0, plus_flows new.1 line.1) ∷ lines
    else (if nat_lt new.0 line.0 then new ∷ line ∷ lines else line ∷ put_line new lines)

-- A line can be added before rising lines: its number is not above the first, and if both are equal, their energies can
-- be added.
abbrev pub CanLead : Flowed → List Flowed → Type 0
CanLead new [] = Unit {0}
CanLead new (line ∷ lines) = (new.0 ≤ line.0) × (new.0 ≡ line.0 → CanPlusFlows new.1 line.1)

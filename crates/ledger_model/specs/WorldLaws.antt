use Rattle.std.{specs.Prelude.{ℕ, if◌then◌else◌, List, [], ◌∷◌, ◌++◌, ⊤, All, filter_map, None, Some, IsPermutation}, specs.Str.bytes_eq}
use Rattle.ledger_model.{specs.declared.command.Command.Command, specs.declared.command.Command.TheVariants.{Deliver, Void, Restore, Erase}, specs.declared.answer.Answer.Answer, specs.declared.answer.Answer.TheVariants.Accepted, specs.Limits.Bounds, specs.Content.Content, specs.Laws.{Sent, left_by}, specs.Step.{answer, step}, specs.World.{Station, World, Happens}}

-- The commands of a run on the station of this name.
abbrev pub commands_on : List ℕ → List Happens → List Command
commands_on name hs = filter_map (λ (h : Happens). if bytes_eq h.0 name then Some h.1 else None) hs

-- The station after all commands that a run gives to it.
abbrev pub station_left : List Happens → Station → Station
station_left hs s = record s { content = left_by s.limits s.content (commands_on s.name hs) }

-- The command is a delivery.
abbrev pub IsDelivery : Command → Type 0
IsDelivery (Deliver key event) = ⊤
IsDelivery (Void key) = ⊥
IsDelivery (Restore key) = ⊥
IsDelivery (Erase key) = ⊥

-- What a command delivered, if it is a delivery and this answer accepts it.
abbrev pub delivered_by : Command → Answer → List Sent
delivered_by (Deliver key event) (Accepted n) = (key, event) ∷ []
delivered_by _ _ = []

-- What was delivered by those of the commands, one after the other, that are deliveries and are accepted.
abbrev pub accepted_deliveries : Bounds → Content → List Command → List Sent
accepted_deliveries limits c [] = []
accepted_deliveries limits c (command ∷ commands) = delivered_by command (answer limits c command) ++ accepted_deliveries limits (step limits c command).0 commands

-- Two runs of deliveries that have, at each of these stations, the same accepted deliveries in another
-- order.
pub record AreReordered (w : World) (one other : List Happens) : Type 0 where
  pub one_delivers : All (λ h. IsDelivery h.1) one
  pub other_delivers : All (λ h. IsDelivery h.1) other
  pub orders : All (λ s. IsPermutation (accepted_deliveries s.limits s.content (commands_on s.name one)) (accepted_deliveries s.limits s.content (commands_on s.name other))) w

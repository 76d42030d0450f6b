use Rattle.std.{specs.Prelude.{ℕ, List, [], ◌∷◌, map, if◌then◌else◌}, specs.Str.bytes_eq}
use Rattle.ledger_model.{specs.declared.command.Command.Command, specs.Limits.Bounds, specs.Content.Content, specs.Step.step}

-- A station of a plan: its site, its name, its limits and its content.
pub record Station : Type 0 where
  pub site : List ℕ
  pub name : List ℕ
  pub limits : Bounds
  pub content : Content

-- A world: the stations of a plan in the order of their declaration. No two have one name.
abbrev pub World : Type 0
World = List Station

-- The station after a command.
abbrev pub station_after : Station → Command → Station
station_after s command = record s { content = (step s.limits s.content command).0 }

-- One command on one station, by the station's name.
abbrev pub Happens : Type 0
Happens = List ℕ × Command

-- The world after one command: its station takes the step, and every other content stays.
abbrev pub world_after : World → Happens → World
world_after w h = map (λ s. if bytes_eq h.0 s.name then station_after s h.1 else s) w

-- The world after a run, which is any list of commands on stations.
abbrev pub run : World → List Happens → World
run w [] = w
run w (h ∷ hs) = run (world_after w h) hs

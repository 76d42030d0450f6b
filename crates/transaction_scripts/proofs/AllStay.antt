-- Where no limit refuses a line, all lines about a transaction are its own.
use Rattle.std.proofs.Common.{◌≡◌, Bool, true, false, cond, not, ◌&&◌, ℕ, List, [], ◌∷◌, Option, None, Some, refl, ap, ◌∙◌, bytes_eq}
use Rattle.ledger_model.{specs.Admissible.key_of, specs.declared.command.Command.Command, specs.declared.command.Command.TheVariants.Deliver, specs.World.Station}
use Rattle.script_ledgers.specs.Script.{Script, line_step, station_named}
use Rattle.script_lines.{specs.LineMeaning.{LineMeaning, nothing, fails, sets_limits, declares, sets_period, sets_order, sets_settle, tells, sends, delivers, commands, asks_energy, asks_export, asks_total, asks_board, lists, asks_meaning, marks, line_meaning}, specs.Lines.Line}
use Rattle.transaction_event.specs.Message.{Event, Meaning, Ready, Silence, message}
use Rattle.transaction_laws.{specs.Alone.belongs_to, specs.Transcript.{Exchange, is_own}}
use Rattle.transaction_scripts.specs.LoneScripts.{NoneRefused, is_command_by, is_message_by, is_refused_command, is_refused_line, is_refused_message, lines_about, lone_lines, stays_by}

module _ (name tx : List ℕ) where
  abbrev about : Exchange → Bool
  about e = belongs_to tx (key_of e.0)

  same_command : (found : Option Station) (command : Command) → is_refused_command found command ≡ false → is_command_by (is_own tx) name found command ≡ is_command_by about name found command
  same_command None command free = refl
  same_command (Some station) command free =
      ap (λ b. bytes_eq name station.name && (belongs_to tx (key_of command) && not b)) free ∙ ap (λ b. bytes_eq name station.name && b) (and_true (belongs_to tx (key_of command)))
    where
      and_true : (b : Bool) → (b && true) ≡ b
      and_true true = refl
      and_true false = refl

  same_message : (found : Option Station) (m : Meaning) → is_refused_message found m ≡ false → is_message_by (is_own tx) name found m ≡ is_message_by about name found m
  same_message found (Event id request) free = same_command found (Deliver request.key request.event) free
  same_message found (Ready reply) free = refl
  same_message found Silence free = refl

  same_line : (s : Script) (meaning : LineMeaning) → is_refused_line s meaning ≡ false → stays_by (is_own tx) name tx s meaning ≡ stays_by about name tx s meaning
  same_line s (sends x text) free = same_message (station_named x s.world) (message text s.moment) free
  same_line s (delivers x text) free = same_message (station_named x s.world) (message text s.moment) free
  same_line s (commands x command) free = same_command (station_named x s.world) command free
  same_line s nothing free = refl
  same_line s (fails _) free = refl
  same_line s (sets_limits _ _ _ _) free = refl
  same_line s (declares _ _) free = refl
  same_line s (sets_period _ _) free = refl
  same_line s (sets_order _ _) free = refl
  same_line s (sets_settle _ _) free = refl
  same_line s (tells _) free = refl
  same_line s (asks_energy _) free = refl
  same_line s (asks_export _) free = refl
  same_line s (asks_total _) free = refl
  same_line s (asks_board _) free = refl
  same_line s (lists _ _ _) free = refl
  same_line s (asks_meaning _) free = refl
  same_line s (marks _) free = refl

  pub all_stay : (s : Script) (lines : List Line) → NoneRefused s lines → lone_lines name tx s lines ≡ lines_about name tx s lines
  all_stay s [] free = refl
  all_stay s (line ∷ lines) free =
      let next = (line_step s line).0 in
      λ i. cond (same_line s (line_meaning line) free.0 i) (line ∷ all_stay next lines free.1 i) (all_stay next lines free.1 i)

-- The program's commands and options.
use Rattle.std.specs.Prelude.{ℕ, List, [], ◌∷◌, ◌++◌, Option, None, Some, codes, map}
use Rattle.clap.{specs.Simple.{App, Shape}, specs.Walk.Rule, specs.declared.builder.action.ArgAction.ArgAction, specs.declared.builder.action.ArgAction.TheVariants.{Append, SetTrue}}

-- An argument: the name by which the program finds its values, its long name if it is an option, what a use of it does,
-- how many names help gives its values, and its values if it is not used.
pub record Argument : Type 0 where
  pub id : List ℕ
  pub long : Option (List ℕ)
  pub action : Option ArgAction
  pub names : ℕ
  pub defaults : List (List ℕ)

-- A command with its arguments.
pub record CommandWords : Type 0 where
  pub name : List ℕ
  pub arguments : List Argument

abbrev pub argument_of : Rule → Argument
argument_of r = record { id = r.id; long = r.long; action = r.action; names = r.value_names; defaults = r.defaults }

abbrev pub words_of : Shape → CommandWords
words_of s = record { name = s.name; arguments = map argument_of s.rules }

-- The commands of a program.
abbrev pub commands_of : App → List CommandWords
commands_of a = map words_of a.subs

-- The command with one argument more.
abbrev pub with_argument : CommandWords → Argument → CommandWords
with_argument w a = record { name = w.name; arguments = w.arguments ++ a ∷ [] }

-- An option without a value, one with so many values, and one with a value that has a default.
abbrev pub flag : List ℕ → Argument
flag name = record { id = name; long = Some name; action = Some SetTrue; names = 0; defaults = [] }

abbrev pub valued : List ℕ → ℕ → Argument
valued name names = record { id = name; long = Some name; action = None; names = names; defaults = [] }

abbrev pub defaulted : List ℕ → List ℕ → Argument
defaulted name value = record { id = name; long = Some name; action = None; names = 1; defaults = value ∷ [] }

-- The words that name stations.
abbrev pub placed : List ℕ → Argument
placed name = record { id = name; long = None; action = Some Append; names = 1; defaults = [] }

-- The options of `serve` that have a value, and those of a live server.
abbrev pub serve_numbers : List Argument
serve_numbers =
    defaulted (codes "port") (codes "0") ∷ defaulted (codes "connections") (codes "1") ∷ defaulted (codes "watch") (codes "0")
    ∷ defaulted (codes "period") (codes "900") ∷ defaulted (codes "order") (codes "sequence") ∷ defaulted (codes "settle") (codes "later")
    ∷ valued (codes "limits") 4 ∷ []

abbrev pub serve_life : List Argument
serve_life =
    flag (codes "live") ∷ flag (codes "journal") ∷ flag (codes "receipt-times") ∷ flag (codes "restore")
    ∷ flag (codes "allow-left-out") ∷ flag (codes "log") ∷ valued (codes "board-port") 1 ∷ []

abbrev pub replay_words : CommandWords
replay_words = record { name = codes "replay"; arguments = [] }

abbrev pub serve_begun : CommandWords
serve_begun = record { name = codes "serve"; arguments = [] }

abbrev pub serve_numbered : CommandWords
serve_numbered = record { name = codes "serve"; arguments = serve_numbers }

abbrev pub serve_lived : CommandWords
serve_lived = record { name = codes "serve"; arguments = serve_numbers ++ serve_life }

abbrev pub serve_words : CommandWords
serve_words = record { name = codes "serve"; arguments = (serve_numbers ++ serve_life) ++ placed (codes "stations") ∷ [] }

abbrev pub sim_begun : CommandWords
sim_begun = record { name = codes "sim"; arguments = [] }

abbrev pub sim_words : CommandWords
sim_words = record { name = codes "sim"; arguments = defaulted (codes "stations") (codes "2") ∷ defaulted (codes "events") (codes "3") ∷ [] }

-- The commands of `ocpp_board`, with their arguments. Without a command it replays.
abbrev pub board_commands : List CommandWords
board_commands = replay_words ∷ serve_words ∷ sim_words ∷ []

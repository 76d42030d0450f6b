-- Conditions on commands and options under which the parser of words gives the matches of its definition.
use Rattle.std.{specs.Prelude.{◌≡◌, ◌&&◌, Bool, true, false, not, List, [], ◌∷◌, is_some, if◌then◌else◌}, specs.List.list_all}
use Rattle.clap.{specs.Simple.{App, Shape, app_of, is_positional}, specs.Walk.{Rule, rule_of}, specs.declared.builder.arg.Arg.Arg, specs.declared.builder.command.Command.Command, specs.declared.builder.command.Command.TheViews.out-Command}

-- An argument changes nothing of how words are read, and has no place of its own.
abbrev pub is_plain_rule : Rule → Bool
is_plain_rule r = r.is_simple && not (is_some r.index)

-- Such an argument, with a long name and not given by its place.
abbrev pub is_option_rule : Rule → Bool
is_option_rule r = is_plain_rule r && not (is_positional r)

abbrev pub are_options : List Rule → Bool
are_options = list_all is_option_rule

-- The arguments are options, with at most one of words by their place.
abbrev pub are_readable : List Rule → Bool
are_readable [] = true
are_readable (r ∷ rules) = is_plain_rule r && (if is_positional r then are_options rules else are_readable rules)

-- The argument is an option of one command.
pub record IsOption (a : Arg) : Type 0 where
  pub rule : is_option_rule (rule_of a) ≡ true
  pub local : a.global ≡ false

-- The argument is words of one command, by their place.
pub record IsPlaced (a : Arg) : Type 0 where
  pub rule : is_plain_rule (rule_of a) ≡ true
  pub local : a.global ≡ false

-- A command of a program, which has options and perhaps words by their place, and no commands of its own.
abbrev pub is_command : Shape → Bool
is_command s = s.is_leaf && (s.is_plain && (not s.is_built && are_readable s.rules))

-- A command to which options may be added.
pub record TakesOptions (c : Command) : Type 0 where
  pub leaf : (app_of c).top.is_leaf ≡ true
  pub plain : (app_of c).top.is_plain ≡ true
  pub fresh : (app_of c).top.is_built ≡ false
  pub options : are_options (app_of c).top.rules ≡ true
  pub local : (out-Command c).has_globals ≡ false

-- A command of a program.
pub record IsCommand (c : Command) : Type 0 where
  pub command : is_command (app_of c).top ≡ true
  pub local : (out-Command c).has_globals ≡ false

-- A program with such commands, and options of its own.
pub record IsProgram (a : App) : Type 0 where
  pub plain : a.top.is_plain ≡ true
  pub fresh : a.top.is_built ≡ false
  pub options : are_options a.top.rules ≡ true
  pub commands : list_all is_command a.subs ≡ true

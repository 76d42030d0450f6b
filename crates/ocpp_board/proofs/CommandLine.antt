-- The parser's definition gives the matches of a program with options and commands.
use Rattle.std.{proofs.Common.{◌≡◌, ◌∙◌, ◌+◌, ◌==◌, ◌&&◌, ◌||◌, ℕ, Bool, min, cond, true, false, not, refl, sym, ap, List, [], ◌∷◌, ◌++◌, map, Some, is_some, true≢false, Result, Ok, Err}, specs.Prelude.{IfOk, unwrap_or}, specs.List.{count_by, list_all, list_any}, proofs.lemmas.List.Folds.list_all-append, proofs.lemmas.List.map-append, proofs.lemmas.List.Recursion.is_count_by, proofs.Math.Bool.and-false}
use Rattle.clap.{specs.Lexer.usize_max, specs.Walk.{Rule, is_early_multiple, is_multiple, rule_of}, specs.Simple.{App, Shape, app_of, built, built_above, built_leaf, filled, filled_from, help_rule, help_shape, index_after, inherited, is_in_order, is_positional, is_ready, is_ready_leaf, is_simple, is_simple_leaf, marked_built, on_top, shape_of, version_rule, with_built_subs, with_filled_rules, with_help_flag, with_index, with_inherited, with_leaf_noted, with_subcommand, with_version_flag}, specs.Built.{AddsArg, AddsSubcommand}, specs.declared.builder.arg.Arg.Arg, specs.declared.builder.command.Command.Command}
use Rattle.ocpp_board.{specs.Commands.{Argument, CommandWords, argument_of, commands_of, with_argument, words_of}, specs.Options.{IsCommand, IsOption, IsPlaced, IsProgram, TakesOptions, are_options, are_readable, is_command, is_option_rule, is_plain_rule}}

-- both of two tests
both : (a b : Bool) → (a && b) ≡ true → (a ≡ true) × (b ≡ true)
both true b e = (refl, e)
both false b e = absurd (true≢false (sym e))

and : (a b : Bool) → a ≡ true → b ≡ true → (a && b) ≡ true
and true b e f = f
and false b e f = e

isnt : (b : Bool) → not b ≡ true → b ≡ false
isnt true e = absurd (true≢false (sym e))
isnt false e = refl

or_none : (a b : Bool) → a ≡ false → b ≡ false → (a || b) ≡ false
or_none true b e f = e
or_none false b e f = f

-- a rule that is filled in has the index that it had, or the next where it goes by its place
abbrev placed : ℕ → Rule → Rule
placed i r = with_index i (filled r)

option_placed : (i : ℕ) (r : Rule) → is_option_rule r ≡ true → is_some (placed i r).index ≡ false
option_placed i r e = at (is_positional r) (isnt _ (both _ _ e).1)
  where
    at : (p : Bool) → p ≡ false → is_some (cond (p && not (is_some r.index)) (Some i) r.index) ≡ false
    at true f = absurd (true≢false f)
    at false f = isnt _ (both _ _ (both _ _ e).0).1

-- how many rules go by a place
abbrev places : List Rule → ℕ
places [] = 0
places (r ∷ rules) = cond (is_some r.index) (1 + places rules) (places rules)

places_are : (rules : List Rule) → places rules ≡ count_by (λ r. is_some r.index) rules
places_are rules = is_count_by places (λ r. is_some r.index) refl (λ r rs. refl) rules

-- a rule without a place is not early, and is not counted
early_none : (n : ℕ) (r : Rule) → is_some r.index ≡ false → is_early_multiple n r ≡ false
early_none n r e = ap (λ b. (b && is_multiple r) && not (n == unwrap_or r.index 0)) e

-- a rule that goes by its place takes the next one
place_taken : (i : ℕ) (r : Rule) → is_positional r ≡ true → is_some r.index ≡ false → (placed i r).index ≡ Some i
place_taken i r e f = (λ j. cond (e j && not (f j)) (Some i) r.index)

-- options have no place, and none comes early
no_place : (i : ℕ) (rules : List Rule) → are_options rules ≡ true → (places (filled_from i rules) ≡ 0) × ((n : ℕ) → list_any (is_early_multiple n) (filled_from i rules) ≡ false)
no_place i [] e = (refl, λ n. refl)
no_place i (r ∷ rules) e =
    let here = option_placed i r (both _ _ e).0 in
    let later = no_place (index_after i r) rules (both _ _ e).1 in (
      ap (λ b. cond b (1 + places (filled_from (index_after i r) rules)) (places (filled_from (index_after i r) rules))) here ∙ later.0,
      λ n. or_none _ _ (early_none n (placed i r) here) (later.1 n),
    )

-- of readable rules none comes early among so many places as there are
in_order : (rules : List Rule) → are_readable rules ≡ true → (k : ℕ) × (places (filled_from 1 rules) ≡ k) × (list_any (is_early_multiple k) (filled_from 1 rules) ≡ false)
in_order [] e = (0, refl, refl)
in_order (r ∷ rules) e = at (is_positional r) refl (both _ _ e).0 (both _ _ e).1 (in_order rules)
  where
    at : (p : Bool) → is_positional r ≡ p → is_plain_rule r ≡ true → cond p (are_options rules) (are_readable rules) ≡ true
        → (are_readable rules ≡ true → (k : ℕ) × (places (filled_from 1 rules) ≡ k) × (list_any (is_early_multiple k) (filled_from 1 rules) ≡ false))
        → (k : ℕ) × (places (filled_from 1 (r ∷ rules)) ≡ k) × (list_any (is_early_multiple k) (filled_from 1 (r ∷ rules)) ≡ false)
    at true f plain later on =
        let index : (placed 1 r).index ≡ Some 1 = place_taken 1 r f (isnt _ (both _ _ plain).1) in
        let none = no_place (index_after 1 r) rules later in (
          1,
          ap (λ o. cond (is_some o) (1 + places (filled_from (index_after 1 r) rules)) (places (filled_from (index_after 1 r) rules))) index ∙ ap (λ n. 1 + n) none.0,
          or_none _ _ (ap (λ o. (is_some o && is_multiple (placed 1 r)) && not (1 == unwrap_or o 0)) index ∙ and-false (is_multiple (placed 1 r))) (none.1 1),
        )
    at false f plain later on =
        let here = option_placed 1 r (and _ _ plain (ap not f)) in
        let next : index_after 1 r ≡ 1 = ap (λ p. cond (p && not (is_some r.index)) (min 2 usize_max) 1) f in
        let behind = on later in
        let same = ap (λ i. filled_from i rules) next in (
          behind.0,
          ap (λ b. cond b (1 + places (filled_from (index_after 1 r) rules)) (places (filled_from (index_after 1 r) rules))) here ∙ ap places same ∙ behind.1,
          or_none _ _ (early_none behind.0 (placed 1 r) here) (ap (list_any (is_early_multiple behind.0)) same ∙ behind.2),
        )

-- each rule that is filled in is as simple as it was
still_simple : (i : ℕ) (rules : List Rule) → list_all (λ r. r.is_simple) (filled_from i rules) ≡ list_all (λ r. r.is_simple) rules
still_simple i [] = refl
still_simple i (r ∷ rules) = ap (λ b. r.is_simple && b) (still_simple (index_after i r) rules)

options_simple : (rules : List Rule) → are_options rules ≡ true → list_all (λ r. r.is_simple) rules ≡ true
options_simple [] e = refl
options_simple (r ∷ rules) e = and _ _ (both _ _ (both _ _ (both _ _ e).0).0).0 (options_simple rules (both _ _ e).1)

readable_simple : (rules : List Rule) → are_readable rules ≡ true → list_all (λ r. r.is_simple) rules ≡ true
readable_simple [] e = refl
readable_simple (r ∷ rules) e = and _ _ (both _ _ (both _ _ e).0).0 (at (is_positional r) (both _ _ e).1 (readable_simple rules))
  where
    at : (p : Bool) → cond p (are_options rules) (are_readable rules) ≡ true → (are_readable rules ≡ true → list_all (λ x. x.is_simple) rules ≡ true) → list_all (λ x. x.is_simple) rules ≡ true
    at true later on = options_simple rules later
    at false later on = on later

-- readable rules are in order once they are filled in
readable_in_order : (rules : List Rule) → are_readable rules ≡ true → is_in_order (filled_from 1 rules) ≡ true
readable_in_order rules e =
    let k = in_order rules e in
    ap (λ n. not (list_any (is_early_multiple n) (filled_from 1 rules))) (sym (places_are (filled_from 1 rules)) ∙ k.1) ∙ ap not k.2

-- options are readable, and so are words by their place behind them, and one option more behind all
options_readable : (rules : List Rule) → are_options rules ≡ true → are_readable rules ≡ true
options_readable [] e = refl
options_readable (r ∷ rules) e =
    and _ _ (both _ _ (both _ _ e).0).0 (ap (λ p. cond p (are_options rules) (are_readable rules)) (isnt _ (both _ _ (both _ _ e).0).1) ∙ options_readable rules (both _ _ e).1)

options_more : (rules more : List Rule) → are_options rules ≡ true → are_options more ≡ true → are_options (rules ++ more) ≡ true
options_more rules more e f = list_all-append is_option_rule rules more ∙ and _ _ e f

placed_more : (rules : List Rule) (r : Rule) → are_options rules ≡ true → is_plain_rule r ≡ true → are_readable (rules ++ r ∷ []) ≡ true
placed_more [] r e f = and _ _ f (at (is_positional r))
  where
    at : (p : Bool) → cond p true true ≡ true
    at true = refl
    at false = refl
placed_more (x ∷ rules) r e f =
    and _ _ (both _ _ (both _ _ e).0).0 (ap (λ p. cond p (are_options (rules ++ r ∷ [])) (are_readable (rules ++ r ∷ []))) (isnt _ (both _ _ (both _ _ e).0).1) ∙ placed_more rules r (both _ _ e).1 f)

readable_more : (rules : List Rule) (r : Rule) → are_readable rules ≡ true → is_option_rule r ≡ true → are_readable (rules ++ r ∷ []) ≡ true
readable_more [] r e f = options_readable (r ∷ []) (and _ _ f refl)
readable_more (x ∷ rules) r e f = and _ _ (both _ _ e).0 (at (is_positional x) (both _ _ e).1 (λ later. readable_more rules r later f))
  where
    at : (p : Bool) → cond p (are_options rules) (are_readable rules) ≡ true
        → (are_readable rules ≡ true → are_readable (rules ++ r ∷ []) ≡ true)
        → cond p (are_options (rules ++ r ∷ [])) (are_readable (rules ++ r ∷ [])) ≡ true
    at true later on = options_more rules (r ∷ []) later (and _ _ f refl)
    at false later on = on later

-- a flag of the parser's own behind them
readable_with : (b : Bool) (rules : List Rule) (r : Rule) → are_readable rules ≡ true → is_option_rule r ≡ true → are_readable (cond b rules (rules ++ r ∷ [])) ≡ true
readable_with true rules r e f = e
readable_with false rules r e f = readable_more rules r e f

-- a command with readable rules is ready once it is built
ready : (s : Shape) → s.is_plain ≡ true → are_readable s.rules ≡ true → is_ready (with_filled_rules (with_version_flag (with_help_flag s))) ≡ true
ready s plain e =
    let helped = readable_with s.disable_help_flag s.rules help_rule e refl in
    let rules : List Rule = (with_version_flag (with_help_flag s)).rules in
    let told : are_readable rules ≡ true = readable_with (s.disable_version_flag || (not s.has_version && not s.has_long_version)) (with_help_flag s).rules version_rule helped refl in
    and _ _ (and _ _ plain (still_simple 1 rules ∙ readable_simple rules told)) (readable_in_order rules told)

-- so is one below another command
ready_below : (above s : Shape) → is_command s ≡ true → is_ready_leaf (built_leaf (inherited above s)) ≡ true
ready_below above s e =
    let leaf = both _ _ e in
    let plain = both _ _ leaf.1 in
    let fresh = both _ _ plain.1 in
    let low : Shape = with_leaf_noted (marked_built (inherited above s)) in
    let is : built_leaf (inherited above s) ≡ with_filled_rules (with_version_flag (with_help_flag low)) =
    ap (λ b. cond b (inherited above s) (with_filled_rules (with_version_flag (with_help_flag low)))) (isnt _ fresh.0) in
    ap is_ready_leaf is ∙ and _ _ leaf.0 (ready low plain.0 fresh.1)

all_ready : (above : Shape) (subs : List Shape) → list_all is_command subs ≡ true → list_all is_ready_leaf (map built_leaf (map (inherited above) subs)) ≡ true
all_ready above [] e = refl
all_ready above (s ∷ subs) e = and _ _ (ready_below above s (both _ _ e).0) (all_ready above subs (both _ _ e).1)

leaf_simple : (s : Shape) → is_command s ≡ true → is_simple_leaf s ≡ true
leaf_simple s e =
    let leaf = both _ _ e in
    let plain = both _ _ leaf.1 in
    and _ _ leaf.0 (and _ _ plain.0 (readable_simple s.rules (both _ _ plain.1).1))

all_simple : (subs : List Shape) → list_all is_command subs ≡ true → list_all is_simple_leaf subs ≡ true
all_simple [] e = refl
all_simple (s ∷ subs) e = and _ _ (leaf_simple s (both _ _ e).0) (all_simple subs (both _ _ e).1)

-- a built program is ready, and each of its commands
abbrev is_whole : App → Bool
is_whole a = is_ready a.top && list_all is_ready_leaf a.subs

-- a program with its flags and with what its commands take from it
abbrev flagged : Shape → List Shape → App
flagged top subs = on_top with_version_flag (on_top with_help_flag (with_inherited (record { top = top; subs = subs })))

-- and so with the parser's own command `help` behind them
with_help_ready : (above : Shape) (subs : List Shape) → list_all is_command subs ≡ true → list_all is_ready_leaf (map built_leaf (map (inherited above) subs ++ help_shape ∷ [])) ≡ true
with_help_ready above [] e = refl
with_help_ready above (s ∷ subs) e = and _ _ (ready_below above s (both _ _ e).0) (with_help_ready above subs (both _ _ e).1)

-- a program that is built from these, with or without that command
whole : (b : Bool) (top : Shape) (subs : List Shape) → top.is_plain ≡ true → are_readable top.rules ≡ true → list_all is_command subs ≡ true
    → is_whole (with_built_subs (on_top with_filled_rules (cond b (flagged top subs) (with_subcommand (flagged top subs) help_shape)))) ≡ true
whole true top subs plain rules e = and _ _ (ready top plain rules) (all_ready top subs e)
whole false top subs plain rules e = and _ _ (ready top plain rules) (with_help_ready top subs e)

-- the parser's definition gives the matches of such a program
pub program_simple : (a : App) → IsProgram a → is_simple a ≡ true
program_simple a p =
    let top : Shape = with_leaf_noted (marked_built a.top) in
    let is : built a ≡ with_built_subs (built_above (on_top marked_built a)) = ap (λ b. cond b a (with_built_subs (built_above (on_top marked_built a)))) p.fresh in
    and _ _ (and _ _ (and _ _ p.plain (options_simple a.top.rules p.options)) (all_simple a.subs p.commands))
    (ap is_whole is ∙ whole (with_version_flag (with_help_flag top)).disable_help_subcommand top a.subs p.plain (options_readable a.top.rules p.options) p.commands)

-- a command with one option more
pub option_more : (old new : Command) (a : Arg) → AddsArg old a new → IsOption a → TakesOptions old → TakesOptions new
option_more old new a adds option takes =
    let shape = adds.shape option.local in
    record {
      leaf = ap (λ x. x.top.is_leaf) shape ∙ takes.leaf;
      plain = ap (λ x. x.top.is_plain) shape ∙ takes.plain;
      fresh = ap (λ x. x.top.is_built) shape ∙ takes.fresh;
      options = ap (λ x. are_options x.top.rules) shape ∙ options_more (app_of old).top.rules (rule_of a ∷ []) takes.options (and _ _ option.rule refl);
      local = adds.globals ∙ or_none _ _ takes.local option.local;
    }

-- a command with words by their place behind its options
pub placed_last : (old new : Command) (a : Arg) → AddsArg old a new → IsPlaced a → TakesOptions old → IsCommand new
placed_last old new a adds placed takes =
    let shape = adds.shape placed.local in
    record {
      command = ap (λ x. is_command x.top) shape ∙ and _ _ takes.leaf (and _ _ takes.plain (and _ _ (ap not takes.fresh) (placed_more (app_of old).top.rules (rule_of a) takes.options placed.rule)));
      local = adds.globals ∙ or_none _ _ takes.local placed.local;
    }

-- a command with only options
pub no_words : (c : Command) → TakesOptions c → IsCommand c
no_words c takes = record { command = and _ _ takes.leaf (and _ _ takes.plain (and _ _ (ap not takes.fresh) (options_readable (app_of c).top.rules takes.options))); local = takes.local }

-- a program with one command more
pub command_more : (old new sub : Command) → AddsSubcommand old sub new → IsCommand sub → IsProgram (app_of old) → IsProgram (app_of new)
command_more old new sub adds command is =
    let shape = adds.shape command.local in
    record {
      plain = ap (λ x. x.top.is_plain) shape ∙ is.plain;
      fresh = ap (λ x. x.top.is_built) shape ∙ is.fresh;
      options = ap (λ x. are_options x.top.rules) shape ∙ is.options;
      commands = ap (λ x. list_all is_command x.subs) shape ∙ list_all-append is_command (app_of old).subs (shape_of sub ∷ []) ∙ and _ _ is.commands (and _ _ command.command refl);
    }

-- the same of a call that adds it
pub options_more_ok : {E : Type 0} (r : Result Command E) (old : Command) (a : Arg) → IfOk r (AddsArg old a) → IsOption a → TakesOptions old → IfOk r TakesOptions
options_more_ok (Ok new) old a adds option takes = option_more old new a adds option takes
options_more_ok (Err e) old a adds option takes = adds

pub placed_last_ok : {E : Type 0} (r : Result Command E) (old : Command) (a : Arg) → IfOk r (AddsArg old a) → IsPlaced a → TakesOptions old → IfOk r IsCommand
placed_last_ok (Ok new) old a adds placed takes = placed_last old new a adds placed takes
placed_last_ok (Err e) old a adds placed takes = adds

pub command_more_ok : {E : Type 0} (r : Result Command E) (old sub : Command) → IfOk r (AddsSubcommand old sub) → IsCommand sub → IsProgram (app_of old) → IfOk r (λ new. IsProgram (app_of new))
command_more_ok (Ok new) old sub adds command is = command_more old new sub adds command is
command_more_ok (Err e) old sub adds command is = adds

-- a command with one argument more, in words
argument_more : (old new : Command) (a : Arg) → AddsArg old a new → a.global ≡ false → words_of (app_of new).top ≡ with_argument (words_of (app_of old).top) (argument_of (rule_of a))
argument_more old new a adds local =
    ap (λ x. words_of x.top) (adds.shape local) ∙ (λ i. record { name = (app_of old).top.name; arguments = map-append argument_of (app_of old).top.rules (rule_of a ∷ []) i })

pub argument_more_ok : {E : Type 0} (r : Result Command E) (old : Command) (a : Arg) → IfOk r (AddsArg old a) → a.global ≡ false
    → IfOk r (λ new. words_of (app_of new).top ≡ with_argument (words_of (app_of old).top) (argument_of (rule_of a)))
argument_more_ok (Ok new) old a adds local = argument_more old new a adds local
argument_more_ok (Err e) old a adds local = adds

-- a program with one command more, in words
words_more : (old new sub : Command) → AddsSubcommand old sub new → IsCommand sub → commands_of (app_of new) ≡ commands_of (app_of old) ++ words_of (app_of sub).top ∷ []
words_more old new sub adds command = ap commands_of (adds.shape command.local) ∙ map-append words_of (app_of old).subs (shape_of sub ∷ [])

pub words_more_ok : {E : Type 0} (r : Result Command E) (old sub : Command) → IfOk r (AddsSubcommand old sub) → IsCommand sub
    → IfOk r (λ new. commands_of (app_of new) ≡ commands_of (app_of old) ++ words_of (app_of sub).top ∷ [])
words_more_ok (Ok new) old sub adds command = words_more old new sub adds command
words_more_ok (Err e) old sub adds command = adds

-- what is known of a command, its argument and the command with it
pub one_more : {w w' l : CommandWords} {x a : Argument} → w' ≡ with_argument w x → w ≡ l → x ≡ a → w' ≡ with_argument l a
one_more e f g = e ∙ (λ i. with_argument (f i) (g i))

-- what is known of a program's commands, one command and the program with it
pub next_command : {cs cs' ls : List CommandWords} {w v : CommandWords} → cs' ≡ cs ++ w ∷ [] → cs ≡ ls → w ≡ v → cs' ≡ ls ++ v ∷ []
next_command e f g = e ∙ (λ i. f i ++ g i ∷ [])

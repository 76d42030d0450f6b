-- The command that matches name, with the rows of its options.
use Rattle.std.{proofs.Common.{◌≡◌, ◌∙◌, List, Option, None, Some, refl, ap, sym, length}, specs.Prelude.{option_map, unwrap_or, Box}, specs.Box.box_value}
use Rattle.clap.{specs.Matches.subcommand_name_of, specs.Simple.{subcommand_rows, subcommand_rows_of}, specs.Walk.{Row, Text}, specs.declared.parser.matches.ArgMatches.ArgMatches, specs.declared.parser.matches.ArgMatches.TheViews.{out-ArgMatches, out-SubCommand}, specs.declared.parser.matches.SubCommand.SubCommand}

-- a name and rows that are known apart
named_rows : (named : Option (Text × List Row)) (name : Text) (rows : List Row) → option_map (λ p. p.0) named ≡ Some name → option_map (λ p. p.1) named ≡ Some rows → named ≡ Some (name, rows)
named_rows None name rows e f = cc
named_rows (Some p) name rows e f =
    let first = ap (λ o. unwrap_or o name) e in
    let second = ap (λ o. unwrap_or o rows) f in
    λ i. Some (first i, second i)

-- the name that is beside the rows
name_beside : {Z : Type 0} (o : Option (Box SubCommand Z)) → option_map (λ p. p.0) (subcommand_rows o) ≡ option_map (λ b. (out-SubCommand (box_value b)).name.now) o
name_beside None = refl
name_beside (Some b) = refl

-- the command of matches
pub named : (m : ArgMatches) (name : Text) (rows : List Row) → subcommand_name_of m ≡ Some name → Some rows ≡ option_map (λ p. p.1) (subcommand_rows_of m) → subcommand_rows_of m ≡ Some (name, rows)
named m name rows e f = named_rows (subcommand_rows_of m) name rows (name_beside (out-ArgMatches m).subcommand ∙ e) (sym f)

-- one name has one list of rows
pub same_rows : (name : Text) (r s : List Row) → ◌≡◌ {A = Option (Text × List Row)} (Some (name, r)) (Some (name, s)) → r ≡ s
same_rows name r s e = ap (λ (o : Option (Text × List Row)). (unwrap_or o (name, r)).1) e

-- two names that are one are as long
pub as_long : (a b : Text) (r s : List Row) → ◌≡◌ {A = Option (Text × List Row)} (Some (a, r)) (Some (b, s)) → length a ≡ length b
as_long a b r s e = ap (λ (o : Option (Text × List Row)). length (unwrap_or o (a, r)).0) e

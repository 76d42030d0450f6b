use Rattle.std.{proofs.Common.{◌≡◌, List, Option, Some, codes, ap, sym, ◌∙◌, arith, rules}, specs.Prelude.option_map}
use Rattle.clap.{specs.Matches.{found_of, subcommand_name_of}, specs.Walk.{Row, Text, rows_of}}
use Rattle.ocpp_board.proofs.Rows.{as_long, named, same_rows}
use Rattle.ocpp_board.proofs.arguments.asked_of.Goals as goal

pub returns-in-Some-serve-default-clause-command : goal.returns-in-Some-serve-default-clause-command
returns-in-Some-serve-default-clause-command c =
    let name : subcommand_name_of c.args.matches.now ≡ Some (codes "serve") = search rules in
    let found = found_of c.in-Some-serve-default.matches.now in
    let is = named c.args.matches.now (codes "serve") (rows_of found) name c.in-Some-serve-default.ensures.rows in
    record {
      serves = λ rows e. (found, record { same = same_rows (codes "serve") (rows_of found) rows (sym is ∙ e) }, c.serve_asked.ensures.asked);
      simulates = λ rows e. let lengths : 5 ≡ 3 = as_long (codes "serve") (codes "sim") (rows_of found) rows (sym is ∙ e) in absurd (omega (arith, lengths));
      replays = λ none. absurd (none (ap (λ (o : Option (Text × List Row)). option_map (λ p. p.0) o) is));
    }

pub returns-in-Some-sim-default-clause-command : goal.returns-in-Some-sim-default-clause-command
returns-in-Some-sim-default-clause-command c =
    let name : subcommand_name_of c.args.matches.now ≡ Some (codes "sim") = search rules in
    let found = found_of c.in-Some-sim-default.matches.now in
    let is = named c.args.matches.now (codes "sim") (rows_of found) name c.in-Some-sim-default.ensures.rows in
    record {
      serves = λ rows e. let lengths : 3 ≡ 5 = as_long (codes "sim") (codes "serve") (rows_of found) rows (sym is ∙ e) in absurd (omega (arith, lengths));
      simulates = λ rows e. (found, record { same = same_rows (codes "sim") (rows_of found) rows (sym is ∙ e) }, c.sim_asked.ensures.asked);
      replays = λ _ none. absurd (none (ap (λ (o : Option (Text × List Row)). option_map (λ p. p.0) o) is));
    }

use Rattle.std.proofs.Common.{◌≡◌, filter, map, take}
use Rattle.ledger_model.specs.Admissible.{key_of}
use Rattle.transaction_laws.specs.Alone.{belongs_to}
use Rattle.transaction_laws.proofs.commands.commands_alone.Given as goal

abbrev pub invariant-loop-command : goal.invariant-loop-command
invariant-loop-command l = map (λ command. command.now) l.own.items ≡ filter (λ command. belongs_to l.tx (key_of command)) (take l.command-index l.commands)

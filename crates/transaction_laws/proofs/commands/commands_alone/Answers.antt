use Rattle.std.proofs.Common.{refl, sym, ap, ◌∙◌}
use Rattle.transaction_laws.{proofs.OwnCommands.{other_more, own_more}, proofs.commands.commands_alone.Goals.{then-belongs+in_ok-push, else-belongs}}
use Rattle.transaction_laws.proofs.commands.commands_alone.Goals as goal

pub loop-command-preserved : goal.loop-command-preserved
loop-command-preserved c =
    let test = sym c.belongs.ensures in
    elim c.if-belongs.branch [
      | then-belongs+in_ok-push w ↦
          own_more c.args.tx.now c.args.commands.now c.loop-command.command-index c.command-item.result c.command-item.is c.loop-command-test.true (λ b. b.now)
          c.loop-command.own.items c.if-belongs.own.items _ c.loop-command.invariant (ap (λ v. v.items) w.own-is ∙ w.in_ok-push.ensures.items) refl (test ∙ w.if-belongs.true)
      | else-belongs w ↦
          other_more c.args.tx.now c.args.commands.now c.loop-command.command-index c.command-item.result c.command-item.is c.loop-command-test.true (λ b. b.now)
          c.loop-command.own.items c.if-belongs.own.items c.loop-command.invariant (ap (λ v. v.items) w.own-is) (test ∙ w.if-belongs.false)
    ]

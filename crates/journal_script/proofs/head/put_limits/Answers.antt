use Rattle.std.proofs.Common.{◌∙◌, ap, arith, decimal}
use Rattle.journal_script.proofs.HeadLines.{adds_limits, on_ok}
use Rattle.journal_script.proofs.head.put_limits.Goals as goal

pub returns : goal.returns
returns c = on_ok c.put_line.result _ _
    (adds_limits c.args.head.now.items c.put_line.new.head.items c.format.result.now c.format-2.result.now c.format-3.result.now c.format-4.result.now c.args.limits.now
    (record {
      some_transactions = omega (arith, c.transactions.ensures.value, c.transactions.ensures.least);
      most_transactions = omega (arith, c.transactions.ensures.value, c.transactions.ensures.most);
      some_events = omega (arith, c.events.ensures.value, c.events.ensures.least);
      most_events = omega (arith, c.events.ensures.value, c.events.ensures.most);
      some_readings = omega (arith, c.readings.ensures.value, c.readings.ensures.least);
      most_readings = omega (arith, c.readings.ensures.value, c.readings.ensures.most);
      some_changes = omega (arith, c.changes.ensures.value, c.changes.ensures.least);
      most_changes = omega (arith, c.changes.ensures.value, c.changes.ensures.most);
    })
    (c.format.ensures.text ∙ ap decimal c.transactions.ensures.value) (c.format-2.ensures.text ∙ ap decimal c.events.ensures.value)
    (c.format-3.ensures.text ∙ ap decimal c.readings.ensures.value) (c.format-4.ensures.text ∙ ap decimal c.changes.ensures.value))
    c.put_line.ensures

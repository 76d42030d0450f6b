use Rattle.running_desk.proofs.Replied.{totals_line_told}
use Rattle.running_desk.proofs.running.Running.put_totals.Goals as goal

pub returns-in-Ok : goal.returns-in-Ok
returns-in-Ok g c =
    let totals = c.in-Ok.totals in
    totals_line_told c.put_total.result c.args.asked c.args.self.now.desk.now.stations c.args.name.now totals.0 totals.1 totals.2
    c.put_total.new.reply.items c.in-Ok.ensures.totals c.put_total.ensures

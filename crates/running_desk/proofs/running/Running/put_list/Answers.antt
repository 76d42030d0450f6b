use Rattle.running_desk.proofs.Replied.{list_told}
use Rattle.running_desk.proofs.running.Running.put_list.Goals as goal

pub returns-in-Ok : goal.returns-in-Ok
returns-in-Ok g c =
    list_told c.put_listed.result c.args.what c.args.self.now.desk.now.stations c.args.name.now c.args.tx.now c.in-Ok.listing
    c.put_listed.new.reply.items c.in-Ok.ensures.listing c.put_listed.ensures.text

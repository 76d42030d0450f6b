use Rattle.station_link.proofs.Submits.{delivered_is_replied, delivered_pass}
use Rattle.station_link.proofs.answer.deliver.Goals as goal

pub returns-clause-answered : goal.returns-clause-answered
returns-clause-answered g c =
    delivered_is_replied _ c.args.pass.now c.args.ordered.key c.args.ordered.event c.deliver.result c.deliver.new.pass c.deliveries_are_answered.ensures c.deliver.ensures.submitted

pub returns-clause-next : goal.returns-clause-next
returns-clause-next g c =
    delivered_pass _ c.args.pass.now _ c.deliver.result c.deliver.new.pass c.deliver.ensures.submitted c.deliver.ensures.same

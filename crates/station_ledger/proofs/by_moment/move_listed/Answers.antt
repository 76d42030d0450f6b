use Rattle.std.proofs.Common.{List, sym, ap, subst, ◌∙◌}
use Rattle.reading_index.specs.Timed.{Timed}
use Rattle.station_ledger.{specs.declared.pairs.Way.TheVariants.{Coming, Going}, specs.ByMoment.{put_each, take_each}, specs.Runs.{AreMoved, TheyMove}}
use Rattle.station_ledger.proofs.by_moment.move_listed.Goals as goal

pub returns-in-Coming-clause-moved : goal.returns-in-Coming-clause-moved
returns-in-Coming-clause-moved c =
    let index = c.args.by_moment.now.index in let moved = c.replace_runs-moved in
    subst (λ way. AreMoved way c.args.period c.args.direction c.args.by_moment.now.listed.items index c.put_all.new.index
    c.args.quarters.now moved.new.quarters c.args.work.now moved.new.work moved.result)
    (sym c.in-Coming.is) (record {
      entries = c.put_all.ensures.entries ∙ ap (λ (s : List Timed). put_each s index.entries) c.deref-in-Coming.ensures.value;
      capacity = c.put_all.ensures.capacity;
      room = moved.ensures.capacity;
      moved = subst (λ (s : List Timed). TheyMove Coming c.args.period c.args.direction s index c.args.quarters.now moved.new.quarters c.args.work.now moved.new.work moved.result)
          c.deref.ensures.value moved.ensures.moved;
    })

pub returns-in-Going-clause-moved : goal.returns-in-Going-clause-moved
returns-in-Going-clause-moved c =
    let index = c.args.by_moment.now.index in let moved = c.replace_runs in
    subst (λ way. AreMoved way c.args.period c.args.direction c.args.by_moment.now.listed.items index c.take_all.new.index
    c.args.quarters.now moved.new.quarters c.args.work.now moved.new.work moved.result)
    (sym c.in-Going.is) (record {
      entries = c.take_all.ensures.entries ∙ ap (λ (s : List Timed). take_each s index.entries) c.deref-in-Going.ensures.value;
      capacity = c.take_all.ensures.capacity;
      room = moved.ensures.capacity;
      moved = subst (λ (s : List Timed). TheyMove Going c.args.period c.args.direction s c.take_all.new.index c.args.quarters.now
          moved.new.quarters c.args.work.now moved.new.work moved.result)
          c.deref-in-Going-2.ensures.value moved.ensures.moved;
    })

use Rattle.std.proofs.Common.{◌≡◌, suc, ◌+◌, ◌-◌, ◌++◌, take, length, arith, refl, sym, ap, ◌∙◌, subst, length-take}
use Rattle.event_store.{specs.Links.{chain, IsRun, IsLast}, proofs.Runs.{put_step, put_last}, specs.declared.links.ReadingLink.ReadingLink}
use Rattle.event_store.proofs.links.put_all.Goals as goal

pub loop-rest-preserved : goal.loop-rest-preserved
loop-rest-preserved c =
    let was = c.loop-rest.invariant in let rest = c.loop-rest.rest.now in let n = c.loop-rest.count in let m = length rest - 1 in
    let long : m + 1 ≡ length rest = omega (arith, c.in-len1-up.len_at_least) in
    let more : n + 1 ≡ suc n = omega arith in
    let step = put_step c.args.links.now c.loop-rest.links c.put_link.new.links c.put_link.result c.loop-rest.ends.first n (n + 1) c.args.owner
    (record { reading = c.reading-item.result; next = c.loop-rest.ends.first; owner = c.args.owner; left = n + 1 }) rest
    c.args.readings.now m more long c.put_link.ensures.free c.put_link.ensures.within c.put_link.ensures.put refl refl refl
    c.reading-item.is was.run was.whole was.kept in
    let link : ReadingLink = record { reading = c.reading-item.result; next = c.loop-rest.ends.first; owner = c.args.owner; left = n + 1 } in
    let up = c.in_front-ends.ensures in
    let ends = put_last c.loop-rest.links c.put_link.new.links c.put_link.result c.loop-rest.ends.first n (n + 1) c.args.owner
    c.loop-rest.ends.last c.in_front-ends.result.last link more c.put_link.ensures.free c.put_link.ensures.within
    c.put_link.ensures.put refl refl refl up.only up.more was.run was.ends in
    let new = c.put_link.new.links in let own = c.args.owner in let last = c.in_front-ends.result.last in
    record {
      run = subst (λ k. IsRun new own k (n + 1)) (sym up.first) step.run;
      ends = subst (λ k. IsLast new own k (n + 1) last) (sym up.first) ends;
      whole = ap (λ k. take m rest ++ chain new k (n + 1)) up.first ∙ step.whole;
      count = omega (arith, was.count, length-take m rest);
      kept = step.kept;
      held = omega (arith, step.held, was.held);
      capacity = omega (arith, step.same, was.capacity);
    }

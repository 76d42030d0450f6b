use Rattle.std.proofs.Common.{◌≡◌, ◌<◌, ◌+◌, ◌^◌, List, ◌∷◌, length, vec_capacity, sym, ap, subst, ◌∙◌, arith}
use Rattle.ledger_model.{specs.InTime.put_in_time, specs.Event.MeterReading}
use Rattle.reading_index.{specs.Ranks.{owner, rank}, specs.Timed.Timed}
use Rattle.station_ledger.{specs.ByMoment.{put_each, ranked_from}, specs.Quarters.readings_at, proofs.MomentListed.{listing-more, listing-start, IsListing}, proofs.MomentRanks.at, proofs.by_moment.list.Goals.After-enter-arg-1}
use Rattle.station_ledger.proofs.by_moment.list.Goals as goal

pub loop-reading-init : goal.loop-reading-init
loop-reading-init c =
    let o = owner c.args.slot c.args.direction in let n = c.args.key.now.seq in
    let all = readings_at c.args.direction c.args.chains.now c.args.key.now in
    let is : c.readings-left.result ≡ all = c.readings-left.ensures in
    let none = c.clear.ensures.items in
    record {
      listing = subst (λ (p : List MeterReading × List Timed). IsListing o n 0 p.0 p.1 (vec_capacity c.clear.new.self)) (sym (λ i. (is i, none i)))
          (listing-start o n all (vec_capacity c.clear.new.self) c.requires.few (omega (arith, c.requires.room, c.clear.ensures.capacity)));
      items = (λ i. put_each (ranked_from o n 0 (is i)) (none i));
    }

left_are : (c : After-enter-arg-1)
    → IsListing (owner c.args.slot c.args.direction) c.args.key.now.seq c.loop-reading.place (c.in-Some.reading ∷ c.next.new.self)
    c.loop-reading.listed.items (vec_capacity c.loop-reading.listed)
left_are c = subst (λ (rs : List MeterReading). IsListing (owner c.args.slot c.args.direction) c.args.key.now.seq
    c.loop-reading.place rs c.loop-reading.listed.items (vec_capacity c.loop-reading.listed))
    c.in-Some.ensures.steps c.loop-reading.invariant.listing

pub new-at-requires-clause-place : goal.new-at-requires-clause-place
new-at-requires-clause-place c = let some = ap length c.in-Some.ensures.steps in let places = c.loop-reading.invariant.listing.places in omega (arith, places, some)

pub enter-requires : goal.enter-requires
enter-requires c =
    let was = left_are c in
    record { room = omega (arith, was.few, was.room, c.loop-reading.listed.ok.0); ranked = was.ranked }

pub overflow_add-place : goal.overflow_add-place
overflow_add-place c = let some = ap length c.in-Some.ensures.steps in let places = c.loop-reading.invariant.listing.places in omega (arith, places, some)

pub loop-reading-preserved : goal.loop-reading-preserved
loop-reading-preserved c =
    let o = owner c.args.slot c.args.direction in let n = c.args.key.now.seq in let p = c.loop-reading.place in
    let r = c.in-Some.reading in let rest = c.next.new.self in let ts = c.loop-reading.listed.items in
    let small : n < 2 ^ 31 = omega (arith, c.seq-number.ensures.range, c.seq-number.ensures.value) in
    let was = left_are (goal.at.loop-reading-preserved c).After-enter-arg-1 in
    let key : c.new-at.result ≡ rank o r.moment n p = c.new-at.ensures ∙ (λ i. rank o (c.moment.ensures i) (c.seq-number.ensures.value i) p) in
    let put : c.enter.new.listed.items ≡ put_in_time at (rank o r.moment n p, r) ts = c.enter.ensures.items ∙ (λ i. put_in_time at (key i, r) ts) in
    let more = listing-more o n p r rest ts (vec_capacity c.loop-reading.listed) (vec_capacity c.enter.new.listed) small c.enter.ensures.capacity was in
    record {
      listing = subst (λ (us : List Timed). IsListing o n (p + 1) rest us (vec_capacity c.enter.new.listed)) (sym put) more;
      items = ap (put_each (ranked_from o n (p + 1) rest)) put ∙ ap (λ rs. put_each (ranked_from o n p rs) ts) (sym c.in-Some.ensures.steps) ∙ c.loop-reading.invariant.items;
    }

pub returns-clause-items : goal.returns-clause-items
returns-clause-items c =
    ap (λ rs. put_each (ranked_from (owner c.args.slot c.args.direction) c.args.key.now.seq c.loop-reading.place rs) c.loop-reading.listed.items) (sym c.in_default.ensures.steps.0)
    ∙ c.loop-reading.invariant.items

pub returns-clause-room : goal.returns-clause-room
returns-clause-room c = c.loop-reading.invariant.listing.room

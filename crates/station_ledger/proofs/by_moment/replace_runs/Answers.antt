use Rattle.std.{proofs.Common.{ℕ, List, length, refl, sym, ◌≤◌, ◌∙◌, arith}, proofs.lemmas.List.nil_from_length}
use Rattle.ledger_model.{specs.Board.Flowed, specs.Ranges.most_readings}
use Rattle.event_chain.specs.declared.around.Sides.{Sides}
use Rattle.reading_index.specs.Timed.{Timed, owned}
use Rattle.station_ledger.{specs.Quarters.HoldsPairs, specs.Runs.{run_pairs, came_of, gap_of, gone_of, AreSwapped, AreToMove, HasRoomWithout}, proofs.MomentRuns.{at_turn, turn_few, turn_held, turn_less, turn_more, turn_next, turn_of, turn_room, turn_smaller, turning_by, turning_end, turning_start, turning_work, IsTurn}, proofs.by_moment.replace_runs.Goals.{After-split_at, After-replace_run-moved}}
use Rattle.station_ledger.proofs.by_moment.replace_runs.Goals as goal

pub loop-left-init : goal.loop-left-init
loop-left-init c = record { moving = λ o seq rest a. turning_by c.zero-less.ensures c.zero-more.ensures (turning_start c.args.way a); capacity = refl }

-- the turn of an iteration
turn : (c : After-split_at) {o seq : ℕ} {rest : List Flowed} → AreToMove c.args.way o seq c.args.period c.args.direction c.args.readings.now c.args.index.now c.args.quarters.now rest
    → IsTurn (owned o c.args.index.now.entries) c.loop-left.left.now c.split_at.result.0.now c.split_at.result.1.now c.around-before.result.0 c.around-before.result.1
turn c {o} {seq} {rest} a =
    let h = c.loop-left.invariant.moving o seq rest a in
    turn_of o c.count_in_front-count.result c.args.index.now.entries h.done a.owned_by h.split c.in-len1-up.len_at_least c.first-item.is c.around-before.ensures.before
    c.around-before.ensures.behind c.count_in_front-count.ensures.run c.count_in_front-count.ensures.rest c.split_at.ensures.front c.split_at.ensures.back

-- what it does to the rows
swapped : (c : After-replace_run-moved) → AreSwapped c.args.period c.args.direction (run_pairs (gap_of c.around-before.result.0 c.around-before.result.1) (gone_of c.args.way c.split_at.result.0.now))
    (run_pairs (gap_of c.around-before.result.0 c.around-before.result.1) (came_of c.args.way c.split_at.result.0.now)) c.loop-left.quarters c.replace_run-moved.new.quarters
    c.loop-left.work c.replace_run-moved.new.work c.replace_run-moved.result
swapped c = at_turn (λ g x y. AreSwapped c.args.period c.args.direction (run_pairs g x) (run_pairs g y) c.loop-left.quarters c.replace_run-moved.new.quarters c.loop-left.work
    c.replace_run-moved.new.work c.replace_run-moved.result) c.gap_of-gap.ensures c.parts.ensures.gone c.parts.ensures.came c.replace_run-moved.ensures

pub replace_run-moved-requires : goal.replace_run-moved-requires
replace_run-moved-requires c =
    let a = c.requires.3 in let h = c.loop-left.invariant.moving _ _ _ a in let t = turn (goal.at.replace_run-moved-requires c).After-split_at a in let cap = c.loop-left.invariant.capacity in
    let moved = λ (P : Sides → List Timed → List Timed → Type 0). at_turn P (sym c.gap_of-gap.ensures) (sym c.parts.ensures.gone) (sym c.parts.ensures.came) in
    record {
      holds = moved (λ g x y. HoldsPairs c.args.period c.args.direction (run_pairs g x) c.loop-left.quarters) (turn_held t a cap refl h);
      few = moved (λ g x y. length (run_pairs g x) ≤ most_readings) (turn_few t a cap refl h);
      room = moved (λ g x y. HasRoomWithout c.args.period c.args.direction (run_pairs g x) (length (run_pairs g y)) c.loop-left.quarters) (turn_room t a cap refl h);
    }

pub plus-less-requires : goal.plus-less-requires
plus-less-requires c =
    let a = c.requires.3 in let at = goal.at.plus-less-requires c in
    turn_less (turn at.After-split_at a) a c.loop-left.invariant.capacity refl (c.loop-left.invariant.moving _ _ _ a) (swapped at.After-replace_run-moved)

pub plus-more-requires : goal.plus-more-requires
plus-more-requires c =
    let a = c.requires.3 in let at = goal.at.plus-more-requires c in
    turn_more (turn at.After-split_at a) a c.loop-left.invariant.capacity refl (c.loop-left.invariant.moving _ _ _ a) (swapped at.After-replace_run-moved)

pub loop-left-smaller : goal.loop-left-smaller
loop-left-smaller c =
    let a = c.requires.3 in
    turn_smaller (turn (goal.at.loop-left-smaller c).After-split_at a) a c.loop-left.invariant.capacity refl (c.loop-left.invariant.moving _ _ _ a)

pub loop-left-preserved : goal.loop-left-preserved
loop-left-preserved c =
    let at = goal.at.loop-left-preserved c in let s = swapped at.After-replace_run-moved in
    record {
      moving = λ o seq rest a. turning_by c.plus-less.ensures c.plus-more.ensures
          (turn_next (turn at.After-split_at a) a c.loop-left.invariant.capacity refl (c.loop-left.invariant.moving o seq rest a) s);
      capacity = s.added.quarters.capacity ∙ s.taken.quarters.capacity ∙ c.loop-left.invariant.capacity;
    }

pub returns-clause-moved : goal.returns-clause-moved
returns-clause-moved c = λ o seq rest a.
    let h = c.loop-left.invariant.moving o seq rest a in
    let none = nil_from_length c.loop-left.left.now (omega (arith, c.in_default.len_below)) in
    record { moved = turning_end a h none; work = turning_work a h none }

use Rattle.std.{proofs.Common.{◌≡◌, ◌≤◌, ◌<◌, ◌+◌, ◌-◌, suc, drop, get_or, length, take, sym, subst, arith}, proofs.lemmas.List.{drop_all, drop_more}, proofs.lemmas.Bool.{ltb-true, ltb-false}}
use Rattle.ledger_model.proofs.Callers.{AreFrom}
use Rattle.reading_index.specs.Timed.{AreBelow}
use Rattle.station_ledger.{proofs.MomentListed.{placed, under_at}, proofs.MomentRanks.at}
use Rattle.station_ledger.proofs.by_moment.place_of.Goals as goal

pub loop-at-init : goal.loop-at-init
loop-at-init c = record {
  within = omega arith;
  from = subst (AreFrom at c.args.key) (sym (drop_all (length c.args.listed.now) c.args.listed.now (omega arith))) tt;
}

pub returns-then-is_in_front : goal.returns-then-is_in_front
returns-then-is_in_front c =
    let x = c.index-listed-at.result in let n = c.loop-at.at in let ts = c.args.listed.now in
    let lt : (get_or ts (n - 1) x).0 < c.args.key = ltb-true _ _ (sym c.if-is_in_front.ensures) in
    let on : suc (n - 1) ≡ n = omega (arith, c.loop-at-test.true) in
    let under = under_at c.args.key (n - 1) ts x c.requires.ranked (omega (arith, c.loop-at.invariant.within, c.loop-at-test.true)) lt in
    let cut = placed c.args.key n ts (subst (λ m. AreBelow c.args.key (take m ts)) on under) c.loop-at.invariant.from in
    record { within = c.loop-at.invariant.within; front = cut.0; rest = cut.1 }

pub loop-at-preserved : goal.loop-at-preserved
loop-at-preserved c =
    let x = c.index-listed-at.result in let n = c.loop-at.at in let ts = c.args.listed.now in
    let le : c.args.key ≤ (get_or ts (n - 1) x).0 = ltb-false _ _ (sym c.if-is_in_front.ensures) in
    let on : n - 1 + 1 ≡ n = omega (arith, c.loop-at-test.true) in
    let steps = drop_more ts (n - 1) x (omega (arith, c.loop-at.invariant.within, c.loop-at-test.true)) in
    record {
      within = omega (arith, c.loop-at.invariant.within);
      from = subst (AreFrom at c.args.key) (sym steps) (le, subst (λ m. AreFrom at c.args.key (drop m ts)) (sym on) c.loop-at.invariant.from);
    }

pub returns : goal.returns
returns c =
    let none : 0 ≡ c.loop-at.at = omega (arith, c.loop-at-test.false) in
    let cut = placed c.args.key c.loop-at.at c.args.listed.now (subst (λ m. AreBelow c.args.key (take m c.args.listed.now)) none tt) c.loop-at.invariant.from in
    record { within = c.loop-at.invariant.within; front = cut.0; rest = cut.1 }

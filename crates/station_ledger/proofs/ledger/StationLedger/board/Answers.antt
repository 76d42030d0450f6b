use Rattle.std.proofs.Common.{◌≡◌, ◌≢◌, IfOk, ap, subst, arith}
use Rattle.ledger_model.{specs.Content.entries, specs.Board.board_by, proofs.Callers.AreKept-reached}
use Rattle.station_ledger.{specs.Kept.content_in, specs.Ledger.Ledger, specs.Looks.{looks_within, most_looks}, specs.Quarters.IsWork, specs.Sums.order_in, proofs.Looking.{at_most, few_looks, none_looked}, proofs.Reaching.{kept_allowed, kept_numbered, kept_summed}}
use Rattle.station_ledger.proofs.ledger.StationLedger.board.Goals as goal

pub board_of-requires-clause-within : goal.board_of-requires-clause-within
board_of-requires-clause-within c = kept_allowed c.self.invariant

pub board_of-requires-clause-numbered : goal.board_of-requires-clause-numbered
board_of-requires-clause-numbered c = kept_numbered c.self.invariant

pub board_of-requires-clause-summed : goal.board_of-requires-clause-summed
board_of-requires-clause-summed c = kept_summed c.self.invariant

pub returns-clause-board : goal.returns-clause-board
returns-clause-board c = subst (λ (x : Ledger). IfOk c.board_of.result (λ b. b ≡ board_by x.order x.period (entries x.content))) c.self.view_is c.board_of.ensures.board

pub returns-clause-looks : goal.returns-clause-looks
returns-clause-looks c = subst (λ (x : Ledger). IsWork (most_looks x.period.rule x.order (entries x.content)) c.args.work.now c.board_of.new.work) c.self.view_is c.board_of.ensures.work

-- no more pairs than readings, and no more of these than the limits allow
pub returns-clause-bound : goal.returns-clause-bound
returns-clause-bound c =
    let l = c.self.inside in let order = order_in l.sums in let content = content_in l.chains l.changes in
    let kept = AreKept-reached l.limits l.changes content c.self.invariant.reached in
    let bound = at_most _ _ c.args.work.now c.board_of.new.work (few_looks l.sums.period.rule order (entries content) l.limits.readings kept.readings) c.board_of.ensures.work in
    subst (λ (x : Ledger). IsWork (looks_within x.period.rule x.limits.readings) c.args.work.now c.board_of.new.work) c.self.view_is bound

pub returns-clause-still : goal.returns-clause-still
returns-clause-still c other =
    let looks = returns-clause-looks c in let x = c.args.self.now in
    omega (arith, looks.bound, looks.grows, none_looked x.period.rule x.order (entries x.content) other)

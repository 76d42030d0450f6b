use Rattle.std.proofs.Common.{sym, subst}
use Rattle.station_ledger.specs.Kept.{CanDo, IsDone}
use Rattle.station_ledger.proofs.moves.carry.Goals as goal

pub deliver-requires : goal.deliver-requires
deliver-requires c = subst (λ x. CanDo x c.args.chains.now c.args.sums.now) c.in-Deliver.is c.requires

pub returns-in-Deliver-clause-done : goal.returns-in-Deliver-clause-done
returns-in-Deliver-clause-done c = subst (λ x. IsDone x c.args.chains.now c.deliver.new.chains c.args.sums.now c.deliver.new.sums) (sym c.in-Deliver.is) c.deliver.ensures.done

pub void-requires : goal.void-requires
void-requires c = subst (λ x. CanDo x c.args.chains.now c.args.sums.now) c.in-Void.is c.requires

pub returns-in-Void-clause-done : goal.returns-in-Void-clause-done
returns-in-Void-clause-done c = subst (λ x. IsDone x c.args.chains.now c.void.new.chains c.args.sums.now c.void.new.sums) (sym c.in-Void.is) c.void.ensures.done

pub restore-requires : goal.restore-requires
restore-requires c = subst (λ x. CanDo x c.args.chains.now c.args.sums.now) c.in-Restore.is c.requires

pub returns-in-Restore-clause-done : goal.returns-in-Restore-clause-done
returns-in-Restore-clause-done c = subst (λ x. IsDone x c.args.chains.now c.restore.new.chains c.args.sums.now c.restore.new.sums) (sym c.in-Restore.is) c.restore.ensures.done

pub erase-requires : goal.erase-requires
erase-requires c = subst (λ x. CanDo x c.args.chains.now c.args.sums.now) c.in-Erase.is c.requires

pub returns-in-Erase-clause-done : goal.returns-in-Erase-clause-done
returns-in-Erase-clause-done c = subst (λ x. IsDone x c.args.chains.now c.erase.new.chains c.args.sums.now c.erase.new.sums) (sym c.in-Erase.is) c.erase.ensures

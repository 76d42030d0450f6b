use Rattle.std.{proofs.Common.◌≡◌, specs.Prelude.All, specs.Sync.Mutex.mutex_guard_value}
use Rattle.kept_desk.specs.Kept.{IsLeftOwn}
use Rattle.kept_desk.proofs.at_moment.compare_all.Given as goal

-- the cells so far, each with what its own entries leave
abbrev pub invariant-loop-guard : goal.invariant-loop-guard
invariant-loop-guard g l = record {
  same : l.log ≡ l.fn.log;
  left : All (λ h. IsLeftOwn g.K.Opening.first l.fn.log.entries (mutex_guard_value h)) l.compared.items;
}

use Rattle.std.proofs.Common.{◌≡◌, drop, map}
use Rattle.site_desk.specs.Plan.{has_twice}
use Rattle.site_desk.proofs.plan.are_sites_twice.Given as goal

-- names that occur twice do so among those that are left
abbrev pub invariant-loop-k : goal.invariant-loop-k
invariant-loop-k l = has_twice (map (λ s. s.name) (drop l.k l.sites)) ≡ has_twice (map (λ s. s.name) l.sites)

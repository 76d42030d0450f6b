use Rattle.std.proofs.Common.{◌≡◌, drop, map}
use Rattle.site_desk.specs.Plan.{first_twice, has_twice}
use Rattle.site_desk.proofs.plan.first_twice.Given as goal

-- names that occur twice do so among those that are left, and the first of them is left
abbrev pub invariant-loop-k : goal.invariant-loop-k
invariant-loop-k l = record {
  stands : has_twice (map (λ s. s.name) (drop l.k l.stations)) ≡ has_twice (map (λ s. s.name) l.stations);
  first : first_twice (map (λ s. s.name) (drop l.k l.stations)) ≡ first_twice (map (λ s. s.name) l.stations);
}

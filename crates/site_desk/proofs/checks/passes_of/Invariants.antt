use Rattle.std.proofs.Common.{◌≡◌, ◌≤◌, take}
use Rattle.site_desk.specs.Close.{passes_of}
use Rattle.site_desk.proofs.checks.passes_of.Given as goal

-- the station's passes so far
abbrev pub invariant-loop-pass : goal.invariant-loop-pass
invariant-loop-pass l = record { count : l.count ≡ passes_of l.number (take l.pass-index l.passes); few : l.count ≤ l.pass-index }

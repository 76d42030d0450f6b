use Rattle.std.proofs.Common.{◌≡◌, take}
use Rattle.site_desk.specs.Close.{changes_of}
use Rattle.site_desk.proofs.checks.changes_of.Given as goal

-- the changes of the station's passes so far
abbrev pub invariant-loop-pass : goal.invariant-loop-pass
invariant-loop-pass l = l.changes ≡ changes_of l.number (take l.pass-index l.passes)

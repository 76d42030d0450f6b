use Rattle.std.proofs.Common.{◌≡◌, ◌++◌, map}
use Rattle.site_desk.proofs.parts.add_viewers.Given as goal

-- the viewers so far
abbrev pub invariant-loop-viewer : goal.invariant-loop-viewer
invariant-loop-viewer g l = l.viewers.items ≡ l.fn.viewers.items ++ map (λ v. (l.site, v)) l.yielded

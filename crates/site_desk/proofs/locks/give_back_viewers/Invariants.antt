use Rattle.std.{proofs.Common.◌≡◌, specs.Prelude.All}
use Rattle.site_desk.specs.Close.{Saw}
use Rattle.site_desk.proofs.locks.give_back_viewers.Given as goal

-- the books stay, and what the viewers so far knew begins their posts
abbrev pub invariant-loop-viewer : goal.invariant-loop-viewer
invariant-loop-viewer g l = record { same : l.books.items ≡ l.fn.books.items; seen : All (Saw l.fn.books.items) l.yielded }

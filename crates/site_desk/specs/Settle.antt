use Rattle.std.specs.Prelude.{◌≡◌, ℕ, ◌+◌, ◌≤◌, List, [], ◌∷◌, ◌++◌, Option, None, Some, slice_get, slice_set}
use Rattle.ledger_model.{specs.declared.answer.Answer.Answer, specs.declared.answer.Answer.TheVariants.{Accepted, Repeat, Refused}, specs.declared.command.Command.Command, specs.Board.figures_by, specs.Content.entries, specs.Posts.{Post, row_after}, specs.Step.{answer, step}}
use Rattle.site_book.specs.Book.{Book, Known, known}
use Rattle.site_desk.specs.Cell.{Cell, Held, Knows, tally_of}
use Rattle.station_ledger.specs.Spent.{IsSpent, most_spent}

-- The book has the cell's row, which was opened with the cell's limits.
abbrev pub Holds : Cell → Book → Type 0
Holds c b = slice_get b.limits c.row ≡ Some c.limits

-- The cell's row in the book shows the figures of the cell's content.
abbrev pub Tied : Cell → Book → Type 0
Tied c b = row_after c.row b.posts ≡ figures_by c.order (entries c.content)

-- The pass after this answer, with so much work: an accepted command is one change more, and any other answer is no
-- work.
abbrev pub pass_after : Held → Answer → ℕ → Held
pass_after p (Accepted n) work = record p { changes = p.changes + 1; work = work }
pass_after p Repeat work = p
pass_after p (Refused why) work = p

-- The counts after this answer to a pass: an accepted command is one change more for it.
abbrev pub counts_after : List ℕ → Held → Answer → List ℕ
counts_after counts p (Accepted n) = slice_set counts p.slot (p.changes + 1)
counts_after counts p Repeat = counts
counts_after counts p (Refused why) = counts

-- The cell after a command of a pass: its content is the step's, and its count for the pass rises if the command was
-- accepted.
abbrev pub cell_after : Cell → Held → Command → Cell
cell_after c p command = record c { content = (step c.limits c.content command).0; counts = counts_after c.counts p (answer c.limits c.content command) }

-- The posts after this answer, which left this cell: an accepted command adds one post, of the
-- cell's row and the figures of its content.
abbrev pub posts_after : List Post → Cell → Answer → List Post
posts_after posts c (Accepted n) = posts ++ (c.row, figures_by c.order (entries c.content)) ∷ []
posts_after posts c Repeat = posts
posts_after posts c (Refused why) = posts

-- What the `Told` of this answer knows: after an accepted command, all posts of the book.
abbrev pub told_after : Book → Answer → Option Known
told_after b (Accepted n) = Some (known b.site b.posts)
told_after b Repeat = None
told_after b (Refused why) = None

-- A command of a pass was settled at a cell and its site's book: the answer and the cell are the
-- step's, the pass and the posts follow them, the `Told` has the book's posts, the pass still
-- belongs to the cell, and the row is still tied.
pub record IsSettled (c : Cell) (b : Book) (p : Held) (command : Command) (a : Answer) (t : Option Known) (c' : Cell) (b' : Book) (p' : Held) : Type 0 where
  pub answer : a ≡ answer c.limits c.content command
  pub cell : c' ≡ cell_after c p command
  pub pass : p' ≡ pass_after p a p'.work
  pub spent : IsSpent a p.work p'.work
  pub bound : p'.work ≤ p.work + most_spent c.order c.content.events command
  pub book : b' ≡ record b { posts = posts_after b.posts c' a }
  pub told : t ≡ told_after b' a
  pub known : Knows c' (tally_of p')
  pub tied : Tied c' b'

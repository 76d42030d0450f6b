use Rattle.std.specs.Prelude.{◌≡◌, ℕ, ◌+◌, ◌<◌, false, List, [], map, length, Some, slice_get, All}
use Rattle.atomic_table.{specs.Table.Me, specs.Seated.TableId}
use Rattle.ledger_model.{specs.declared.figures.TheConstants.FIGURES, specs.declared.figures.Figures.Figures, specs.Posts.{Post, row_after, totals_after}}
use Rattle.site_book.{specs.declared.table.View.View, specs.declared.row.BookRow.BookRow, specs.Book.ArePlanned, specs.Rule.{writing, seeing}}

-- What a seat knows, and the slots that it holds: a book's table has none.
abbrev pub Seated : Type 0
Seated = Me (Unit {0}) View

-- A seat at this table of a version and the figures.
pub record Sits (table seat : TableId) : Type 0 where
  pub same : seat ≡ table
  pub words : table.words ≡ FIGURES + 1

-- A table before its book is opened: its first seat knows that there are no posts.
pub record IsUnused (table seat : TableId) (me : Seated) : Type 0 where
  pub sits : Sits table seat
  pub me_is : me ≡ (writing [] [] [] 0, [])

-- The rows of a book after these posts: each row has the figures posted last for it, and no post is for another
-- row.
pub record AreRows (rows : List BookRow) (log : List Post) : Type 0 where
  pub figures : (k : ℕ) (r : BookRow) → slice_get rows k ≡ Some r → r.figures ≡ row_after k log
  pub posted : All (λ p. p.0 < length rows) log
  pub planned : ArePlanned (map (λ r. r.limits) rows)

-- What a book keeps beside its table: the figures of each row, the totals and the number of posts.
pub record IsBook (naming : ℕ → TableId) (site : ℕ) (rows : List BookRow) (totals : Figures) (posts : ℕ) (table seat : TableId) (me : Seated) : Type 0 where
  pub named : table ≡ naming site
  pub sits : Sits table seat
  pub me_is : me ≡ (writing me.0.log [] [] 0, [])
  pub count : posts ≡ length me.0.log
  pub totals_are : totals ≡ totals_after me.0.log
  pub rows_are : AreRows rows me.0.log

-- What a viewer keeps beside its table: the number of posts that it knows, and the totals after them.
pub record IsViewer (naming : ℕ → TableId) (site : ℕ) (posts : ℕ) (totals : Figures) (table seat : TableId) (me : Seated) : Type 0 where
  pub named : table ≡ naming site
  pub sits : Sits table seat
  pub reads : me.0.writes ≡ false
  pub none_old : me.0.old ≡ []
  pub no_slots : me.1 ≡ []
  pub count : posts ≡ length me.0.log
  pub totals_are : totals ≡ totals_after me.0.log

-- What a `Told` keeps: a seat that knows the posts, their number, and the totals after them.
pub record IsTold (naming : ℕ → TableId) (site : ℕ) (posts : ℕ) (totals : Figures) (seat : TableId) (me : Seated) : Type 0 where
  pub named : seat ≡ naming site
  pub me_is : me ≡ (seeing me.0.log [], [])
  pub count : posts ≡ length me.0.log
  pub totals_are : totals ≡ totals_after me.0.log

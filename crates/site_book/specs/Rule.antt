use Rattle.std.specs.Prelude.{◌≡◌, ℕ, ◌+◌, ◌*◌, ◌≤◌, true, false, List, [], ◌∷◌, ◌++◌, length, take, drop, ◌==◌, MatchBool}
use mathlib.Core.Option.{some}
use lib.ListN.{get_elem?}
use Rattle.atomic_table.specs.Table.{State, Step, Me}
use Rattle.ledger_model.{specs.Figures.{figure_list, no_figures}, specs.Posts.{Post, totals_after}}
use Rattle.site_book.{specs.Prefix.IsPrefix, specs.declared.table.View.View}

-- The totals after these posts as the words have them.
abbrev pub shown : List Post → List ℕ
shown posts = figure_list (totals_after posts)

-- The version: twice the number of posts, plus one while a post is under way.
abbrev pub version_of : List Post → List Post → ℕ
version_of log pending = 2 * length log + length pending

-- All words: the version, the totals of the post under way that are stored already, and the other totals as they
-- were before it.
abbrev pub words_of : (List Post → List ℕ) → List Post → List Post → ℕ → List ℕ
words_of totals log pending stored = version_of log pending ∷ (take stored (totals (log ++ pending)) ++ drop stored (totals log))

-- What a seat knows is true: its lists begin the book's; the book's own seat knows all posts; a
-- version that was loaded is not from the future, and if it is still the version and is even, the
-- totals read since are the present ones.
pub record Fits (totals : List Post → List ℕ) (log pending : List Post) (stored by : ℕ) (v : View) : Type 0 where
  pub begins : IsPrefix v.log log
  pub old : IsPrefix v.old log
  pub shorter : length v.old ≤ length v.log
  pub writes : v.writes ≡ true → (by ≡ 0) × (v.log ≡ log) × (v.pending ≡ pending) × (v.stored ≡ stored)
  pub looks : v.looks ≡ true → (v.version ≤ version_of log pending) × (v.version ≡ version_of log pending → pending ≡ [] → IsPrefix v.read (totals log))

-- The words and all views fit these posts, the post under way, and how many of its totals are stored.
pub record KeptAt (totals : List Post → List ℕ) (words : List ℕ) (views : List View) (log pending : List Post) (stored : ℕ) : Type 0 where
  pub one : length pending ≤ 1
  pub words_are : words ≡ words_of totals log pending stored
  pub seats : (by : ℕ) (v : View) → get_elem? views by ≡ some v → Fits totals log pending stored by v

-- The rule: there are posts that the words and all views fit.
pub record Kept (totals : List Post → List ℕ) (words : List ℕ) (views : List View) : Type 0 where
  pub log : List Post
  pub pending : List Post
  pub stored : ℕ
  pub holds : KeptAt totals words views log pending stored

-- What is true of a site's table between any two steps.
abbrev pub Rows : State (Unit {0}) View → Type 0
Rows s = Kept shown s.words s.views

-- A value in place of a post that is not there.
abbrev pub no_post : Post
no_post = (0, no_figures)

-- The book's seat: all posts, a list that a join set aside, the post under way and how many of its totals are stored.
abbrev pub writing : List Post → List Post → List Post → ℕ → View
writing log old pending stored = record { writes = true; log = log; old = old; pending = pending; stored = stored; looks = false; version = 0; read = [] }

-- A seat that knows these posts, and a list that a join set aside.
abbrev pub seeing : List Post → List Post → View
seeing log old = record { writes = false; log = log; old = old; pending = []; stored = 0; looks = false; version = 0; read = [] }

-- A seat in a glance: the posts that it knows, the version that it loaded, and the totals read since.
abbrev pub looking : List Post → ℕ → List ℕ → View
looking log version read = record { writes = false; log = log; old = []; pending = []; stored = 0; looks = true; version = version; read = read }

-- A step on a table that has no slots.
abbrev At : Type 0
At = Step (Unit {0})

-- What a seat knows, and the slots that it holds: none.
abbrev Sat : Type 0
Sat = Me (Unit {0}) View

-- The book opens a post.
abbrev pub Opened : Post → At → Sat → ℕ → Sat → Type 0
Opened post step v n w = w ≡ (writing v.0.log [] (post ∷ []) 0, v.1)

-- The book stores the next total of the post under way: the word's number says how many are stored
-- then.
abbrev pub Stored : At → Sat → ℕ → Sat → Type 0
Stored step v n w = w ≡ (writing v.0.log [] v.0.pending step.word, v.1)

-- The book closes the post: it is one of the book's posts now.
abbrev pub Closed : At → Sat → ℕ → Sat → Type 0
Closed step v n w = w ≡ (writing (v.0.log ++ v.0.pending) [] [] 0, v.1)

-- A seat loads the version; a list that a join set aside begins its own, and is dropped.
abbrev pub Looked : At → Sat → ℕ → Sat → Type 0
Looked step v n w = (w ≡ (looking v.0.log n [], v.1)) × IsPrefix v.0.old v.0.log

-- The book loads the version, and so knows the same.
abbrev pub Recalled : At → Sat → ℕ → Sat → Type 0
Recalled step v n w = (w ≡ (writing v.0.log [] [] 0, v.1)) × IsPrefix v.0.old v.0.log

-- A seat loads one more total.
abbrev pub Loaded : At → Sat → ℕ → Sat → Type 0
Loaded step v n w = w ≡ (looking v.0.log v.0.version (v.0.read ++ n ∷ []), v.1)

-- A seat loads the version again. If it is still the same, the seat knows the posts of the totals that it read; else it
-- knows what it knew.
abbrev pub Checked : At → Sat → ℕ → Sat → Type 0
Checked step v n w = MatchBool (n == v.0.version)
    ((w ≡ (seeing w.0.log [], v.1)) × IsPrefix v.0.log w.0.log × (v.0.read ≡ shown w.0.log) × (n ≡ 2 * length w.0.log))
    (w ≡ (seeing v.0.log [], v.1))

-- What a viewer knows after it looked again and saw this version. If it is the version of its first
-- look: a list of posts that begins with what it knew, has the totals that it read, and is half as
-- long as the version. Else what it knew.
abbrev pub HasSeen : ℕ → Sat → Sat → Type 0
HasSeen version old new = MatchBool (version == old.0.version)
    ((new ≡ (seeing new.0.log [], [])) × IsPrefix old.0.log new.0.log × (old.0.read ≡ shown new.0.log) × (version ≡ 2 * length new.0.log))
    (new ≡ (seeing old.0.log [], []))

use Rattle.std.specs.Prelude.{◌≡◌, ℕ, Bool, List, [], Option}
use Rattle.atomic_table.{specs.Table.Me, specs.Seated.TableId}
use Rattle.kept_desk.{specs.declared.table.View.View, specs.Journal.IsWritten, specs.Rule.{keeping, holding, knowing}, specs.Speaking.AreSpoken}

-- What a seat knows, and the slots that it holds: a journal's table has none.
abbrev pub Seated : Type 0
Seated = Me (Unit {0}) View

-- A seat at this table of one word.
pub record Sits (table seat : TableId) : Type 0 where
  pub same : seat ≡ table
  pub one : table.words ≡ 1

-- A table before its journal is opened: its first seat knows that there are no entries and no shares.
pub record IsUnused (table seat : TableId) (me : Seated) : Type 0 where
  pub sits : Sits table seat
  pub me_is : me ≡ (keeping [] 0, [])

-- What a journal keeps beside its table: its lines speak for their commands on the stations of
-- these names; the number of shares; whether a write failed; and what its writer took, with the
-- part that the buffer holds back.
pub record IsJournal (named : TableId) (name : ℕ → List ℕ) (before : Option (List ℕ)) (shares : ℕ) (broken : Bool)
    (now : Option (List ℕ)) (buffer : List ℕ) (table seat : TableId) (me : Seated) : Type 0 where
  pub is_named : table ≡ named
  pub sits : Sits table seat
  pub me_is : me ≡ (keeping me.0.log shares, [])
  pub written : IsWritten broken before now buffer me.0.log
  pub spoken : AreSpoken name me.0.log

-- What a share is: a seat of this station at the table.
pub record IsShare (named : TableId) (station : ℕ) (seat : TableId) (me : Seated) : Type 0 where
  pub is_named : seat ≡ named
  pub me_is : me ≡ (holding station me.0.mine, [])

-- What a moment is: a seat at the table.
pub record IsMoment (named : TableId) (seat : TableId) (me : Seated) : Type 0 where
  pub is_named : seat ≡ named
  pub me_is : me ≡ (knowing me.0.seen, [])

-- The name of no table.
abbrev pub no_table : TableId
no_table = record { words = 0; slots = 0; views_name = 0; atom = 0; block = 0; offset = 0; slot_names = [] }

use Rattle.std.{specs.Prelude.{◌≡◌, ℕ, ◌<◌, ◌-◌, ◌^◌, Bool, false, List, [], ◌∷◌, ◌++◌, Option, All, length}, specs.Io.KnownBytes.{Appends, append_known}}
use Rattle.kept_desk.{specs.declared.entry.Entry.Entry, specs.Entries.{IsNote, line_text, text_of}}
use Rattle.script_lines.specs.Lines.{HasNoFeed}

-- A journal: its entries, first to last; a number above those of all stations with a share; and whether a write failed.
pub record Ledger : Type 0 where
  pub entries : List Entry
  pub shares : ℕ
  pub broken : Bool

-- A station's share: its station's number, and that station's entries.
pub record OwnEntries : Type 0 where
  pub station : ℕ
  pub entries : List Entry

-- These bytes are a front, or all, of the text of some line with a note in front of it.
pub record BeginsLine (front : List ℕ) : Type 0 where
  pub note : List ℕ
  pub line : List ℕ
  pub rest : List ℕ
  pub is_note : IsNote note
  pub no_feed : HasNoFeed line
  pub is : note ++ line_text line ≡ front ++ rest

-- What was written behind `before`: the text of the entries; none of their lines has a line feed,
-- and before each is a note. If a write or a flush failed, the front of one more line is behind it,
-- perhaps all of it. The writer behind the buffer took `now` of this, and the buffer holds the
-- rest; if nothing failed, it holds nothing.
pub record IsWritten (broken : Bool) (before now : Option (List ℕ)) (buffer : List ℕ) (entries : List Entry) : Type 0 where
  pub front : List ℕ
  pub begins : BeginsLine front
  pub notes : All (λ e. IsNote e.note) entries
  pub lines : All (λ e. HasNoFeed e.line) entries
  pub whole : broken ≡ false → front ≡ []
  pub handed_on : broken ≡ false → buffer ≡ []
  pub appended : Appends before (append_known now buffer) (text_of entries ++ front)

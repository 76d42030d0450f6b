-- The result of a server with a journal.
use Rattle.std.specs.Prelude.{ℕ, Bool, List, Option}
use Rattle.site_desk.specs.Cell.{Held}
use Rattle.journal_server.specs.declared.run.Served.{Served}

-- The result of a server: the bytes that the writer of its journal has, those that its buffer kept,
-- whether a write failed, the boards, and the passes.
pub record Left : Type 0 where
  pub now : Option (List ℕ)
  pub buffer : List ℕ
  pub broken : Bool
  pub boards : List ℕ
  pub passes : List Held

-- The same of a value, at a writer of these contents.
abbrev pub left_of : {W T : Type 0} → (W → Option (List ℕ)) → Served W T → Left
left_of contents s = record {
  now = contents s.journal;
  buffer = s.unwritten.items;
  broken = s.is_broken;
  boards = s.boards.items;
  passes = s.passes.items;
}

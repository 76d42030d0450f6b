use Rattle.std.{proofs.Common.{rules, ap, ◌∙◌, Ok}, specs.Io.KnownBytes.Keeps, proofs.KnownBytes.Keeps-trans}
use Rattle.script_lines.{proofs.PartOfLine.{goes_on, feeds, overflows, fails}, proofs.line_reader.LineReader.next_line_flushing.Goals.{else-self-via-then-self+else-is_err, else-self-via-else-self}}
use Rattle.script_lines.proofs.line_reader.LineReader.next_line_flushing.Goals as goal

pub returns-in_err-read_piece-clause-takes : goal.returns-in_err-read_piece-clause-takes
returns-in_err-read_piece-clause-takes g c =
    let flushed : Keeps (g.W.Write.contents c.pieces.writer) (g.W.Write.contents c.else-self.writer) =
    elim c.else-self.branch [ else-self-via-then-self+else-is_err w ↦ search rules | else-self-via-else-self w ↦ search rules ] in
    let held = c.read_piece.new.held.items in
    let t = c.read_piece.ensures.takes in
    fails _ _ _ _ _ held _ _ _ _ _ _ c.pieces.invariant.0 c.pieces.invariant.1 flushed c.read_piece.result c.in_err-read_piece.field-0.0 _ t.0 t.1 c.in_err-read_piece.was c.from_residual.ensures.1 t.2

pub returns-in-Beyond-clause-takes : goal.returns-in-Beyond-clause-takes
returns-in-Beyond-clause-takes g c =
    let flushed : Keeps (g.W.Write.contents c.pieces.writer) (g.W.Write.contents c.else-self.writer) =
    elim c.else-self.branch [ else-self-via-then-self+else-is_err w ↦ search rules | else-self-via-else-self w ↦ search rules ] in
    let held = c.read_piece.new.held.items in
    let t = c.read_piece.ensures.takes in
    overflows _ _ _ _ _ held _ _ _ _ _ _ c.pieces.invariant.0 c.pieces.invariant.1 flushed c.read_piece.result t.0 t.1 (c.in_ok-read_piece.was ∙ ap Ok c.in-Beyond.is) t.2

pub pieces-preserved : goal.pieces-preserved
pieces-preserved g c =
    let flushed : Keeps (g.W.Write.contents c.pieces.writer) (g.W.Write.contents c.else-self.writer) =
    elim c.else-self.branch [ else-self-via-then-self+else-is_err w ↦ search rules | else-self-via-else-self w ↦ search rules ] in
    let held = c.read_piece.new.held.items in
    let t = c.read_piece.ensures.takes in (
      goes_on _ _ _ _ _ held _ _ _ _ _ _ c.pieces.invariant.0 c.pieces.invariant.1 flushed c.read_piece.result t.0 c.in-Part.count
          c.in-Part.is_drained t.1 (c.in_ok-read_piece.was ∙ ap Ok c.in-Part.is) t.2,
      c.pieces.invariant.1,
    )

pub returns-in-WholeLine-clause-takes : goal.returns-in-WholeLine-clause-takes
returns-in-WholeLine-clause-takes g c =
    let flushed : Keeps (g.W.Write.contents c.pieces.writer) (g.W.Write.contents c.else-self.writer) =
    elim c.else-self.branch [ else-self-via-then-self+else-is_err w ↦ search rules | else-self-via-else-self w ↦ search rules ] in
    let held = c.read_piece.new.held.items in
    let t = c.read_piece.ensures.takes in
    feeds _ _ _ _ _ held _ _ _ _ _ _ c.pieces.invariant.0 c.pieces.invariant.1 flushed c.read_piece.result t.0 c.in-WholeLine.count
    c.in-WholeLine.is_drained t.1 (c.in_ok-read_piece.was ∙ ap Ok c.in-WholeLine.is) t.2

pub returns-in-Beyond-clause-writer : goal.returns-in-Beyond-clause-writer
returns-in-Beyond-clause-writer g c =
    let flushed : Keeps (g.W.Write.contents c.pieces.writer) (g.W.Write.contents c.else-self.writer) =
    elim c.else-self.branch [ else-self-via-then-self+else-is_err w ↦ search rules | else-self-via-else-self w ↦ search rules ] in
    Keeps-trans _ _ _ c.pieces.invariant.0.kept flushed

pub returns-in-End-clause-writer : goal.returns-in-End-clause-writer
returns-in-End-clause-writer g c =
    let flushed : Keeps (g.W.Write.contents c.pieces.writer) (g.W.Write.contents c.else-self.writer) =
    elim c.else-self.branch [ else-self-via-then-self+else-is_err w ↦ search rules | else-self-via-else-self w ↦ search rules ] in
    Keeps-trans _ _ _ c.pieces.invariant.0.kept flushed

pub returns-in-WholeLine-clause-writer : goal.returns-in-WholeLine-clause-writer
returns-in-WholeLine-clause-writer g c =
    let flushed : Keeps (g.W.Write.contents c.pieces.writer) (g.W.Write.contents c.else-self.writer) =
    elim c.else-self.branch [ else-self-via-then-self+else-is_err w ↦ search rules | else-self-via-else-self w ↦ search rules ] in
    Keeps-trans _ _ _ c.pieces.invariant.0.kept flushed

pub returns-in_err-read_piece-clause-writer : goal.returns-in_err-read_piece-clause-writer
returns-in_err-read_piece-clause-writer g c =
    let flushed : Keeps (g.W.Write.contents c.pieces.writer) (g.W.Write.contents c.else-self.writer) =
    elim c.else-self.branch [ else-self-via-then-self+else-is_err w ↦ search rules | else-self-via-else-self w ↦ search rules ] in
    Keeps-trans _ _ _ c.pieces.invariant.0.kept flushed

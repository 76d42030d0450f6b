use Rattle.std.proofs.Common.{rules, ◌≡◌, ◌∙◌, ap, ◌+◌, ◌-◌, ◌++◌, take, min, length}
use Rattle.script_lines.proofs.Pieces.{kept_on_ok, kept_front}
use Rattle.script_lines.proofs.line_reader.piece.keep.Goals as goal

pub returns : goal.returns
returns c =
    let old = c.args.held.now.items in
    let bytes = c.args.bytes.now in
    let count : c.min.result ≡ min (length bytes) (c.args.max_line_bytes + 1 - length old) = search rules in
    kept_on_ok _ _ old (take c.min.result bytes) _ c.extend_from_slice.ensures.items
    (ap (λ n. old ++ take n bytes) count ∙ kept_front (c.args.max_line_bytes + 1) old bytes c.requires.kept)

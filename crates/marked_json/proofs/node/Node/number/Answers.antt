use Rattle.std.{proofs.Common.{◌≡◌, ◌<◌, ap, ◌∙◌, sym, option_map, option_and_then, Some, arith}, proofs.lemmas.Str.Pattern.strip_prefix_char}
use Rattle.serde_json.specs.Find.{as_str}
use Rattle.marked_json.{specs.Reading.{behind_mark, node}, proofs.Places.behind_mark-strip}
use Rattle.marked_json.proofs.node.Node.number.Goals as goal

pub returns : goal.returns
returns c =
    let ascii : 35 < 128 = omega arith in
    let content = c.in_ok-as_str.field-0.now in
    let stripped = behind_mark-strip 35 content c.strip_prefix.result (strip_prefix_char 35 content c.strip_prefix.result c.strip_prefix.ensures.cases ascii) in
    let was : Some content ≡ as_str (node c.args.self) = ap (option_map (λ s. s.now)) (sym c.in_ok-as_str.was) ∙ c.as_str.ensures in
    stripped ∙ ap (option_and_then (behind_mark 35)) was

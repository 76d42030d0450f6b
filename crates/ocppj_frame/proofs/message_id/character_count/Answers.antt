use Rattle.std.{proofs.Common.{◌≡◌, length, rules, arith}, specs.Str.chars, proofs.lemmas.Str.chars_from_encodes}
use Rattle.ocppj_frame.proofs.Escapes.{length-le-chars}
use Rattle.ocppj_frame.proofs.message_id.character_count.Goals as goal

pub returns-clause-count : goal.returns-clause-count
returns-clause-count c = search (rules, chars_from_encodes)

pub returns-clause-bytes : goal.returns-clause-bytes
returns-clause-bytes c =
    let count : c.count.result ≡ length (chars c.args.text.now) = search (rules, chars_from_encodes) in
    omega (arith, count, length-le-chars c.args.text.now c.utf8.text)

use Rattle.std.{proofs.Common.{◌≡◌, ◌+◌, ◌∙◌, ◌++◌, ap, take, length, arith}, proofs.lemmas.List.{length-take-le, take-take}, proofs.lemmas.Simd.take_more_put_chunk}
use Rattle.marked_json.proofs.Marks.{take_front}
use Rattle.marked_json.proofs.marking.put_front.Goals as goal

pub returns-clause-put : goal.returns-clause-put
returns-clause-put c =
    let block = take 32 c.args.rest.now in
    let long : length block ≡ 32 = length-take-le 32 c.args.rest.now c.requires.long in
    take_front c.args.len 32 c.args.count _ c.args.out.now block c.requires.short (omega (arith, c.requires.room))
    (take_more_put_chunk c.args.len c.args.out.now block (c.args.len + 32) (omega (arith, long)) c.requires.room)
    ∙ ap (λ xs. take c.args.len c.args.out.now ++ xs) (take-take c.args.count 32 c.args.rest.now c.requires.short)

use Rattle.std.proofs.Common.{◌∙◌, sym, arith}
use Rattle.marked_json.proofs.Marks.{string_len-none_ahead, found_ahead, found_quote, found_backslash}
use Rattle.marked_json.proofs.marking.string_len.Goals as goal

pub returns-then-bytes-found-eq34-clause-value : goal.returns-then-bytes-found-eq34-clause-value
returns-then-bytes-found-eq34-clause-value c =
    let found = found_ahead c.args.bytes.now c.loop-ahead.at c.in-Some.ahead c.loop-ahead.invariant.0 c.in-Some.ensures.0 c.in-Some.ensures.1 in
    sym (found_quote c.args.bytes.now c.loop-ahead.at c.in-Some.ahead found c.if-bytes-found-eq34.true) ∙ c.loop-ahead.invariant.1

pub loop-ahead-preserved : goal.loop-ahead-preserved
loop-ahead-preserved c =
    let found = found_ahead c.args.bytes.now c.loop-ahead.at c.in-Some.ahead c.loop-ahead.invariant.0 c.in-Some.ensures.0 c.in-Some.ensures.1 in
    let step = found_backslash c.args.bytes.now c.loop-ahead.at c.in-Some.ahead found c.if-bytes-found-eq34.false in
    (omega arith, rw c.min-at.ensures (step ∙ c.loop-ahead.invariant.1))

pub returns-clause-value : goal.returns-clause-value
returns-clause-value c =
    sym (string_len-none_ahead c.args.bytes.now c.loop-ahead.at c.loop-ahead.invariant.0 c.in_default.ensures) ∙ c.loop-ahead.invariant.1

use Rattle.std.proofs.Common.{◌∙◌}
use Rattle.kept_desk.proofs.Written.{cut_short_as, ended_as, message_parts}
use Rattle.kept_desk.proofs.write.write_message.Goals as goal

pub returns-in_err-write_bytes-clause-written : goal.returns-in_err-write_bytes-clause-written
returns-in_err-write_bytes-clause-written g c =
    cut_short_as _ _ _ _ _ c.from_residual.result
    (message_parts c.args.name.now c.args.text.now _ c.args.text.now (c.as_bytes.ensures.value ∙ c.as_str.ensures.value ∙ c.message_front-front.ensures) (λ i. c.args.text.now))
    c.from_residual.ensures.0 c.in_err-write_bytes.ensures

pub returns-clause-written : goal.returns-clause-written
returns-clause-written g c =
    ended_as _ _ _ _ _ _ c.write_ended.result
    (message_parts c.args.name.now c.args.text.now _ _ (c.as_bytes.ensures.value ∙ c.as_str.ensures.value ∙ c.message_front-front.ensures) c.as_bytes-2.ensures.value)
    c.in_ok-write_bytes.ensures c.write_ended.ensures.written

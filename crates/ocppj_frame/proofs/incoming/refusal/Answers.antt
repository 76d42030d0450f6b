use Rattle.std.proofs.Common.{◌≡◌, ◌∙◌, sym, ap}
use Rattle.ocppj_frame.{specs.Reply.error_bytes, specs.FrameFault.{fault_code, fault_name}, proofs.Replies.fault_is_not_memory}
use Rattle.ocppj_frame.proofs.incoming.refusal.Goals as goal

pub returns-clause-memory : goal.returns-clause-memory
returns-clause-memory c =
    let told : c.error_text.result.bytes ≡ error_bytes c.as_str.result.now (fault_code c.args.fault) (fault_name c.args.fault) =
    c.error_text.ensures
    ∙ ap (λ code. error_bytes c.as_str.result.now code c.name.result.now) c.code.ensures
    ∙ ap (λ name. error_bytes c.as_str.result.now (fault_code c.args.fault) name) c.name.ensures.name in
    (λ impossible. cc, λ same. absurd (fault_is_not_memory c.as_str.result.now c.args.fault (sym told ∙ same)))

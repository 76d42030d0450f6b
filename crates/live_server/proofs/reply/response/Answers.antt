use Rattle.std.proofs.Common.{[], ◌++◌, codes, ◌∙◌}
use Rattle.live_server.specs.Responses.{head_line}
use Rattle.live_server.proofs.reply.response.Goals as goal

pub returns : goal.returns
returns c =
    let first = c.in_ok-put_head.ensures ∙ (λ i. c.new-bytes.ensures.items i ++ head_line (codes "HTTP/1.1 " ++ c.text.ensures i)) in
    let second = c.in_ok-put_head-2.ensures ∙ (λ i. first i ++ head_line (codes "Content-Type: " ++ c.args.kind.now)) in
    let third = c.in_ok-put_head-3.ensures ∙ (λ i. second i ++ head_line (codes "Content-Length: " ++ c.format.ensures.text i)) in
    let fourth = c.in_ok-put_head-4.ensures ∙ (λ i. third i ++ head_line (codes "Connection: close")) in
    let fifth = c.in_ok-put_head-5.ensures ∙ (λ i. fourth i ++ head_line []) in
    c.in_ok-extend_from_slice.ensures.items ∙ (λ i. fifth i ++ c.args.body.now)

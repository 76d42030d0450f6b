use Rattle.std.proofs.Common.{◌++◌, codes, append_assoc, ◌∙◌}
use Rattle.live_server.proofs.boards.put_link.Goals as goal

pub returns : goal.returns
returns c =
    let first = c.in_ok-extend_from_slice.ensures.items in
    let second = c.in_ok-extend_from_slice-2.ensures.items ∙ (λ i. first i ++ c.as_bytes.ensures.value i) in
    let third = c.in_ok-extend_from_slice-3.ensures.items ∙ (λ i. second i ++ codes "\">") in
    let fourth = c.in_ok-extend_from_slice-4.ensures.items ∙ (λ i. third i ++ c.as_bytes-2.ensures.value i) in
    c.in_ok-extend_from_slice-5.ensures.items ∙ ((λ i. fourth i ++ codes "</a></li>\n") ∙ simp append_assoc)
